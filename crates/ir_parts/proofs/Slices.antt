-- The slices of the tokens are their spellings.
use Rattle.std.proofs.Common.{◌≡◌, ℕ, ◌+◌, ◌-◌, List, [], ◌∷◌, ◌++◌, length, take, drop, map, true, false, refl, sym, ap, subst, ◌∙◌, append_assoc, arith}
use Rattle.std.proofs.lemmas.List.{length-append}
use Rattle.std.proofs.Math.Seq.{take-append_seam, drop-append_seam}
use Rattle.ir_text.specs.Tokens.{Tokens}
use Rattle.ir_text.specs.declared.tok.Tok.{Tok}
use Rattle.ir_text.specs.declared.tok.Span.{Span}
use Rattle.ir_tokens.specs.Spelled.{spelling_at}
use Rattle.ir_tokens.specs.Texts.{slice, token_of}
use Rattle.ir_tokens.specs.Whole.{IsWhole}
use Rattle.ir_parts.specs.Parts.{Part, gap, token, text_of, span, spans_from, spans_of, token_at, tokens_from, tokens_of, spellings_of}
use Rattle.ir_parts.proofs.Spaced.{all_tokens}
use Rattle.ir_parts.specs.Spaced.{spaced}

slice_is : (before s behind : List ℕ) (at : ℕ) → at ≡ length before → slice (before ++ (s ++ behind)) (span at (at + length s)) ≡ s
slice_is before s behind at e =
    let n : at + length s - at ≡ length s = omega arith in
    ap (λ k. take k (drop at (before ++ (s ++ behind)))) n
    ∙ (ap (λ k. take (length s) (drop k (before ++ (s ++ behind)))) e
    ∙ (ap (take (length s)) (drop-append_seam before (s ++ behind)) ∙ take-append_seam s behind))

-- what stands behind some bytes, and a part more
longer : (before s : List ℕ) (at : ℕ) → at ≡ length before → at + length s ≡ length (before ++ s)
longer before s at e = omega (arith, length-append before s)

-- the tokens of parts that stand behind some bytes
tokens_read : (ps : List Part) (before : List ℕ) (at : ℕ) → at ≡ length before → map (token_of (before ++ text_of ps)) (spans_from at ps) ≡ tokens_from at ps
tokens_read [] before at e = refl
tokens_read (gap s ∷ ps) before at e =
    subst (λ x. map (token_of x) (spans_from (at + length s) ps) ≡ tokens_from (at + length s) ps) (append_assoc before s (text_of ps))
    (tokens_read ps (before ++ s) (at + length s) (longer before s at e))
tokens_read (token kind s ∷ ps) before at e =
    let bytes = before ++ (s ++ text_of ps) in
    let behind = subst (λ x. map (token_of x) (spans_from (at + length s) ps) ≡ tokens_from (at + length s) ps) (append_assoc before s (text_of ps))
    (tokens_read ps (before ++ s) (at + length s) (longer before s at e)) in
    ap (λ x. token_at at kind x ∷ map (token_of bytes) (spans_from (at + length s) ps)) (slice_is before s (text_of ps) at e)
    ∙ ap (λ ts. token_at at kind s ∷ ts) behind

slices_read : (ps : List Part) (before : List ℕ) (at : ℕ) → at ≡ length before → map (λ f. slice (before ++ text_of ps) f.1) (spans_from at ps) ≡ spellings_of ps
slices_read [] before at e =
    let n : at - at ≡ 0 = omega arith in
    ap (λ k. take k (drop at (before ++ [])) ∷ []) n
slices_read (gap s ∷ ps) before at e =
    subst (λ x. map (λ f. slice x f.1) (spans_from (at + length s) ps) ≡ spellings_of ps) (append_assoc before s (text_of ps))
    (slices_read ps (before ++ s) (at + length s) (longer before s at e))
slices_read (token kind s ∷ ps) before at e =
    let bytes = before ++ (s ++ text_of ps) in
    let behind = subst (λ x. map (λ f. slice x f.1) (spans_from (at + length s) ps) ≡ spellings_of ps) (append_assoc before s (text_of ps))
    (slices_read ps (before ++ s) (at + length s) (longer before s at e)) in
    ap (λ x. x ∷ map (λ f. slice bytes f.1) (spans_from (at + length s) ps)) (slice_is before s (text_of ps) at e)
    ∙ ap (λ ts. s ∷ ts) behind

pub whole : (ps : List Part) → spaced false ps ≡ true → IsWhole (text_of ps) (tokens_of ps)
whole ps h = (spans_of ps, all_tokens ps h, sym (tokens_read ps [] 0 refl))

spelling_each : (bytes : List ℕ) (found : List (Tok × Span)) → map (λ t. spelling_at bytes t.place) (map (token_of bytes) found) ≡ map (λ f. spelling_at bytes f.1.from) found
spelling_each bytes [] = refl
spelling_each bytes (f ∷ fs) = ap (λ x. spelling_at bytes f.1.from ∷ x) (spelling_each bytes fs)

abbrev pub SpelledLaw : Type 0
SpelledLaw = (bytes : List ℕ) (found : List (Tok × Span)) → Tokens bytes found → map (λ t. spelling_at bytes t.1.from) found ≡ map (λ t. slice bytes t.1) found

-- each spelling is found again by the token's place
pub found_again : (ps : List Part) → spaced false ps ≡ true → SpelledLaw → map (λ t. spelling_at (text_of ps) t.place) (tokens_of ps) ≡ spellings_of ps
found_again ps h law =
    let bytes = text_of ps in
    ap (λ ts. map (λ t. spelling_at bytes t.place) ts) (sym (tokens_read ps [] 0 refl))
    ∙ (spelling_each bytes (spans_of ps) ∙ (law bytes (spans_of ps) (all_tokens ps h) ∙ slices_read ps [] 0 refl))
