-- A token is found again by its place.
use Rattle.std.proofs.Common.{◌≡◌, ℕ, ◌+◌, List, [], ◌∷◌, ◌++◌, length, drop, map, Ok, refl, sym, ap, ◌∙◌, arith, inl, inr, append_assoc}
use Rattle.std.proofs.Math.Seq.{drop-append_seam}
use Rattle.std.proofs.lemmas.List.{append-nil, drop-drop, length-append}
use Rattle.ir_text.specs.Tokens.{IsNext, IsToken, IsEnd, TokensFrom, Tokens}
use Rattle.ir_text.specs.code.Next.{next}
use Rattle.ir_text.specs.declared.tok.Tok.{Tok}
use Rattle.ir_text.specs.declared.tok.Span.{Span}
use Rattle.ir_tokens.specs.Spelled.{spelling_at, slice_found}
use Rattle.ir_tokens.specs.Texts.{slice}

abbrev NextLaw : Type 0
NextLaw = (at : ℕ) (rest : List ℕ) (found : Tok × Span) → IsNext at rest found → next at rest ≡ Ok found

behind : (gap more : List ℕ) (at : ℕ) (bytes rest : List ℕ) → rest ≡ drop at bytes → rest ≡ gap ++ more → drop (at + length gap) bytes ≡ more
behind gap more at bytes rest e split =
    sym (drop-drop (length gap) at bytes) ∙ (ap (drop (length gap)) (sym e ∙ split) ∙ drop-append_seam gap more)

found_at : (bytes : List ℕ) (found : Tok × Span) (place : ℕ) (rest : List ℕ) → NextLaw → found.1.from ≡ place → drop place bytes ≡ rest → IsNext place rest found → spelling_at bytes found.1.from ≡ slice bytes found.1
unfolding spelling_at
found_at bytes found place rest law e d w =
    ap (λ n. slice_found bytes (next n (drop n bytes))) e ∙ (ap (λ s. slice_found bytes (next place s)) d ∙ ap (slice_found bytes) (law place rest found w))

end_at : (bytes : List ℕ) (found : Tok × Span) (at : ℕ) (rest : List ℕ) → NextLaw → rest ≡ drop at bytes → IsEnd at rest found → spelling_at bytes found.1.from ≡ slice bytes found.1
end_at bytes found at rest law e w =
    let z : at + length rest ≡ at + length rest + 0 = omega arith in
    found_at bytes found (at + length rest) [] law (ap (λ s. s.from) w.place) (behind rest [] at bytes rest e (sym (append-nil rest)))
    (inl (record { between = refl; kind = w.kind; place = w.place ∙ (λ j. record { from = z j; to = z j }) }))

token_at : (bytes : List ℕ) (found : Tok × Span) (at : ℕ) (rest gap spelling more : List ℕ) → NextLaw → rest ≡ drop at bytes → IsToken at rest found gap spelling more → spelling_at bytes found.1.from ≡ slice bytes found.1
token_at bytes found at rest gap spelling more law e w =
    let z : at + length gap ≡ at + length gap + 0 = omega arith in
    found_at bytes found (at + length gap) (spelling ++ more) law (ap (λ s. s.from) w.place) (behind gap (spelling ++ more) at bytes rest e w.split)
    (inr ([], spelling, more, record { split = refl; between = refl; heads = w.heads; faultless = w.faultless; place = w.place ∙ (λ j. record { from = z j; to = z j + length spelling }) }))

spelled_from : (bytes : List ℕ) (ts : List (Tok × Span)) (at : ℕ) (rest : List ℕ) → NextLaw → rest ≡ drop at bytes → TokensFrom at rest ts → map (λ f. spelling_at bytes f.1.from) ts ≡ map (λ f. slice bytes f.1) ts
spelled_from bytes [] at rest law e h = refl
spelled_from bytes (f ∷ ts) at rest law e (inl h) =
    ap (λ x. x ∷ map (λ f. spelling_at bytes f.1.from) ts) (end_at bytes f at rest law e h.0)
    ∙ (ap (λ us. slice bytes f.1 ∷ map (λ f. spelling_at bytes f.1.from) us) h.1 ∙ ap (λ us. slice bytes f.1 ∷ map (λ f. slice bytes f.1) us) (sym h.1))
spelled_from bytes (f ∷ ts) at rest law e (inr (gap, spelling, more, w, h)) =
    let d = behind (gap ++ spelling) more at bytes rest e (w.split ∙ sym (append_assoc gap spelling more)) in
    let n : at + length (gap ++ spelling) ≡ at + length gap + length spelling = omega (arith, length-append gap spelling) in
    let left : more ≡ drop (at + length gap + length spelling) bytes = sym d ∙ ap (λ k. drop k bytes) n in
    ap (λ x. x ∷ map (λ f. spelling_at bytes f.1.from) ts) (token_at bytes f at rest gap spelling more law e w)
    ∙ ap (λ xs. slice bytes f.1 ∷ xs) (spelled_from bytes ts (at + length gap + length spelling) more law left h)

pub spelled_again : (bytes : List ℕ) (ts : List (Tok × Span)) → NextLaw → Tokens bytes ts → map (λ f. spelling_at bytes f.1.from) ts ≡ map (λ f. slice bytes f.1) ts
spelled_again bytes ts law h = spelled_from bytes ts 0 bytes law refl h
