-- The answers to the places of a text, one by one.
use Rattle.std.proofs.Common.{◌≡◌, ℕ, ◌+◌, ◌-◌, ◌≤◌, true, false, List, [], ◌∷◌, ◌++◌, drop, Some, None, Result, Ok, Err, refl, sym, ap, ◌∙◌, arith, append_assoc}
use Rattle.std.proofs.lemmas.Bool.{false≢true, true≢false}
use Rattle.std.proofs.lemmas.List.{drop-drop}
use Rattle.ir_text.specs.code.Next.{next, then_more, answers}
use Rattle.ir_text.specs.declared.tok.Tok.{Tok}
use Rattle.ir_text.specs.declared.tok.Tok.TheVariants.{End}
use Rattle.ir_text.specs.declared.tok.Span.{Span}
use Rattle.ir_text.specs.declared.tok.LexError.{LexError}
use Rattle.ir_tokens.specs.declared.token.Token.{Token}
use Rattle.ir_tokens.specs.code.Ends.{is_end}
use Rattle.ir_tokens.specs.Texts.{token_of, bad_token, tokens_of, fault_of}

abbrev Answered : Type 0
Answered = Result (Tok × Span) LexError

abbrev pub from : List ℕ → ℕ → List Answered
from bytes at = answers at (drop at bytes)

-- what is there, and what comes: all tokens, and the fault
pub record SoFar (bytes : List ℕ) (at : ℕ) (done : List Token) : Type 0 where
  pub tokens : done ++ tokens_of bytes (from bytes at) ≡ tokens_of bytes (answers 0 bytes)
  pub fault : fault_of (from bytes at) ≡ fault_of (answers 0 bytes)

abbrev pub Steps : Type 0
Steps = (at : ℕ) (rest : List ℕ) → answers at rest ≡ then_more answers at rest (next at rest)

then_on : (more : ℕ → List ℕ → List Answered) (at : ℕ) (rest : List ℕ) (kind : Tok) (span : Span) → is_end kind ≡ false → then_more more at rest (Ok (kind, span)) ≡ Ok (kind, span) ∷ more span.to (drop (span.to - at) rest)
then_on more at rest End span h = absurd (true≢false h)
then_on more at rest _ span h = refl

then_end : (more : ℕ → List ℕ → List Answered) (at : ℕ) (rest : List ℕ) (kind : Tok) (span : Span) → is_end kind ≡ true → then_more more at rest (Ok (kind, span)) ≡ Ok (kind, span) ∷ []
then_end more at rest End span h = refl
then_end more at rest _ span h = absurd (false≢true h)

at_token : Steps → (bytes : List ℕ) (at : ℕ) (kind : Tok) (span : Span) → Ok (kind, span) ≡ next at (drop at bytes) → is_end kind ≡ false → at ≤ span.to → from bytes at ≡ Ok (kind, span) ∷ from bytes span.to
at_token step bytes at kind span e h l =
    let n : at + (span.to - at) ≡ span.to = omega arith in
    let d : drop (span.to - at) (drop at bytes) ≡ drop span.to bytes = drop-drop (span.to - at) at bytes ∙ ap (λ k. drop k bytes) n in
    step at (drop at bytes)
    ∙ (ap (then_more answers at (drop at bytes)) (sym e)
    ∙ (then_on answers at (drop at bytes) kind span h
    ∙ ap (λ x. Ok (kind, span) ∷ answers span.to x) d))

pub goes_on : Steps → (bytes : List ℕ) (at : ℕ) (kind : Tok) (span : Span) (done : List Token) → Ok (kind, span) ≡ next at (drop at bytes) → is_end kind ≡ false → at ≤ span.to → SoFar bytes at done → SoFar bytes span.to (done ++ token_of bytes (kind, span) ∷ [])
goes_on step bytes at kind span done e h l w =
    let a = at_token step bytes at kind span e h l in
    record {
      tokens = append_assoc done (token_of bytes (kind, span) ∷ []) (tokens_of bytes (from bytes span.to)) ∙ (ap (λ x. done ++ tokens_of bytes x) (sym a) ∙ w.tokens);
      fault = ap fault_of (sym a) ∙ w.fault;
    }

pub ends : Steps → (bytes : List ℕ) (at : ℕ) (kind : Tok) (span : Span) (done : List Token) → Ok (kind, span) ≡ next at (drop at bytes) → is_end kind ≡ true → SoFar bytes at done → (done ++ token_of bytes (kind, span) ∷ [] ≡ tokens_of bytes (answers 0 bytes)) × (None ≡ fault_of (answers 0 bytes))
ends step bytes at kind span done e h w =
    let a : from bytes at ≡ Ok (kind, span) ∷ [] = step at (drop at bytes) ∙ (ap (then_more answers at (drop at bytes)) (sym e) ∙ then_end answers at (drop at bytes) kind span h) in
    (ap (λ x. done ++ tokens_of bytes x) (sym a) ∙ w.tokens, ap fault_of (sym a) ∙ w.fault)

pub stops : Steps → (bytes : List ℕ) (at : ℕ) (error : LexError) (done : List Token) → Err error ≡ next at (drop at bytes) → SoFar bytes at done → (done ++ bad_token error ∷ [] ≡ tokens_of bytes (answers 0 bytes)) × (Some error ≡ fault_of (answers 0 bytes))
stops step bytes at error done e w =
    let a : from bytes at ≡ Err error ∷ [] = step at (drop at bytes) ∙ ap (then_more answers at (drop at bytes)) (sym e) in
    (ap (λ x. done ++ tokens_of bytes x) (sym a) ∙ w.tokens, ap fault_of (sym a) ∙ w.fault)
