-- The tokens of whole texts, and of those that break off.
use Rattle.std.proofs.Common.{◌≡◌, ℕ, ◌⊎◌, List, [], ◌∷◌, ◌++◌, map, Some, None, Result, Ok, Err, refl, sym, ap, ◌∙◌, inl, inr}
use Rattle.std.specs.Prelude.{◌↔◌, Option}
use Rattle.ir_text.specs.Breaks.{Breaks}
use Rattle.ir_text.specs.Tokens.{Tokens}
use Rattle.ir_text.specs.code.Next.{answers}
use Rattle.ir_text.specs.declared.tok.Tok.{Tok}
use Rattle.ir_text.specs.declared.tok.Span.{Span}
use Rattle.ir_text.specs.declared.tok.LexError.{LexError}
use Rattle.ir_tokens.specs.Texts.{token_of, bad_token, tokens_of, fault_of}
use Rattle.ir_tokens.specs.Whole.{IsWhole, IsBroken}
use Rattle.ir_tokens.specs.declared.token.Token.{Token}

abbrev Answered : Type 0
Answered = Result (Tok × Span) LexError

abbrev told : List (Tok × Span) → List Answered
told ts = map Ok ts

abbrev cut : List (Tok × Span) → LexError → List Answered
cut ts error = told ts ++ Err error ∷ []

-- The tokens and the fault of such answers.

told_tokens : (bytes : List ℕ) (ts : List (Tok × Span)) → tokens_of bytes (told ts) ≡ map (token_of bytes) ts
told_tokens bytes [] = refl
told_tokens bytes (t ∷ ts) = ap (λ x. token_of bytes t ∷ x) (told_tokens bytes ts)

told_fault : (ts : List (Tok × Span)) → fault_of (told ts) ≡ None
told_fault [] = refl
told_fault (t ∷ ts) = told_fault ts

cut_tokens : (bytes : List ℕ) (ts : List (Tok × Span)) (error : LexError) → tokens_of bytes (cut ts error) ≡ map (token_of bytes) ts ++ bad_token error ∷ []
cut_tokens bytes [] error = refl
cut_tokens bytes (t ∷ ts) error = ap (λ x. token_of bytes t ∷ x) (cut_tokens bytes ts error)

cut_fault : (ts : List (Tok × Span)) (error : LexError) → fault_of (cut ts error) ≡ Some error
cut_fault [] error = refl
cut_fault (t ∷ ts) error = cut_fault ts error

-- What is known of a text.

abbrev Called : List ℕ → Type 0
Called bytes = (ts : List (Tok × Span)) → Tokens bytes ts ↔ (answers 0 bytes ≡ told ts)

abbrev Cut : List ℕ → Type 0
Cut bytes = (ts : List (Tok × Span)) (error : LexError) → Breaks bytes ts error ↔ (answers 0 bytes ≡ cut ts error)

abbrev Either : List ℕ → Type 0
Either bytes = ((ts : List (Tok × Span)) × Tokens bytes ts) ⊎ ((ts : List (Tok × Span)) × (error : LexError) × Breaks bytes ts error)

-- Whole texts.

whole_to : (bytes : List ℕ) (tokens : List Token) → Called bytes → IsWhole bytes tokens → (tokens_of bytes (answers 0 bytes) ≡ tokens) × (fault_of (answers 0 bytes) ≡ None)
whole_to bytes tokens f h =
    let a = (f h.0).0 h.1 in
    (ap (tokens_of bytes) a ∙ (told_tokens bytes h.0 ∙ sym h.2), ap fault_of a ∙ told_fault h.0)

whole_from : (bytes : List ℕ) (tokens : List Token) → Called bytes → Cut bytes → Either bytes → (tokens_of bytes (answers 0 bytes) ≡ tokens) × (fault_of (answers 0 bytes) ≡ None) → IsWhole bytes tokens
whole_from bytes tokens f g (inl h) e = (h.0, h.1, sym e.0 ∙ (ap (tokens_of bytes) ((f h.0).0 h.1) ∙ told_tokens bytes h.0))
whole_from bytes tokens f g (inr h) e =
    let n : Some h.1 ≡ None = sym (cut_fault h.0 h.1) ∙ (ap fault_of (sym ((g h.0 h.1).0 h.2)) ∙ e.1) in
    cc

pub whole_both : (bytes : List ℕ) (tokens : List Token) → Called bytes → Cut bytes → Either bytes → IsWhole bytes tokens ↔ ((tokens_of bytes (answers 0 bytes) ≡ tokens) × (fault_of (answers 0 bytes) ≡ None))
whole_both bytes tokens f g e = (whole_to bytes tokens f, whole_from bytes tokens f g e)

-- Texts that break off.

broken_to : (bytes : List ℕ) (tokens : List Token) (error : LexError) → Cut bytes → IsBroken bytes tokens error → (tokens_of bytes (answers 0 bytes) ≡ tokens) × (fault_of (answers 0 bytes) ≡ Some error)
broken_to bytes tokens error g h =
    let a = (g h.0 error).0 h.1 in
    (ap (tokens_of bytes) a ∙ (cut_tokens bytes h.0 error ∙ sym h.2), ap fault_of a ∙ cut_fault h.0 error)

same_fault : (x error : LexError) → Some x ≡ Some error → x ≡ error
same_fault x error e = cc

broken_with : (bytes : List ℕ) (tokens : List Token) (error x : LexError) (ts : List (Tok × Span)) → x ≡ error → Breaks bytes ts x → tokens ≡ map (token_of bytes) ts ++ bad_token x ∷ [] → IsBroken bytes tokens error
broken_with bytes tokens error x ts e h k = rw (sym e) (ts, h, k)

broken_from : (bytes : List ℕ) (tokens : List Token) (error : LexError) → Called bytes → Cut bytes → Either bytes → (tokens_of bytes (answers 0 bytes) ≡ tokens) × (fault_of (answers 0 bytes) ≡ Some error) → IsBroken bytes tokens error
broken_from bytes tokens error f g (inl h) e =
    let n : None ≡ Some error = sym (told_fault h.0) ∙ (ap fault_of (sym ((f h.0).0 h.1)) ∙ e.1) in
    cc
broken_from bytes tokens error f g (inr h) e =
    let a = (g h.0 h.1).0 h.2 in
    let same = same_fault h.1 error (sym (cut_fault h.0 h.1) ∙ (ap fault_of (sym a) ∙ e.1)) in
    broken_with bytes tokens error h.1 h.0 same h.2 (sym e.0 ∙ (ap (tokens_of bytes) a ∙ cut_tokens bytes h.0 h.1))

pub broken_both : (bytes : List ℕ) (tokens : List Token) (error : LexError) → Called bytes → Cut bytes → Either bytes → IsBroken bytes tokens error ↔ ((tokens_of bytes (answers 0 bytes) ≡ tokens) × (fault_of (answers 0 bytes) ≡ Some error))
broken_both bytes tokens error f g e = (broken_to bytes tokens error g, broken_from bytes tokens error f g e)
