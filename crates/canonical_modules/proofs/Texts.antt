-- The tokens of a text that is written as parts are those of the parts, and the end.
use Rattle.std.proofs.Common.{◌≡◌, ℕ, ◌+◌, List, [], ◌∷◌, ◌++◌, length, map, refl, ap, arith}
use Rattle.ir_tokens.specs.Numbers.{value_of, halves}
use Rattle.ir_tokens.specs.declared.kind.Kind.TheVariants as kind
use Rattle.ir_tokens.specs.declared.token.Token.{Token}
use Rattle.ir_parts.specs.Parts.{Part, gap, token, token_at, tokens_from, spellings_of}
use Rattle.ir_text.specs.declared.tok.Tok.TheVariants.{End}
use Rattle.ir_tokens.specs.Classified.{number_of}
use Rattle.canonical_syntax.specs.Builds.{Reads}

number_again : (n : ℕ) → value_of (halves n) ≡ n
number_again n = omega arith

head_is : {x y : List ℕ} {xs ys : List (List ℕ)} → x ∷ xs ≡ y ∷ ys → x ≡ y
head_is e = cc

tail_is : {x y : List ℕ} {xs ys : List (List ℕ)} → x ∷ xs ≡ y ∷ ys → xs ≡ ys
tail_is e = cc

-- where each token's spelling is found again
pub tokens_read : (spelling : Token → List ℕ) (at : ℕ) (ps : List Part) → map spelling (tokens_from at ps) ≡ spellings_of ps
    → (us : List Token) × (e : Token) × (tokens_from at ps ≡ us ++ e ∷ []) × Reads spelling ps us × (e.kind ≡ kind.End)
tokens_read spelling at [] h = ([], token_at at End [], refl, refl, refl)
tokens_read spelling at (gap s ∷ ps) h = tokens_read spelling (at + length s) ps h
tokens_read spelling at (token sort s ∷ ps) h =
    let w = tokens_read spelling (at + length s) ps (tail_is h) in
    (token_at at sort s ∷ w.0, w.1, ap (λ l. token_at at sort s ∷ l) w.2, (record { kind = refl; number = number_again (number_of sort s); spelled = head_is h }, w.3), w.4)
