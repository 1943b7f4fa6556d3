-- The words of a whole type, written one after another, are the type.
use Rattle.std.proofs.Common.{◌≡◌, ℕ, zero, suc, ◌+◌, ◌<◌, true, List, [], ◌∷◌, ◌++◌, length, take, drop, refl, sym, ap, subst, ◌∙◌, append_assoc, append-nil, arith}
use Rattle.std.specs.Prelude.{codes}
use Rattle.std.proofs.lemmas.Bool.{false≢true}
use Rattle.std.proofs.lemmas.List.{length-drop}
use Rattle.ir_values.specs.Words.{spells, is_sig}
use Rattle.ir_values.specs.declared.sig.TyWord.{TyWord}
use Rattle.ir_values.specs.declared.sig.TyWord.TheVariants as tyword
use Rattle.ir_parts.specs.Parts.{Part}
use Rattle.ir_printer.specs.Pieces.{blank, sign, comma, further, listed}
use Rattle.ir_printer.specs.Types.{word_parts, with_pointer, types_parts, first_type}
use Rattle.ir_printer.specs.code.OpenTypes.{behind, words_parts}
use Rattle.ir_printer.specs.declared.open.Open.{Open}
use Rattle.ir_printer.specs.declared.open.Open.TheVariants.{Returning, Listing}

-- how many types are to come behind a type within those that are open
abbrev needs : List Open → ℕ
needs [] = 0
needs (Returning n ∷ os) = n + needs os
needs (Listing n ∷ os) = n + needs os

abbrev ends : List Part
ends = sign (codes ")") ∷ sign (codes "*") ∷ []

-- what stands behind a type within those that are open, with the types that are to come
abbrev after : List Open → List (List Part) → List Part
after [] ts = []
after (Returning n ∷ os) ts = blank ∷ sign (codes "(") ∷ (listed (take n ts) ++ (ends ++ after os (drop n ts)))
after (Listing n ∷ os) ts = further (take n ts) ++ (ends ++ after os (drop n ts))

-- the types that are to come within those that are open
abbrev woven : List Open → List (List Part) → List Part
woven os [] = []
woven os (t ∷ ts) = t ++ after os ts

length-with_pointer : (n k : ℕ) (ts : List (List Part)) → length ts ≡ suc (k + n) → length (with_pointer n ts) ≡ suc k
length-with_pointer n k [] h = absurd (omega arith)
length-with_pointer n k (ret ∷ ts) h = omega (arith, length-drop n ts)

-- words that spell k types spell so many
length-types : (ws : List TyWord) (k : ℕ) → spells ws k ≡ true → length (types_parts ws) ≡ k
length-types [] zero h = refl
length-types [] (suc k) h = absurd (false≢true h)
length-types (w ∷ ws) zero h = absurd (false≢true h)
length-types (tyword.Func n ∷ ws) (suc k) h = length-with_pointer n k (types_parts ws) (length-types ws (suc (k + n)) h)
length-types (tyword.Void ∷ ws) (suc k) h = ap suc (length-types ws k h)
length-types (tyword.Int w ∷ ws) (suc k) h = ap suc (length-types ws k h)
length-types (tyword.Double ∷ ws) (suc k) h = ap suc (length-types ws k h)
length-types (tyword.Qubit ∷ ws) (suc k) h = ap suc (length-types ws k h)
length-types (tyword.Res ∷ ws) (suc k) h = ap suc (length-types ws k h)
length-types (tyword.Text ∷ ws) (suc k) h = ap suc (length-types ws k h)

-- a function pointer type among the types to come, or its parts
woven-pointer : (os : List Open) (n : ℕ) (ts : List (List Part)) → woven (Returning n ∷ os) ts ≡ woven os (with_pointer n ts)
woven-pointer os n [] = refl
woven-pointer os n (ret ∷ ts) =
    let tail = after os (drop n ts) in
    ap (λ x. ret ++ blank ∷ sign (codes "(") ∷ x) (sym (append_assoc (listed (take n ts)) ends tail))
    ∙ sym (append_assoc ret (blank ∷ sign (codes "(") ∷ (listed (take n ts) ++ ends)) tail)

no_words : (ws : List TyWord) → spells ws 0 ≡ true → words_parts [] ws ≡ []
no_words [] h = refl
no_words (w ∷ ws) h = absurd (false≢true h)

-- the words that are to come are woven, whatever types are open
abbrev Law : List TyWord → Type 0
Law ws = (os : List Open) (k : ℕ) → k ≡ suc (needs os) → spells ws k ≡ true → words_parts os ws ≡ woven os (types_parts ws)

first_param : (n : ℕ) (os : List Open) (ts : List (List Part)) → 0 < length ts →
    woven (Listing n ∷ os) ts ≡ listed (take (suc n) ts) ++ (ends ++ after os (drop (suc n) ts))
first_param n os [] h = absurd (omega arith)
first_param n os (t ∷ ts) h = sym (append_assoc t (further (take n ts)) (ends ++ after os (drop n ts)))

next_param : (n : ℕ) (os : List Open) (ts : List (List Part)) → 0 < length ts →
    comma ++ woven (Listing n ∷ os) ts ≡ further (take (suc n) ts) ++ (ends ++ after os (drop (suc n) ts))
next_param n os [] h = absurd (omega arith)
next_param n os (t ∷ ts) h = ap (λ x. comma ++ x) (sym (append_assoc t (further (take n ts)) (ends ++ after os (drop n ts))))

behind_is : (ws : List TyWord) → Law ws → (os : List Open) (k : ℕ) → k ≡ needs os → spells ws k ≡ true →
    (behind os).parts ++ words_parts (behind os).open_types ws ≡ after os (types_parts ws)
behind_is ws law [] k e h = no_words ws (subst (λ n. spells ws n ≡ true) e h)
behind_is ws law (Returning zero ∷ os) k e h =
    ap (λ x. blank ∷ sign (codes "(") ∷ sign (codes ")") ∷ sign (codes "*") ∷ x) (behind_is ws law os k (omega arith) h)
behind_is ws law (Returning (suc n) ∷ os) k e h =
    let some : 0 < length (types_parts ws) = omega (arith, length-types ws k h) in
    ap (λ x. blank ∷ sign (codes "(") ∷ x) (law (Listing n ∷ os) k (omega arith) h ∙ first_param n os (types_parts ws) some)
behind_is ws law (Listing zero ∷ os) k e h = ap (λ x. ends ++ x) (behind_is ws law os k (omega arith) h)
behind_is ws law (Listing (suc n) ∷ os) k e h =
    let some : 0 < length (types_parts ws) = omega (arith, length-types ws k h) in
    ap (λ x. comma ++ x) (law (Listing n ∷ os) k (omega arith) h) ∙ next_param n os (types_parts ws) some

-- a word that is a whole type
one_word : (p : List Part) (ws : List TyWord) → Law ws → (os : List Open) (k : ℕ) → k ≡ needs os → spells ws k ≡ true →
    (p ++ (behind os).parts) ++ words_parts (behind os).open_types ws ≡ p ++ after os (types_parts ws)
one_word p ws law os k e h =
    append_assoc p (behind os).parts (words_parts (behind os).open_types ws) ∙ ap (λ x. p ++ x) (behind_is ws law os k e h)

words_are : (ws : List TyWord) → Law ws
words_are [] os zero e h = absurd (omega arith)
words_are [] os (suc k) e h = absurd (false≢true h)
words_are (w ∷ ws) os zero e h = absurd (false≢true h)
words_are (tyword.Func n ∷ ws) os (suc k) e h =
    words_are ws (Returning n ∷ os) (suc (k + n)) (omega arith) h ∙ woven-pointer os n (types_parts ws)
words_are (tyword.Void ∷ ws) os (suc k) e h = one_word (word_parts tyword.Void) ws (words_are ws) os k (omega arith) h
words_are (tyword.Int w ∷ ws) os (suc k) e h = one_word (word_parts (tyword.Int w)) ws (words_are ws) os k (omega arith) h
words_are (tyword.Double ∷ ws) os (suc k) e h = one_word (word_parts tyword.Double) ws (words_are ws) os k (omega arith) h
words_are (tyword.Qubit ∷ ws) os (suc k) e h = one_word (word_parts tyword.Qubit) ws (words_are ws) os k (omega arith) h
words_are (tyword.Res ∷ ws) os (suc k) e h = one_word (word_parts tyword.Res) ws (words_are ws) os k (omega arith) h
words_are (tyword.Text ∷ ws) os (suc k) e h = one_word (word_parts tyword.Text) ws (words_are ws) os k (omega arith) h

spelled_once : (ws : List TyWord) → is_sig ws ≡ true → spells ws 1 ≡ true
spelled_once [] h = absurd (false≢true h)
spelled_once (tyword.Func n ∷ ws) h = let e : suc (0 + n) ≡ suc n = omega arith in subst (λ k. spells ws k ≡ true) (sym e) h
spelled_once (tyword.Void ∷ ws) h = absurd (false≢true h)
spelled_once (tyword.Int w ∷ ws) h = absurd (false≢true h)
spelled_once (tyword.Double ∷ ws) h = absurd (false≢true h)
spelled_once (tyword.Qubit ∷ ws) h = absurd (false≢true h)
spelled_once (tyword.Res ∷ ws) h = absurd (false≢true h)
spelled_once (tyword.Text ∷ ws) h = absurd (false≢true h)

woven-one : (ts : List (List Part)) → length ts ≡ 1 → woven [] ts ≡ first_type ts
woven-one [] h = refl
woven-one (t ∷ ts) h = append-nil t

-- the words of a function pointer type are written as the type
pub whole_type : (ws : List TyWord) → is_sig ws ≡ true → words_parts [] ws ≡ first_type (types_parts ws)
whole_type ws h =
    let one = spelled_once ws h in
    words_are ws [] 1 refl one ∙ woven-one (types_parts ws) (length-types ws 1 one)
