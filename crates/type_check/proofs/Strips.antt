-- Words that begin with others.
use Rattle.std.proofs.Common.{◌≡◌, ℕ, suc, Bool, true, false, ◌&&◌, cond, Option, None, Some, List, [], ◌∷◌, ◌++◌, length, map, flat_map, refl, sym, ap, ◌∙◌}
use Rattle.ir_values.specs.declared.sig.TyWord.{TyWord}
use Rattle.ir_values.specs.declared.sig.TyWord.TheVariants as word
use Rattle.ir_values.specs.declared.ty.Ty.{Ty}
use Rattle.ir_values.specs.Calls.{same_word, same_words}
use Rattle.ir_values.specs.Types.{words_of, signature}
use Rattle.type_check.specs.code.Strip.{after_words, then_after, after_types, after_signature, ends}

-- one word, and then the others
pub after-step : (a : TyWord) (first ws : List TyWord) → after_words (a ∷ first) ws ≡ then_after (after_words (a ∷ []) ws) (after_words first)
after-step a first [] = refl
after-step a first (w ∷ ws) = by-test (same_word a w)
  where
    by-test : (b : Bool) → cond b (after_words first ws) None ≡ then_after (cond b (Some ws) None) (after_words first)
    by-test true = refl
    by-test false = refl

abbrev pub same_left : List TyWord → Option (List TyWord) → Bool
same_left bs None = false
same_left bs (Some ws) = same_words bs ws

pub same-after : (first bs ws : List TyWord) → same_words (first ++ bs) ws ≡ same_left bs (after_words first ws)
same-after [] bs ws = refl
same-after (a ∷ first) bs [] = refl
same-after (a ∷ first) bs (w ∷ ws) = by-test (same_word a w) (same-after first bs ws)
  where
    by-test : (b : Bool) → same_words (first ++ bs) ws ≡ same_left bs (after_words first ws) → (b && same_words (first ++ bs) ws) ≡ same_left bs (cond b (after_words first ws) None)
    by-test true h = h
    by-test false h = refl

same-types : (ts : List Ty) (ws : List TyWord) → same_words (flat_map words_of ts) ws ≡ ends (after_types ts ws)
same-types [] [] = refl
same-types [] (w ∷ ws) = refl
same-types (t ∷ ts) ws = same-after (words_of t) (flat_map words_of ts) ws ∙ by-left (after_words (words_of t) ws) (same-types ts)
  where
    by-left : (o : Option (List TyWord)) → ((ws : List TyWord) → same_words (flat_map words_of ts) ws ≡ ends (after_types ts ws)) → same_left (flat_map words_of ts) o ≡ ends (then_after o (after_types ts))
    by-left None h = refl
    by-left (Some ws) h = h ws

same-left : (t : Ty) (ts : List Ty) (o : Option (List TyWord)) → same_left (words_of t ++ flat_map words_of ts) o ≡ ends (then_after (then_after o (after_words (words_of t))) (after_types ts))
same-left t ts None = refl
same-left t ts (Some ws) = same-after (words_of t) (flat_map words_of ts) ws ∙ by-left (after_words (words_of t) ws)
  where
    by-left : (o : Option (List TyWord)) → same_left (flat_map words_of ts) o ≡ ends (then_after o (after_types ts))
    by-left None = refl
    by-left (Some us) = same-types ts us

pub same-signature : (n : ℕ) (t : Ty) (ts : List Ty) (ws : List TyWord) → n ≡ length ts → ends (after_signature n t ts ws) ≡ same_words (signature t ts) ws
same-signature n t ts ws e =
    sym (same-after (word.Func (length ts) ∷ []) (words_of t ++ flat_map words_of ts) ws ∙ same-left t ts (after_words (word.Func (length ts) ∷ []) ws) ∙ ap (λ k. ends (after_signature k t ts ws)) (sym e))

length-mapped : {A : Type 0} (f : A → Ty) (xs : List A) → length xs ≡ length (map f xs)
length-mapped f [] = refl
length-mapped f (x ∷ xs) = ap suc (length-mapped f xs)

-- the types that elements of a list have
pub mapped-signature : {A : Type 0} (f : A → Ty) (t : Ty) (xs : List A) (ws : List TyWord) → ends (after_signature (length xs) t (map f xs) ws) ≡ same_words (signature t (map f xs)) ws
mapped-signature f t xs ws = same-signature (length xs) t (map f xs) ws (length-mapped f xs)
