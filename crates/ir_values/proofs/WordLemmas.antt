-- Words as numbers, and lists of words compared as such.
use Rattle.std.proofs.Common.{◌≡◌, ℕ, zero, suc, Bool, true, List, refl, ap, ◌∙◌, sym, subst}
use Rattle.std.specs.Prelude.{if◌then◌else◌, ◌==◌}
use Rattle.std.specs.Bool.{Decides}
use Rattle.std.proofs.lemmas.Bool.{and_parts}
use Rattle.std.specs.Cmp.{unsigned_Decides}
use Rattle.std.specs.Cmp.Lexicographic.{pointwise, pointwise_decides}
use Rattle.ir_values.specs.declared.int.Width.{Width}
use Rattle.ir_values.specs.declared.int.Width.TheVariants.{W1, W8, W16, W32, W64}
use Rattle.ir_values.specs.declared.sig.TyWord.{TyWord}
use Rattle.ir_values.specs.declared.sig.TyWord.TheVariants as word
use Rattle.ir_values.specs.Width.{bits_of}
use Rattle.ir_values.specs.Calls.{word_code, same_word, same_words}
use Rattle.ir_values.specs.Equal.{same_test}

width_from : ℕ → Width
width_from n = if n == 1 then W1 else if n == 8 then W8 else if n == 16 then W16 else if n == 32 then W32 else W64

width_is : (w : Width) → width_from (bits_of w) ≡ w
unfolding width_from
width_is W1 = refl
width_is W8 = refl
width_is W16 = refl
width_is W32 = refl
width_is W64 = refl

word_from : ℕ → ℕ → TyWord
word_from zero n = word.Void
word_from (suc zero) n = word.Int (width_from n)
word_from (suc (suc zero)) n = word.Double
word_from (suc (suc (suc zero))) n = word.Qubit
word_from (suc (suc (suc (suc zero)))) n = word.Res
word_from (suc (suc (suc (suc (suc zero))))) n = word.Text
word_from (suc (suc (suc (suc (suc (suc k)))))) n = word.Func n

word_is : (w : TyWord) → word_from (word_code w).0 (word_code w).1 ≡ w
unfolding word_from
word_is word.Void = refl
word_is (word.Int w) = ap word.Int (width_is w)
word_is word.Double = refl
word_is word.Qubit = refl
word_is word.Res = refl
word_is word.Text = refl
word_is (word.Func n) = refl

equal_from_code : (a b : TyWord) → same_word a b ≡ true → a ≡ b
equal_from_code a b e =
    let both = and_parts ((word_code a).0 == (word_code b).0) ((word_code a).1 == (word_code b).1) e in
    let kind = (unsigned_Decides (word_code a).0 (word_code b).0).0 both.0 in
    let number = (unsigned_Decides (word_code a).1 (word_code b).1).0 both.1 in
    sym (word_is a) ∙ (ap (λ k. word_from k (word_code a).1) kind ∙ (ap (λ n. word_from (word_code b).0 n) number ∙ word_is b))

same_word-refl : (a : TyWord) → same_word a a ≡ true
same_word-refl a = rw ((unsigned_Decides (word_code a).0 (word_code a).0).1 refl, (unsigned_Decides (word_code a).1 (word_code a).1).1 refl)

pub same_word_decides : (a b : TyWord) → Decides (same_word a b) (a ≡ b)
same_word_decides a b = (equal_from_code a b, λ e. subst (λ z. same_word a z ≡ true) e (same_word-refl a))

pub same_words_decides : (us vs : List TyWord) → Decides (same_words us vs) (us ≡ vs)
same_words_decides us vs = pointwise_decides same_word_decides us vs

-- two lists of words are compared alike by every test that decides equality
pub same_words_is : (same : TyWord → TyWord → Bool) → ((a b : TyWord) → Decides (same a b) (a ≡ b)) → (xs ys : List TyWord) → pointwise same xs ys ≡ same_words xs ys
same_words_is same decides xs ys =
    same_test _ _ (pointwise_decides decides xs ys) (same_words_decides xs ys)
