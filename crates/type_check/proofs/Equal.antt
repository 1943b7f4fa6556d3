-- The tests of equal widths and types decide them.
use Rattle.std.proofs.Common.{◌≡◌, true, List, Decides, refl, ap, subst}
use Rattle.ir_values.specs.declared.int.Width.{Width}
use Rattle.ir_values.specs.declared.int.Width.TheVariants.{W1, W8, W16, W32, W64}
use Rattle.ir_values.specs.declared.sig.TyWord.{TyWord}
use Rattle.ir_values.specs.declared.ty.Ty.{Ty}
use Rattle.ir_values.specs.declared.ty.Ty.TheVariants as ty
use Rattle.ir_values.specs.Calls.{same_words}
use Rattle.ir_values.proofs.WordLemmas.{same_words_decides}
use Rattle.ir_module.specs.Numbered.{is_void}
use Rattle.ir_values.specs.Values.{same_width}
use Rattle.type_check.specs.Typing.{same_type}

pub same_width-is : (w v : Width) → same_width w v ≡ true → w ≡ v
same_width-is W1 W1 e = refl
same_width-is W8 W8 e = refl
same_width-is W16 W16 e = refl
same_width-is W32 W32 e = refl
same_width-is W64 W64 e = refl
same_width-is w v e = cc

same_width-itself : (w : Width) → same_width w w ≡ true
same_width-itself W1 = refl
same_width-itself W8 = refl
same_width-itself W16 = refl
same_width-itself W32 = refl
same_width-itself W64 = refl

pub same_width-decides : (w v : Width) → Decides (same_width w v) (w ≡ v)
same_width-decides w v = (same_width-is w v, λ e. subst (λ x. same_width w x ≡ true) e (same_width-itself w))

pub same_words-is : (us vs : List TyWord) → same_words us vs ≡ true → us ≡ vs
same_words-is us vs e = (same_words_decides us vs).0 e

pub same_type-is : (t u : Ty) → same_type t u ≡ true → t ≡ u
unfolding same_type
same_type-is ty.Void ty.Void e = refl
same_type-is (ty.Int w) (ty.Int v) e = ap ty.Int (same_width-is w v e)
same_type-is ty.Double ty.Double e = refl
same_type-is ty.Qubit ty.Qubit e = refl
same_type-is ty.Res ty.Res e = refl
same_type-is ty.Text ty.Text e = refl
same_type-is (ty.Func us) (ty.Func vs) e = ap ty.Func (same_words-is us vs e)
same_type-is t u e = cc

same_type-itself : (t : Ty) → same_type t t ≡ true
unfolding same_type
same_type-itself ty.Void = refl
same_type-itself (ty.Int w) = same_width-itself w
same_type-itself ty.Double = refl
same_type-itself ty.Qubit = refl
same_type-itself ty.Res = refl
same_type-itself ty.Text = refl
same_type-itself (ty.Func ws) = (same_words_decides ws ws).1 refl

pub same_type-decides : (t u : Ty) → Decides (same_type t u) (t ≡ u)
same_type-decides t u = (same_type-is t u, λ e. subst (λ x. same_type t x ≡ true) e (same_type-itself t))

pub is_void-is : (t : Ty) → is_void t ≡ true → t ≡ ty.Void
is_void-is ty.Void e = refl
is_void-is t e = cc
