-- What the proofs of several rules share: conjunctions of tests, tests of numbers, and lengths of printed lists.
use Rattle.std.proofs.Common.{◌≡◌, ℕ, suc, ◌+◌, ◌<◌, Bool, true, false, ◌&&◌, not, Option, Some, List, [], ◌∷◌, length, refl, ap, ◌∙◌, arith}
use Rattle.std.specs.List.{list_all}
use Rattle.std.specs.Prelude.{nat_lt}
use Rattle.ir_values.specs.declared.int.Width.{Width}
use Rattle.ir_values.specs.declared.int.Width.TheVariants.{W1, W8, W16, W32, W64}
use Rattle.ir_values.specs.declared.ty.Ty.{Ty}
use Rattle.ir_values.specs.Values.{same_width}
use Rattle.kept_items.specs.declared.val.Dyn.{Dyn}
use Rattle.residue.specs.declared.parts.Part.{Part}
use Rattle.residue.specs.declared.parts.Residue.{Residue}
use Rattle.residue.specs.Functions.{parameters}
use Rattle.residue.specs.Printed.{locals_from, names_of_params, names_of_part, print_parts}

pub both : (a b : Bool) → a ≡ true → b ≡ true → (a && b) ≡ true
both a b h g = ap (λ x. x && b) h ∙ g

pub two : (a b : Bool) → a ≡ true → b ≡ true → (a && (b && true)) ≡ true
two a b h g = both a (b && true) h (ap (λ s. s && true) g)

pub three : (a b c : Bool) → a ≡ true → b ≡ true → c ≡ true → (a && (b && (c && true))) ≡ true
three a b c h g i = both a (b && (c && true)) h (two b c g i)

pub every : {A : Type 0} (test : A → Bool) (xs : List A) → ((x : A) → test x ≡ true) → list_all test xs ≡ true
every test [] h = refl
every test (x ∷ xs) h = both (test x) (list_all test xs) (h x) (every test xs h)

pub not-false : (b : Bool) → not b ≡ true → b ≡ false
not-false true h = cc
not-false false h = refl

pub below : (a b : ℕ) → a < b → nat_lt a b ≡ true
below a b h = grind arith

pub less : (a b : ℕ) → nat_lt a b ≡ true → a < b
less a b e = grind arith

pub some-same : {A : Type 0} {x y : A} → Some x ≡ Some y → x ≡ y
some-same e = cc

pub width-itself : (w : Width) → same_width w w ≡ true
width-itself W1 = refl
width-itself W8 = refl
width-itself W16 = refl
width-itself W32 = refl
width-itself W64 = refl

pub locals-long : (n : ℕ) (names : List (Option ℕ × Ty)) → length (locals_from n names) ≡ length names
locals-long n [] = refl
locals-long n (x ∷ names) = ap suc (locals-long (suc n) names)

pub parameters-long : (n : ℕ) (ts : List Ty) → length (parameters n ts) ≡ length ts
parameters-long n [] = refl
parameters-long n (t ∷ ts) = ap suc (parameters-long (suc n) ts)

pub params-long : (params : List (Dyn × Width)) → length (names_of_params params) ≡ length params
params-long [] = refl
params-long (x ∷ params) = ap suc (params-long params)

pub parts-long : (r : Residue) (n free : ℕ) (parts : List Part) → length (print_parts r n free parts) ≡ length parts
parts-long r n free [] = refl
parts-long r n free (p ∷ parts) = ap suc (parts-long r (suc n) (free + length (names_of_part p)) parts)
