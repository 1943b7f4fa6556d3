-- A numbered module has few functions, and each few blocks.
use Rattle.std.proofs.Common.{◌≡◌, ℕ, zero, suc, ◌<◌, ◌^◌, Bool, true, false, ◌&&◌, List, [], ◌∷◌, Some, length, slice_get, refl, subst, arith}
use Rattle.std.specs.List.{list_all}
use Rattle.std.proofs.lemmas.Bool.Decides.{nat_tests}
use Rattle.ir_module.specs.declared.tree.Function.{Function}
use Rattle.ir_module.specs.declared.tree.Module.{Module}
use Rattle.ir_module.specs.Numbered.{Numbered, are_few}
use Rattle.ir_module.specs.Tree.{blocks_of}

and-left : (a b : Bool) → (a && b) ≡ true → a ≡ true
and-left true b e = refl
and-left false b e = cc

and-right : (a b : Bool) → (a && b) ≡ true → b ≡ true
and-right true b e = e
and-right false b e = cc

pub all-at : {A : Type 0} (test : A → Bool) (xs : List A) (i : ℕ) (x : A) → list_all test xs ≡ true → slice_get xs i ≡ Some x → test x ≡ true
all-at test [] i x h e = cc
all-at test (y ∷ ys) zero x h e = let q : y ≡ x = cc in subst (λ z. test z ≡ true) q (and-left (test y) (list_all test ys) h)
all-at test (y ∷ ys) (suc i) x h e = all-at test ys i x (and-right (test y) (list_all test ys) h) e

few : {A : Type 0} (xs : List A) → are_few xs ≡ true → length xs < 2 ^ 32
few xs e = grind (arith, nat_tests)

pub few_functions : (m : Module) → Numbered m → length m.funcs < 2 ^ 32
few_functions m n = few m.funcs (and-left (are_few m.funcs) (list_all (λ (f : Function). are_few (blocks_of f)) m.funcs) (and-right (are_few m.globals) (are_few m.funcs && list_all (λ (f : Function). are_few (blocks_of f)) m.funcs) n.few))

pub few_blocks : (m : Module) (g : ℕ) (f : Function) → Numbered m → slice_get m.funcs g ≡ Some f → length (blocks_of f) < 2 ^ 32
few_blocks m g f n e = few (blocks_of f) (all-at (λ (f : Function). are_few (blocks_of f)) m.funcs g f (and-right (are_few m.funcs) (list_all (λ (f : Function). are_few (blocks_of f)) m.funcs) (and-right (are_few m.globals) (are_few m.funcs && list_all (λ (f : Function). are_few (blocks_of f)) m.funcs) n.few)) e)
