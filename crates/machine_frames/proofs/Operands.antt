-- The values of one operand or two.
use Rattle.std.proofs.Common.{◌≡◌, List, [], ◌∷◌, length, Some, refl}
use Rattle.std.specs.Prelude.{Result, Ok, Err, IfOk}
use Rattle.ir_module.specs.declared.tree.Operand.{Operand}
use Rattle.ir_values.specs.declared.value.Value.{Value}
use Rattle.qir_meaning.specs.State.{Env, value_of, values_of}

pub one-value : (env : Env) (a : Operand) (v : Value) → value_of env a ≡ Some v → values_of env (a ∷ []) ≡ Some (v ∷ [])
one-value env a v e = rw e refl

pub two-values : (env : Env) (a b : Operand) (v w : Value) → value_of env a ≡ Some v → value_of env b ≡ Some w → values_of env (a ∷ b ∷ []) ≡ Some (v ∷ w ∷ [])
two-values env a b v w e f = rw (e, f) refl

pub if-ok : {A E : Type 0} (r : Result A E) (P Q : A → Type 0) → ((x : A) → P x → Q x) → IfOk r P → IfOk r Q
if-ok (Ok x) P Q f h = f x h
if-ok (Err e) P Q f h = tt

pub nothing-left : {A : Type 0} (xs : List A) → length xs ≡ 0 → xs ≡ []
nothing-left [] e = refl
nothing-left (x ∷ xs) e = cc
