-- The values of a type, and frames whose names have values of their types. A run of an admitted module has no others.
use Rattle.std.specs.Prelude.{◌≡◌, ℕ, ◌<◌, ⊤, true, Option, None, Some, List, [], ◌∷◌, length, slice_get}
use Rattle.ir_values.specs.declared.name.Name.{Name}
use Rattle.ir_values.specs.declared.ty.Ty.{Ty}
use Rattle.ir_values.specs.declared.ty.Ty.TheVariants as ty
use Rattle.ir_values.specs.declared.value.Value.{Value}
use Rattle.ir_values.specs.declared.value.Value.TheVariants as value
use Rattle.ir_module.specs.declared.tree.Function.{Function}
use Rattle.ir_module.specs.declared.tree.Module.{Module}
use Rattle.ir_module.specs.Classes.{type_words}
use Rattle.qir_meaning.specs.State.{Env, State}
use Rattle.type_check.specs.Rules.{is_known}

-- what the numbers of handles are below
pub record Bounds : Type 0 where
  pub qubits : ℕ  -- those of fixed qubits: the required number
  pub results : ℕ  -- those of fixed results
  pub allocated : ℕ  -- those of allocations: how many qubits were allocated
  pub measured : ℕ  -- those of returned results

-- where k qubits and r results are required, and a run has come to this state
abbrev pub bounds_at : ℕ → ℕ → State → Bounds
bounds_at k r st = record { qubits = k; results = r; allocated = st.allocated; measured = st.measured }

module _ (m : Module) (b : Bounds) where
  -- A value of the type. A number of a handle is below its bound, a label is in range, and a function value is that of a
  -- function of the type, which has a body or a class.
  abbrev pub IsOf : Ty → Value → Type 0
  IsOf (ty.Int w) (value.Int i) = i.width ≡ w
  IsOf ty.Double (value.Double d) = ⊤
  IsOf ty.Qubit (value.Id n) = n < b.qubits
  IsOf ty.Qubit (value.Alloc n) = n < b.allocated
  IsOf ty.Res (value.Id n) = n < b.results
  IsOf ty.Res (value.Measured n) = n < b.measured
  IsOf ty.Res value.One = ⊤
  IsOf ty.Res value.Zero = ⊤
  IsOf ty.Text (value.Label g) = g.0 < length m.globals
  IsOf ty.Text value.NoLabel = ⊤
  IsOf (ty.Func ws) (value.Func g) =
      (f : Function) × (slice_get m.funcs g.0 ≡ Some f) × (type_words f ≡ ws) × (is_known (Some f) ≡ true)
  IsOf t v = ⊥

  -- no value, or one of the type
  abbrev pub MayBe : Ty → Option Value → Type 0
  MayBe t None = ⊤
  MayBe t (Some v) = IsOf t v

  -- each of these local names has no value in the frame, or one of its type
  abbrev pub EnvOf : List (Name × Ty) → Env → Type 0
  EnvOf [] [] = ⊤
  EnvOf [] (o ∷ env) = ⊥
  EnvOf (l ∷ ls) [] = ⊥
  EnvOf (l ∷ ls) (o ∷ env) = MayBe l.1 o × EnvOf ls env

  -- values of these types
  abbrev pub AllOf : List Ty → List Value → Type 0
  AllOf [] [] = ⊤
  AllOf [] (v ∷ vs) = ⊥
  AllOf (t ∷ ts) [] = ⊥
  AllOf (t ∷ ts) (v ∷ vs) = IsOf t v × AllOf ts vs

  -- what a function gives that returns the type
  abbrev pub Gives : Ty → Option Value → Type 0
  Gives t None = t ≡ ty.Void
  Gives t (Some v) = IsOf t v
