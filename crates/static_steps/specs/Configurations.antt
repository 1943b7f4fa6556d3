-- Which configurations are those of a module for a target.
use Rattle.std.specs.Prelude.{◌≡◌, ℕ, ◌<◌, ⊤, Bool, true, Option, None, Some, List, [], ◌∷◌, length, slice_get, IsSome}
use Rattle.ir_module.specs.declared.places.Point.{Point}
use Rattle.ir_module.specs.declared.tree.Function.{Function}
use Rattle.ir_module.specs.declared.tree.Inst.{Inst}
use Rattle.ir_module.specs.declared.tree.InstKind.{InstKind}
use Rattle.ir_module.specs.declared.tree.InstKind.TheVariants as inst
use Rattle.ir_module.specs.declared.tree.Module.{Module}
use Rattle.ir_module.specs.Classes.{class_of_function, type_words}
use Rattle.ir_module.specs.Steps.{Step, PhiAt, InstAt, TermAt, NoStep, step_in_module}
use Rattle.ir_values.specs.declared.ids.FuncId.{FuncId}
use Rattle.ir_values.specs.declared.ids.LocalId.{LocalId}
use Rattle.ir_values.specs.declared.ty.Ty.{Ty}
use Rattle.ir_values.specs.declared.ty.Ty.TheVariants as ty
use Rattle.ir_values.specs.declared.value.Value.{Value}
use Rattle.ir_values.specs.declared.value.Value.TheVariants as value
use Rattle.qir_meaning.specs.State.{next}
use Rattle.kept_items.specs.declared.target.Target.{Target}
use Rattle.kept_items.specs.declared.target.Target.TheVariants.{Base, Adaptive}
use Rattle.static_steps.specs.declared.config.Config.{Config}
use Rattle.static_steps.specs.declared.config.Frame.{Frame}
use Rattle.static_steps.specs.declared.phase.Phase.{Phase}
use Rattle.static_steps.specs.declared.phase.Phase.TheVariants as phase
use Rattle.static_steps.specs.Values.{Names}

-- what the numbers of handles stay below: of fixed ones the required numbers, of allocations and returned results the counters
pub record Bounds : Type 0 where
  pub qubits : ℕ
  pub results : ℕ
  pub allocated : ℕ
  pub returned : ℕ

abbrev pub bounds : ℕ → ℕ → Config → Bounds
bounds qubits results g = record { qubits = qubits; results = results; allocated = g.allocated; returned = g.returned }

-- it has a body or a class
pub data CanBeCalled (f : Function) : Type 0 where
  by_body : IsSome f.blocks → CanBeCalled f
  by_class : IsSome (class_of_function f) → CanBeCalled f

-- a function of the module of this type, which can be called
pub record IsFunction (m : Module) (g : FuncId) (f : Function) : Type 0 where
  pub there : slice_get m.funcs g.0 ≡ Some f
  pub called : CanBeCalled f

-- a known value of a type
abbrev pub IsValue : Module → Bounds → Ty → Value → Type 0
IsValue m n (ty.Int w) (value.Int i) = i.width ≡ w
IsValue m n ty.Double (value.Double d) = ⊤
IsValue m n ty.Qubit (value.Id i) = i < n.qubits
IsValue m n ty.Qubit (value.Alloc j) = j < n.allocated
IsValue m n ty.Res (value.Id i) = i < n.results
IsValue m n ty.Res (value.Measured j) = j < n.returned
IsValue m n ty.Res value.One = ⊤
IsValue m n ty.Res value.Zero = ⊤
IsValue m n ty.Text (value.Label g) = g.0 < length m.globals
IsValue m n ty.Text value.NoLabel = ⊤
IsValue m n (ty.Func ws) (value.Func g) = (f : Function) × IsFunction m g f × (type_words f ≡ ws)
IsValue m n t v = ⊥

-- only integers are Dynamic, and for the Base Profile nothing is
abbrev pub MayVary : Target → Ty → Type 0
MayVary (Adaptive caps) (ty.Int w) = ⊤
MayVary t other = ⊥

abbrev pub IsTyped : Module → Target → Bounds → Ty → Option Value → Type 0
IsTyped m t n u None = MayVary t u
IsTyped m t n u (Some v) = IsValue m n u v

abbrev pub type_of_some : {A : Type 0} → Option (A × Ty) → Option Ty
type_of_some None = None
type_of_some (Some l) = Some l.1

-- the type of a local name
abbrev pub type_of_local : Function → LocalId → Option Ty
type_of_local f x = type_of_some (slice_get f.locals x.0)

-- a fact of each name with what is said of it
abbrev pub Each : {A : Type 0} → (LocalId → A → Type 0) → Names A → Type 0
Each P [] = ⊤
Each P (e ∷ es) = P e.0 e.1 × Each P es

-- names by rising number
abbrev pub RisesFrom : {A : Type 0} → ℕ → Names A → Type 0
RisesFrom n [] = ⊤
RisesFrom n (e ∷ es) = (n < e.0.0) × RisesFrom e.0.0 es

abbrev pub Rises : {A : Type 0} → Names A → Type 0
Rises [] = ⊤
Rises (e ∷ es) = RisesFrom e.0.0 es

-- an instruction or a terminator stands here
abbrev pub Stands : Step → Type 0
Stands (InstAt i) = ⊤
Stands (TermAt e) = ⊤
Stands (PhiAt phi) = ⊥
Stands NoStep = ⊥

-- a call of a function with this return type
abbrev pub Calls : Ty → InstKind → Type 0
Calls t (inst.Call ret f args) = ret ≡ t
Calls t other = ⊥

abbrev pub IsOther : Option LocalId → LocalId → Type 0
IsOther None y = ⊤
IsOther (Some x) y = ¬ (x ≡ y)

abbrev pub HoldsBelow : ℕ → List ℕ → Type 0
HoldsBelow n [] = ⊤
HoldsBelow n (j ∷ js) = (j < n) × HoldsBelow n js

abbrev pub NumbersRiseFrom : ℕ → List ℕ → Type 0
NumbersRiseFrom n [] = ⊤
NumbersRiseFrom n (j ∷ js) = (n < j) × NumbersRiseFrom j js

abbrev pub NumbersRise : List ℕ → Type 0
NumbersRise [] = ⊤
NumbersRise (j ∷ js) = NumbersRiseFrom j js

-- only the Base Profile has an order
abbrev pub IsPhaseOf : Target → Phase → Type 0
IsPhaseOf Base ph = ⊤
IsPhaseOf (Adaptive caps) ph = ph ≡ phase.Begin

module _ (m : Module) (t : Target) (live : Point → LocalId → Bool) (n : Bounds) where
  -- a name that is live at the point has a value of its type
  pub record IsName (f : Function) (p : Point) (x : LocalId) (o : Option Value) : Type 0 where
    pub type : Ty
    pub is : type_of_local f x ≡ Some type
    pub typed : IsTyped m t n type o
    pub live_here : live p x ≡ true

  pub record IsFrame (f : Function) (g : Frame) : Type 0 where
    pub in_function : slice_get m.funcs g.at.func.0 ≡ Some f
    pub stands : Stands (step_in_module m g.at)
    pub rises : Rises g.names
    pub names : Each (IsName f g.at) g.names

  -- a frame that waits for a frame of this function: it stands behind a call of its return type, and leaves out the call's name
  pub record Waits (above : Function) (g : Frame) : Type 0 where
    pub call : Point
    pub follows : g.at ≡ next call
    pub instruction : Inst
    pub is : step_in_module m call ≡ InstAt instruction
    pub calls : Calls above.ret instruction.what
    pub without_result : Each (λ y o. IsOther instruction.result y) g.names

  -- the frames from one down; the last is of the entry
  abbrev pub AreFrames : FuncId → Frame → List Frame → Type 0
  AreFrames entry g [] = (f : Function) × IsFrame f g × (g.at.func ≡ entry)
  AreFrames entry g (h ∷ hs) = (f : Function) × IsFrame f g × Waits f h × AreFrames entry h hs

-- a configuration of a module for a target, by the names that are live, the number of the entry and the required numbers of qubits
-- and results
module _ (m : Module) (t : Target) (live : Point → LocalId → Bool) (entry : FuncId) (qubits results : ℕ) where
  pub record IsConfiguration (g : Config) : Type 0 where
    pub frames : AreFrames m t live (bounds qubits results g) entry g.top g.below
    pub held : HoldsBelow g.allocated g.held
    pub ordered : NumbersRise g.held
    pub in_phase : IsPhaseOf t g.phase
