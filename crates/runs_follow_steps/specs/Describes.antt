-- When a configuration describes the state of a run between two instructions.
use Rattle.std.specs.Prelude.{◌≡◌, ◌↔◌, ℕ, ◌==◌, ◌<◌, ◌≤◌, ⊤, Bool, true, false, Option, None, Some, List, [], ◌∷◌, length, slice_get}
use Rattle.ir_module.specs.declared.places.Point.{Point}
use Rattle.ir_module.specs.declared.tree.Function.{Function}
use Rattle.ir_module.specs.declared.tree.Module.{Module}
use Rattle.ir_values.specs.declared.ids.FuncId.{FuncId}
use Rattle.ir_values.specs.declared.ids.LocalId.{LocalId}
use Rattle.ir_values.specs.declared.value.Value.{Value}
use Rattle.ir_values.specs.declared.value.Value.TheVariants as value
use Rattle.ir_values.specs.Int.{IntValue}
use Rattle.name_flow.specs.Walks.{IsLive}
use Rattle.qir_meaning.specs.State.{Env, State, value_at}
use Rattle.qir_meaning.specs.code.Steps.{Waiting, Whole}
use Rattle.kept_items.specs.declared.val.Val.{Val}
use Rattle.kept_items.specs.declared.val.Val.TheVariants.{Known, Dynamic}
use Rattle.kept_items.specs.Items.{dynamic}
use Rattle.static_steps.specs.declared.config.Config.{Config}
use Rattle.static_steps.specs.declared.work.Work.{Work}
use Rattle.static_steps.specs.declared.work.WorkFrame.{WorkFrame}
use Rattle.static_steps.specs.Returns.{call_result}
use Rattle.static_steps.specs.Values.{look}
use Rattle.static_steps.specs.Works.{dynamics_of, opened}

-- the test tells the names that some walk from a point reads before it defines them
abbrev pub TellsLive : Module → (Point → LocalId → Bool) → Type 0
TellsLive m live =
    (f : Function) (p : Point) (x : LocalId)
    → slice_get m.funcs p.func.0 ≡ Some f
    → (live p x ≡ true) ↔ IsLive f p x

-- what is said of a name is so, where ds are the Dynamic values in order: it has no value, this one, or that of this number
abbrev pub Fit : List IntValue → Option Val → Option Value → Type 0
Fit ds None o = o ≡ None
Fit ds (Some (Known v)) o = o ≡ Some v
Fit ds (Some (Dynamic d)) o = (d.0 < length ds) × (o ≡ Some (value.Int (dynamic ds d)))

-- the value of a name in a frame of a run
abbrev pub at_name : Env → LocalId → Option Value
at_name env x = value_at (slice_get env x.0)

-- how many names a function has
abbrev pub locals_in_some : Option Function → ℕ
locals_in_some None = 0
locals_in_some (Some f) = length f.locals

abbrev pub locals_in : Module → FuncId → ℕ
locals_in m f = locals_in_some (slice_get m.funcs f.0)

abbrev pub IsNot : Option LocalId → LocalId → Type 0
IsNot None y = ⊤
IsNot (Some x) y = (x.0 == y.0) ≡ false

abbrev pub ResultInRange : Module → FuncId → Option LocalId → Type 0
ResultInRange m f None = ⊤
ResultInRange m f (Some x) = x.0 < locals_in m f

module _ (m : Module) (live : Point → LocalId → Bool) (ds : List IntValue) where
  -- the live names have the values that the frame says
  pub record FrameFits (f : WorkFrame) (env : Env) : Type 0 where
    pub names : (x : LocalId) → live f.at x ≡ true → Fit ds (look x f.names) (at_name env x)
    pub long : locals_in m f.at.func ≤ length env

  -- of a frame that waits nothing is said of the call's own name
  pub record WaitFits (f : WorkFrame) (u : Waiting) : Type 0 where
    pub at : u.at ≡ f.at
    pub result : call_result m f.at ≡ Some u.result
    pub range : ResultInRange m f.at.func u.result
    pub names : (x : LocalId) → live f.at x ≡ true → IsNot u.result x → Fit ds (look x f.names) (at_name u.env x)
    pub long : locals_in m f.at.func ≤ length u.env

  abbrev pub AllWait : List WorkFrame → List Waiting → Type 0
  AllWait [] [] = ⊤
  AllWait (f ∷ fs) (u ∷ us) = WaitFits f u × AllWait fs us
  AllWait [] (u ∷ us) = ⊥
  AllWait (f ∷ fs) [] = ⊥

  -- the frames and the counters are those of the run
  pub record Fits (w : Work) (env : Env) (waits : List Waiting) (st : State) : Type 0 where
    pub top : FrameFits w.top env
    pub below : AllWait w.below waits
    pub allocated : st.allocated ≡ w.allocated
    pub held : st.held ≡ w.held
    pub returned : st.measured ≡ w.returned

  -- the configuration, whose Dynamic names have the values ds in order, describes this state of a run
  pub record Describes (g : Config) (v : Whole) : Type 0 where
    pub at : v.at ≡ g.top.at
    pub fits : Fits (opened g) v.env v.waits v.state
    pub count : dynamics_of g ≡ length ds
