-- Tests that tell which names are live at the points of a module.
use Rattle.std.specs.Prelude.{◌≡◌, ◌↔◌, Bool, true, false, None, Some, slice_get}
use Rattle.ir_module.specs.declared.places.Point.{Point}
use Rattle.ir_module.specs.declared.tree.Function.{Function}
use Rattle.ir_module.specs.declared.tree.Module.{Module}
use Rattle.ir_values.specs.declared.ids.LocalId.{LocalId}
use Rattle.name_flow.specs.Walks.{IsLive}

-- the test tells the names that some walk from a point reads before it defines them
abbrev pub TellsLive : Module → (Point → LocalId → Bool) → Type 0
TellsLive m live =
    (f : Function) (p : Point) (x : LocalId)
    → slice_get m.funcs p.func.0 ≡ Some f
    → (live p x ≡ true) ↔ IsLive f p x

-- a test that tells the live names at each point of the module, and none at points of no function
pub record IsLiveTest (m : Module) (live : Point → LocalId → Bool) : Type 0 where
  pub tells : TellsLive m live
  pub quiet : (p : Point) (x : LocalId) → slice_get m.funcs p.func.0 ≡ None → live p x ≡ false
