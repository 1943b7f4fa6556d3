-- What tables of cycles and of calls that lead back tell.
use Rattle.std.specs.Prelude.{◌≡◌, ◌↔◌, Bool, true, Some, slice_get}
use Rattle.ir_module.specs.declared.places.Point.{Point}
use Rattle.ir_module.specs.declared.tree.Function.{Function}
use Rattle.ir_module.specs.declared.tree.Module.{Module}
use Rattle.ir_module.specs.Steps.{Step, step_of_point}
use Rattle.graph_cycles.specs.Cycles.{IsOnCycle}
use Rattle.profile_rules.specs.Adaptive.{ReturnsFrom, block_graph, number_called}

-- of each point whether its block lies on a cycle, and whether its call leads back to its function
pub record AreTables (m : Module) (cyclic : Point → Bool) (returning : Point → Step → Bool) : Type 0 where
  pub loops : (p : Point) (f : Function) → slice_get m.funcs p.func.0 ≡ Some f
      → (cyclic p ≡ true) ↔ IsOnCycle (block_graph f) p.block.0
  pub calls : (p : Point) (f : Function) → slice_get m.funcs p.func.0 ≡ Some f
      → (returning p (step_of_point f p) ≡ true) ↔ ReturnsFrom m p.func.0 (number_called (step_of_point f p))
