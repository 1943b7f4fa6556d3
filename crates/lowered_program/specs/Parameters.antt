-- The numbers of parameters of functions.
use Rattle.std.specs.Prelude.{◌≡◌, ℕ, ◌<◌, ◌^◌, Some, List, slice_get}
use Rattle.ir_module.specs.declared.tree.Function.{Function}

-- each function has fewer than 2 ^ 32 parameters
abbrev pub HaveFewParameters : List Function → Type 0
HaveFewParameters fs = (g : ℕ) (f : Function) → slice_get fs g ≡ Some f → f.params < 2 ^ 32
