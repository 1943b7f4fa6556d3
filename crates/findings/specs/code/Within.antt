-- Where the pass stands.
use Rattle.std.specs.Prelude.{◌≡◌, ℕ, ◌<◌, ◌^◌, List, [], length, slice_get, Option, None, Some}
use Rattle.ir_module.specs.declared.places.Point.{Point}
use Rattle.ir_module.specs.declared.tree.Function.{Function}
use Rattle.ir_module.specs.declared.tree.Module.{Module}
use Rattle.ir_module.specs.Tree.{blocks_of}
use Rattle.profile_rules.specs.declared.finding.Finding.{Finding}
use Rattle.profile_rules.specs.code.Listed.{function_part}
use Rattle.profile_rules.specs.Findings.{Rules}

-- the function of this number
abbrev pub IsFunction : Module → ℕ → Function → Type 0
IsFunction m g f = slice_get m.funcs g ≡ Some f

-- the point lies in a block of this function
pub record IsWithin (m : Module) (f : Function) (p : Point) : Type 0 where
  pub function : IsFunction m p.func.0 f
  pub block : p.block.0 < length (blocks_of f)

abbrev pub AreFew : {A : Type 0} → List A → Type 0
AreFew xs = length xs < 2 ^ 32

-- the findings of a function and its steps, where it is there
abbrev pub part_at : Rules → ℕ → Option Function → List Finding
part_at rules g None = []
part_at rules g (Some f) = function_part rules g f
