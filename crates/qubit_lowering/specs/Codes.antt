-- Codes that are returned are integers of 64 bits.
use Rattle.std.specs.Prelude.{◌≡◌, ℤ}
use Rattle.ir_values.specs.declared.int.Width.TheVariants.{W64}
use Rattle.ir_values.specs.Arithmetic.{modulo}
use Rattle.ir_values.specs.Int.{signed}
use Rattle.kept_items.specs.declared.item.Code.TheVariants as code
use Rattle.unroller.specs.declared.node.Outcome.{Outcome}
use Rattle.unroller.specs.declared.node.Outcome.TheVariants as outcome

-- in two's complement the number is itself
abbrev pub IsWord : ℤ → Type 0
IsWord z = signed (modulo W64 z) ≡ z

-- so is one that an outcome returns
abbrev pub ReturnsWord : Outcome → Type 0
ReturnsWord o = (z : ℤ) → o ≡ outcome.Exits (code.Known z) → IsWord z
