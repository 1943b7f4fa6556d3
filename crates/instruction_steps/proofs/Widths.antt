-- Equal widths, and equal values.
use Rattle.std.proofs.Common.{◌≡◌, ◌↔◌, Bool, true}
use Rattle.std.specs.Prelude.{IsTrue}
use Rattle.ir_values.specs.declared.int.Width.{Width}
use Rattle.ir_values.specs.declared.value.Value.{Value}
use Rattle.ir_values.specs.Values.{same_value, same_width}
use Rattle.static_steps.proofs.SameValues as values

pub same_widths : (a b : Width) → same_width a b ≡ true → a ≡ b
same_widths = values.same-widths

pub told : (b : Bool) (v u : Value) → IsTrue b ↔ (v ≡ u) → b ≡ same_value v u
told = values.told
