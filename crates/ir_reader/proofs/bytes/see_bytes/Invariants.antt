use Rattle.std.proofs.Common.{◌≡◌, length}
use Rattle.ir_module.specs.Printable.{are_bytes}
use Rattle.ir_reader.proofs.bytes.see_bytes.Given as goal

abbrev pub invariant-loop-text : goal.invariant-loop-text
invariant-loop-text l = are_bytes l.text ≡ are_bytes l.fn.text

abbrev pub decreases-loop-text : goal.decreases-loop-text
decreases-loop-text l = length l.text
