use Rattle.std.proofs.Common.{◌≡◌, length}
use Rattle.ir_values.specs.code.CallRows.{is_known}
use Rattle.ir_values.proofs.call_table.is_known.Given as goal

abbrev pub decreases-loop-rows : goal.decreases-loop-rows
decreases-loop-rows l = length l.rows

abbrev pub invariant-loop-rows : goal.invariant-loop-rows
invariant-loop-rows l = is_known l.name l.rows ≡ is_known l.name l.fn.rows
