use Rattle.std.proofs.Common.{◌≡◌, length}
use Rattle.ir_values.specs.code.CallRows.{first}
use Rattle.ir_values.proofs.call_table.find.Given as goal

abbrev pub decreases-loop-rows : goal.decreases-loop-rows
decreases-loop-rows l = length l.rows

abbrev pub invariant-loop-rows : goal.invariant-loop-rows
invariant-loop-rows l = first l.name l.words l.rows ≡ first l.name l.words l.fn.rows
