use Rattle.std.proofs.Common.{◌≡◌, length}
use Rattle.std.specs.List.{list_all}
use Rattle.ir_values.specs.Calls.{is_operand}
use Rattle.ir_values.proofs.call_table.all_operands.Given as goal

abbrev pub decreases-loop-params : goal.decreases-loop-params
decreases-loop-params l = length l.params

abbrev pub invariant-loop-params : goal.invariant-loop-params
invariant-loop-params l = list_all is_operand l.params ≡ list_all is_operand l.fn.params
