use Rattle.std.proofs.Common.{◌≡◌, not, length}
use Rattle.std.specs.List.{list_any}
use Rattle.ir_values.specs.declared.ty.Ty.{Ty}
use Rattle.ir_module.specs.declared.tree.Operand.{Operand}
use Rattle.profile_rules.specs.Calls.{is_constant}
use Rattle.base_profile.proofs.order.has_computed.Given as goal

abbrev pub invariant-loop-args : goal.invariant-loop-args
invariant-loop-args l = list_any (λ (a : Ty × Operand). not (is_constant a.1)) l.args ≡ list_any (λ (a : Ty × Operand). not (is_constant a.1)) l.fn.args

abbrev pub decreases-loop-args : goal.decreases-loop-args
decreases-loop-args l = length l.args
