use Rattle.std.proofs.Common.{◌≡◌, ◌&&◌, ◌||◌, not, length}
use Rattle.std.specs.List.{list_any}
use Rattle.ir_values.specs.declared.ty.Ty.{Ty}
use Rattle.ir_module.specs.declared.tree.Operand.{Operand}
use Rattle.profile_rules.specs.Adaptive.{is_fixed, is_function_type, is_handle}
use Rattle.adaptive_profile.proofs.calls.has_bad_handle.Given as goal

abbrev pub invariant-loop-args : goal.invariant-loop-args
invariant-loop-args l = list_any (λ (a : Ty × Operand). is_function_type a.0 || (is_handle a.0 && not (is_fixed l.in_entry l.f a.1))) l.args ≡ list_any (λ (a : Ty × Operand). is_function_type a.0 || (is_handle a.0 && not (is_fixed l.in_entry l.f a.1))) l.fn.args

abbrev pub decreases-loop-args : goal.decreases-loop-args
decreases-loop-args l = length l.args
