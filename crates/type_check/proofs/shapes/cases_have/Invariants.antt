use Rattle.std.proofs.Common.{◌≡◌, length}
use Rattle.std.specs.List.{list_all}
use Rattle.ir_values.specs.declared.ty.Ty.TheVariants as ty
use Rattle.type_check.specs.Typing.{same_type}
use Rattle.type_check.proofs.shapes.cases_have.Given as goal

abbrev pub invariant-loop-cases : goal.invariant-loop-cases
invariant-loop-cases l = list_all (λ c. same_type (ty.Int c.0.width) l.t) l.cases ≡ list_all (λ c. same_type (ty.Int c.0.width) l.t) l.fn.cases

abbrev pub decreases-loop-cases : goal.decreases-loop-cases
decreases-loop-cases l = length l.cases
