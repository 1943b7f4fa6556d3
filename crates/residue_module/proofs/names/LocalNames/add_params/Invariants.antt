use Rattle.std.proofs.Common.{length}
use Rattle.residue.specs.Printed.{names_of_params}
use Rattle.residue_module.specs.code.Names.{AddsTo}
use Rattle.residue_module.proofs.names.LocalNames.add_params.Given as goal

abbrev pub invariant-loop-param : goal.invariant-loop-param
invariant-loop-param l = AddsTo (names_of_params l.fn.params) (names_of_params l.params) l.fn.self l.self

abbrev pub decreases-loop-param : goal.decreases-loop-param
decreases-loop-param l = length l.params
