use Rattle.std.proofs.Common.{length, ◌≡◌}
use Rattle.ir_names.specs.Functions.{params_faults}
use Rattle.ir_names.specs.code.Seen.{seen}
use Rattle.ir_names.proofs.scope.Scope.params.Given as goal

abbrev pub invariant-loop-params : goal.invariant-loop-params
invariant-loop-params l = params_faults (seen l.self) l.fn.unnamed l.fn.values l.fn.params ≡ params_faults (seen l.self) l.unnamed l.values l.params

abbrev pub decreases-loop-params : goal.decreases-loop-params
decreases-loop-params l = length l.params
