use Rattle.std.proofs.Common.{length}
use Rattle.lowered_runs.specs.Made.{CodesFit}
use Rattle.qubit_lowering.proofs.codes.codes_fit.Given as goal

abbrev pub invariant-loop-rest : goal.invariant-loop-rest
invariant-loop-rest l = CodesFit l.rest → CodesFit l.nodes

abbrev pub decreases-loop-rest : goal.decreases-loop-rest
decreases-loop-rest l = length l.rest
