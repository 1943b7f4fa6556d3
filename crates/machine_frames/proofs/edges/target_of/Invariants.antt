use Rattle.std.proofs.Common.{◌≡◌, length}
use Rattle.qir_meaning.specs.Moves.{target_of}
use Rattle.machine_frames.proofs.edges.target_of.Given as goal

abbrev pub invariant-loop-cases : goal.invariant-loop-cases
invariant-loop-cases l = target_of l.i l.cases l.default ≡ target_of l.i l.fn.cases l.default

abbrev pub decreases-loop-cases : goal.decreases-loop-cases
decreases-loop-cases l = length l.cases
