use Rattle.std.proofs.Common.{◌≡◌, length}
use Rattle.qir_meaning.specs.Moves.{entry_for}
use Rattle.machine_frames.proofs.edges.entry_for.Given as goal

abbrev pub invariant-loop-entries : goal.invariant-loop-entries
invariant-loop-entries l = entry_for l.entries l.from ≡ entry_for l.fn.entries l.from

abbrev pub decreases-loop-entries : goal.decreases-loop-entries
decreases-loop-entries l = length l.entries
