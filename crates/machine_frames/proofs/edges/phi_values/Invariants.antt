use Rattle.std.proofs.Common.{◌≡◌, length}
use Rattle.machine_frames.specs.code.Lists.{behind, taken}
use Rattle.machine_frames.proofs.edges.phi_values.Given as goal

-- the values that were copied stand before those to come
abbrev pub invariant-loop-phis : goal.invariant-loop-phis
invariant-loop-phis l = behind l.values (taken l.phis l.from l.env) ≡ taken l.fn.phis l.from l.env

abbrev pub decreases-loop-phis : goal.decreases-loop-phis
decreases-loop-phis l = length l.phis
