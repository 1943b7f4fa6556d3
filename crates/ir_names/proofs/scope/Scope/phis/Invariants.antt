use Rattle.std.proofs.Common.{length, ◌≡◌, ◌++◌}
use Rattle.ir_names.specs.Instructions.{phis_faults, phis_of, behind_phis}
use Rattle.ir_names.specs.code.Seen.{seen}
use Rattle.ir_names.proofs.scope.Scope.phis.Given as goal

abbrev pub invariant-loop-phis : goal.invariant-loop-phis
invariant-loop-phis l =
    (phis_faults (seen l.self) l.fn.values l.labels l.fn.phis ≡ phis_faults (seen l.self) l.values l.labels l.phis)
    × (phis_of (seen l.self) l.fn.values l.fn.phis ≡ l.out ++ phis_of (seen l.self) l.values l.phis)
    × (behind_phis l.fn.values l.fn.phis ≡ behind_phis l.values l.phis)

abbrev pub decreases-loop-phis : goal.decreases-loop-phis
decreases-loop-phis l = length l.phis
