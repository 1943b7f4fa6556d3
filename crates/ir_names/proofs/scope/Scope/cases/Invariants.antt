use Rattle.std.proofs.Common.{length, ◌≡◌, ◌++◌, map}
use Rattle.std.specs.List.{flat_map}
use Rattle.ir_names.specs.Blocks.{case_faults, case_of}
use Rattle.ir_names.specs.code.Seen.{seen}
use Rattle.ir_names.proofs.scope.Scope.cases.Given as goal

abbrev pub invariant-loop-cases : goal.invariant-loop-cases
invariant-loop-cases l =
    (flat_map (case_faults (seen l.self)) l.fn.cases ≡ flat_map (case_faults (seen l.self)) l.cases)
    × (map (case_of (seen l.self)) l.fn.cases ≡ l.out ++ map (case_of (seen l.self)) l.cases)

abbrev pub decreases-loop-cases : goal.decreases-loop-cases
decreases-loop-cases l = length l.cases
