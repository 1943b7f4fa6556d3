use Rattle.std.proofs.Common.{length, ◌≡◌, ◌++◌, map}
use Rattle.std.specs.List.{flat_map}
use Rattle.ir_names.specs.Instructions.{entry_faults, entry_of}
use Rattle.ir_names.specs.code.Seen.{seen}
use Rattle.ir_names.proofs.scope.Scope.entries.Given as goal

abbrev pub invariant-loop-entries : goal.invariant-loop-entries
invariant-loop-entries l =
    (flat_map (entry_faults (seen l.self)) l.fn.entries ≡ flat_map (entry_faults (seen l.self)) l.entries)
    × (map (entry_of (seen l.self)) l.fn.entries ≡ l.out ++ map (entry_of (seen l.self)) l.entries)

abbrev pub decreases-loop-entries : goal.decreases-loop-entries
decreases-loop-entries l = length l.entries
