use Rattle.std.proofs.Common.{length, ◌≡◌}
use Rattle.std.specs.List.{flat_map}
use Rattle.ir_names.specs.Instructions.{group_faults}
use Rattle.ir_names.specs.code.Seen.{seen}
use Rattle.ir_names.proofs.scope.Scope.groups.Given as goal

abbrev pub invariant-loop-groups : goal.invariant-loop-groups
invariant-loop-groups l = flat_map (group_faults (seen l.self)) l.fn.groups ≡ flat_map (group_faults (seen l.self)) l.groups

abbrev pub decreases-loop-groups : goal.decreases-loop-groups
decreases-loop-groups l = length l.groups
