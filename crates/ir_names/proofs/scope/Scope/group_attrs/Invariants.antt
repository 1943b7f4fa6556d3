use Rattle.std.proofs.Common.{length, ◌≡◌, ◌++◌}
use Rattle.std.specs.List.{filter_map}
use Rattle.ir_names.specs.Functions.{attr_of}
use Rattle.ir_names.specs.code.Seen.{seen}
use Rattle.ir_names.proofs.scope.Scope.group_attrs.Given as goal

abbrev pub invariant-loop-attrs : goal.invariant-loop-attrs
invariant-loop-attrs l = filter_map (attr_of (seen l.self)) l.fn.attrs ≡ l.out ++ filter_map (attr_of (seen l.self)) l.attrs

abbrev pub decreases-loop-attrs : goal.decreases-loop-attrs
decreases-loop-attrs l = length l.attrs
