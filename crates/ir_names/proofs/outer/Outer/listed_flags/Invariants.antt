use Rattle.std.proofs.Common.{length, ◌≡◌, ◌++◌}
use Rattle.std.specs.List.{filter_map}
use Rattle.ir_names.specs.Metadata.{listed_flag}
use Rattle.ir_names.specs.code.Seen.{outside}
use Rattle.ir_names.proofs.outer.Outer.listed_flags.Given as goal

abbrev pub invariant-loop-nodes : goal.invariant-loop-nodes
invariant-loop-nodes l = filter_map (listed_flag (outside l.self)) l.fn.nodes ≡ l.out ++ filter_map (listed_flag (outside l.self)) l.nodes

abbrev pub decreases-loop-nodes : goal.decreases-loop-nodes
decreases-loop-nodes l = length l.nodes
