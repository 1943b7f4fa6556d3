use Rattle.std.proofs.Common.{length, ◌≡◌}
use Rattle.std.specs.List.{flat_map}
use Rattle.ir_names.specs.Metadata.{node_use_faults}
use Rattle.ir_names.specs.code.Seen.{outside}
use Rattle.ir_names.proofs.outer.Outer.node_uses.Given as goal

abbrev pub invariant-loop-nodes : goal.invariant-loop-nodes
invariant-loop-nodes l = flat_map (node_use_faults (outside l.self)) l.fn.nodes ≡ flat_map (node_use_faults (outside l.self)) l.nodes

abbrev pub decreases-loop-nodes : goal.decreases-loop-nodes
decreases-loop-nodes l = length l.nodes
