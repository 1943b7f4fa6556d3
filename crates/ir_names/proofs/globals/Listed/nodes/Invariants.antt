use Rattle.std.proofs.Common.{length, ◌≡◌, ◌++◌}
use Rattle.ir_names.specs.code.Held.{HoldsNodes}
use Rattle.ir_names.proofs.globals.Listed.nodes.Given as goal

abbrev pub invariant-loop-nodes : goal.invariant-loop-nodes
invariant-loop-nodes l = HoldsNodes l.self × (l.fn.self.list ++ l.fn.nodes ≡ l.self.list ++ l.nodes)

abbrev pub decreases-loop-nodes : goal.decreases-loop-nodes
decreases-loop-nodes l = length l.nodes
