use Rattle.std.proofs.Common.{◌≡◌, ◌++◌, length}
use Rattle.adaptive_profile.specs.code.Graphs.{graph_of}
use Rattle.adaptive_profile.proofs.flow.graph_of.Given as goal

abbrev pub invariant-loop-blocks : goal.invariant-loop-blocks
invariant-loop-blocks l = l.graph ++ graph_of l.blocks ≡ graph_of l.fn.blocks

abbrev pub decreases-loop-blocks : goal.decreases-loop-blocks
decreases-loop-blocks l = length l.blocks
