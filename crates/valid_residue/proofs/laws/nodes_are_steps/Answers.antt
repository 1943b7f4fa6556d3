use Rattle.valid_residue.specs.Laws.{NodesAreSteps}
use Rattle.valid_residue.proofs.Program.{known-of}
use Rattle.valid_residue.proofs.laws.nodes_are_steps.Goals as goal

pub returns : goal.returns
unfolding NodesAreSteps
returns c p nodes r i x h at = (known-of p nodes r c.steps_keep_configurations.ensures h i x at).step
