use Rattle.valid_residue.specs.Laws.{NodesAreSteps}
use Rattle.fused_form.proofs.Fused.{chained}
use Rattle.fused_form.proofs.laws.chains_are_one_part.Goals as goal

pub returns : goal.returns
unfolding NodesAreSteps
returns c p nodes r i l h only = chained p h.budget nodes h.explored (λ i x at. c.nodes_are_steps.ensures p nodes r i x h at) i l only
