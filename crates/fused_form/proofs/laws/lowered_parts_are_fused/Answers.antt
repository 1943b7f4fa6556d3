use Rattle.std.proofs.Common.{sym, ap, subst}
use Rattle.residue.specs.declared.parts.Residue.{Residue}
use Rattle.valid_residue.specs.Laws.{NodesAreSteps}
use Rattle.fused_form.specs.Fused.{AreFused}
use Rattle.fused_form.proofs.Fused.{fused}
use Rattle.fused_form.proofs.laws.lowered_parts_are_fused.Goals as goal

pub returns : goal.returns
unfolding NodesAreSteps
returns c p nodes r h =
    subst AreFused (sym (ap (λ (z : Residue). z.parts) h.made)) (fused p h.budget nodes h.explored (λ i x at. c.nodes_are_steps.ensures p nodes r i x h at))
