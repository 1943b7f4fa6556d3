use Rattle.std.proofs.Common.{◌≡◌, Some, subst}
use Rattle.std.specs.Prelude.{slice_get}
use Rattle.unroller.specs.Programs.{LeadOn}
use Rattle.unroller.proofs.Successors.{one-more}
use Rattle.unroller.proofs.exploration.UnfoldingGraph.step.Goals as goal

pub returns-in_ok-edges_of-in-Goes-clause-valid : goal.returns-in_ok-edges_of-in-Goes-clause-valid
returns-in_ok-edges_of-in-Goes-clause-valid g c depth by i x h =
    let p = g.S.StaticSteps.program c.args.self.now.steps.now in
    one-more p c.args.node.now c.in-Goes.moves (subst (LeadOn p c.args.node.now) c.in-Goes.is c.in_ok-moves.ensures.leads_on) depth by i x
    (subst (λ xs. slice_get xs i ≡ Some x) c.in_ok-edges_of-in-Goes.ensures.targets h)
