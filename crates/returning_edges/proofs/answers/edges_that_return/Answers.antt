use Rattle.std.proofs.Common.{◌≡◌, ap, ◌∙◌, subst}
use Rattle.std.proofs.lemmas.Result.{IfOk-weaker}
use Rattle.graph_cycles.specs.Cycles.{TellsCycles}
use Rattle.returning_edges.specs.code.Split.{split, chosen_from}
use Rattle.returning_edges.specs.Returns.{AreReturning}
use Rattle.returning_edges.proofs.Edges.{tells}
use Rattle.returning_edges.proofs.answers.edges_that_return.Goals as goal

pub returns : goal.returns
returns c =
    let g = c.args.graph.now in
    let on = c.in_ok-on.on in
    let t : TellsCycles (split g) on = subst (λ h. TellsCycles h on) c.in_ok-split.ensures c.in_ok-on.ensures in
    IfOk-weaker c.marked_edges.result (λ edges. edges ≡ chosen_from c.as_slice.result.now c.in_ok-split.split 0 c.len.result) (AreReturning g)
    (λ edges e. tells g c.requires on c.edges_lead_back.ensures t edges
    (e ∙ ap (λ o. chosen_from o c.in_ok-split.split 0 c.len.result) c.as_slice.ensures ∙ ap (λ h. chosen_from on h 0 c.len.result) c.in_ok-split.ensures ∙ ap (chosen_from on (split g) 0) c.len.ensures))
    c.marked_edges.ensures
