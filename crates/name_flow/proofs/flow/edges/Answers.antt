use Rattle.std.proofs.Common.{◌≡◌, ◌++◌, List, subst, ap, ◌∙◌, rules, length, ◌<◌, ◌^◌}
use Rattle.name_flow.specs.code.Marks.{gather, block_edges}
use Rattle.name_flow.specs.code.Triples.{Triple, Sorts}
use Rattle.name_flow.proofs.Marked.{IsNarrow-sorted}
use Rattle.name_flow.proofs.flow.edges.Goals as goal

pub returns-clause-narrow : goal.returns-clause-narrow
returns-clause-narrow c =
    let blocks = c.args.blocks.now in
    let items : c.into_vec.result.items ≡ gather block_edges 0 blocks =
    c.into_vec.ensures ∙ (c.in_ok-push_edges.ensures ∙ ap (λ (l : List Triple). l ++ gather block_edges 0 blocks) c.new-marks.ensures) in
    let small : length blocks < 2 ^ 64 = search rules in
    IsNarrow-sorted blocks c.sort.result small (subst (λ (l : List Triple). Sorts l c.sort.result) items c.sort.ensures)
