use Rattle.std.proofs.Common.{ap, ◌∙◌, ◌++◌}
use Rattle.returning_edges.specs.code.Split.{chosen}
use Rattle.returning_edges.proofs.Steps.{source-more}
use Rattle.returning_edges.proofs.answers.marked_edges.Goals as goal

pub loop-source-preserved : goal.loop-source-preserved
loop-source-preserved c =
    source-more c.args.on.now c.args.split.now c.loop-source.source c.args.sources c.loop-source.found c.push_edges.new.found _ c.loop-source-test.true
    c.loop-source.invariant
    (c.in_ok-push_edges.ensures ∙ ap (λ ns. c.loop-source.found ++ chosen c.args.on.now c.args.split.now c.loop-source.source ns) c.successors.ensures)
