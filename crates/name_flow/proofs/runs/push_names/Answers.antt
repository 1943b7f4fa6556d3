use Rattle.std.proofs.Common.{◌<◌, subst, sym, List, length, arith}
use Rattle.name_flow.specs.code.Runs.{AddsName, AddsNames}
use Rattle.name_flow.specs.code.Triples.{Triple}
use Rattle.name_flow.proofs.BlockRuns.{others-smaller, one-more, no-more}
use Rattle.name_flow.proofs.runs.push_names.Goals as goal

pub loop-uses-smaller : goal.loop-uses-smaller
loop-uses-smaller c = subst (λ (l : List Triple). length l < length c.loop-uses.uses.now) (sym c.split.ensures.others) (others-smaller (0, 0, 0) c.loop-uses.uses.now c.in-len1-up.len_at_least)

pub loop-uses-preserved : goal.loop-uses-preserved
loop-uses-preserved c = λ last h.
    let defined = c.args.defined.now in
    let es = c.args.edges.now in
    let one = subst (λ (l : List Triple). AddsName l defined es c.loop-uses.runs c.push_name.new.runs) c.split.ensures.front c.in_ok-push_name.ensures in
    let more = subst (λ (l : List Triple). AddsNames defined es l c.push_name.new.runs last) c.split.ensures.others h in
    c.loop-uses.invariant last (one-more defined es (0, 0, 0) c.loop-uses.uses.now c.loop-uses.runs c.push_name.new.runs last c.in-len1-up.len_at_least one more)

pub returns : goal.returns
returns c = c.loop-uses.invariant c.loop-uses.runs (no-more c.args.defined.now c.args.edges.now c.loop-uses.uses.now c.loop-uses.runs (omega arith))
