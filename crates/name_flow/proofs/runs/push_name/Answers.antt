use Rattle.std.proofs.Common.{◌++◌, map, ap, ◌∙◌, subst, List}
use Rattle.name_flow.specs.code.Runs.{block_of, runs_of}
use Rattle.name_flow.specs.code.Spread.{Pair}
use Rattle.name_flow.specs.code.Triples.{Triple, Sorts}
use Rattle.name_flow.proofs.BlockRuns.{on-ok}
use Rattle.name_flow.proofs.runs.push_name.Goals as goal

pub returns : goal.returns
returns c =
    let sorted : Sorts (map block_of c.in_ok-ends.ends) c.in_ok-blocks.blocks = subst (λ (l : List Pair). Sorts (map block_of l) c.in_ok-blocks.blocks) c.as_slice.ensures c.in_ok-blocks.ensures in
    on-ok c.push_runs.result (λ e. record { ends = c.in_ok-ends.ends; blocks = c.in_ok-blocks.blocks; ends_are = c.in_ok-ends.ensures; sorted = sorted; is = e ∙ ap (λ (l : List Triple). c.args.runs.now ++ runs_of l) c.as_slice-2.ensures }) c.push_runs.ensures
