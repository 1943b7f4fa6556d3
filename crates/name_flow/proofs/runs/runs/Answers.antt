use Rattle.std.proofs.Common.{map, subst, sym, ◌∙◌, List}
use Rattle.name_flow.specs.code.Runs.{name_first, AddsNames, AreRuns}
use Rattle.name_flow.specs.code.Triples.{Triple, Ascends, Sorts}
use Rattle.name_flow.proofs.BlockRuns.{runs-rise, AreRuns-added}
use Rattle.name_flow.proofs.runs.runs.Goals as goal

pub of-requires : goal.of-requires
of-requires c =
    let used = c.args.used.now in
    let defined = c.args.defined.now in
    let es = c.args.edges.now in
    let sorted : Sorts (map name_first used) c.in_ok-by_name.by_name = subst (λ (l : List Triple). Sorts (map name_first l) c.in_ok-by_name.by_name) c.as_slice.ensures c.in_ok-by_name.ensures in
    let by_name = subst (λ (l : List Triple). AddsNames defined es l c.new-runs.result c.push_names.new.runs) c.as_slice-2.ensures c.in_ok-push_names.ensures in
    let added = subst (λ (l : List Triple). AddsNames defined es c.in_ok-by_name.by_name l c.push_names.new.runs) c.new-runs.ensures by_name in
    subst Ascends (sym c.into_vec.ensures) (runs-rise used defined es c.in_ok-by_name.by_name c.push_names.new.runs sorted added)

pub returns : goal.returns
returns c =
    let used = c.args.used.now in
    let defined = c.args.defined.now in
    let es = c.args.edges.now in
    let sorted : Sorts (map name_first used) c.in_ok-by_name.by_name = subst (λ (l : List Triple). Sorts (map name_first l) c.in_ok-by_name.by_name) c.as_slice.ensures c.in_ok-by_name.ensures in
    let by_name = subst (λ (l : List Triple). AddsNames defined es l c.new-runs.result c.push_names.new.runs) c.as_slice-2.ensures c.in_ok-push_names.ensures in
    let added = subst (λ (l : List Triple). AddsNames defined es c.in_ok-by_name.by_name l c.push_names.new.runs) c.new-runs.ensures by_name in
    subst (λ (l : List Triple). AreRuns used defined es l) (sym (c.of.ensures ∙ c.into_vec.ensures)) (AreRuns-added used defined es c.in_ok-by_name.by_name c.push_names.new.runs sorted added)
