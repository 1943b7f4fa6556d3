use Rattle.std.proofs.Common.{◌≡◌, ◌∙◌, Some, None, refl, sym, ap, subst}
use Rattle.std.proofs.lemmas.Option.{slice_get_within}
use Rattle.std.specs.Option.{option_map}
use Rattle.type_check.specs.Required.{required_qubits, required_results}
use Rattle.typed_runs.specs.Fits.{FitsAlways}
use Rattle.typed_runs.specs.Laws.{InvariantHolds}
use Rattle.qir_machine.proofs.Beginning.{begins, few-functions, found, there-is-one}
use Rattle.qir_machine.proofs.run.begin.Goals as goal

pub entry-requires : goal.entry-requires
entry-requires c = few-functions c.args.m.now c.requires.numbered

pub unreachable-requires : goal.unreachable-requires
unfolding InvariantHolds
unreachable-requires c =
    let r = c.requires in
    let always : FitsAlways c.args.m.now (required_qubits c.args.m.now r.limit) (required_results c.args.m.now r.limit) = c.admitted_modules_keep_the_invariant.ensures c.args.m.now r.limit r.numbered r.typed in
    there-is-one c.args.m.now always.entry (sym (ap (option_map _) c.in_default.is) ∙ c.entry.ensures)

pub function-requires : goal.function-requires
function-requires c =
    let h = found c.args.m.now c.in-Some.entry c.in-Some.ensures in slice_get_within c.args.m.now.funcs c.in-Some.entry.0 h.entry.function h.function

pub returns : goal.returns
returns c =
    begins c.args.m.now c.in-Some.entry c.function.result.now _ (found c.args.m.now c.in-Some.entry c.in-Some.ensures) c.function.ensures c.in_ok-frames.ensures c.new-allocations.ensures (λ r. rw c.new-results.ensures.empty refl) refl c.new-records.ensures
