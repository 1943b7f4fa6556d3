use Rattle.std.proofs.Common.{◌∙◌, length, refl, ap, subst, sym}
use Rattle.admission.specs.Admitted.{greatest_required}
use Rattle.generated_summary.proofs.Summed.{run-alike, summed}
use Rattle.generated_summary.proofs.summary.summary_of.Goals as goal
use Rattle.generated_summary.specs.code.Told.{IsPlayed}
use Rattle.generated_summary.specs.Summaries.{most_steps}
use Rattle.qir_machine.specs.Runs.{HasMeaning}

pub play-requires : goal.play-requires
play-requires c =
    subst HasMeaning (sym c.module.ensures.module)
    (record { numbered = c.module.ensures.admitted.numbered; limit = greatest_required; typed = c.module.ensures.admitted.typed })

pub returns-clause-summary : goal.returns-clause-summary
returns-clause-summary c =
    summed c.runs_are_alike.ensures c.args.checked.now.tree c.args.lowered.now c.module.ensures.admitted.numbered c.module.ensures.admitted.typed
    c.in_ok-source_run.source_run c.in_ok-lowered_run.lowered_run c.args.configurations c.requires
    (subst (λ m. IsPlayed m most_steps c.in_ok-source_run.source_run) c.module.ensures.module c.in_ok-source_run.ensures) c.in_ok-lowered_run.ensures
    (record { qubits = c.qubits.result; results = c.results.result }) _ refl c.qubits.ensures c.results.ensures refl
    (ap length c.events.ensures) c.len.ensures (c.len-2.ensures ∙ ap length c.in_ok-text.ensures) c.play_same.ensures

pub returns-clause-alike : goal.returns-clause-alike
returns-clause-alike c =
    run-alike c.runs_are_alike.ensures c.args.checked.now.tree c.args.lowered.now c.module.ensures.admitted.numbered c.module.ensures.admitted.typed
    c.in_ok-source_run.source_run c.in_ok-lowered_run.lowered_run c.args.configurations c.requires
    (subst (λ m. IsPlayed m most_steps c.in_ok-source_run.source_run) c.module.ensures.module c.in_ok-source_run.ensures) c.in_ok-lowered_run.ensures
