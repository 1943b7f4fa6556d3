-- What the code has of the lowering and the runs is the summary.
use Rattle.std.proofs.Common.{◌≡◌, ◌∙◌, ◌≢◌, ◌↔◌, ℕ, List, length, refl, sym, ap, arith}
use Rattle.std.specs.Prelude.{IsTrue}
use Rattle.backend_api.specs.declared.operation.Event.{Event}
use Rattle.backend_api.specs.Naming.{Naming, named_events}
use Rattle.generated_summary.specs.Alike.{RunAlike, lowered_steps}
use Rattle.generated_summary.specs.BitRuns.{AreSame, DoTheSame}
use Rattle.generated_summary.specs.code.Told.{IsPlayed, PlaySame, naming}
use Rattle.generated_summary.specs.declared.names.Names.{Names}
use Rattle.generated_summary.specs.declared.run.Played.{Played}
use Rattle.generated_summary.specs.declared.summary.Summary.{Summary}
use Rattle.generated_summary.specs.Laws.{RunsAreAlike}
use Rattle.generated_summary.specs.Summaries.{IsSummary, most_configurations, most_steps, plain_adaptive}
use Rattle.ir_module.specs.declared.tree.Module.{Module}
use Rattle.ir_module.specs.Numbered.{Numbered}
use Rattle.ir_printer.specs.Canonical.{canonical}
use Rattle.machine_frames.specs.Frames.{meant}
use Rattle.output_records.specs.declared.record.Record.{Record}
use Rattle.qir_meaning.specs.Naming.{fixed_naming, named_end}
use Rattle.qir_meaning.specs.Runs.{Cut, RunEnd}
use Rattle.qubit_lowering.specs.Kept.{IsCounted}
use Rattle.sound_lowering.specs.Programs.{naming_of, source_limit}
use Rattle.type_check.specs.Faults.{Typed}
use Rattle.type_check.specs.Required.{required_qubits, required_results}

same-facts : (N N' : Naming) (es es' fs fs' : List Event) (rs rs' ss ss' : List Record) (d d' e e' : RunEnd) → N ≡ N' → es ≡ es' → fs ≡ fs' → rs ≡ rs' → ss ≡ ss' → d ≡ d' → e ≡ e'
    → AreSame N es fs rs ss d e → AreSame N' es' fs' rs' ss' d' e'
same-facts N N' es es' fs fs' rs rs' ss ss' d d' e e' n a b g h k i w = (
  ap (λ z. named_events z es') (sym n) ∙ ap (named_events N) (sym a) ∙ w.0 ∙ b,
  sym g ∙ w.1 ∙ h,
  ap (λ z. named_end z d') (sym n) ∙ ap (named_end N) (sym k) ∙ w.2 ∙ i,
)

module _ (law : RunsAreAlike) (m l : Module) (numbered : Numbered m) (typed : Typed m source_limit) (x y : Played) (count : ℕ)
    (counted : IsCounted m plain_adaptive most_configurations l count) (p : IsPlayed m most_steps x) (q : IsPlayed l (lowered_steps most_steps) y) where
  both : (p.run.is_shot.end ≢ Cut) × DoTheSame (naming_of m) p.run q.run
  both = law m plain_adaptive most_configurations most_steps l p.run q.run numbered typed counted.kept refl (omega arith)

  pub run-alike : RunAlike m
  run-alike = record { lowered = l; kept = counted.kept; source_run = p.run; lowered_run = q.run; over = both.0; same = both.1 }

  pub summed : (names : Names) (s : Summary) → s.configurations ≡ count → names.qubits ≡ required_qubits m source_limit → names.results ≡ required_results m source_limit → s.steps ≡ x.ended.used → s.events ≡ length x.bits.events → s.records ≡ length x.ended.records
      → s.bytes ≡ length (canonical l) → IsTrue s.same ↔ PlaySame names x y → IsSummary m s
  summed names s configurations qubits results steps events records bytes same =
      let N : naming_of m ≡ naming names = sym (ap (λ k. fixed_naming k names.results) qubits ∙ ap (λ r. fixed_naming (required_qubits m source_limit) r) results) in
      record {
        lowered = l;
        is_lowered = counted.kept.lowered;
        run = p.run;
        configurations = configurations ∙ counted.number;
        steps = steps ∙ sym p.steps;
        events = events ∙ ap length (sym p.events);
        records = records ∙ ap length (sym p.records);
        bytes = bytes;
        same = same.1 (play-same N both.1);
      }
    where
      play-same : naming_of m ≡ naming names → DoTheSame (naming_of m) p.run q.run → PlaySame names x y
      play-same N d =
          same-facts (naming_of m) (naming names) p.run.shot.events x.bits.events q.run.shot.events y.bits.events p.run.shot.records x.ended.records q.run.shot.records y.ended.records
          p.run.is_shot.end (meant x.ended.end) q.run.is_shot.end (meant y.ended.end) N p.events q.events p.records q.records p.end q.end d
