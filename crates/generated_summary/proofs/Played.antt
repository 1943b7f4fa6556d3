-- What the machine ran over fresh bits is the run of the module over classical bits.
use Rattle.std.proofs.Common.{◌≡◌, ◌∙◌, ℕ, Bool, true, false, List, [], ◌++◌, refl, sym, ap, subst, arith, true≢false}
use Rattle.std.proofs.lemmas.Option.{none-some, same_Some}
use Rattle.backend_api.specs.declared.operation.Event.{Event}
use Rattle.bit_backend.specs.Bits.{History, state_of}
use Rattle.generated_summary.specs.BitRuns.{BitRun}
use Rattle.generated_summary.specs.code.Told.{IsPlayed}
use Rattle.ir_module.specs.declared.tree.Module.{Module}
use Rattle.machine_frames.specs.Frames.{meant}
use Rattle.output_lines.specs.declared.last.Last.{Last}
use Rattle.output_lines.specs.declared.last.Last.TheVariants.{Code, Stop}
use Rattle.output_lines.specs.declared.last.StopName.TheVariants as stop
use Rattle.qir_machine.specs.declared.run.Ended.{Ended}
use Rattle.qir_machine.specs.Heard.{Caused}
use Rattle.qir_machine.specs.Runs.{IsCutAt, Ran}
use Rattle.qir_meaning.specs.declared.end.Ask.TheVariants as ask
use Rattle.qir_meaning.specs.declared.end.End.{End}
use Rattle.qir_meaning.specs.declared.end.End.TheVariants as end
use Rattle.qir_meaning.specs.Runs.{RunEnd, Returned, Trapped, Asks, Cut, Runs}
use Rattle.shots.specs.declared.backend.Backend.TheVariants.{Bits}
use Rattle.shots.specs.Shots.{TellsEnd, answers_of}

is-cut : RunEnd → Bool
is-cut (Returned code) = false
is-cut (Trapped why) = false
is-cut (Asks op) = false
is-cut Cut = true

cut-back : (e : End) → meant e ≡ Cut → e ≡ end.Cut
unfolding is-cut
cut-back (end.Returned code) h = absurd (true≢false (sym (ap is-cut h)))
cut-back (end.Trapped why) h = absurd (true≢false (sym (ap is-cut h)))
cut-back (end.Asks op why) h = absurd (true≢false (sym (ap is-cut h)))
cut-back end.Cut h = refl

told : (old now : History) (es : List Event) (e : End) → Caused e (state_of old) (state_of now) → (last : Last) × TellsEnd Bits es (meant e) last
told old now es (end.Returned code) c = (Code code, refl)
told old now es (end.Trapped why) c = (Stop (stop.Trap why), refl)
told old now es (end.Asks op ask.Unsupported) c = (Stop stop.Unsupported, (stop.Unsupported, (c, refl), refl))
told old now es (end.Asks op ask.Empty) c = absurd (none-some 0 c.2)
told old now es (end.Asks op ask.Failed) c = absurd (omega (arith, c))
told old now es end.Cut c = (Stop stop.Cut, refl)

module _ (old now : History) (none : old.events ≡ []) (m : Module) (steps : ℕ) (ended : Ended) (ran : Ran m steps ended (state_of old) (state_of now)) where
  events : now.events ≡ ran.new
  events = same_Some now.events (old.events ++ ran.new) ran.heard.told ∙ ap (λ es. es ++ ran.new) none

  last : (last : Last) × TellsEnd Bits ran.new (meant ended.end) last
  last = told old now ran.new ended.end ran.caused

  pub played : IsPlayed m steps (record { bits = now; ended = ended })
  played =
      let run : BitRun m steps = record {
        shot = record { events = now.events; records = ended.records; last = last.0 };
        is_shot = record {
          given = now.fitting;
          end = meant ended.end;
          runs = subst (λ es. Runs m (answers_of es) steps es ended.records (meant ended.end)) (sym events) ran.runs;
          told = subst (λ es. TellsEnd Bits es (meant ended.end) last.0) (sym events) last.1;
        };
        steps = ended.used;
        within = ran.within;
        cut_before = λ k lt. subst (λ es. IsCutAt m es k) (sym events) (ran.needed k lt);
        all_where_cut = λ h. ran.all_used (cut-back ended.end h);
        enough = λ h.
            subst (λ es. Runs m (answers_of es) ended.used es ended.records (meant ended.end)) (sym events) (ran.enough (λ q. h (ap meant q)));
      } in
      record { run = run; events = refl; records = refl; end = refl; steps = refl }
