-- A module without faults that has a lowered module has a summary.
use Rattle.std.proofs.Common.{◌≡◌, ◌∙◌, ◌≢◌, ◌⊎◌, ℕ, zero, suc, ◌+◌, ◌<◌, ◌≤◌, true, List, length, refl, sym, ap, subst, arith}
use mathlib.Core.Logic.{inl, inr}
use Rattle.backend_api.specs.declared.operation.Event.{Event}
use Rattle.generated_summary.specs.BitRuns.{BitRun}
use Rattle.generated_summary.specs.declared.summary.Summary.{Summary}
use Rattle.generated_summary.specs.Summaries.{Sums}
use Rattle.ir_module.specs.declared.tree.Module.{Module}
use Rattle.ir_module.specs.Numbered.{Numbered}
use Rattle.ir_printer.specs.Canonical.{canonical}
use Rattle.kept_items.specs.declared.target.Target.{Target}
use Rattle.lasting_runs.proofs.Lasting.{IsCutOrOver, cut-or-not, is_cut, is_over}
use Rattle.output_records.specs.declared.record.Record.{Record}
use Rattle.qir_machine.specs.Runs.{IsCutAt}
use Rattle.qir_meaning.specs.Laws.{EndedRunsStay, HasOneRun}
use Rattle.qir_meaning.specs.Runs.{RunEnd, Cut, HasRun, Runs}
use Rattle.shots.specs.declared.backend.Backend.TheVariants.{Bits}
use Rattle.shots.specs.Laws.{ShotsExist}
use Rattle.shots.specs.Shots.{IsShot, Shot, answers_of}
use Rattle.sound_lowering.specs.Programs.{IsLowered}
use Rattle.type_check.specs.Faults.{Typed}
use Rattle.typed_runs.specs.Laws.{NeverStuck}

less-or-same : (i j : ℕ) → i < suc j → (i < j) ⊎ (i ≡ j)
less-or-same zero zero lt = inr refl
less-or-same zero (suc j) lt = inl (omega arith)
less-or-same (suc i) zero lt = absurd (omega (arith, lt))
less-or-same (suc i) (suc j) lt = elim (less-or-same i j (omega (arith, lt))) [
  | inl less ↦ inl (omega (arith, less))
  | inr same ↦ inr (ap suc same)
]

module _ (one-run : HasOneRun) (stays : EndedRunsStay) (m : Module) (n : ℕ) (shot : Shot) (is : IsShot Bits m n shot)
    (runs : (k : ℕ) → HasRun m (answers_of shot.events) k) where
  -- a run of so many steps that isn't cut
  record IsOverAt (k : ℕ) : Type 0 where
    events : List Event
    records : List Record
    end : RunEnd
    run : Runs m (answers_of shot.events) k events records end
    over : end ≢ Cut

  -- the least number of steps with which the run isn't cut, or n
  record IsLeast (k : ℕ) : Type 0 where
    within : k ≤ n
    before : (i : ℕ) → i < k → IsCutAt m shot.events i
    last : IsOverAt k ⊎ (k ≡ n)

  cut-below : (j : ℕ) → ((i : ℕ) → i < j → IsCutAt m shot.events i) → IsCutAt m shot.events j → (i : ℕ) → i < suc j → IsCutAt m shot.events i
  cut-below j before at i lt = by (less-or-same i j lt)
    where
      by : (i < j) ⊎ (i ≡ j) → IsCutAt m shot.events i
      by (inl lt) = before i lt
      by (inr e) = subst (IsCutAt m shot.events) (sym e) at

  -- the run of j steps is cut, and a longer one is looked at, or it is over
  looked : (j : ℕ) → j ≤ n → ((i : ℕ) → i < j → IsCutAt m shot.events i) → HasRun m (answers_of shot.events) j → (((i : ℕ) → i < suc j → IsCutAt m shot.events i) → (k : ℕ) × IsLeast k) → (k : ℕ) × IsLeast k
  looked j le before (es, rs, end, run) longer = by (cut-or-not end)
    where
      by : IsCutOrOver end → (k : ℕ) × IsLeast k
      by (is_cut c) = longer (cut-below j before (es, rs, subst (λ z. Runs m (answers_of shot.events) j es rs z) c run))
      by (is_over not) = (j, record { within = le; before = before; last = inl (record { events = es; records = rs; end = end; run = run; over = not }) })

  least : (left j : ℕ) → j + left ≡ n → ((i : ℕ) → i < j → IsCutAt m shot.events i) → (k : ℕ) × IsLeast k
  least zero j e before = (j, record { within = omega (arith, e); before = before; last = inr (omega (arith, e)) })
  least (suc left) j e before = looked j (omega (arith, e)) before (runs j) (λ cut. least left (suc j) (omega (arith, e)) cut)

  -- where the run is over it is that of the shot
  same-run : (k : ℕ) (o : IsOverAt k) → k ≤ n → (o.events ≡ shot.events) × (o.records ≡ shot.records) × (o.end ≡ is.end)
  same-run k o le =
      one-run m (answers_of shot.events) n o.events shot.events o.records shot.records o.end is.end
      (stays m (answers_of shot.events) k n o.events o.records o.end le o.over o.run) is.runs

  pub bit-run : BitRun m n
  bit-run =
      let s = least n 0 (omega arith) (λ i lt. absurd (omega (arith, lt))) in
      let l = s.1 in
      record {
        shot = shot;
        is_shot = is;
        steps = s.0;
        within = l.within;
        cut_before = l.before;
        all_where_cut = λ c. by-cut s.0 l c l.last;
        enough = λ not. by-over s.0 l not l.last;
      }
    where
      by-cut : (k : ℕ) → IsLeast k → is.end ≡ Cut → IsOverAt k ⊎ (k ≡ n) → k ≡ n
      by-cut k l c (inl o) = absurd (o.over ((same-run k o l.within).2 ∙ c))
      by-cut k l c (inr e) = e

      by-over : (k : ℕ) → IsLeast k → is.end ≢ Cut → IsOverAt k ⊎ (k ≡ n) → Runs m (answers_of shot.events) k shot.events shot.records is.end
      by-over k l not (inl o) =
          let q = same-run k o l.within in
          subst (λ end. Runs m (answers_of shot.events) k shot.events shot.records end) q.2
          (subst (λ rs. Runs m (answers_of shot.events) k shot.events rs o.end) q.1 (subst (λ es. Runs m (answers_of shot.events) k es o.records o.end) q.0 o.run))
      by-over k l not (inr e) = subst (λ k. Runs m (answers_of shot.events) k shot.events shot.records is.end) (sym e) is.runs

pub some-summary : ShotsExist → HasOneRun → EndedRunsStay → NeverStuck → (m : Module) (limit : ℕ) (t : Target) (budget n : ℕ) (l : Module) → Numbered m → Typed m limit → IsLowered m t budget l
    → (s : Summary) × Sums m t budget n s
unfolding ShotsExist NeverStuck
some-summary shots one stays stuck m limit t budget n l numbered typed lowered =
    let x = shots m limit numbered typed Bits n in
    let run = bit-run one stays m n x.0 x.1 (λ k. (stuck m limit numbered typed (answers_of x.0.events) k).run) in (
      record {
        configurations = length lowered.nodes;
        steps = run.steps;
        events = length run.shot.events;
        records = length run.shot.records;
        bytes = length (canonical l);
        same = true;
      },
      record { lowered = l; is_lowered = lowered; run = run; configurations = refl; steps = refl; events = refl; records = refl; bytes = refl; same = refl },
    )
