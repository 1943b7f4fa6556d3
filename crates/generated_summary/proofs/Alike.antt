-- The run of a module that is lowered without loops isn't cut, and the lowered module does the same.
use Rattle.std.proofs.Common.{◌≡◌, ◌∙◌, ◌≢◌, ℕ, ◌≤◌, false, sym, ap, subst, arith}
use Rattle.backend_api.specs.Naming.{Naming, named_events}
use Rattle.equal_shots.proofs.Equal.{over-last}
use Rattle.equal_shots.proofs.Named.{answers-named}
use Rattle.equal_shots.specs.Laws.{LoweredShotsAreEqual}
use Rattle.equal_shots.specs.Shots.{EqualShots}
use Rattle.generated_summary.specs.Alike.{lowered_steps}
use Rattle.generated_summary.specs.BitRuns.{BitRun, DoTheSame}
use Rattle.ir_module.specs.declared.tree.Module.{Module}
use Rattle.ir_module.specs.Numbered.{Numbered}
use Rattle.kept_items.specs.declared.target.Target.{Target}
use Rattle.kept_items.specs.Targets.{has_loops}
use Rattle.qir_meaning.specs.Laws.{HasOneRun}
use Rattle.qir_meaning.specs.Naming.{named_end}
use Rattle.qir_meaning.specs.Runs.{Cut, Runs}
use Rattle.qubit_lowering.specs.Kept.{IsKept}
use Rattle.qubit_lowering.proofs.Budget.{within_budget}
use Rattle.shots.specs.declared.backend.Backend.TheVariants.{Bits}
use Rattle.shots.specs.Laws.{ShotsAreOne}
use Rattle.shots.specs.Shots.{Shot, answers_of}
use Rattle.sound_lowering.specs.Programs.{naming_of, program_by, source_limit}
use Rattle.sound_lowering.specs.Sound.{lowered_limit}
use Rattle.type_check.specs.Faults.{Typed}
use Rattle.unrolled_runs.specs.Laws.{UnrolledRunsEnd}
use Rattle.unroller.specs.Programs.{Carries, search_of}

module _ (one-shot : ShotsAreOne) (one-run : HasOneRun) (equal : LoweredShotsAreEqual) (ends : UnrolledRunsEnd)
    (m : Module) (t : Target) (budget n : ℕ) (l : Module) (x : BitRun m n) (y : BitRun l (lowered_steps n))
    (numbered : Numbered m) (typed : Typed m source_limit) (kept : IsKept m t budget l) (closed : has_loops t ≡ false) (le : budget ≤ n) where
  abbrev N : Naming
  N = naming_of m

  over : x.is_shot.end ≢ Cut
  over =
      let p = program_by m t kept.lowered.live in
      let few = within_budget (search_of p budget) (Carries p) kept.lowered.nodes kept.lowered.explored in
      ends m t budget l kept.lowered numbered closed (answers_of x.shot.events) n x.shot.events x.shot.records x.is_shot.end (omega (arith, few, le)) x.is_shot.runs

  equal-shots : EqualShots m l N budget
  unfolding LoweredShotsAreEqual
  equal-shots = equal m t budget kept.lowered.nodes l numbered typed kept.sound

  same-shot : (a b : Shot) → a ≡ b → (a.events ≡ b.events) × (a.records ≡ b.records)
  same-shot a b e = (ap (λ (s : Shot). s.events) e, ap (λ (s : Shot). s.records) e)

  pub alike : (x.is_shot.end ≢ Cut) × DoTheSame N x y
  unfolding ShotsAreOne
  alike =
      let forth = equal-shots.forth Bits n x.shot x.is_shot (over-last Bits x.shot.events x.is_shot.end x.shot.last over x.is_shot.told) in
      let one = same-shot forth.0 y.shot (one-shot l lowered_limit kept.sound.numbered kept.sound.typed Bits (lowered_steps n) forth.0 y.shot forth.1 y.is_shot) in
      let events : named_events N x.shot.events ≡ y.shot.events = sym forth.2.events ∙ one.0 in
      let answers : answers_of y.shot.events ≡ answers_of x.shot.events = ap answers_of (sym events) ∙ answers-named N x.shot.events in
      let run = kept.sound.same.forth (answers_of x.shot.events) n x.shot.events x.shot.records x.is_shot.end x.is_shot.runs over in
      let end =
      one-run l (answers_of x.shot.events) (lowered_steps n) (named_events N x.shot.events) y.shot.events x.shot.records y.shot.records (named_end N x.is_shot.end) y.is_shot.end run
      (subst (λ a. Runs l a (lowered_steps n) y.shot.events y.shot.records y.is_shot.end) answers y.is_shot.runs) in
      (over, (events, end.1, end.2))
