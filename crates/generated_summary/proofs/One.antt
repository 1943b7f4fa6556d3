-- A module without faults has at most one summary.
use Rattle.std.proofs.Common.{◌≡◌, ◌∙◌, ◌≢◌, ℕ, ◌<◌, length, sym, ap, subst, arith}
use Rattle.generated_summary.specs.BitRuns.{BitRun}
use Rattle.generated_summary.specs.declared.summary.Summary.{Summary}
use Rattle.generated_summary.specs.Summaries.{Sums}
use Rattle.ir_module.specs.declared.tree.Module.{Module}
use Rattle.ir_module.specs.Numbered.{Numbered}
use Rattle.ir_printer.specs.Canonical.{canonical}
use Rattle.kept_items.specs.declared.target.Target.{Target}
use Rattle.lasting_runs.proofs.Lasting.{IsCutOrOver, cut-or-not, is_cut, is_over}
use Rattle.path_search.specs.Explored.{Explored}
use Rattle.program_verdicts.specs.Laws.{IsListedOnce}
use Rattle.qir_meaning.specs.Laws.{HasOneRun}
use Rattle.qir_meaning.specs.Runs.{Cut, Runs}
use Rattle.shots.specs.declared.backend.Backend.TheVariants.{Bits}
use Rattle.shots.specs.Laws.{ShotsAreOne}
use Rattle.shots.specs.Shots.{Shot, answers_of}
use Rattle.sound_lowering.specs.Programs.{IsLowered, program_by}
use Rattle.told_liveness.specs.Laws.{IsToldOnce}
use Rattle.type_check.specs.Faults.{Typed}
use Rattle.unroller.specs.Programs.{Carries, search_of}

same-summary : (x y : Summary) → x.configurations ≡ y.configurations → x.steps ≡ y.steps → x.events ≡ y.events → x.records ≡ y.records → x.bytes ≡ y.bytes → x.same ≡ y.same → x ≡ y
same-summary x y a b c d e f = λ i. record { configurations = a i; steps = b i; events = c i; records = d i; bytes = e i; same = f i }

-- ---- one run over classical bits

module _ (one-shot : ShotsAreOne) (one-run : HasOneRun) (m : Module) (limit : ℕ) (numbered : Numbered m) (typed : Typed m limit) (n : ℕ) where
  same-shot : (x y : BitRun m n) → x.shot ≡ y.shot
  unfolding ShotsAreOne
  same-shot x y = one-shot m limit numbered typed Bits n x.shot y.shot x.is_shot y.is_shot

  events : (x y : BitRun m n) → x.shot.events ≡ y.shot.events
  events x y = ap (λ (s : Shot). s.events) (same-shot x y)

  same-end : (x y : BitRun m n) → x.is_shot.end ≡ y.is_shot.end
  same-end x y =
      (one-run m (answers_of y.shot.events) n x.shot.events y.shot.events x.shot.records y.shot.records x.is_shot.end y.is_shot.end
      (subst (λ es. Runs m (answers_of es) n x.shot.events x.shot.records x.is_shot.end) (events x y) x.is_shot.runs) y.is_shot.runs).2

  -- with fewer steps it is cut
  no-fewer : (x y : BitRun m n) → x.is_shot.end ≢ Cut → x.steps < y.steps → ⊥
  no-fewer x y over lt =
      let c = y.cut_before x.steps lt in
      let r = subst (λ es. Runs m (answers_of es) x.steps x.shot.events x.shot.records x.is_shot.end) (events x y) (x.enough over) in
      over (sym (one-run m (answers_of y.shot.events) x.steps c.0 x.shot.events c.1 x.shot.records Cut x.is_shot.end c.2 r).2)

  same-steps : (x y : BitRun m n) → x.steps ≡ y.steps
  same-steps x y = by (cut-or-not x.is_shot.end)
    where
      by : IsCutOrOver x.is_shot.end → x.steps ≡ y.steps
      by (is_cut e) = x.all_where_cut e ∙ sym (y.all_where_cut (sym (same-end x y) ∙ e))
      by (is_over not) =
          let not' : y.is_shot.end ≢ Cut = λ e. not (same-end x y ∙ e) in
          let a : x.steps < y.steps → ⊥ = no-fewer x y not in
          let b : y.steps < x.steps → ⊥ = no-fewer y x not' in
          omega (arith, a, b)

  -- ---- one summary

  module _ (told : IsToldOnce) (listed : IsListedOnce) (t : Target) (budget : ℕ) where
    same-nodes : (l k : Module) (a : IsLowered m t budget l) (b : IsLowered m t budget k) → a.nodes ≡ b.nodes
    same-nodes l k a b =
        listed (program_by m t b.live) budget a.nodes b.nodes
        (subst (λ f. Explored (search_of (program_by m t f) budget) (Carries (program_by m t f)) a.nodes) (told m a.live b.live a.is_test b.is_test) a.explored) b.explored

    module _ (one-module : (l k : Module) → IsLowered m t budget l → IsLowered m t budget k → l ≡ k) where
      pub one-summary : (x y : Summary) → Sums m t budget n x → Sums m t budget n y → x ≡ y
      one-summary x y p q =
          let shot = same-shot p.run q.run in
          let l = one-module p.lowered q.lowered p.is_lowered q.is_lowered in
          same-summary x y
          (p.configurations ∙ ap length (same-nodes p.lowered q.lowered p.is_lowered q.is_lowered) ∙ sym q.configurations)
          (p.steps ∙ same-steps p.run q.run ∙ sym q.steps)
          (p.events ∙ ap (λ (s : Shot). length s.events) shot ∙ sym q.events)
          (p.records ∙ ap (λ (s : Shot). length s.records) shot ∙ sym q.records)
          (p.bytes ∙ ap (λ k. length (canonical k)) l ∙ sym q.bytes)
          (p.same ∙ sym q.same)
