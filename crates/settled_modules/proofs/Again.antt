-- A lowered module is lowered again, and for Base to itself.
use Rattle.std.proofs.Common.{◌≡◌, ◌∙◌, ℕ, ◌+◌, ◌*◌, ◌≤◌, Bool, true, refl, sym, ap, subst, arith}
use Rattle.std.proofs.lemmas.Option.{same_Some}
use mathlib.Core.Logic.{inl, inr}
use Rattle.ir_module.specs.declared.places.Point.{Point}
use Rattle.ir_module.specs.declared.tree.Module.{Module}
use Rattle.ir_module.specs.Entry.{Entry}
use Rattle.ir_values.specs.declared.ids.LocalId.{LocalId}
use Rattle.kept_items.specs.declared.target.Target.{Target}
use Rattle.kept_items.specs.declared.target.Target.TheVariants.{Adaptive, Base}
use Rattle.live_names.specs.Laws.{LoweredIsAccepted}
use Rattle.lowered_program.specs.Residues.{residue_of, shared_exit}
use Rattle.lowered_sizes.specs.Sizes.{HasFewInstructions, instructions}
use Rattle.lowering_budgets.specs.Laws.{BudgetsCountConfigurations}
use Rattle.lowering_verdicts.specs.Laws.{HasAnswer, LoweringHasAnAnswer}
use Rattle.numbered_residue.specs.Laws.{PrintedIsNumbered}
use Rattle.path_search.specs.Verdict.{Accepts}
use Rattle.printed_residue.proofs.Ends.{entry-is}
use Rattle.repeated_lowering.specs.Laws.{BaseIsRepeated, MadeIsRepeatable}
use Rattle.residue.specs.declared.parts.Residue.{Residue}
use Rattle.residue.specs.Printed.{printed}
use Rattle.settled_adaptive.specs.Undecided.{all_undecided}
use Rattle.settled_lowering.specs.Laws.{BaseIsAccepted, IsPrinted}
use Rattle.sound_lowering.specs.Programs.{IsLowered, number_of_entry, program_by, source_limit}
use Rattle.told_liveness.specs.Tests.{IsLiveTest}
use Rattle.type_check.specs.Faults.{Typed}
use Rattle.undecided_parts.specs.Laws.{MadeIsUndecided}
use Rattle.unroller.specs.Programs.{search_of}
use Rattle.fused_parts.specs.Nodes.{joins}
use Rattle.fused_parts.specs.Ranks.{part_number}
use Rattle.settled_modules.specs.Laws.{BaseStays, Fits, FourTimesServes, IsLoweredFrom, LoweredAgain, LoweredFits, residue_by}
use Rattle.settled_modules.proofs.Sources.{source-limited}

-- the laws that lowering again rests on
pub record AreProved : Type 0 where
  pub fits : LoweredFits
  pub numbered : PrintedIsNumbered
  pub base : BaseIsAccepted
  pub adaptive : LoweredIsAccepted
  pub undecided : MadeIsUndecided
  pub answer : LoweringHasAnAnswer
  pub counts : BudgetsCountConfigurations

-- the printed module is its program's, and its entry comes first
is-printed : (r : Residue) (t : Target) (live : Point → LocalId → Bool) → IsPrinted r t (program_by (printed r t) t live)
is-printed r t live = record { module_is = refl; target = refl; entry = ap number_of_entry (entry-is r t) }

module _ (laws : AreProved) where
  -- constant evaluation accepts the module that a lowered program is
  accepts : (r : Residue) (t : Target) (budget : ℕ) → Fits budget r t → all_undecided r ≡ true → (live : Point → LocalId → Bool) → IsLiveTest (printed r t) live
      → Accepts (search_of (program_by (printed r t) t live) (instructions (printed r t)))
  accepts r Base budget fits undecided live test =
      laws.base r (program_by (printed r Base) Base live) fits.valid fits.profile (is-printed r Base live)
  accepts r (Adaptive caps) budget fits undecided live test =
      laws.adaptive r caps (program_by (printed r (Adaptive caps)) (Adaptive caps) live) fits.valid fits.profile undecided
      (is-printed r (Adaptive caps) live) test.tells

  -- so it isn't refused
  answered : (r : Residue) (t : Target) (budget : ℕ) → Fits budget r t → all_undecided r ≡ true → HasAnswer (printed r t) t (instructions (printed r t))
      → (k : Module) × IsLowered (printed r t) t (instructions (printed r t)) k
  answered r t budget fits undecided (inl a) = a
  answered r t budget fits undecided (inr b) =
      let no = b.2 in
      let refuses = no.refused.refuses in
      absurd (accepts r t budget fits undecided no.live no.is_test refuses.path no.refused.config no.refused.reason refuses.candidate)

  again-within : (l : Module) (t : Target) (second : ℕ) → instructions l ≤ second → (k : Module) × IsLowered l t (instructions l) k → (k : Module) × IsLowered l t second k
  again-within l t second enough k =
      let counts = laws.counts l t (instructions l) k.0 k.1 in
      (k.0, counts.alike second (omega (arith, counts.within, enough)))

  pub lowered-again : LoweredAgain
  lowered-again m t budget l second h typed enough =
      let r = residue_by m t budget l h.lowered in
      let fits = laws.fits m t budget l h in
      let undecided = laws.undecided (program_by m t h.lowered.live) h.lowered.entry.function budget h.lowered.nodes h.lowered.explored in
      let typed-printed : Typed (printed r t) source_limit = subst (λ (l : Module). Typed l source_limit) h.lowered.is typed in
      let answer = laws.answer (printed r t) t (instructions (printed r t)) (laws.numbered r t fits.valid) typed-printed in
      let lowered = answered r t budget fits undecided answer in
      again-within l t second enough
      (subst (λ (l : Module). (k : Module) × IsLowered l t (instructions l) k) (sym h.lowered.is) lowered)

pub four-times : LoweredAgain → BudgetsCountConfigurations → HasFewInstructions → FourTimesServes
four-times law counts sizes m t budget l h typed =
    let nodes = h.lowered.nodes in
    let few = sizes m nodes (joins nodes) (part_number (joins nodes)) (shared_exit t nodes) (residue_by m t budget l h.lowered) t refl in
    let within = (counts m t budget l h.lowered).within in
    law m t budget l (4 * budget + 16) h typed (omega (arith, few, within, ap instructions h.lowered.is))

-- ---- for Base

repeated : BaseIsRepeated → MadeIsRepeatable → (m : Module) (budget : ℕ) (l : Module) (h : IsLoweredFrom m Base budget l) → Fits budget (residue_by m Base budget l h.lowered) Base
    → Typed (printed (residue_by m Base budget l h.lowered) Base) source_limit → (second : ℕ) (k : Module) → IsLowered (printed (residue_by m Base budget l h.lowered) Base) Base second k
    → k ≡ printed (residue_by m Base budget l h.lowered) Base
repeated law made m budget l h fits typed second k j =
    let r = residue_by m Base budget l h.lowered in
    let p = program_by (printed r Base) Base j.live in
    let repeatable =
    made (program_by m Base h.lowered.live) h.lowered.entry.function h.lowered.nodes source_limit refl h.room.codes fits.valid fits.profile (source-limited r Base budget fits typed) in
    let same = same_Some j.entry _ (sym j.is_entry ∙ entry-is r Base) in
    j.is
    ∙ ap (λ (e : Entry). printed (residue_of p e.function j.nodes) Base) same
    ∙ law r p source_limit second j.nodes repeatable (is-printed r Base j.live) refl refl j.explored

pub stays : LoweredFits → BaseIsRepeated → MadeIsRepeatable → BaseStays
stays fit law made m budget l second k h typed lowered =
    let r = residue_by m Base budget l h.lowered in
    repeated law made m budget l h (fit m Base budget l h) (subst (λ (l : Module). Typed l source_limit) h.lowered.is typed) second k
    (subst (λ (l : Module). IsLowered l Base second k) h.lowered.is lowered)
    ∙ sym h.lowered.is
