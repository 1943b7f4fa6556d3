-- The lowered program of an admitted module is valid, fits its profile, and requires few numbers.
use Rattle.std.proofs.Common.{ℕ, ◌≤◌, length, ap, refl, arith}
use Rattle.ir_module.specs.declared.tree.Module.{Module}
use Rattle.kept_items.specs.declared.target.Target.{Target}
use Rattle.lowered_runs.specs.Laws.{IsAdmitted}
use Rattle.lowering_budgets.specs.Laws.{BudgetsCountConfigurations}
use Rattle.sound_lowering.specs.Laws.{IsPermitted}
use Rattle.sound_lowering.specs.Programs.{number_of_entry, program_by, source_limit}
use Rattle.sound_lowering.proofs.Counters.{allocated-below, returned-below}
use Rattle.sound_lowering.specs.code.Rules.{RulesHold}
use Rattle.sound_lowering.proofs.Good.{fits-profile, good}
use Rattle.sound_lowering.proofs.Keeping.{leads}
use Rattle.sound_lowering.proofs.Sound.{fits-limit}
use Rattle.valid_steps.specs.Laws.{StepsKeepConfigurations}
use Rattle.settled_modules.specs.Laws.{IsLoweredFrom, LoweredFits}

permitted : BudgetsCountConfigurations → (m : Module) (t : Target) (budget : ℕ) (l : Module) (h : IsLoweredFrom m t budget l)
    → IsPermitted m t budget h.lowered.live h.lowered.entry h.lowered.nodes
permitted counts m t budget l h = record {
  numbered = h.numbered;
  typed = h.typed;
  is_entry = h.lowered.is_entry;
  is_test = h.lowered.is_test;
  explored = h.lowered.explored;
  within = (counts m t budget l h.lowered).within;
  small = h.small;
}

pub lowered-fits : RulesHold → StepsKeepConfigurations → BudgetsCountConfigurations → LoweredFits
lowered-fits rules steps counts m t budget l h =
    let live = h.lowered.live in
    let e = h.lowered.entry in
    let nodes = h.lowered.nodes in
    let p = program_by m t live in
    let permits = permitted counts m t budget l h in
    let lead = leads steps m t live h.numbered h.typed e h.lowered.is_entry in
    let admitted : IsAdmitted p source_limit e = record {
      numbered = h.numbered;
      typed = h.typed;
      is_entry = h.lowered.is_entry;
      entry = ap number_of_entry h.lowered.is_entry;
      qubits = refl;
      results = refl;
      live = h.lowered.is_test.tells;
    } in
    let within : length nodes ≤ budget = permits.within in
    let is-good = good rules m t budget live e nodes permits lead h.room in
    let a = allocated-below p lead budget nodes h.lowered.explored in
    let b = returned-below p lead budget nodes h.lowered.explored in
    record {
      valid = is-good.valid;
      profile = fits-profile rules m t budget live e nodes permits lead;
      limited = fits-limit m t live e budget nodes admitted h.lowered.explored lead (omega (arith, within, h.small)) is-good;
      few_qubits = omega (arith, a, within);
      few_results = omega (arith, b, within);
    }
