-- The answer of lowering is the verdict of constant evaluation.
use Rattle.std.proofs.Common.{◌≡◌, ◌∙◌, ℕ, Bool, Some, refl, sym, ap, subst}
use Rattle.std.proofs.lemmas.Option.{same_Some}
use mathlib.Core.Logic.{inl, inr}
use Rattle.ir_module.specs.declared.places.Point.{Point}
use Rattle.ir_module.specs.declared.tree.Module.{Module}
use Rattle.ir_module.specs.Entry.{Entry, entry_of}
use Rattle.ir_module.specs.Numbered.{Numbered}
use Rattle.ir_values.specs.declared.ids.FuncId.{FuncId}
use Rattle.ir_values.specs.declared.ids.LocalId.{LocalId}
use Rattle.kept_items.specs.declared.target.Kind.{Kind}
use Rattle.kept_items.specs.declared.target.Target.{Target}
use Rattle.lowered_program.specs.Residues.{residue_of}
use Rattle.path_search.specs.Explored.{Explored}
use Rattle.path_search.specs.Laws.{HasOneVerdict}
use Rattle.path_search.specs.Paths.{Search}
use Rattle.path_search.specs.Verdict.{Refuses}
use Rattle.program_verdicts.specs.Laws.{HasVerdict, IsListedOnce, KeepsConfigurations}
use Rattle.residue.specs.Printed.{printed}
use Rattle.static_steps.specs.declared.config.Config.{Config}
use Rattle.static_steps.specs.Configurations.{IsConfiguration}
use Rattle.static_steps.specs.Steps.{start_of}
use Rattle.type_check.specs.Faults.{Typed}
use Rattle.type_check.specs.Required.{required_qubits, required_results}
use Rattle.told_liveness.specs.Laws.{HasTest, IsToldOnce}
use Rattle.unroller.specs.Programs.{Carries, search_of}
use Rattle.unroller.specs.Refusals.{kind_of}
use Rattle.valid_steps.specs.Laws.{AdmittedModulesStart, StepsKeepConfigurations, entry_id}
use Rattle.sound_lowering.proofs.Keeping.{entry-there, leads}
use Rattle.sound_lowering.specs.Programs.{IsLowered, IsNotLowered, number_of_entry, program_by, source_limit}
use Rattle.lowering_verdicts.specs.Laws.{HasAnswer, HasOneAnswer}

abbrev pub Test : Type 0
Test = Point → LocalId → Bool

abbrev pub OneVerdict : Type 0
OneVerdict = (s : Search Config Kind) → HasOneVerdict s

module _ (one-test : IsToldOnce) (listed : IsListedOnce) (verdict : OneVerdict) (m : Module) (t : Target) (budget : ℕ) where
  same-module : (l k : Module) → IsLowered m t budget l → IsLowered m t budget k → l ≡ k
  same-module l k a b =
      let live : a.live ≡ b.live = one-test m a.live b.live a.is_test b.is_test in
      let entry : a.entry ≡ b.entry = same_Some a.entry b.entry (sym a.is_entry ∙ b.is_entry) in
      let nodes : a.nodes ≡ b.nodes =
      listed (program_by m t b.live) budget a.nodes b.nodes (subst (λ f. Explored (search_of (program_by m t f) budget) (Carries (program_by m t f)) a.nodes) live a.explored) b.explored in
      a.is
      ∙ ap (λ f. printed (residue_of (program_by m t f) a.entry.function a.nodes) t) live
      ∙ ap (λ (e : Entry). printed (residue_of (program_by m t b.live) e.function a.nodes) t) entry
      ∙ ap (λ ns. printed (residue_of (program_by m t b.live) b.entry.function ns) t) nodes
      ∙ sym b.is

  same-refusal : (at there : Point) (kind other : Kind) → IsNotLowered m t budget at kind → IsNotLowered m t budget there other → (at ≡ there) × (kind ≡ other)
  same-refusal at there kind other a b =
      let live : a.live ≡ b.live = one-test m a.live b.live a.is_test b.is_test in
      let x = a.refused in
      let y = b.refused in
      let s = search_of (program_by m t b.live) budget in
      let both = (verdict s).one x.config y.config x.reason y.reason (subst (λ f. Refuses (search_of (program_by m t f) budget) x.config x.reason) live x.refuses) y.refuses in
      (sym x.stands ∙ ap (λ (g : Config). g.top.at) both.0 ∙ y.stands, sym x.is_kind ∙ ap kind_of both.1 ∙ y.is_kind)

  never-both : (l : Module) (at : Point) (kind : Kind) → IsLowered m t budget l → IsNotLowered m t budget at kind → ⊥
  never-both l at kind a b =
      let live : a.live ≡ b.live = one-test m a.live b.live a.is_test b.is_test in
      let y = b.refused in
      (verdict (search_of (program_by m t b.live) budget)).not_both y.config y.reason
      (subst (λ f. Explored (search_of (program_by m t f) budget) (Carries (program_by m t f)) a.nodes) live a.explored).accepts y.refuses

  pub one-answer : HasOneAnswer m t budget
  one-answer = record { module_ = same-module; refusal = same-refusal; not_both = never-both }

module _ (starts : AdmittedModulesStart) (steps : StepsKeepConfigurations) (m : Module) (t : Target) (live : Test) (numbered : Numbered m) (typed : Typed m source_limit) where
  pub keeps : (e : Entry) → entry_of m ≡ Some e → KeepsConfigurations (program_by m t live)
  unfolding AdmittedModulesStart
  keeps e is =
      let number : entry_id e ≡ number_of_entry (entry_of m) = sym (ap number_of_entry is) in
      record {
        starts = subst (λ (i : FuncId). IsConfiguration m t live i (required_qubits m source_limit) (required_results m source_limit) (start_of i)) number (starts m source_limit t live e numbered typed is);
        leads_on = λ g reached. leads steps m t live numbered typed e is g reached;
      }

pub answer : HasTest → HasVerdict → AdmittedModulesStart → StepsKeepConfigurations → (m : Module) (t : Target) (budget : ℕ) → Numbered m → Typed m source_limit → HasAnswer m t budget
answer some verdict starts steps m t budget numbered typed =
    let test = some m in
    let entry = entry-there m numbered typed in
    elim (verdict (program_by m t test.0) budget (keeps starts steps m t test.0 numbered typed entry.0 entry.1)) [
      | inl a ↦ inl (
        printed (residue_of (program_by m t test.0) entry.0.function a.nodes) t,
        record {
          live = test.0;
          is_test = test.1;
          entry = entry.0;
          is_entry = entry.1;
          nodes = a.nodes;
          explored = a.explored;
          is = refl;
        },
      )
      | inr r ↦ inr (
        r.at.top.at,
        kind_of r.reason,
        record {
          live = test.0;
          is_test = test.1;
          refused = record { config = r.at; reason = r.reason; refuses = r.refuses; stands = refl; is_kind = refl };
        },
      )
    ]
