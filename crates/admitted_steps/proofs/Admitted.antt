-- The static steps of an admitted module lead from configurations to configurations.
use Rattle.std.proofs.Common.{◌≡◌, ℕ, Option, None, Some, List, refl, sym, ◌∙◌, ap, subst, slice_get}
use Rattle.std.specs.List.{All}
use Rattle.std.specs.Option.{option_map}
use Rattle.std.proofs.lemmas.Option.{get_or_from_slice_get, slice_get_within}
use Rattle.admission.specs.Admitted.{CheckedModule, IsAdmitted, IsEntryOf, greatest_required}
use Rattle.ir_module.specs.declared.tree.Module.{Module}
use Rattle.ir_module.specs.Entry.{Entry, entry_of}
use Rattle.ir_values.specs.declared.ids.FuncId.{FuncId}
use Rattle.ir_values.specs.declared.ty.Ty.{Ty}
use Rattle.kept_items.specs.declared.target.Target.{Target}
use Rattle.static_steps.specs.declared.config.Config.{Config}
use Rattle.static_steps.specs.declared.turn.Turn.{Turn}
use Rattle.static_steps.specs.declared.turn.Turn.TheVariants.{Goes, Exits, Bad, Lost}
use Rattle.static_steps.specs.Configurations.{IsConfiguration}
use Rattle.static_steps.specs.Steps.{start_of, static_step}
use Rattle.step_parts.specs.Lives.{lives}
use Rattle.type_check.specs.Required.{required_qubits, required_results}
use Rattle.unroller.specs.Programs.{IsReached, LeadOn, Program, step_of}
use Rattle.valid_steps.specs.Laws.{AdmittedModulesStart, StepsKeepConfigurations, entry_id}
use Rattle.valid_steps.specs.Turns.{IsMove, IsTurn}
use Rattle.valid_steps.specs.Types.{dynamic_types}
use Rattle.admitted_steps.specs.Programs.{number_of_entry, program_of}

-- the entry that is told is the entry
module _ (g : FuncId) where
  number-is : (o : Option Entry) → option_map (λ e. e.number) o ≡ Some g.0 → g ≡ number_of_entry o
  number-is None h = absurd (none-some h) where
    none-some : {A : Type 0} {x : A} → None ≡ Some x → ⊥
    none-some q = cc
  number-is (Some e) h = ap (λ n. record { 0 = n }) (sym (some-is h)) where
    some-is : {n k : ℕ} → Some n ≡ Some k → n ≡ k
    some-is q = cc

  found : (o : Option Entry) → option_map (λ e. e.number) o ≡ Some g.0 → (e : Entry) × (o ≡ Some e)
  found None h = absurd (none-some h) where
    none-some : {A : Type 0} {x : A} → None ≡ Some x → ⊥
    none-some q = cc
  found (Some e) h = (e, refl)

pub entry_is : (m : Module) (g : FuncId) → IsEntryOf m g → g ≡ number_of_entry (entry_of m)
entry_is m g h = number-is g (entry_of m) h.number

pub starts : (c : CheckedModule) (t : Target) (g : FuncId) → AdmittedModulesStart → IsAdmitted c.tree → IsEntryOf c.tree g
    → IsReached (program_of c t) (start_of g)
unfolding AdmittedModulesStart
starts c t g law a h = on (found g (entry_of c.tree) h.number) where
  on : (e : Entry) × (entry_of c.tree ≡ Some e) → IsReached (program_of c t) (start_of g)
  on p =
      let q : g ≡ entry_id p.0 = entry_is c.tree g h ∙ ap number_of_entry p.1 in
      rw (q, p.1) (law c.tree greatest_required t (lives c.flows) p.0 a.numbered a.typed p.1)

-- what holds of all moves holds of each
at-place : {A : Type 0} (P : A → Type 0) (xs : List A) → All P xs → (i : ℕ) (x : A) → slice_get xs i ≡ Some x → P x
at-place P xs h i x e = subst P (get_or_from_slice_get xs i x x e) (h i x (slice_get_within xs i x e))

module _ (p : Program) (g : Config) (ts : List (Option Ty)) where
  on : (turn : Turn) → IsTurn p.m p.target p.live p.entry p.qubits p.results ts g.allocated g.returned turn → LeadOn p g turn
  on (Goes moves item choice) h = λ i mv e.
      let f : IsMove p.m p.target p.live p.entry p.qubits p.results ts g.allocated g.returned item mv =
      at-place (IsMove p.m p.target p.live p.entry p.qubits p.results ts g.allocated g.returned item) moves h.moves_fit i mv e in
      record { reached = f.configuration; allocated = f.allocated_more; returned = f.returned_more }
  on (Exits code) h = tt
  on (Bad kind) h = tt
  on Lost h = absurd h

pub leads_on : (c : CheckedModule) (t : Target) (entry : FuncId) (g : Config) (turn : Turn) → StepsKeepConfigurations → IsAdmitted c.tree
    → IsEntryOf c.tree entry → IsReached (program_of c t) g → turn ≡ step_of (program_of c t) g → LeadOn (program_of c t) g turn
unfolding StepsKeepConfigurations
leads_on c t entry g turn law a h r is = with-entry (found entry (entry_of c.tree) h.number) where
  with-entry : (e : Entry) × (entry_of c.tree ≡ Some e) → LeadOn (program_of c t) g turn
  with-entry p =
      let q : number_of_entry (entry_of c.tree) ≡ entry_id p.0 = ap number_of_entry p.1 in
      let k = required_qubits c.tree greatest_required in
      let n = required_results c.tree greatest_required in
      let after : Turn = static_step c.tree t (lives c.flows) g in
      let there = subst (λ (i : FuncId). IsConfiguration c.tree t (lives c.flows) i k n g) q r in
      let kept = law c.tree greatest_required t (lives c.flows) p.0 g a.numbered a.typed p.1 there in
      let back = subst (λ (i : FuncId). IsTurn c.tree t (lives c.flows) i k n (dynamic_types c.tree g) g.allocated g.returned after) (sym q) kept in
      subst (LeadOn (program_of c t) g) (sym is) (on (program_of c t) g (dynamic_types c.tree g) after back)
