-- Constant evaluation of an admitted module goes from configurations to configurations.
use Rattle.std.proofs.Common.{◌≡◌, ◌∙◌, ℕ, Bool, true, false, Option, None, Some, List, refl, sym, ap, subst}
use Rattle.std.specs.List.{All}
use Rattle.std.specs.Prelude.{is_some, slice_get}
use Rattle.std.proofs.lemmas.Option.{get_or_from_slice_get, slice_get_within}
use Rattle.admission.proofs.Entries.{has_entry}
use Rattle.ir_module.specs.declared.places.Point.{Point}
use Rattle.ir_module.specs.declared.tree.Module.{Module}
use Rattle.ir_module.specs.Entry.{Entry, entry_of}
use Rattle.ir_module.specs.Numbered.{Numbered}
use Rattle.ir_values.specs.declared.ids.FuncId.{FuncId}
use Rattle.ir_values.specs.declared.ids.LocalId.{LocalId}
use Rattle.ir_values.specs.declared.ty.Ty.{Ty}
use Rattle.kept_items.specs.declared.target.Target.{Target}
use Rattle.static_steps.specs.declared.config.Config.{Config}
use Rattle.static_steps.specs.declared.turn.Turn.{Turn}
use Rattle.static_steps.specs.declared.turn.Turn.TheVariants.{Goes, Exits, Bad, Lost}
use Rattle.static_steps.specs.Configurations.{IsConfiguration}
use Rattle.type_check.specs.Faults.{Typed}
use Rattle.type_check.specs.Required.{required_qubits, required_results}
use Rattle.unroller.specs.Programs.{IsReached, LeadOn, Program, step_of}
use Rattle.valid_steps.specs.Laws.{StepsKeepConfigurations, entry_id}
use Rattle.valid_steps.specs.Turns.{IsMove, IsTurn}
use Rattle.valid_steps.specs.Types.{dynamic_types}
use Rattle.sound_lowering.specs.Programs.{number_of_entry, program_by, source_limit}

-- what holds of all moves holds of each
at-place : {A : Type 0} (P : A → Type 0) (xs : List A) → All P xs → (i : ℕ) (x : A) → slice_get xs i ≡ Some x → P x
at-place P xs h i x e = subst P (get_or_from_slice_get xs i x x e) (h i x (slice_get_within xs i x e))

turn-leads : (p : Program) (g : Config) (ts : List (Option Ty)) (turn : Turn) → IsTurn p.m p.target p.live p.entry p.qubits p.results ts g.allocated g.returned turn → LeadOn p g turn
turn-leads p g ts (Goes moves item choice) h = λ i mv e.
    let f : IsMove p.m p.target p.live p.entry p.qubits p.results ts g.allocated g.returned item mv =
    at-place (IsMove p.m p.target p.live p.entry p.qubits p.results ts g.allocated g.returned item) moves h.moves_fit i mv e in
    record { reached = f.configuration; allocated = f.allocated_more; returned = f.returned_more }
turn-leads p g ts (Exits code) h = tt
turn-leads p g ts (Bad kind) h = tt
turn-leads p g ts Lost h = absurd h

-- an admitted module has an entry
pub entry-there : (m : Module) → Numbered m → Typed m source_limit → (e : Entry) × (entry_of m ≡ Some e)
entry-there m numbered typed = by (entry_of m) refl (has_entry m (record { numbered = numbered; typed = typed }))
  where
    by : (o : Option Entry) → entry_of m ≡ o → is_some (entry_of m) ≡ true → (e : Entry) × (entry_of m ≡ Some e)
    by (Some e) is h = (e, is)
    by None is h = let f : false ≡ true = sym (ap is_some is) ∙ h in cc

module _ (steps : StepsKeepConfigurations) (m : Module) (t : Target) (live : Point → LocalId → Bool) (numbered : Numbered m) (typed : Typed m source_limit) where
  -- constant evaluation of an admitted module goes from configurations to configurations
  pub fits : (e : Entry) → entry_of m ≡ Some e → (g : Config) → IsReached (program_by m t live) g
      → IsTurn m t live (number_of_entry (entry_of m)) (required_qubits m source_limit) (required_results m source_limit) (dynamic_types m g) g.allocated g.returned (step_of (program_by m t live) g)
  unfolding StepsKeepConfigurations
  fits e is g reached =
      let number : entry_id e ≡ number_of_entry (entry_of m) = sym (ap number_of_entry is) in
      let k = required_qubits m source_limit in
      let n = required_results m source_limit in
      subst (λ (i : FuncId). IsTurn m t live i k n (dynamic_types m g) g.allocated g.returned (step_of (program_by m t live) g)) number
      (steps m source_limit t live e g numbered typed is (subst (λ (i : FuncId). IsConfiguration m t live i k n g) (sym number) reached))

  -- so each step leads on
  pub leads : (e : Entry) → entry_of m ≡ Some e → (g : Config) → IsReached (program_by m t live) g → LeadOn (program_by m t live) g (step_of (program_by m t live) g)
  leads e is g reached = turn-leads (program_by m t live) g (dynamic_types m g) (step_of (program_by m t live) g) (fits e is g reached)
