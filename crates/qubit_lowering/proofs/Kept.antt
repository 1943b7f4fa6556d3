-- From what the code explores to what lowering answers of the module alone.
use Rattle.std.proofs.Common.{◌≡◌, ◌∙◌, ℕ, ◌≤◌, Option, None, Some, refl, sym, ap, subst}
use Rattle.std.specs.Prelude.{slice_get}
use Rattle.admission.specs.Admitted.{CheckedModule, IsAdmitted}
use Rattle.admission.specs.Live.{flow_answer, live_in}
use Rattle.admitted_steps.specs.Programs as admitted
use Rattle.admitted_steps.specs.Programs.{program_of}
use Rattle.ir_module.specs.declared.places.Point.{Point}
use Rattle.ir_module.specs.declared.tree.Module.{Module}
use Rattle.ir_module.specs.Entry.{Entry, entry_of}
use Rattle.ir_values.specs.declared.ids.FuncId.{FuncId}
use Rattle.ir_values.specs.declared.ids.LocalId.{LocalId}
use Rattle.kept_items.specs.declared.target.Kind.{Kind}
use Rattle.kept_items.specs.declared.target.Target.{Target}
use Rattle.lowered_program.specs.Residues.{residue_of}
use Rattle.name_flow.specs.declared.flow.Flow.{Flow}
use Rattle.path_search.specs.Explored.{Explored}
use Rattle.residue.specs.declared.parts.Residue.{Residue}
use Rattle.residue.specs.Printed.{printed}
use Rattle.residue.specs.Valid.{Valid}
use Rattle.sound_lowering.specs.Laws.{HasRoom, IsPermitted, LoweredIsSound, LoweredIsValid, lowered_residue}
use Rattle.sound_lowering.specs.Sound.{IsSound}
use Rattle.sound_lowering.specs.Programs.{IsNotLowered, number_of_entry, program_by, source_limit}
use Rattle.step_parts.specs.Lives.{flow_lives, lives}
use Rattle.fused_form.specs.Fused.{AreFused}
use Rattle.fused_form.specs.Laws.{LoweredPartsAreFused}
use Rattle.told_liveness.specs.Tests.{IsLiveTest}
use Rattle.type_check.specs.Required.{required_qubits, required_results}
use Rattle.unroller.specs.Programs.{Carries, search_of}
use Rattle.unroller.specs.declared.exploration.LowerStop.{LowerStop}
use Rattle.unroller.specs.declared.exploration.LowerStop.TheVariants.{Refused, Memory}
use Rattle.unroller.specs.Refusals.{IfRefused, IsRefused}
use Rattle.valid_residue.specs.Programs.{IsLowered}
use Rattle.qubit_lowering.specs.Kept.{IsCounted, IsKept}
use Rattle.qubit_lowering.specs.Lowered.{IsLoweredFrom}

-- ---- the program of a checked module is that of its module, with the test that its flows are

same-number : (o : Option Entry) → admitted.number_of_entry o ≡ number_of_entry o
same-number None = refl
same-number (Some e) = refl

same-answer : (o : Option (Option Flow)) (p : Point) (x : LocalId) → flow_answer o p x ≡ flow_lives o p x
same-answer None p x = refl
same-answer (Some None) p x = refl
same-answer (Some (Some flow)) p x = refl

same-live : (c : CheckedModule) → live_in c ≡ lives c.flows
unfolding live_in
same-live c = λ i p x. same-answer (slice_get c.flows p.func.0) p x i

same-program : (c : CheckedModule) (t : Target) → program_of c t ≡ program_by c.tree t (lives c.flows)
same-program c t =
    ap (λ (i : FuncId). record {
      m = c.tree;
      target = t;
      live = lives c.flows;
      entry = i;
      qubits = required_qubits c.tree source_limit;
      results = required_results c.tree source_limit;
    }) (same-number (entry_of c.tree))

module _ (c : CheckedModule) (t : Target) (budget : ℕ) (is_admitted : IsAdmitted c.tree) (live : IsLiveTest c.tree (live_in c)) where
  test : IsLiveTest c.tree (lives c.flows)
  test = subst (IsLiveTest c.tree) (same-live c) live

  module _ (r : Residue) (count : ℕ) (h : IsLoweredFrom c t budget r count) where
    is-residue : r ≡ lowered_residue c.tree t (lives c.flows) h.residue.entry h.nodes
    is-residue = h.residue.residue ∙ ap (λ p. residue_of p h.residue.entry.function h.nodes) (same-program c t)

    explored : Explored (search_of (program_by c.tree t (lives c.flows)) budget) (Carries (program_by c.tree t (lives c.flows))) h.nodes
    explored = subst (λ p. Explored (search_of p budget) (Carries p) h.nodes) (same-program c t) h.explored

    made : IsLowered (program_by c.tree t (lives c.flows)) h.nodes r
    made = record {
      limit = source_limit;
      found_entry = h.residue.entry;
      faultless = record {
        numbered = is_admitted.numbered;
        typed = is_admitted.typed;
        is_entry = h.residue.is_entry;
        entry = ap number_of_entry h.residue.is_entry;
        qubits = refl;
        results = refl;
      };
      budget = budget;
      explored = explored;
      made = is-residue;
    }

    pub fused : LoweredPartsAreFused → AreFused r.parts
    fused law = law (program_by c.tree t (lives c.flows)) h.nodes r made

    permitted : budget ≤ 1000000 → IsPermitted c.tree t budget (lives c.flows) h.residue.entry h.nodes
    permitted small = record {
      numbered = is_admitted.numbered;
      typed = is_admitted.typed;
      is_entry = h.residue.is_entry;
      is_test = test;
      explored = explored;
      within = h.within;
      small = small;
    }

    room : HasRoom c.tree h.nodes (lowered_residue c.tree t (lives c.flows) h.residue.entry h.nodes)
    room = subst (HasRoom c.tree h.nodes) is-residue (record { values = h.few_values; parameters = h.few_parameters; codes = h.codes })

    pub valid : LoweredIsValid → budget ≤ 1000000 → Valid r t
    valid law small = subst (λ r. Valid r t) (sym is-residue) (law c.tree t budget (lives c.flows) h.residue.entry h.nodes (permitted small) room)

    kept : LoweredIsSound → budget ≤ 1000000 → (l : Module) → l ≡ printed r t → IsKept c.tree t budget l
    kept law small l is =
        let same : l ≡ printed (lowered_residue c.tree t (lives c.flows) h.residue.entry h.nodes) t = is ∙ ap (λ r. printed r t) is-residue in
        record {
          lowered = record {
            live = lives c.flows;
            is_test = test;
            entry = h.residue.entry;
            is_entry = h.residue.is_entry;
            nodes = h.nodes;
            explored = explored;
            is = same;
          };
          sound = subst (λ l. IsSound c.tree t budget h.nodes l) (sym same) (law c.tree t budget (lives c.flows) h.residue.entry h.nodes (permitted small) room);
        }

    pub counted : LoweredIsSound → budget ≤ 1000000 → (l : Module) → l ≡ printed r t → IsCounted c.tree t budget l count
    unfolding kept
    counted law small l is = record { kept = kept law small l is; number = h.number }

  refused : (at : Point) (kind : Kind) → IsRefused (program_of c t) budget at kind → IsNotLowered c.tree t budget at kind
  refused at kind h = record { live = lives c.flows; is_test = test; refused = subst (λ p. IsRefused p budget at kind) (same-program c t) h }

  pub if-refused : (stop : LowerStop) → IfRefused stop (IsRefused (program_of c t) budget) → IfRefused stop (IsNotLowered c.tree t budget)
  if-refused (Refused at kind) h = refused at kind h
  if-refused Memory h = tt
