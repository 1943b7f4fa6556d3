-- What an Adaptive target has permits the whole program.
use Rattle.std.proofs.Common.{◌≡◌, ℕ, ◌<◌, Bool, true, false, Some, List, length, slice_get, refl, sym, ap, ◌∙◌, subst}
use Rattle.std.proofs.lemmas.Bool.{and_from, lt-ltb}
use Rattle.std.specs.List.{list_all}
use Rattle.std.specs.Prelude.{◌&&◌, ◌||◌, nat_lt}
use Rattle.ir_module.specs.Entry.{Entry}
use Rattle.ir_values.specs.Values.{is_bit}
use Rattle.kept_items.specs.declared.target.Caps.{Caps}
use Rattle.kept_items.specs.declared.target.Target.TheVariants.{Adaptive}
use Rattle.kept_items.specs.Targets.{has_ints, has_returns}
use Rattle.residue.specs.declared.parts.Part.{Part}
use Rattle.residue.specs.declared.parts.Residue.{Residue}
use Rattle.residue.specs.Functions.{all_items}
use Rattle.residue.specs.Valid.{all_tails, caps_permit, caps_permit_params, caps_permit_tail, count_returns, target_permits}
use Rattle.static_steps.specs.Configurations.{IsConfiguration, bounds}
use Rattle.static_steps.specs.Steps.{start_of}
use Rattle.type_check.specs.Required.{required_qubits}
use Rattle.fused_parts.specs.Nodes.{Node, joins}
use Rattle.fused_parts.specs.Ranks.{part_number}
use Rattle.lowered_program.specs.Residues.{shared_exit}
use Rattle.unroller.specs.Programs.{IsReached, Program}
use Rattle.valid_lines.specs.Laws.{AreValid, ItemsAreValid, items_permitted, tails_permitted}
use Rattle.valid_steps.specs.Laws.{AdmittedModulesStart, StepsKeepConfigurations, entry_id}
use Rattle.valid_residue.specs.Programs.{IsFaultless, IsLowered}
use Rattle.valid_residue.proofs.Program.{known-of, turns}
use Rattle.valid_residue.proofs.Reached.{of-nodes}
use Rattle.valid_residue.proofs.Returns.{alone-few, one-return, shared-some}
use Rattle.valid_residue.proofs.Widths.{AreNarrow, move-narrow, params-pass, widths-narrow}

-- the start is a configuration of the program
pub starts : (p : Program) (limit : ℕ) (e : Entry) → IsFaultless p limit e → AdmittedModulesStart → IsReached p (start_of p.entry)
unfolding AdmittedModulesStart
starts p limit e h law =
    subst (λ x. IsConfiguration p.m p.target p.live x p.qubits p.results (start_of x)) (sym h.entry)
    (subst (λ x. IsConfiguration p.m p.target p.live (entry_id e) x p.results (start_of (entry_id e))) (sym h.qubits)
    (subst (λ x. IsConfiguration p.m p.target p.live (entry_id e) (required_qubits p.m limit) x (start_of (entry_id e))) (sym h.results) (law p.m limit p.target p.live e h.numbered h.typed h.is_entry)))

module _ (p : Program) (nodes : List Node) (r : Residue) (h : IsLowered p nodes r) (start : AdmittedModulesStart) (steps : StepsKeepConfigurations) where
  narrow : (i : ℕ) (x : Node) → slice_get nodes i ≡ Some x → AreNarrow p.m p.target x.node
  narrow i x at =
      of-nodes p (turns p h.limit h.found_entry h.faultless steps) (AreNarrow p.m p.target)
      (λ g item mv reached k fits. move-narrow p.m p.target (bounds p.qubits p.results mv.to) mv.to.held g mv.to item mv.args k fits.item_fits fits.arguments) h.budget nodes h.explored
      (starts p h.limit h.found_entry h.faultless start) refl i x at

  params-narrow : list_all (λ (q : Part). list_all (λ x. has_ints p.target || is_bit x.1) q.params) r.parts ≡ true
  params-narrow =
      subst (λ (r : Residue). list_all (λ (q : Part). list_all (λ x. has_ints p.target || is_bit x.1) q.params) r.parts ≡ true) (sym h.made)
      (params-pass (λ w. has_ints p.target || is_bit w) p.m nodes (part_number (joins nodes)) (shared_exit p.target nodes) (joins nodes) (λ i x at. widths-narrow p.m p.target x.node (narrow i x at)))

  few-returns : has_returns p.target ≡ false → count_returns r.parts < 2
  few-returns off =
      subst (λ (r : Residue). count_returns r.parts < 2) (sym h.made)
      (one-return p nodes (part_number (joins nodes)) (shared_exit p.target nodes) (joins nodes) (known-of p nodes r steps h) (alone-few p.target nodes off) (shared-some p.target nodes off))

  module _ (valid : AreValid r p.target (length p.m.globals)) (caps : Caps) (e : p.target ≡ Adaptive caps) where
    by-returns : (b : Bool) → caps.returns ≡ b → (b || nat_lt (count_returns r.parts) 2) ≡ true
    by-returns true z = refl
    by-returns false z = lt-ltb (count_returns r.parts) 2 (few-returns (ap has_returns e ∙ z))

    permits : target_permits r (Adaptive caps) ≡ true
    permits =
        and_from (list_all (caps_permit caps) (all_items r)) (all_tails (caps_permit_tail caps) r && (list_all (caps_permit_params caps) r.parts && (caps.returns || nat_lt (count_returns r.parts) 2)))
        (subst (λ t. items_permitted r t ≡ true) e valid.permitted)
        (and_from (all_tails (caps_permit_tail caps) r) (list_all (caps_permit_params caps) r.parts && (caps.returns || nat_lt (count_returns r.parts) 2)) (subst (λ t. tails_permitted r t) e valid.tails)
        (and_from (list_all (caps_permit_params caps) r.parts) (caps.returns || nat_lt (count_returns r.parts) 2)
        (subst (λ t. list_all (λ (q : Part). list_all (λ x. has_ints t || is_bit x.1) q.params) r.parts ≡ true) e params-narrow) (by-returns caps.returns refl)))

    pub adaptive-permits : target_permits r p.target ≡ true
    adaptive-permits = subst (λ t. target_permits r t ≡ true) (sym e) permits

-- the rules that speak of an item or a tail alone
pub lines-valid : (p : Program) (nodes : List Node) (r : Residue) → IsLowered p nodes r → StepsKeepConfigurations → ItemsAreValid → AreValid r p.target (length p.m.globals)
lines-valid p nodes r h steps law =
    law p nodes (joins nodes) (part_number (joins nodes)) (shared_exit p.target nodes) r (λ i x at. (known-of p nodes r steps h i x at).step) (ap (λ (r : Residue). r.parts) h.made)
