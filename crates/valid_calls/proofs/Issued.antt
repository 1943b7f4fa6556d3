-- The operation of a configuration is one that a function of the module issues.
use Rattle.std.proofs.Common.{◌≡◌, ℕ, Bool, Some, List, slice_get, refl, subst}
use Rattle.type_check.specs.Required.{required_qubits}
use Rattle.ir_module.specs.Entry.{Entry}
use Rattle.ir_values.specs.declared.ty.Ty.{Ty}
use Rattle.kept_items.specs.declared.item.Item.TheVariants as item
use Rattle.kept_items.specs.declared.val.Val.{Val}
use Rattle.residue.specs.declared.parts.Residue.{Residue}
use Rattle.static_steps.specs.declared.config.Config.{Config}
use Rattle.static_steps.specs.Configurations.{IsConfiguration}
use Rattle.fused_parts.specs.Nodes.{Node, item_of}
use Rattle.unroller.specs.declared.node.Outcome.{Outcome}
use Rattle.unroller.specs.declared.node.Outcome.TheVariants as outcome
use Rattle.unroller.specs.Programs.{IsReached, Program, step_of}
use Rattle.issued_steps.specs.Issues.{IsBetween, IsInOrder, IsIssued}
use Rattle.issued_steps.specs.Laws.{StepsIssueCalls}
use Rattle.valid_steps.specs.Items.{types_of}
use Rattle.valid_residue.specs.Programs.{IsFaultless, IsLowered}
use Rattle.valid_residue.proofs.Nodes.{IsKnown, first-move, goes-from}

-- the step of a configuration is in order
pub orders : (p : Program) (limit : ℕ) (e : Entry) → IsFaultless p limit e → StepsIssueCalls → (g : Config) → IsReached p g → IsInOrder p.m p.target g.phase (step_of p g)
unfolding StepsIssueCalls
orders p limit e h law g reached =
    law p.m limit p.target p.live p.entry g h.numbered h.typed
    (subst (λ x. IsConfiguration p.m p.target p.live p.entry (required_qubits p.m limit) x g) h.results (subst (λ x. IsConfiguration p.m p.target p.live p.entry x p.results g) h.qubits reached))

pub orders-of : (p : Program) (nodes : List Node) (r : Residue) → StepsIssueCalls → (h : IsLowered p nodes r) → (i : ℕ) (x : Node) → slice_get nodes i ≡ Some x → IsInOrder p.m p.target x.node.phase (step_of p x.node)
orders-of p nodes r law h i x at = orders p h.limit h.found_entry h.faultless law x.node (h.explored.carries i x at).reached

module _ (p : Program) (nodes : List Node) where
  issued-by : (x : Node) (name : List ℕ) (args : List (Ty × Val)) (o : Outcome) → x.item ≡ o → IsKnown p nodes x → IsInOrder p.m p.target x.node.phase (step_of p x.node) → item_of o ≡ Some (item.Operation name args)
      → (irreversible : Bool) × IsIssued p.m name (types_of args) irreversible
  issued-by x name args (outcome.Goes q c) s h order e =
      let g = goes-from p nodes x q c h s in
      let f = first-move p nodes x q c g.moves g.turn g.links in
      let between = subst (λ o. IsBetween p.m p.target x.node.phase o f.move.to.phase) e (subst (IsInOrder p.m p.target x.node.phase) g.step order 0 f.move f.first) in
      (between.0, between.1)
  issued-by x name args (outcome.Exits c) s h order e = cc

  pub issued-at : (x : Node) (name : List ℕ) (args : List (Ty × Val)) → IsKnown p nodes x → IsInOrder p.m p.target x.node.phase (step_of p x.node) → item_of x.item ≡ Some (item.Operation name args)
      → (irreversible : Bool) × IsIssued p.m name (types_of args) irreversible
  issued-at x name args h order e = issued-by x name args x.item refl h order e
