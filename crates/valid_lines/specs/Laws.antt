-- The items of a lowered program that is made of the configurations of a module without faults.
use Rattle.std.specs.Prelude.{◌≡◌, ℕ, ⊤, Bool, true, Option, Some, List, length, slice_get}
use Rattle.std.specs.List.{list_all}
use Rattle.kept_items.specs.declared.target.Target.{Target}
use Rattle.kept_items.specs.declared.target.Target.TheVariants.{Base, Adaptive}
use Rattle.path_search.specs.Explored.{labels}
use Rattle.residue.specs.declared.parts.Residue.{Residue}
use Rattle.residue.specs.Functions.{all_items}
use Rattle.residue.specs.Scopes.{item_uses}
use Rattle.residue.specs.Valid.{all_tails, base_permits, caps_permit, caps_permit_tail, is_instruction, item_compares, items_allowed, label_below, operations_known, outputs_known}
use Rattle.fused_parts.specs.Nodes.{Node}
use Rattle.fused_parts.specs.Parts.{parts_of}
use Rattle.unroller.specs.Programs.{IsOutcome, Program, step_of}
use Rattle.valid_steps.specs.Turns.{IsTurn}
use Rattle.valid_steps.specs.Types.{dynamic_types}

-- the outcome of a node is that of the static step of its configuration, which is one as modules without faults have them
pub record IsStepOf (p : Program) (x : Node) : Type 0 where
  pub turn : IsTurn p.m p.target p.live p.entry p.qubits p.results (dynamic_types p.m x.node) x.node.allocated x.node.returned
      (step_of p x.node)
  pub outcome : IsOutcome (step_of p x.node) x.item (labels x.links)

-- the target permits every item
abbrev pub items_permitted : Residue → Target → Bool
items_permitted r Base = list_all base_permits (all_items r)
items_permitted r (Adaptive caps) = list_all (caps_permit caps) (all_items r)

-- and how parts end: nothing is said of a Base program, which has one part
abbrev pub tails_permitted : Residue → Target → Type 0
tails_permitted r Base = ⊤
tails_permitted r (Adaptive caps) = all_tails (caps_permit_tail caps) r ≡ true

-- the rules of a valid residue that speak of an item or a tail alone
pub record AreValid (r : Residue) (t : Target) (globals : ℕ) : Type 0 where
  -- binary instructions have only flags, and conversions only widths, that their operations allow
  pub allowed : items_allowed r ≡ true
  -- operations are gates or measurements by their names and types
  pub operations : operations_known r ≡ true
  -- records have one of the six classes, with its types
  pub outputs : outputs_known r ≡ true
  -- one and zero are only compared
  pub compared : list_all item_compares (all_items r) ≡ true
  -- labels are in range of the constants
  pub labels_fit : list_all (λ x. list_all (λ a. label_below globals a.1) (item_uses x)) (all_items r) ≡ true
  -- the names of operations begin as those of quantum instructions do
  pub named : list_all is_instruction (all_items r) ≡ true
  pub permitted : items_permitted r t ≡ true
  pub tails : tails_permitted r t

-- The parts that are made of such nodes have only valid items, however they are divided, numbered and joined.
abbrev pub ItemsAreValid : Type 0
ItemsAreValid =
    (p : Program) (nodes : List Node) (flags : List Bool) (part_of : ℕ → ℕ) (shared : Option ℕ) (r : Residue)
    → ((i : ℕ) (x : Node) → slice_get nodes i ≡ Some x → IsStepOf p x)
    → r.parts ≡ parts_of p.m part_of shared nodes flags
    → AreValid r p.target (length p.m.globals)
