-- A test of values with the types of their places, which every Dynamic value and every integer passes, is passed by all uses of a lowered
-- program where the uses of its items pass it.
use Rattle.std.proofs.Common.{◌≡◌, ℕ, Bool, true, Option, None, Some, List, [], ◌∷◌, ◌++◌, map, flat_map, refl, ap, ◌∙◌}
use Rattle.std.proofs.lemmas.Bool.{and_from, and_parts}
use Rattle.std.specs.List.{list_all}
use Rattle.ir_module.specs.declared.tree.Module.{Module}
use Rattle.ir_values.specs.declared.int.Width.{Width}
use Rattle.ir_values.specs.declared.int.Width.TheVariants.{W1, W64}
use Rattle.ir_values.specs.declared.ty.Ty.{Ty}
use Rattle.ir_values.specs.declared.ty.Ty.TheVariants as ty
use Rattle.ir_values.specs.declared.value.Value.{Value}
use Rattle.ir_values.specs.declared.value.Value.TheVariants as value
use Rattle.ir_values.specs.Arithmetic.{modulo}
use Rattle.ir_values.specs.Int.{IntValue}
use Rattle.kept_items.specs.declared.item.Choice.{Choice}
use Rattle.kept_items.specs.declared.item.Choice.TheVariants.{One, Branch, Switch}
use Rattle.kept_items.specs.declared.item.Code.{Code}
use Rattle.kept_items.specs.declared.item.Code.TheVariants as code
use Rattle.kept_items.specs.declared.item.Item.{Item}
use Rattle.kept_items.specs.declared.target.Target.{Target}
use Rattle.kept_items.specs.declared.val.Dyn.{Dyn}
use Rattle.kept_items.specs.declared.val.Val.{Val}
use Rattle.kept_items.specs.declared.val.Val.TheVariants.{Known, Dynamic}
use Rattle.residue.specs.declared.parts.Jump.{Jump}
use Rattle.residue.specs.declared.parts.Part.{Part}
use Rattle.residue.specs.declared.parts.Tail.{Tail}
use Rattle.residue.specs.Scopes.{item_uses, items_of, jump_args, part_uses, tail_uses}
use Rattle.static_steps.specs.Configurations.{Bounds, IsValue}
use Rattle.fused_parts.specs.Nodes.{Links, Node}
use Rattle.fused_parts.specs.Parts.{after, case_jumps, choice_tail, exit_tail, jump_to, last_jump, nowhere, number_at, outcome_tail, parts_of, renamed, renamed_arg, renamed_item}
use Rattle.unroller.specs.declared.node.Outcome.{Outcome}
use Rattle.unroller.specs.declared.node.Outcome.TheVariants as outcome
use Rattle.valid_steps.specs.Items.{AreOperands, IsItem, IsOperand}
use Rattle.valid_lines.proofs.Items.{uses-fit, uses-kept}
use Rattle.valid_lines.proofs.Parts.{both-pass, flat-passes}
use Rattle.valid_lines.proofs.Tails.{tails-pass}
use Rattle.valid_residue.proofs.Lists.{passes-apart}

module _ (test : Ty × Val → Bool) where
  -- the uses of parts are those of their items and tails
  pub parts-use : (ps : List Part) → list_all (λ (i : Item). list_all test (item_uses i)) (flat_map (λ (p : Part). items_of p.lines) ps) ≡ true → list_all (λ (p : Part). list_all test (tail_uses p.tail)) ps ≡ true
      → list_all test (flat_map part_uses ps) ≡ true
  parts-use [] h k = refl
  parts-use (p ∷ ps) h k =
      let a = passes-apart (λ (i : Item). list_all test (item_uses i)) (items_of p.lines) (flat_map (λ (p : Part). items_of p.lines) ps) h in
      let b = and_parts (list_all test (tail_uses p.tail)) (list_all (λ (p : Part). list_all test (tail_uses p.tail)) ps) k in
      both-pass test (part_uses p) (flat_map part_uses ps) (both-pass test (flat_map item_uses (items_of p.lines)) (tail_uses p.tail) (flat-passes test item_uses (items_of p.lines) a.0) b.0) (parts-use ps a.1 b.1)

  -- the operands of an item
  module _ (m : Module) (t : Target) (b : Bounds) (ts : List (Option Ty)) (held : List ℕ) (dynamic : (u : Ty) (d : Dyn) → test (u, Dynamic d) ≡ true)
      (known : (u : Ty) (v : Value) → IsValue m b u v → test (u, Known v) ≡ true) (mine : List Dyn) where
    operand-passes : (u : Ty) (a : Val) → IsOperand m t b ts u a → test (u, renamed mine a) ≡ true
    operand-passes u (Known v) h = known u v h
    operand-passes u (Dynamic d) h = dynamic u (number_at mine d)

    operands-pass : (args : List (Ty × Val)) → AreOperands m t b ts args → list_all test (map (renamed_arg mine) args) ≡ true
    operands-pass [] h = refl
    operands-pass (a ∷ rest) h = and_from (test (a.0, renamed mine a.1)) (list_all test (map (renamed_arg mine) rest)) (operand-passes a.0 a.1 h.0) (operands-pass rest h.1)

    pub item-passes : (i : Item) (n : ℕ) → IsItem m t b ts held i → list_all test (item_uses (renamed_item mine n i)) ≡ true
    item-passes i n h = ap (list_all test) (uses-kept mine i n) ∙ operands-pass (item_uses i) (uses-fit mine m t b ts held i h)

  -- the uses of tails are integers
  module _ (dynamic : (u : Ty) (d : Dyn) → test (u, Dynamic d) ≡ true) (ints : (w : Width) (i : IntValue) → test (ty.Int w, Known (value.Int i)) ≡ true) (part_of : ℕ → ℕ) where
    abbrev Uses : Tail → Type 0
    Uses t = list_all test (tail_uses t) ≡ true

    one : (a : Ty × Val) → test a ≡ true → list_all test (a ∷ []) ≡ true
    one a e = and_from (test a) true e refl

    nowhere-passes : Uses nowhere
    nowhere-passes = one (ty.Int W64, Known (value.Int (record { width = W64; bits = 0 }))) (ints W64 (record { width = W64; bits = 0 }))

    cases-pass : (w : Width) (cases : List (IntValue × Jump)) → list_all test (map (λ (c : IntValue × Jump). (ty.Int w, Known (value.Int c.0))) cases) ≡ true
    cases-pass w [] = refl
    cases-pass w (c ∷ cs) = and_from (test (ty.Int w, Known (value.Int c.0))) (list_all test (map (λ (c : IntValue × Jump). (ty.Int w, Known (value.Int c.0))) cs)) (ints w c.0) (cases-pass w cs)

    choice-passes : (mine : List Dyn) (c : Choice) (links : Links) → Uses (choice_tail part_of mine c links)
    choice-passes mine One [] = nowhere-passes
    choice-passes mine One (l ∷ links) = refl
    choice-passes mine (Branch d) [] = nowhere-passes
    choice-passes mine (Branch d) (l ∷ []) = nowhere-passes
    choice-passes mine (Branch d) (l ∷ k ∷ links) = one (ty.Int W1, Dynamic (number_at mine d)) (dynamic (ty.Int W1) (number_at mine d))
    choice-passes mine (Switch d w is) links =
        and_from (test (ty.Int w, Dynamic (number_at mine d))) (list_all test (map (λ (c : IntValue × Jump). (ty.Int w, Known (value.Int c.0))) (case_jumps part_of mine is links))) (dynamic (ty.Int w) (number_at mine d)) (cases-pass w (case_jumps part_of mine is links))

    exit-passes : (shared : Option ℕ) (mine : List Dyn) (c : Code) → Uses (exit_tail shared mine c)
    exit-passes (Some n) mine c = refl
    exit-passes None mine (code.Known z) = one (ty.Int W64, Known (value.Int (modulo W64 z))) (ints W64 (modulo W64 z))
    exit-passes None mine (code.Dynamic d) = one (ty.Int W64, Dynamic (number_at mine d)) (dynamic (ty.Int W64) (number_at mine d))

    outcome-passes : (shared : Option ℕ) (mine : List Dyn) (o : Outcome) (links : Links) → Uses (outcome_tail part_of shared mine o links)
    outcome-passes shared mine (outcome.Goes i c) links = choice-passes mine c links
    outcome-passes shared mine (outcome.Exits c) links = exit-passes shared mine c

    pub tails-use : (m : Module) (nodes : List Node) (shared : Option ℕ) (flags : List Bool) → list_all (λ (p : Part). list_all test (tail_uses p.tail)) (parts_of m part_of shared nodes flags) ≡ true
    tails-use m nodes shared flags =
        tails-pass (λ t. list_all test (tail_uses t)) nowhere-passes m nodes part_of shared flags (λ i x at n. outcome-passes shared (after x n).mine x.item x.links)

-- the arguments of jumps are Dynamic
module _ (test : Val → Bool) (dynamic : (d : Dyn) → test (Dynamic d) ≡ true) (part_of : ℕ → ℕ) where
  abbrev Args : Tail → Type 0
  Args t = list_all test (jump_args t) ≡ true

  label-passes : (mine ds : List Dyn) → list_all test (map (λ d. Dynamic (number_at mine d)) ds) ≡ true
  label-passes mine [] = refl
  label-passes mine (d ∷ ds) = and_from (test (Dynamic (number_at mine d))) (list_all test (map (λ d. Dynamic (number_at mine d)) ds)) (dynamic (number_at mine d)) (label-passes mine ds)

  last-passes : (mine : List Dyn) (links : Links) → list_all test (last_jump part_of mine links).args ≡ true
  last-passes mine [] = refl
  last-passes mine (l ∷ []) = label-passes mine l.label
  last-passes mine (l ∷ k ∷ links) = last-passes mine (k ∷ links)

  cases-args : (mine : List Dyn) (is : List IntValue) (links : Links) → list_all test (flat_map (λ (j : Jump). j.args) (map (λ (c : IntValue × Jump). c.1) (case_jumps part_of mine is links))) ≡ true
  cases-args mine [] links = refl
  cases-args mine (i ∷ is) [] = refl
  cases-args mine (i ∷ is) (l ∷ links) =
      both-pass test (jump_to part_of mine l).args (flat_map (λ (j : Jump). j.args) (map (λ (c : IntValue × Jump). c.1) (case_jumps part_of mine is links))) (label-passes mine l.label) (cases-args mine is links)

  choice-args : (mine : List Dyn) (c : Choice) (links : Links) → Args (choice_tail part_of mine c links)
  choice-args mine One [] = refl
  choice-args mine One (l ∷ links) = both-pass test (jump_to part_of mine l).args [] (label-passes mine l.label) refl
  choice-args mine (Branch d) [] = refl
  choice-args mine (Branch d) (l ∷ []) = refl
  choice-args mine (Branch d) (l ∷ k ∷ links) =
      both-pass test (jump_to part_of mine l).args ((jump_to part_of mine k).args ++ []) (label-passes mine l.label) (both-pass test (jump_to part_of mine k).args [] (label-passes mine k.label) refl)
  choice-args mine (Switch d w is) links =
      both-pass test (last_jump part_of mine links).args (flat_map (λ (j : Jump). j.args) (map (λ (c : IntValue × Jump). c.1) (case_jumps part_of mine is links))) (last-passes mine links) (cases-args mine is links)

  exit-args : (shared : Option ℕ) (mine : List Dyn) (c : Code) → Args (exit_tail shared mine c)
  exit-args None mine c = refl
  exit-args (Some n) mine c = refl

  outcome-args : (shared : Option ℕ) (mine : List Dyn) (o : Outcome) (links : Links) → Args (outcome_tail part_of shared mine o links)
  outcome-args shared mine (outcome.Goes i c) links = choice-args mine c links
  outcome-args shared mine (outcome.Exits c) links = exit-args shared mine c

  pub args-pass : (m : Module) (nodes : List Node) (shared : Option ℕ) (flags : List Bool) → list_all test (flat_map (λ (p : Part). jump_args p.tail) (parts_of m part_of shared nodes flags)) ≡ true
  args-pass m nodes shared flags =
      flat-passes test (λ (p : Part). jump_args p.tail) (parts_of m part_of shared nodes flags)
      (tails-pass (λ t. list_all test (jump_args t)) refl m nodes part_of shared flags (λ i x at n. outcome-args shared (after x n).mine x.item x.links))
