-- Handles and labels of a lowered program are in range, and the numbers of handles are small.
use Rattle.std.proofs.Common.{◌≡◌, ℕ, zero, suc, ◌+◌, ◌^◌, ◌<◌, ◌≤◌, Bool, true, false, Option, Some, List, [], ◌∷◌, ◌++◌, length, map, flat_map, slice_get, refl, ◌∙◌, subst, arith}
use Rattle.std.proofs.lemmas.Bool.{lt-ltb, ltb-false, ltb-true}
use Rattle.std.proofs.lemmas.List.Folds.{list_all-map}
use Rattle.std.specs.List.{list_all}
use Rattle.std.specs.Prelude.{if◌then◌else◌, nat_lt}
use Rattle.ir_values.specs.declared.int.Width.{Width}
use Rattle.ir_values.specs.declared.ty.Ty.{Ty}
use Rattle.ir_values.specs.declared.ty.Ty.TheVariants as ty
use Rattle.ir_values.specs.declared.value.Value.{Value}
use Rattle.ir_values.specs.declared.value.Value.TheVariants as value
use Rattle.ir_values.specs.Int.{IntValue}
use Rattle.kept_items.specs.declared.item.Item.{Item}
use Rattle.kept_items.specs.declared.val.Dyn.{Dyn}
use Rattle.kept_items.specs.declared.val.Val.{Val}
use Rattle.kept_items.specs.declared.val.Val.TheVariants.{Known, Dynamic}
use Rattle.residue.specs.declared.parts.Part.{Part}
use Rattle.residue.specs.declared.parts.Residue.{Residue}
use Rattle.residue.specs.Scopes.{item_uses, jump_args, part_uses}
use Rattle.residue.specs.Valid.{handle_below, label_below, number_small}
use Rattle.static_steps.specs.declared.config.Config.{Config}
use Rattle.static_steps.specs.Configurations.{Bounds, IsValue, bounds}
use Rattle.fused_parts.specs.Nodes.{Node}
use Rattle.fused_parts.specs.Parts.{parts_of}
use Rattle.lowered_program.specs.Residues.{greater, greatest}
use Rattle.unroller.specs.Programs.{Program}
use Rattle.valid_steps.specs.Types.{dynamic_types}
use Rattle.valid_lines.proofs.Parts.{both-pass, parts-pass}
use Rattle.valid_residue.proofs.Nodes.{IsKnown, item-at}
use Rattle.valid_residue.proofs.Uses.{args-pass, item-passes, parts-use, tails-use}

-- ---- the greatest of a number that each configuration has

first-greater : (a b : ℕ) → a ≤ greater a b
first-greater a b = by-test (nat_lt a b) refl
  where
    by-test : (q : Bool) → nat_lt a b ≡ q → a ≤ (if q then b else a)
    by-test true e = let lt = ltb-true a b e in omega (arith, lt)
    by-test false e = omega arith

second-greater : (a b : ℕ) → b ≤ greater a b
second-greater a b = by-test (nat_lt a b) refl
  where
    by-test : (q : Bool) → nat_lt a b ≡ q → b ≤ (if q then b else a)
    by-test true e = omega arith
    by-test false e = let le = ltb-false a b e in omega (arith, le)

pub at-most-greatest : (count : Config → ℕ) (nodes : List Node) (i : ℕ) (x : Node) → slice_get nodes i ≡ Some x → count x.node ≤ greatest count nodes
at-most-greatest count [] i x e = cc
at-most-greatest count (y ∷ nodes) zero x e =
    let z : y ≡ x = cc in subst (λ (w : Node). count w.node ≤ greatest count (y ∷ nodes)) z (first-greater (count y.node) (greatest count nodes))
at-most-greatest count (y ∷ nodes) (suc i) x e =
    let a = at-most-greatest count nodes i x e in
    let b = second-greater (count y.node) (greatest count nodes) in
    omega (arith, a, b)

-- ---- a test of values by their types that the values of configurations pass

module _ (p : Program) (nodes : List Node) (part_of : ℕ → ℕ) (shared : Option ℕ) (flags : List Bool) (are : (i : ℕ) (x : Node) → slice_get nodes i ≡ Some x → IsKnown p nodes x) where
  abbrev made : List Part
  made = parts_of p.m part_of shared nodes flags

  module _ (test : Ty × Val → Bool) (dynamic : (u : Ty) (d : Dyn) → test (u, Dynamic d) ≡ true) (ints : (w : Width) (i : IntValue) → test (ty.Int w, Known (value.Int i)) ≡ true)
      (known : (i : ℕ) (x : Node) → slice_get nodes i ≡ Some x → (u : Ty) (v : Value) → IsValue p.m (bounds p.qubits p.results x.node) u v → test (u, Known v) ≡ true) where
    pub uses-pass : list_all test (flat_map part_uses made) ≡ true
    uses-pass =
        parts-use test made
        (parts-pass (λ (i : Item). list_all test (item_uses i)) p.m nodes part_of shared flags (λ j x at i is mine n.
        let h = item-at p nodes x i (are j x at) is in
        item-passes test p.m p.target (bounds p.qubits p.results h.to.node) (dynamic_types p.m x.node) h.to.node.held dynamic (known h.place h.to h.there) mine i n h.fits))
        (tails-use test dynamic ints part_of p.m nodes shared flags)

  module _ (test : Val → Bool) (dynamic : (d : Dyn) → test (Dynamic d) ≡ true) (ints : (i : IntValue) → test (Known (value.Int i)) ≡ true)
      (known : (i : ℕ) (x : Node) → slice_get nodes i ≡ Some x → (u : Ty) (v : Value) → IsValue p.m (bounds p.qubits p.results x.node) u v → test (Known v) ≡ true) where
    pub written-pass : list_all test (map (λ (a : Ty × Val). a.1) (flat_map part_uses made) ++ flat_map (λ (q : Part). jump_args q.tail) made) ≡ true
    written-pass =
        both-pass test (map (λ (a : Ty × Val). a.1) (flat_map part_uses made)) (flat_map (λ (q : Part). jump_args q.tail) made)
        (list_all-map test (λ (a : Ty × Val). a.1) (flat_map part_uses made) ∙ uses-pass (λ a. test a.1) (λ u d. dynamic d) (λ w i. ints i) known)
        (args-pass test dynamic part_of p.m nodes shared flags)

  -- ---- labels

  label-value : (b : Bounds) (u : Ty) (v : Value) → IsValue p.m b u v → label_below (length p.m.globals) (Known v) ≡ true
  label-value b ty.Text (value.Label g) h = lt-ltb g.0 (length p.m.globals) h
  label-value b u (value.Label g) h = absurd h
  label-value b u v h = refl

  pub labels-fit : list_all (label_below (length p.m.globals)) (map (λ (a : Ty × Val). a.1) (flat_map part_uses made) ++ flat_map (λ (q : Part). jump_args q.tail) made) ≡ true
  labels-fit = written-pass (label_below (length p.m.globals)) (λ d. refl) (λ i. refl) (λ i x at u v h. label-value (bounds p.qubits p.results x.node) u v h)

  -- ---- handles

  module _ (r : Residue) (own_qubits : r.own_qubits ≡ p.qubits) (own_results : r.own_results ≡ p.results) (all_qubits : r.all_qubits ≡ p.qubits + greatest (λ g. g.allocated) nodes)
      (all_results : r.all_results ≡ p.results + greatest (λ g. g.returned) nodes) where
    module _ (i : ℕ) (x : Node) (at : slice_get nodes i ≡ Some x) where
      abbrev here : Bounds
      here = bounds p.qubits p.results x.node

      allocation-below : (j : ℕ) → j < x.node.allocated → r.own_qubits + j < r.all_qubits
      allocation-below j lt = let le = at-most-greatest (λ g. g.allocated) nodes i x at in omega (arith, lt, le, own_qubits, all_qubits)

      returned-below : (j : ℕ) → j < x.node.returned → r.own_results + j < r.all_results
      returned-below j lt = let le = at-most-greatest (λ g. g.returned) nodes i x at in omega (arith, lt, le, own_results, all_results)

      handle-value : (u : Ty) (v : Value) → IsValue p.m here u v → handle_below r (u, Known v) ≡ true
      handle-value ty.Qubit (value.Id n) h = lt-ltb n r.own_qubits (omega (arith, h, own_qubits))
      handle-value ty.Qubit (value.Alloc j) h = lt-ltb (r.own_qubits + j) r.all_qubits (allocation-below j h)
      handle-value ty.Res (value.Id n) h = lt-ltb n r.own_results (omega (arith, h, own_results))
      handle-value ty.Res (value.Measured j) h = lt-ltb (r.own_results + j) r.all_results (returned-below j h)
      handle-value u v h = refl

      module _ (few_qubits : r.all_qubits < 2 ^ 64) (few_results : r.all_results < 2 ^ 64) where
        pub small-value : (u : Ty) (v : Value) → IsValue p.m here u v → number_small r.own_qubits r.own_results (Known v) ≡ true
        small-value ty.Qubit (value.Alloc j) h = let lt = allocation-below j h in lt-ltb (r.own_qubits + j) (2 ^ 64) (omega (arith, lt, few_qubits))
        small-value ty.Res (value.Measured j) h = let lt = returned-below j h in lt-ltb (r.own_results + j) (2 ^ 64) (omega (arith, lt, few_results))
        small-value u (value.Alloc j) h = absurd h
        small-value u (value.Measured j) h = absurd h
        small-value u v h = refl

    handle-dynamic : (u : Ty) (d : Dyn) → handle_below r (u, Dynamic d) ≡ true
    handle-dynamic ty.Qubit d = refl
    handle-dynamic ty.Res d = refl
    handle-dynamic u d = refl

    pub handles-fit : list_all (handle_below r) (flat_map part_uses made) ≡ true
    handles-fit = uses-pass (handle_below r) handle-dynamic (λ w i. refl) (λ i x at u v h. handle-value i x at u v h)

    pub numbers-fit : r.all_qubits < 2 ^ 64 → r.all_results < 2 ^ 64
        → list_all (number_small r.own_qubits r.own_results) (map (λ (a : Ty × Val). a.1) (flat_map part_uses made) ++ flat_map (λ (q : Part). jump_args q.tail) made) ≡ true
    numbers-fit a b = written-pass (number_small r.own_qubits r.own_results) (λ d. refl) (λ i. refl) (λ i x at u v h. small-value i x at a b u v h)
