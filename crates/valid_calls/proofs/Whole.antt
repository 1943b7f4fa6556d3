-- The operations of the whole program.
use Rattle.std.proofs.Common.{◌≡◌, ℕ, ◌+◌, ◌*◌, ◌^◌, ◌<◌, ◌≤◌, Bool, true, false, Some, List, length, slice_get, refl, sym, ap, ◌∙◌, subst}
use Rattle.std.proofs.lemmas.Bool.{and_from, lt-ltb}
use Rattle.std.specs.List.{list_all}
use Rattle.std.specs.Prelude.{◌&&◌, ◌||◌, nat_lt, not}
use Rattle.ir_module.specs.Numbered.{are_distinct, are_few, global_names}
use Rattle.ir_values.specs.declared.ty.Ty.{Ty}
use Rattle.ir_values.specs.declared.ty.Ty.TheVariants as ty
use Rattle.ir_values.specs.Calls.{class_of}
use Rattle.ir_values.specs.Types.{signature}
use Rattle.kept_items.specs.declared.item.Item.{Item}
use Rattle.kept_items.specs.declared.item.Item.TheVariants as item
use Rattle.kept_items.specs.declared.val.Dyn.{Dyn}
use Rattle.kept_items.specs.declared.val.Val.{Val}
use Rattle.residue.specs.declared.parts.Residue.{Residue}
use Rattle.residue.specs.Functions.{all_items, calls_of, calls_of_residue, is_named}
use Rattle.residue.specs.Printed.{names_of}
use Rattle.residue.specs.Scopes.{gives_of, item_uses, written}
use Rattle.residue.specs.Valid.{all_alike, calls_agree, is_instruction, number_small, numbers_small, parts_and_lines}
use Rattle.static_steps.specs.Configurations.{bounds}
use Rattle.fused_parts.specs.Nodes.{Node, item_of, joins}
use Rattle.fused_parts.specs.Parts.{renamed_item}
use Rattle.fused_parts.specs.Ranks.{part_number}
use Rattle.issued_steps.specs.Laws.{StepsIssueCalls}
use Rattle.lowered_program.specs.Residues.{irreversible_of, residue_of, shared_exit}
use Rattle.unroller.specs.Programs.{Program}
use Rattle.valid_lines.specs.Laws.{ItemsAreValid}
use Rattle.valid_lines.proofs.Items.{types-kept}
use Rattle.valid_lines.proofs.Parts.{parts-pass}
use Rattle.valid_steps.specs.Items.{types_of}
use Rattle.valid_steps.specs.Laws.{StepsKeepConfigurations}
use Rattle.valid_steps.specs.Types.{dynamic_types}
use Rattle.valid_residue.specs.Programs.{IsLowered, IsSmall}
use Rattle.valid_residue.proofs.Counts.{lines-hold, names-few, names-hold, parts-few}
use Rattle.valid_residue.proofs.Names.{distinct-names}
use Rattle.valid_residue.proofs.Nodes.{IsKnown, item-at}
use Rattle.valid_residue.proofs.Operands.{numbers-fit}
use Rattle.valid_residue.proofs.Permits.{lines-valid}
use Rattle.valid_residue.proofs.Program.{known-of}
use Rattle.valid_calls.specs.Laws.{is_measurement, measurement_named}
use Rattle.valid_calls.proofs.Agree.{IsCallOf, all-are-alike, item-calls}
use Rattle.valid_calls.proofs.Issued.{issued-at, orders-of}
use Rattle.valid_calls.proofs.Items.{Each, each-flat, parts-have}
use Rattle.valid_calls.proofs.Named.{measurement-irreversible, named-so}
use Rattle.valid_calls.proofs.Small.{item-few}
use Rattle.valid_calls.proofs.Sources.{Source, source}

implied : (a b : Bool) → (a ≡ true → b ≡ true) → (not a || b) ≡ true
implied true b h = h refl
implied false b h = refl

module _ (p : Program) (nodes : List Node) (r : Residue) (h : IsLowered p nodes r) (steps : StepsKeepConfigurations) (issues : StepsIssueCalls) where
  abbrev made : Residue
  made = residue_of p h.found_entry.function nodes

  distinct : are_distinct (global_names p.m) ≡ true
  distinct = distinct-names p.m h.faultless.numbered

  module _ (j : ℕ) (x : Node) (at : slice_get nodes j ≡ Some x) (i : Item) (is : item_of x.item ≡ Some i) where
    known : IsKnown p nodes x
    known = known-of p nodes r steps h j x at

    -- what issues an operation
    source-of : (name : List ℕ) (args : List (Ty × Val)) → i ≡ item.Operation name args → Source p.m name (types_of args)
    source-of name args e =
        let q = issued-at p nodes x name args known (orders-of p nodes r issues h j x at) (is ∙ ap Some e) in source p.m name (types_of args) q.0 q.1

    node-calls : (mine : List Dyn) (n : ℕ) → Each (IsCallOf p.m) (calls_of (renamed_item mine n i))
    node-calls mine n =
        let f = item-at p nodes x i known is in item-calls p.m p.target (bounds p.qubits p.results f.to.node) (dynamic_types p.m x.node) f.to.node.held mine i n f.fits source-of

    node-few : IsSmall p nodes r → (mine : List Dyn) (n : ℕ) → are_few (item_uses (renamed_item mine n i)) ≡ true
    node-few s mine n =
        let f = item-at p nodes x i known is in
        item-few p.m s.parameters p.target (bounds p.qubits p.results f.to.node) (dynamic_types p.m x.node) f.to.node.held i mine n f.fits source-of

    operation-named : (mine : List Dyn) (name : List ℕ) (args : List (Ty × Val)) → i ≡ item.Operation name args
        → (not (is_measurement (class_of name (signature ty.Void (types_of args)))) || is_named (irreversible_of p.m) name) ≡ true
    operation-named mine name args e =
        let q = issued-at p nodes x name args known (orders-of p nodes r issues h j x at) (is ∙ ap Some e) in
        implied (is_measurement (class_of name (signature ty.Void (types_of args)))) (is_named (irreversible_of p.m) name) (λ z.
        named-so p.m distinct name (types_of args) q.0 q.1 ∙ measurement-irreversible p.m distinct name (types_of args) q.0 q.1 z)

    node-named : (mine : List Dyn) (n : ℕ) → measurement_named (irreversible_of p.m) (renamed_item mine n i) ≡ true
    node-named mine n = by-item i refl
      where
        by-item : (q : Item) → i ≡ q → measurement_named (irreversible_of p.m) (renamed_item mine n q) ≡ true
        by-item (item.Operation name args) e =
            ap (λ us. not (is_measurement (class_of name (signature ty.Void us))) || is_named (irreversible_of p.m) name) (types-kept mine args) ∙ operation-named mine name args e
        by-item (item.Binary d o flags w a b) e = refl
        by-item (item.Icmp d o w a b) e = refl
        by-item (item.Convert d o w a to) e = refl
        by-item (item.Select d w c a b) e = refl
        by-item (item.Read d v) e = refl
        by-item (item.Equal d v u) e = refl
        by-item (item.Output c args) e = refl

  -- ---- the whole program

  all-calls : Each (IsCallOf p.m) (calls_of_residue made)
  all-calls =
      each-flat (IsCallOf p.m) calls_of (all_items made)
      (parts-have (λ y. Each (IsCallOf p.m) (calls_of y)) p.m nodes (part_number (joins nodes)) (shared_exit p.target nodes) (joins nodes) (λ j x at i is mine n. node-calls j x at i is mine n))

  pub calls-agree : ItemsAreValid → calls_agree r ≡ true
  calls-agree law =
      and_from (list_all is_instruction (all_items r)) (all_alike (calls_of_residue r)) (lines-valid p nodes r h steps law).named
      (subst (λ r. all_alike (calls_of_residue r) ≡ true) (sym h.made) (all-are-alike p.m distinct (calls_of_residue made) all-calls))

  pub measurements-named : list_all (measurement_named r.irreversible) (all_items r) ≡ true
  measurements-named =
      subst (λ (r : Residue). list_all (measurement_named r.irreversible) (all_items r) ≡ true) (sym h.made)
      (parts-pass (measurement_named (irreversible_of p.m)) p.m nodes (part_number (joins nodes)) (shared_exit p.target nodes) (joins nodes) (λ j x at i is mine n. node-named j x at i is mine n))

  few-lines : IsSmall p nodes r → parts_and_lines r.parts < 2 ^ 31
  few-lines s =
      lines-hold (length nodes) (parts_and_lines r.parts)
      (subst (λ (r : Residue). parts_and_lines r.parts ≤ 4 * length nodes + 2) (sym h.made) (parts-few p.m nodes (part_number (joins nodes)) (shared_exit p.target nodes) (joins nodes))) s.configurations

  few-numbers : IsSmall p nodes r → list_all (number_small r.own_qubits r.own_results) (written r) ≡ true
  few-numbers s =
      subst (λ (r : Residue). list_all (number_small r.own_qubits r.own_results) (written r) ≡ true) (sym h.made)
      (numbers-fit p nodes (part_number (joins nodes)) (shared_exit p.target nodes) (joins nodes) (known-of p nodes r steps h) made refl refl refl refl
      (subst (λ (r : Residue). r.all_qubits < 2 ^ 64) h.made s.qubits) (subst (λ (r : Residue). r.all_results < 2 ^ 64) h.made s.results))

  few-arguments : IsSmall p nodes r → list_all (λ (x : Item). are_few (item_uses x)) (all_items r) ≡ true
  few-arguments s =
      subst (λ (r : Residue). list_all (λ (x : Item). are_few (item_uses x)) (all_items r) ≡ true) (sym h.made)
      (parts-pass (λ (x : Item). are_few (item_uses x)) p.m nodes (part_number (joins nodes)) (shared_exit p.target nodes) (joins nodes) (λ j x at i is mine n. node-few j x at i is s mine n))

  pub numbers-small : IsSmall p nodes r → numbers_small r ≡ true
  numbers-small s =
      let lines = few-lines s in
      and_from (list_all (number_small r.own_qubits r.own_results) (written r))
      (nat_lt (length (names_of r.parts)) (2 ^ 64) && (nat_lt (parts_and_lines r.parts) (2 ^ 31) && list_all (λ (x : Item). are_few (item_uses x)) (all_items r))) (few-numbers s)
      (and_from (nat_lt (length (names_of r.parts)) (2 ^ 64)) (nat_lt (parts_and_lines r.parts) (2 ^ 31) && list_all (λ (x : Item). are_few (item_uses x)) (all_items r))
      (lt-ltb (length (names_of r.parts)) (2 ^ 64) (names-hold (length (names_of r.parts)) (length (gives_of r)) (parts_and_lines r.parts) (names-few r.parts) s.values lines))
      (and_from (nat_lt (parts_and_lines r.parts) (2 ^ 31)) (list_all (λ (x : Item). are_few (item_uses x)) (all_items r)) (lt-ltb (parts_and_lines r.parts) (2 ^ 31) lines) (few-arguments s)))
