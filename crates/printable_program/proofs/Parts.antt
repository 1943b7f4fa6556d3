-- The items and the tails of parts that are made of configurations whose items and cases can be printed.
use Rattle.std.proofs.Common.{◌≡◌, ℕ, Bool, true, ◌&&◌, Option, None, Some, List, [], ◌∷◌, map, flat_map, refl, sym, ap, ◌∙◌}
use Rattle.std.proofs.lemmas.Bool.{and_from, and_parts}
use Rattle.std.proofs.lemmas.List.Folds.{list_all-append}
use Rattle.std.specs.List.{list_all}
use Rattle.ir_values.specs.declared.int.Width.{Width}
use Rattle.ir_values.specs.declared.int.Width.TheVariants.{W64}
use Rattle.ir_values.specs.declared.ty.Ty.{Ty}
use Rattle.ir_values.specs.declared.ty.Ty.TheVariants as ty
use Rattle.ir_values.specs.declared.value.Value.TheVariants as value
use Rattle.ir_values.specs.Int.{IntValue}
use Rattle.kept_items.specs.declared.item.Choice.{Choice}
use Rattle.kept_items.specs.declared.item.Choice.TheVariants as choice
use Rattle.kept_items.specs.declared.item.Code.{Code}
use Rattle.kept_items.specs.declared.item.Code.TheVariants as code
use Rattle.kept_items.specs.declared.item.Item.{Item}
use Rattle.kept_items.specs.declared.item.Item.TheVariants as item
use Rattle.kept_items.specs.declared.val.Dyn.{Dyn}
use Rattle.kept_items.specs.declared.val.Val.{Val}
use Rattle.kept_items.specs.declared.val.Val.TheVariants.{Known, Dynamic}
use Rattle.path_search.specs.declared.visit.Link.{Link}
use Rattle.residue.specs.declared.parts.Jump.{Jump}
use Rattle.residue.specs.declared.parts.Part.{Part}
use Rattle.residue.specs.declared.parts.Tail.{Tail}
use Rattle.residue.specs.Scopes.{item_uses, items_of, jump_args, jumps, part_uses, tail_uses}
use Rattle.numbered_residue.proofs.Passing.{all-both, all-flat}
use Rattle.fused_parts.specs.Nodes.{Links}
use Rattle.fused_parts.specs.Parts.{case_jumps, choice_tail, exit_tail, jump_to, last_jump, number_at, outcome_tail, renamed, renamed_arg, renamed_item}
use Rattle.unroller.specs.declared.node.Outcome.{Outcome}
use Rattle.unroller.specs.declared.node.Outcome.TheVariants as outcome
use Rattle.printable_values.proofs.Integers.{modulo-prints}
use Rattle.printable_values.specs.Values.{name_prints, val_prints, value_prints}
use Rattle.printable_steps.specs.Turns.{choice_prints, item_prints, some_item_prints}
use Rattle.printable_program.proofs.Nodes.{outcome_prints}

abbrev uses_print : List (Ty × Val) → Bool
uses_print args = list_all (λ (a : Ty × Val). val_prints a.1) args

-- ---- items, by whatever numbers

module _ (mine : List Dyn) where
  renamed-prints : (a : Val) → val_prints (renamed mine a) ≡ val_prints a
  renamed-prints (Known v) = refl
  renamed-prints (Dynamic d) = refl

  args-print : (args : List (Ty × Val)) → uses_print args ≡ true → uses_print (map (renamed_arg mine) args) ≡ true
  args-print [] h = refl
  args-print (a ∷ args) h =
      let p = and_parts (val_prints a.1) (uses_print args) h in
      and_from (val_prints (renamed mine a.1)) (uses_print (map (renamed_arg mine) args)) (renamed-prints a.1 ∙ p.0) (args-print args p.1)

  pub item-prints : (i : Item) (n : ℕ) → item_prints i ≡ true → item_prints (renamed_item mine n i) ≡ true
  item-prints (item.Binary d o flags w a b) n h = args-print ((ty.Int w, a) ∷ (ty.Int w, b) ∷ []) h
  item-prints (item.Icmp d o w a b) n h = args-print ((ty.Int w, a) ∷ (ty.Int w, b) ∷ []) h
  item-prints (item.Convert d o w a to) n h = args-print ((ty.Int w, a) ∷ []) h
  item-prints (item.Select d w c a b) n h = args-print (item_uses (item.Select d w c a b)) h
  item-prints (item.Read d v) n h = h
  item-prints (item.Equal d v u) n h = h
  item-prints (item.Operation name args) n h =
      let p = and_parts (name_prints (item.Operation name args)) (uses_print args) h in
      and_from (name_prints (item.Operation name args)) (uses_print (map (renamed_arg mine) args)) p.0 (args-print args p.1)
  item-prints (item.Output c args) n h = args-print args h

-- ---- tails

abbrev pub jump_prints : Jump → Bool
jump_prints j = list_all val_prints j.args

abbrev pub tail_prints : Tail → Bool
tail_prints t = uses_print (tail_uses t) && list_all jump_prints (jumps t)

module _ (part_of : ℕ → ℕ) (mine : List Dyn) where
  -- a jump brings Dynamic values alone
  jump-prints : (l : Link (List Dyn)) → jump_prints (jump_to part_of mine l) ≡ true
  jump-prints l = all l.label
    where
      all : (ds : List Dyn) → list_all val_prints (map (λ d. Dynamic (number_at mine d)) ds) ≡ true
      all [] = refl
      all (d ∷ ds) = all ds

  last-prints : (links : Links) → jump_prints (last_jump part_of mine links) ≡ true
  last-prints [] = refl
  last-prints (l ∷ []) = jump-prints l
  last-prints (l ∷ k ∷ links) = last-prints (k ∷ links)

  cases-jump : (is : List IntValue) (links : Links) → list_all jump_prints (map (λ (c : IntValue × Jump). c.1) (case_jumps part_of mine is links)) ≡ true
  cases-jump [] links = refl
  cases-jump (i ∷ is) [] = refl
  cases-jump (i ∷ is) (l ∷ links) = and_from (jump_prints (jump_to part_of mine l)) (list_all jump_prints (map (λ (c : IntValue × Jump). c.1) (case_jumps part_of mine is links))) (jump-prints l) (cases-jump is links)

  cases-print : (w : Width) (is : List IntValue) (links : Links) → list_all (λ i. value_prints (value.Int i)) is ≡ true → uses_print (map (λ (c : IntValue × Jump). (ty.Int w, Known (value.Int c.0))) (case_jumps part_of mine is links)) ≡ true
  cases-print w [] links h = refl
  cases-print w (i ∷ is) [] h = refl
  cases-print w (i ∷ is) (l ∷ links) h =
      let p = and_parts (value_prints (value.Int i)) (list_all (λ i. value_prints (value.Int i)) is) h in
      and_from (value_prints (value.Int i)) (uses_print (map (λ (c : IntValue × Jump). (ty.Int w, Known (value.Int c.0))) (case_jumps part_of mine is links))) p.0 (cases-print w is links p.1)

  choice-prints : (c : Choice) (links : Links) → choice_prints c ≡ true → tail_prints (choice_tail part_of mine c links) ≡ true
  choice-prints choice.One [] h = refl
  choice-prints choice.One (l ∷ links) h = ap (λ b. b && true) (jump-prints l)
  choice-prints (choice.Branch d) [] h = refl
  choice-prints (choice.Branch d) (l ∷ []) h = refl
  choice-prints (choice.Branch d) (l ∷ k ∷ links) h = and_from (jump_prints (jump_to part_of mine l)) (jump_prints (jump_to part_of mine k) && true) (jump-prints l) (ap (λ b. b && true) (jump-prints k))
  choice-prints (choice.Switch d w is) links h =
      and_from (uses_print (map (λ (c : IntValue × Jump). (ty.Int w, Known (value.Int c.0))) (case_jumps part_of mine is links))) (list_all jump_prints (last_jump part_of mine links ∷ map (λ (c : IntValue × Jump). c.1) (case_jumps part_of mine is links)))
      (cases-print w is links h)
      (and_from (jump_prints (last_jump part_of mine links)) (list_all jump_prints (map (λ (c : IntValue × Jump). c.1) (case_jumps part_of mine is links))) (last-prints links) (cases-jump is links))

  exit-prints : (shared : Option ℕ) (c : Code) → tail_prints (exit_tail shared mine c) ≡ true
  exit-prints None (code.Known z) = ap (λ b. (b && true) && true) (modulo-prints W64 z)
  exit-prints None (code.Dynamic d) = refl
  exit-prints (Some n) c = refl

  pub outcome-tail-prints : (shared : Option ℕ) (o : Outcome) (links : Links) → outcome_prints o ≡ true → tail_prints (outcome_tail part_of shared mine o links) ≡ true
  outcome-tail-prints shared (outcome.Goes i c) links h = choice-prints c links (and_parts (some_item_prints i) (choice_prints c) h).1
  outcome-tail-prints shared (outcome.Exits c) links h = exit-prints shared c

-- ---- the values of parts

-- of the items and of the tails
pub uses-print : (parts : List Part) → list_all item_prints (flat_map (λ (p : Part). items_of p.lines) parts) ≡ true → list_all (λ (p : Part). tail_prints p.tail) parts ≡ true → uses_print (flat_map part_uses parts) ≡ true
uses-print [] h g = refl
uses-print (p ∷ parts) h g =
    let a = and_parts (list_all item_prints (items_of p.lines)) (list_all item_prints (flat_map (λ (p : Part). items_of p.lines) parts)) (sym (list_all-append item_prints (items_of p.lines) (flat_map (λ (p : Part). items_of p.lines) parts)) ∙ h) in
    let b = and_parts (tail_prints p.tail) (list_all (λ (p : Part). tail_prints p.tail) parts) g in
    all-both (λ (a : Ty × Val). val_prints a.1) (part_uses p) (flat_map part_uses parts)
    (all-both (λ (a : Ty × Val). val_prints a.1) (flat_map item_uses (items_of p.lines)) (tail_uses p.tail)
    (all-flat (λ (a : Ty × Val). val_prints a.1) item_uses (items_of p.lines) (values (items_of p.lines) a.0)) (and_parts (uses_print (tail_uses p.tail)) (list_all jump_prints (jumps p.tail)) b.0).0)
    (uses-print parts a.1 b.1)
  where
    values : (xs : List Item) → list_all item_prints xs ≡ true → list_all (λ x. uses_print (item_uses x)) xs ≡ true
    values [] h = refl
    values (x ∷ xs) h =
        let a = and_parts (item_prints x) (list_all item_prints xs) h in
        and_from (uses_print (item_uses x)) (list_all (λ x. uses_print (item_uses x)) xs) (and_parts (name_prints x) (uses_print (item_uses x)) a.0).1 (values xs a.1)

-- and of the jumps
pub arguments-print : (parts : List Part) → list_all (λ (p : Part). tail_prints p.tail) parts ≡ true → list_all val_prints (flat_map (λ (p : Part). jump_args p.tail) parts) ≡ true
arguments-print [] h = refl
arguments-print (p ∷ parts) h =
    let b = and_parts (tail_prints p.tail) (list_all (λ (p : Part). tail_prints p.tail) parts) h in
    all-both val_prints (jump_args p.tail) (flat_map (λ (p : Part). jump_args p.tail) parts)
    (all-flat val_prints (λ (j : Jump). j.args) (jumps p.tail) (and_parts (uses_print (tail_uses p.tail)) (list_all jump_prints (jumps p.tail)) b.0).1) (arguments-print parts b.1)
