-- Good parts keep the rules of a valid lowered program.
use Rattle.std.proofs.Common.{◌≡◌, ℕ, Bool, true, false, Option, List, [], ◌∷◌, flat_map, length, map, refl, sym, ap, ◌∙◌, subst}
use Rattle.std.proofs.lemmas.Bool.{and_from, and_parts, lt-ltb, not-true, or_from}
use Rattle.std.proofs.lemmas.List.Folds.{list_all-append, list_all-map}
use Rattle.std.specs.List.{list_all, list_any}
use Rattle.std.specs.Prelude.{◌==◌, ◌&&◌, nat_lt, not, slice_get}
use Rattle.ir_values.specs.declared.int.Width.{Width}
use Rattle.ir_values.specs.declared.int.Width.TheVariants.{W1, W64}
use Rattle.ir_values.specs.declared.ty.Ty.{Ty}
use Rattle.ir_values.specs.declared.ty.Ty.TheVariants as ty
use Rattle.ir_values.specs.declared.value.Value.TheVariants as value
use Rattle.ir_values.specs.Int.{IntValue}
use Rattle.ir_module.specs.Numbered.{are_few}
use Rattle.kept_items.specs.declared.item.Item.{Item}
use Rattle.kept_items.specs.declared.val.Dyn.{Dyn}
use Rattle.kept_items.specs.declared.val.Val.{Val}
use Rattle.kept_items.specs.declared.val.Val.TheVariants.{Known, Dynamic}
use Rattle.residue.specs.declared.parts.Jump.{Jump}
use Rattle.residue.specs.declared.parts.Part.{Part}
use Rattle.residue.specs.declared.parts.Residue.{Residue}
use Rattle.residue.specs.declared.parts.Tail.{Tail}
use Rattle.residue.specs.declared.parts.Tail.TheVariants as tail
use Rattle.residue.specs.Functions.{all_items}
use Rattle.residue.specs.Scopes.{gives_of, item_uses, items_of, jump_args, jumps, param_gives, part_gives, part_uses, tail_uses, uses_of, written}
use Rattle.residue.specs.Valid.{all_agree, all_differ, args_fit, begins, constants_compared, fits_part, has_start, is_constant_result, is_within, item_compares, items_within, jumps_fit, label_below, labels_below, leads_on, part_within, tail_compares, tail_within, val_has, well_scoped, well_typed}
use Rattle.fused_parts.specs.Nodes.{Node, joins}
use Rattle.fused_parts.specs.Ranks.{part_number}
use Rattle.lowered_runs.proofs.Lookups.{within}
use Rattle.unroller.specs.Programs.{Program}
use Rattle.valid_lines.specs.Laws.{AreValid, ItemsAreValid}
use Rattle.valid_lines.proofs.Parts.{both-pass}
use Rattle.valid_parts.specs.Laws.{IsMadeFrom}
use Rattle.scoped_parts.proofs.Good.{JumpGood, JumpsGood, PartGood, PartsGood, TailGood, all_have}
use Rattle.valid_parts.proofs.Made.{good, row}
use Rattle.scoped_parts.proofs.Rows.{row-differs}
use Rattle.valid_parts.proofs.Scopes.{AllIncluded, Includes, all-included, args-kept, is-within, items-within, parts-have, uses-within}

-- ---- tests of all of a list

none-passes : {A : Type 0} (test : A → Bool) (xs : List A) → list_all (λ x. not (test x)) xs ≡ true → list_any test xs ≡ false
none-passes test [] h = refl
none-passes test (x ∷ xs) h =
    let p = and_parts (not (test x)) (list_all (λ x. not (test x)) xs) h in or_from (test x) (list_any test xs) (not-true (test x) p.0) (none-passes test xs p.1)

module _ (all : List Part) where
  -- a test that good parts pass, with their scopes among the values
  parts-pass : (more : List (ℕ × Width)) (test : Part → Bool) → ((p : Part) → PartGood all p → Includes (part_gives p) more → test p ≡ true)
      → (ps : List Part) → PartsGood all ps → AllIncluded more ps → list_all test ps ≡ true
  parts-pass more test h [] g i = refl
  parts-pass more test h (p ∷ ps) g i = and_from (test p) (list_all test ps) (h p g.0 i.0) (parts-pass more test h ps g.1 i.1)

  -- a test that good jumps pass
  jumps-pass : (scope : List (ℕ × Width)) (test : Jump → Bool) → ((j : Jump) → JumpGood all scope j → test j ≡ true) → (js : List Jump) → JumpsGood all scope js → list_all test js ≡ true
  jumps-pass scope test h [] g = refl
  jumps-pass scope test h (j ∷ js) g = and_from (test j) (list_all test js) (h j g.0) (jumps-pass scope test h js g.1)

  -- ---- a test of integers that are known or in the scope

  module _ (scope : List (ℕ × Width)) (test : Val → Bool) (passes : (w : Width) (a : Val) → val_has scope (ty.Int w) a ≡ true → test a ≡ true) where
    args-pass : (params : List (Dyn × Width)) (args : List Val) → args_fit scope params args ≡ true → list_all test args ≡ true
    args-pass [] [] h = refl
    args-pass [] (a ∷ args) h = cc
    args-pass (x ∷ params) [] h = cc
    args-pass (x ∷ params) (a ∷ args) h =
        let p = and_parts (val_has scope (ty.Int x.1) a) (args_fit scope params args) h in and_from (test a) (list_all test args) (passes x.1 a p.0) (args-pass params args p.1)

    jump-args-pass : (js : List Jump) → JumpsGood all scope js → list_all test (flat_map (λ (j : Jump). j.args) js) ≡ true
    jump-args-pass [] h = refl
    jump-args-pass (j ∷ js) h = both-pass test j.args (flat_map (λ (j : Jump). j.args) js) (args-pass h.0.to.params j.args h.0.fit) (jump-args-pass js h.1)

    abbrev uses_pass : List (Ty × Val) → Bool
    uses_pass args = list_all (λ (a : Ty × Val). test a.1) args

    use-passes : (w : Width) (a : Val) (rest : List (Ty × Val)) → all_have scope ((ty.Int w, a) ∷ rest) ≡ true → (all_have scope rest ≡ true → uses_pass rest ≡ true) → uses_pass ((ty.Int w, a) ∷ rest) ≡ true
    use-passes w a rest h k = let p = and_parts (val_has scope (ty.Int w) a) (all_have scope rest) h in and_from (test a) (uses_pass rest) (passes w a p.0) (k p.1)

    abbrev case_uses : Width → List (IntValue × Jump) → List (Ty × Val)
    case_uses w cases = map (λ (c : IntValue × Jump). (ty.Int w, Known (value.Int c.0))) cases

    cases-pass : (w : Width) (cases : List (IntValue × Jump)) → all_have scope (case_uses w cases) ≡ true → uses_pass (case_uses w cases) ≡ true
    cases-pass w [] h = refl
    cases-pass w (c ∷ cases) h = use-passes w (Known (value.Int c.0)) (case_uses w cases) h (cases-pass w cases)

    -- what a tail uses are integers
    tail-uses-pass : (t : Tail) → all_have scope (tail_uses t) ≡ true → list_all (λ (a : Ty × Val). test a.1) (tail_uses t) ≡ true
    tail-uses-pass (tail.Jump j) h = refl
    tail-uses-pass (tail.Branch a j i) h = use-passes W1 a [] h (λ k. refl)
    tail-uses-pass (tail.Switch w a j cases) h = use-passes w a (case_uses w cases) h (cases-pass w cases)
    tail-uses-pass (tail.Return a) h = use-passes W64 a [] h (λ k. refl)

    tail-passes : (t : Tail) → TailGood all scope t → (list_all (λ (a : Ty × Val). test a.1) (tail_uses t) ≡ true) × (list_all test (jump_args t) ≡ true)
    tail-passes t g = (tail-uses-pass t g.uses, jump-args-pass (jumps t) g.leads)

  -- ---- one part

  part-stays : (p : Part) → PartGood all p → part_within p ≡ true
  part-stays p g =
      and_from (items_within (param_gives p) (items_of p.lines)) (tail_within (part_gives p) p.tail) (items-within (param_gives p) (items_of p.lines) g.0)
      (and_from (list_all (λ (a : Ty × Val). is_within (part_gives p) a.1) (tail_uses p.tail)) (list_all (is_within (part_gives p)) (jump_args p.tail))
      (uses-within (part_gives p) (tail_uses p.tail) g.1.uses)
      (jump-args-pass (part_gives p) (is_within (part_gives p)) (λ w a h. is-within (part_gives p) (ty.Int w) a h) (jumps p.tail) g.1.leads))

  jump-leads : (scope : List (ℕ × Width)) (j : Jump) → JumpGood all scope j → leads_on (length all) j ≡ true
  jump-leads scope j g = and_from (nat_lt 0 j.to) (nat_lt j.to (length all)) (lt-ltb 0 j.to g.later) (lt-ltb j.to (length all) (within all j.to g.to g.is))

  jump-fits : (scope more : List (ℕ × Width)) → Includes scope more → (j : Jump) → JumpGood all scope j → fits_part more (slice_get all j.to) j.args ≡ true
  jump-fits scope more i j g = ap (λ o. fits_part more o j.args) g.is ∙ args-kept scope more i g.to.params j.args g.fit

-- an integer is no constant result
plain-integer : (scope : List (ℕ × Width)) (w : Width) (a : Val) → val_has scope (ty.Int w) a ≡ true → not (is_constant_result a) ≡ true
plain-integer scope w (Known value.One) h = cc
plain-integer scope w (Known value.Zero) h = cc
plain-integer scope w (Known v) h = refl
plain-integer scope w (Dynamic d) h = refl

-- and no label
no-label : (n : ℕ) (scope : List (ℕ × Width)) (w : Width) (a : Val) → val_has scope (ty.Int w) a ≡ true → label_below n a ≡ true
no-label n scope w (Known (value.Label g)) h = cc
no-label n scope w (Known v) h = refl
no-label n scope w (Dynamic d) h = refl

-- the labels that an item uses are below n
abbrev item_labels : ℕ → Item → Bool
item_labels n x = list_all (λ (a : Ty × Val). label_below n a.1) (item_uses x)

items-labelled : (n : ℕ) (xs : List Item) → list_all (item_labels n) xs ≡ true → list_all (λ (a : Ty × Val). label_below n a.1) (flat_map item_uses xs) ≡ true
items-labelled n [] h = refl
items-labelled n (x ∷ xs) h =
    let p = and_parts (item_labels n x) (list_all (item_labels n) xs) h in
    both-pass (λ (a : Ty × Val). label_below n a.1) (item_uses x) (flat_map item_uses xs) p.0 (items-labelled n xs p.1)

module _ (p : Program) (budget : ℕ) (nodes : List Node) (shared : Option ℕ) (r : Residue) (made : IsMadeFrom p budget nodes shared r) where
  parts-are : PartsGood r.parts r.parts
  parts-are = good p budget nodes shared r made

  included : AllIncluded (gives_of r) r.parts
  included = all-included 0 [] r.parts (row p budget nodes shared r made)

  all-pass : (test : Part → Bool) → ((x : Part) → PartGood r.parts x → Includes (part_gives x) (gives_of r) → test x ≡ true) → list_all test r.parts ≡ true
  all-pass test h = parts-pass r.parts (gives_of r) test h r.parts parts-are included

  pub starts : has_start r ≡ true
  starts =
      and_from (begins r.parts) (list_all (λ (x : Part). list_all (leads_on (length r.parts)) (jumps x.tail)) r.parts) (ap begins made.made.parts)
      (all-pass (λ x. list_all (leads_on (length r.parts)) (jumps x.tail)) (λ x g i.
      jumps-pass r.parts (part_gives x) (leads_on (length r.parts)) (λ j h. jump-leads r.parts (part_gives x) j h) (jumps x.tail) g.1.leads))

  pub fits : jumps_fit r ≡ true
  fits =
      and_from (list_all (λ (x : Part). list_all (λ (j : Jump). fits_part (gives_of r) (slice_get r.parts j.to) j.args) (jumps x.tail)) r.parts)
      (list_all (λ (x : Part). all_agree (jumps x.tail)) r.parts)
      (all-pass (λ x. list_all (λ (j : Jump). fits_part (gives_of r) (slice_get r.parts j.to) j.args) (jumps x.tail)) (λ x g i.
      jumps-pass r.parts (part_gives x) (λ (j : Jump). fits_part (gives_of r) (slice_get r.parts j.to) j.args) (λ j h. jump-fits r.parts (part_gives x) (gives_of r) i j h) (jumps x.tail) g.1.leads))
      (all-pass (λ x. all_agree (jumps x.tail)) (λ x g i. g.1.agree))

  pub scopes : well_scoped r ≡ true
  scopes =
      and_from (all_differ (λ (x y : ℕ × Width). x.0 == y.0) (gives_of r)) (list_all part_within r.parts) (row-differs 0 (gives_of r) (row p budget nodes shared r made))
      (all-pass part_within (λ x g i. part-stays r.parts x g))

  pub types : well_typed r ≡ true
  types = parts-have r.parts (gives_of r) r.parts parts-are included

  pub compares : list_all (λ (x : Part). tail_compares x.tail) r.parts ≡ true
  compares =
      all-pass (λ x. tail_compares x.tail) (λ x g i.
      let t = tail-passes r.parts (part_gives x) (λ a. not (is_constant_result a)) (plain-integer (part_gives x)) x.tail g.1 in
      and_from (not (list_any (λ (a : Ty × Val). is_constant_result a.1) (tail_uses x.tail))) (not (list_any is_constant_result (jump_args x.tail)))
      (ap not (none-passes (λ (a : Ty × Val). is_constant_result a.1) (tail_uses x.tail) t.0)) (ap not (none-passes is_constant_result (jump_args x.tail) t.1)))

  -- ---- labels

  abbrev tail_labels : ℕ → Tail → Bool
  tail_labels n t = list_all (λ (a : Ty × Val). label_below n a.1) (tail_uses t) && list_all (label_below n) (jump_args t)

  tails-labelled : (n : ℕ) → list_all (λ (x : Part). tail_labels n x.tail) r.parts ≡ true
  tails-labelled n =
      all-pass (λ x. tail_labels n x.tail) (λ x g i.
      let t = tail-passes r.parts (part_gives x) (label_below n) (no-label n (part_gives x)) x.tail g.1 in
      and_from (list_all (λ (a : Ty × Val). label_below n a.1) (tail_uses x.tail)) (list_all (label_below n) (jump_args x.tail)) t.0 t.1)

  uses-labelled : (n : ℕ) (ps : List Part) → list_all (item_labels n) (flat_map (λ (x : Part). items_of x.lines) ps) ≡ true → list_all (λ (x : Part). tail_labels n x.tail) ps ≡ true
      → list_all (λ (a : Ty × Val). label_below n a.1) (flat_map part_uses ps) ≡ true
  uses-labelled n [] h k = refl
  uses-labelled n (x ∷ ps) h k =
      let own = and_parts (list_all (item_labels n) (items_of x.lines)) (list_all (item_labels n) (flat_map (λ (x : Part). items_of x.lines) ps)) (sym (list_all-append (item_labels n) (items_of x.lines) (flat_map (λ (x : Part). items_of x.lines) ps)) ∙ h) in
      let ends = and_parts (tail_labels n x.tail) (list_all (λ (x : Part). tail_labels n x.tail) ps) k in
      both-pass (λ (a : Ty × Val). label_below n a.1) (part_uses x) (flat_map part_uses ps)
      (both-pass (λ (a : Ty × Val). label_below n a.1) (flat_map item_uses (items_of x.lines)) (tail_uses x.tail)
      (items-labelled n (items_of x.lines) own.0)
      (and_parts (list_all (λ (a : Ty × Val). label_below n a.1) (tail_uses x.tail)) (list_all (label_below n) (jump_args x.tail)) ends.0).0)
      (uses-labelled n ps own.1 ends.1)

  jumps-labelled : (n : ℕ) (ps : List Part) → list_all (λ (x : Part). tail_labels n x.tail) ps ≡ true → list_all (label_below n) (flat_map (λ (x : Part). jump_args x.tail) ps) ≡ true
  jumps-labelled n [] k = refl
  jumps-labelled n (x ∷ ps) k =
      let ends = and_parts (tail_labels n x.tail) (list_all (λ (x : Part). tail_labels n x.tail) ps) k in
      both-pass (label_below n) (jump_args x.tail) (flat_map (λ (x : Part). jump_args x.tail) ps)
      (and_parts (list_all (λ (a : Ty × Val). label_below n a.1) (tail_uses x.tail)) (list_all (label_below n) (jump_args x.tail)) ends.0).1 (jumps-labelled n ps ends.1)

  pub labels : (n : ℕ) → list_all (item_labels n) (all_items r) ≡ true → list_all (label_below n) (written r) ≡ true
  labels n h =
      both-pass (label_below n) (map (λ (a : Ty × Val). a.1) (uses_of r)) (flat_map (λ (x : Part). jump_args x.tail) r.parts)
      (list_all-map (label_below n) (λ (a : Ty × Val). a.1) (uses_of r) ∙ uses-labelled n r.parts h (tails-labelled n)) (jumps-labelled n r.parts (tails-labelled n))

  module _ (law : ItemsAreValid) where
    -- the items keep the rules on items
    pub items-are : AreValid r p.target (length p.m.globals)
    items-are = law p nodes (joins nodes) (part_number (joins nodes)) shared r made.steps made.made.parts

    pub constants : constants_compared r ≡ true
    constants = and_from (list_all item_compares (all_items r)) (list_all (λ (x : Part). tail_compares x.tail) r.parts) items-are.compared compares

    pub labels-below : length r.globals ≡ length p.m.globals → are_few r.globals ≡ true → labels_below r ≡ true
    labels-below many few =
        and_from (are_few r.globals) (list_all (label_below (length r.globals)) (written r)) few
        (labels (length r.globals) (subst (λ n. list_all (item_labels n) (all_items r) ≡ true) (sym many) items-are.labels_fit))
