-- From the end of a configuration's lines to the place of its successor.
use Rattle.std.proofs.Common.{◌≡◌, ℕ, zero, suc, ◌+◌, ◌<◌, Bool, true, false, Some, List, [], ◌∷◌, length, map, sym, ap, ◌∙◌, subst, arith}
use Rattle.std.specs.Prelude.{◌==◌, ⊤, if◌then◌else◌, slice_get, slice_index_or}
use Rattle.ir_values.specs.declared.int.Width.{Width}
use Rattle.ir_values.specs.declared.value.Value.TheVariants as value
use Rattle.ir_values.specs.Int.{IntValue}
use Rattle.qir_meaning.specs.code.Steps.{On, Whole, tick}
use Rattle.qir_meaning.specs.Effects.{is_one}
use Rattle.qir_meaning.specs.State.{State}
use Rattle.kept_items.specs.declared.item.Choice.{Choice}
use Rattle.kept_items.specs.declared.item.Choice.TheVariants as choice
use Rattle.kept_items.specs.declared.target.Caps.{Caps}
use Rattle.kept_items.specs.declared.target.Target.TheVariants.{Adaptive}
use Rattle.kept_items.specs.declared.val.Dyn.{Dyn}
use Rattle.kept_items.specs.declared.val.Val.{Val}
use Rattle.kept_items.specs.declared.val.Val.TheVariants.{Known, Dynamic}
use Rattle.kept_items.specs.Items.{case_of, chosen, dynamic, valued}
use Rattle.path_search.specs.declared.visit.Link.{Link}
use Rattle.residue.specs.declared.parts.Jump.{Jump}
use Rattle.residue.specs.declared.parts.Part.{Part}
use Rattle.residue.specs.declared.parts.Residue.{Residue}
use Rattle.residue.specs.Printed.{printed}
use Rattle.printed_residue.specs.Laws.{Carries, IsGood, ItemsRun, MarksPass, TailsRun}
use Rattle.printed_residue.specs.Places.{AtLine, case_jump, taken}
use Rattle.fused_parts.specs.declared.numbers.Numbers.{Numbers}
use Rattle.fused_parts.specs.Nodes.{Links}
use Rattle.fused_parts.specs.Parts.{case_jumps, choice_tail, dyn, in_row, jump_to, last_jump, number_at, with_widths}
use Rattle.lowered_runs.proofs.Lookups.{length-map, look-map, look-there, nothing, row-at, row-length, same-some, value-from, values_from, widths-at, within}
use Rattle.lowered_runs.proofs.Renaming.{Same}
use Rattle.lowered_runs.proofs.Adaptive.{At}

-- all are below
abbrev pub AllBelow : ℕ → List Dyn → Type 0
AllBelow n [] = ⊤
AllBelow n (d ∷ ds) = (d.0 < n) × AllBelow n ds

below-at : (n : ℕ) (ds : List Dyn) (k : ℕ) → AllBelow n ds → k < length ds → (slice_index_or ds k (dyn 0)).0 < n
below-at n [] k all lt = absurd (omega (arith, lt))
below-at n (d ∷ ds) zero all lt = all.0
below-at n (d ∷ ds) (suc k) all lt = below-at n ds k all.1 (omega (arith, lt))

-- the condition of a choice is below
abbrev pub ChoiceBelow : ℕ → Choice → Type 0
ChoiceBelow n choice.One = ⊤
ChoiceBelow n (choice.Branch d) = d.0 < n
ChoiceBelow n (choice.Switch d w is) = d.0 < n

-- as many links as the choice chooses among
abbrev pub AsMany : Choice → ℕ → Type 0
AsMany choice.One n = n ≡ 1
AsMany (choice.Branch d) n = n ≡ 2
AsMany (choice.Switch d w is) n = n ≡ suc (length is)

-- ---- the jump that the tail takes is that of the successor that the choice takes

module _ (part_of : ℕ → ℕ) (mine : List Dyn) (rs ds : List IntValue) (same : Same mine rs ds (length ds)) where
  case-taken : (i : IntValue) (is : List IntValue) (links : Links) (k : Link (List Dyn)) → length links ≡ suc (length is) → slice_get links (case_of i is) ≡ Some k
      → case_jump i (case_jumps part_of mine is links) (last_jump part_of mine links) ≡ jump_to part_of mine k
  case-taken i [] [] k e h = absurd (omega (arith, e))
  case-taken i [] (x ∷ []) k e h = let s : x ≡ k = cc in ap (jump_to part_of mine) s
  case-taken i [] (x ∷ y ∷ links) k e h = absurd (omega (arith, e))
  case-taken i (c ∷ is) [] k e h = absurd (omega (arith, e))
  case-taken i (c ∷ is) (x ∷ []) k e h = absurd (omega (arith, e))
  case-taken i (c ∷ is) (x ∷ y ∷ links) k e h = by-test (c.bits == i.bits) (λ g. case-taken i is (y ∷ links) k (omega (arith, e)) g) h
    where
      by-test : (b : Bool)
          → (slice_get (y ∷ links) (case_of i is) ≡ Some k → case_jump i (case_jumps part_of mine is (y ∷ links)) (last_jump part_of mine (y ∷ links)) ≡ jump_to part_of mine k)
          → slice_get (x ∷ y ∷ links) (if b then 0 else suc (case_of i is)) ≡ Some k
          → (if b then jump_to part_of mine x else case_jump i (case_jumps part_of mine is (y ∷ links)) (last_jump part_of mine (y ∷ links))) ≡ jump_to part_of mine k
      by-test true ih h = let s : x ≡ k = cc in ap (jump_to part_of mine) s
      by-test false ih h = ih h

  branch-taken : (b : Bool) (x y k : Link (List Dyn)) → slice_get (x ∷ y ∷ []) (if b then 0 else 1) ≡ Some k
      → (if b then jump_to part_of mine x else jump_to part_of mine y) ≡ jump_to part_of mine k
  branch-taken true x y k h = let s : x ≡ k = cc in ap (jump_to part_of mine) s
  branch-taken false x y k h = let s : y ≡ k = cc in ap (jump_to part_of mine) s

  pub jump-taken : (c : Choice) (links : Links) (k : Link (List Dyn)) → ChoiceBelow (length ds) c → AsMany c (length links) → slice_get links (chosen c ds) ≡ Some k
      → taken rs (choice_tail part_of mine c links) ≡ Some (jump_to part_of mine k)
  jump-taken choice.One [] k b e h = absurd (omega (arith, e))
  jump-taken choice.One (x ∷ []) k b e h = let s : x ≡ k = cc in ap (λ z. Some (jump_to part_of mine z)) s
  jump-taken choice.One (x ∷ y ∷ links) k b e h = absurd (omega (arith, e))
  jump-taken (choice.Branch d) [] k b e h = absurd (omega (arith, e))
  jump-taken (choice.Branch d) (x ∷ []) k b e h = absurd (omega (arith, e))
  jump-taken (choice.Branch d) (x ∷ y ∷ []) k b e h =
      ap (λ v. Some (if is_one v then jump_to part_of mine x else jump_to part_of mine y)) (same d.0 b)
      ∙ ap Some (branch-taken (is_one (dynamic ds d)) x y k h)
  jump-taken (choice.Branch d) (x ∷ y ∷ z ∷ links) k b e h = absurd (omega (arith, e))
  jump-taken (choice.Switch d w is) links k b e h =
      ap (λ v. Some (case_jump v (case_jumps part_of mine is links) (last_jump part_of mine links))) (same d.0 b)
      ∙ ap Some (case-taken (dynamic ds d) is links k e h)

-- ---- in the same part

module _ (r : Residue) (caps : Caps) (good : IsGood r (Adaptive caps)) (items : ItemsRun) (marks : MarksPass) (tails : TailsRun) where
  abbrev Stood : ℕ → Part → ℕ → Numbers → List IntValue → State → Whole → Type 0
  Stood = At r caps good items marks

  -- the next configuration's Dynamic names take the values of these numbers
  pub goes-on : (m : ℕ) (p : Part) (q : ℕ) (n : Numbers) (ds : List IntValue) (st : State) (v : Whole) (args : List Dyn) → AllBelow (length ds) args
      → Stood m p q n ds st v → Stood m p q (record { free = n.free; mine = map (number_at n.mine) args }) (map (dynamic ds) args) st v
  goes-on m p q n ds st v args all h = record {
    values = h.values;
    at = h.at;
    many = length-map (number_at n.mine) args ∙ sym (length-map (dynamic ds) args);
    same = λ k lt.
        let lt' : k < length args = (let e = length-map (dynamic ds) args in omega (arith, lt, e)) in
        ap (dynamic h.values) (look-map (number_at n.mine) args k (dyn 0) (dyn 0) lt')
        ∙ h.same (slice_index_or args k (dyn 0)).0 (below-at (length ds) args k all lt')
        ∙ sym (look-map (dynamic ds) args k (dyn 0) nothing lt');
    below = λ k lt.
        let lt' : k < length args = (let e = length-map (dynamic ds) args in omega (arith, lt, e)) in
        let e = ap (λ (d : Dyn). d.0) (look-map (number_at n.mine) args k (dyn 0) (dyn 0) lt') in
        let b = h.below (slice_index_or args k (dyn 0)).0 (below-at (length ds) args k all lt') in
        omega (arith, e, b);
  }

  -- ---- to another part, whose parameters have numbers in a row

  module _ (m : ℕ) (p : Part) (is_part : slice_get r.parts m ≡ Some p) (n : Numbers) (ds : List IntValue) (st : State) (v : Whole)
      (h : Stood m p (length p.lines) n ds st v) (part_of : ℕ → ℕ) (c : Choice) (links : Links) (k : Link (List Dyn))
      (tail : p.tail ≡ choice_tail part_of n.mine c links) (below : ChoiceBelow (length ds) c) (many : AsMany c (length links))
      (is_link : slice_get links (chosen c ds) ≡ Some k) (all : AllBelow (length ds) k.label) where
    abbrev vals : List IntValue
    vals = map (dynamic ds) k.label

    abbrev j : Jump
    j = jump_to part_of n.mine k

    abbrev arg : Dyn → Val
    arg d = Dynamic (number_at n.mine d)

    carries : (to : Part) (first number : ℕ) (ws : List Width) → number ≡ length k.label → to.params ≡ with_widths (in_row first number) ws → Carries j to h.values (values_from first vals)
    carries to first number ws e params i d g =
        let row = widths-at (in_row first number) ws i d (subst (λ ps. slice_get ps i ≡ Some d) params g) in
        let lt : i < length k.label = (let a = within (in_row first number) i d.0 row in let b = row-length first number in omega (arith, a, b, e)) in
        let is : d.0 ≡ dyn (first + i) = same-some d.0 (dyn (first + i)) (sym row ∙ look-there (in_row first number) i (dyn 0) (let b = row-length first number in omega (arith, lt, b, e)) ∙ ap Some (row-at first number i (omega (arith, lt, e)))) in
        ap (valued h.values) (look-map arg k.label i (dyn 0) (Known value.NoLabel) lt)
        ∙ ap value.Int
        (h.same (slice_index_or k.label i (dyn 0)).0 (below-at (length ds) k.label i all lt)
        ∙ sym (look-map (dynamic ds) k.label i (dyn 0) nothing lt)
        ∙ sym (value-from first vals i)
        ∙ ap (dynamic (values_from first vals)) (sym is))

    pub leads-to : (to : Part) (first number : ℕ) (ws : List Width) → slice_get r.parts (part_of k.to) ≡ Some to → number ≡ length k.label → to.params ≡ with_widths (in_row first number) ws
        → (v' : Whole) × (tick (printed r (Adaptive caps)) v ≡ On v')
        × Stood (part_of k.to) to 0 (record { free = first + number; mine = in_row first number }) vals st v'
    leads-to to first number ws is e params =
        let t = tails r caps m p j h.values (values_from first vals) st v good is_part h.at (ap (taken h.values) tail ∙ jump-taken part_of n.mine h.values ds h.same c links k below many is_link) in
        let same-part : t.0 ≡ to = same-some t.0 to (sym t.1 ∙ is) in
        let go = t.2 (subst (λ z. Carries j z h.values (values_from first vals)) (sym same-part) (carries to first number ws e params)) in (
          go.0,
          go.1,
          record {
            values = values_from first vals;
            at = subst (λ z. AtLine r (part_of k.to) z 0 (values_from first vals) st go.0) same-part go.2;
            many = row-length first number ∙ e ∙ sym (length-map (dynamic ds) k.label);
            same = λ i lt.
                let lt' : i < number = (let a = length-map (dynamic ds) k.label in omega (arith, lt, a, e)) in
                ap (dynamic (values_from first vals)) (row-at first number i lt') ∙ value-from first vals i;
            below = λ i lt.
                let lt' : i < number = (let a = length-map (dynamic ds) k.label in omega (arith, lt, a, e)) in
                let b = ap (λ (d : Dyn). d.0) (row-at first number i lt') in
                omega (arith, b, lt');
          },
        )
