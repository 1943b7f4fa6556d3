-- The instructions of a part are such a row.
use Rattle.std.proofs.Common.{◌≡◌, ℕ, zero, suc, ◌+◌, ◌≤◌, Bool, true, false, Option, None, Some, List, [], ◌∷◌, ◌++◌, length, take, refl, sym, ap, ◌∙◌, subst, arith, append-nil, append_assoc, length-append}
use mathlib.Core.Logic.{◌⊎◌, inl, inr}
use Rattle.std.proofs.lemmas.Bool.{and_parts}
use Rattle.std.proofs.lemmas.Grind.{flat_map-append}
use Rattle.std.specs.List.{list_all}
use Rattle.std.specs.Prelude.{◌||◌, ◌==◌, flat_map, slice_get}
use Rattle.ir_values.specs.declared.int.Width.{Width}
use Rattle.ir_values.specs.declared.ty.Ty.{Ty}
use Rattle.kept_items.specs.declared.item.Item.{Item}
use Rattle.kept_items.specs.declared.item.Item.TheVariants as item
use Rattle.kept_items.specs.declared.target.Target.{Target}
use Rattle.kept_items.specs.declared.val.Val.{Val}
use Rattle.kept_items.specs.declared.val.Val.TheVariants.{Known, Dynamic}
use Rattle.residue.specs.declared.parts.Line.{Line}
use Rattle.residue.specs.declared.parts.Line.TheVariants as line
use Rattle.residue.specs.declared.parts.Part.{Part}
use Rattle.residue.specs.declared.parts.Residue.{Residue}
use Rattle.residue.specs.Instructions.{Words, instructions, names_of_item, print_items}
use Rattle.residue.specs.Printed.{names_of_items, words}
use Rattle.residue.specs.Scopes.{gives_of, item_gives, item_uses, items_of, param_gives}
use Rattle.residue.specs.Valid.{Valid, all_differ, items_within, part_within}
use Rattle.printed_residue.specs.Places.{is_in, names_before, scope_at}
use Rattle.printed_residue.proofs.Lines.{scoped}
use Rattle.printed_residue.proofs.Looks.{same-numbers}
use Rattle.printed_residue.proofs.Naming.{before, before-length, item-named, last_name, part-params-named, scope-early}
use Rattle.printed_residue.proofs.Scoped.{ArgsIn, ValIn, cut-items, in-append, item-in, items-next, items-same}
use Rattle.live_names.proofs.Rows.{AllFit, RowFits, ValFits, behind-append, free_behind, item-row, row-append}

module _ (r : Residue) (t : Target) (ok : Valid r t) (n : ℕ) (p : Part) (is_part : slice_get r.parts n ≡ Some p) where
  abbrev ws : Words
  ws = words r

  abbrev base : ℕ
  base = names_before r n

  distinct : all_differ (λ x y. x.0 == y.0) (gives_of r) ≡ true
  distinct = (and_parts (all_differ (λ x y. x.0 == y.0) (gives_of r)) (list_all part_within r.parts) ok.scopes).0

  abbrev pub free : ℕ → ℕ
  free q = length (before r n p is_part q)

  pub base-early : (q : ℕ) → base ≤ free q
  base-early q = let e = before-length r n p is_part q in omega (arith, e)

  -- ---- what is in scope has a name of the part

  last-late : (k : ℕ) (x : Item) → k ≤ last_name k x
  last-late k (item.Equal d v u) = omega arith
  last-late k (item.Binary d o g w a b) = omega arith
  last-late k (item.Icmp d o w a b) = omega arith
  last-late k (item.Convert d o w a to) = omega arith
  last-late k (item.Select d w c a b) = omega arith
  last-late k (item.Read d v) = omega arith
  last-late k (item.Operation name args) = omega arith
  last-late k (item.Output c args) = omega arith

  or-cases : (a b : Bool) → (a || b) ≡ true → (a ≡ true) ⊎ (b ≡ true)
  or-cases true b h = inl refl
  or-cases false b h = inr h

  given-late : (q d : ℕ) (x : Item) → slice_get p.lines q ≡ Some (line.Item x) → is_in (item_gives x) d ≡ true → base ≤ ws.name_of d
  given-late q d x e h = by (item_gives x) refl h
    where
      by : (gs : List (ℕ × Width)) → item_gives x ≡ gs → is_in gs d ≡ true → base ≤ ws.name_of d
      by [] z h = cc
      by (g ∷ []) z h =
          let s = item-named r n p is_part distinct q x g e z in
          let l = last-late (free q) x in
          let b = base-early q in
          let f = same-numbers g.0 d (only (g.0 == d) h) in
          subst (λ k. base ≤ ws.name_of k) f (omega (arith, s, l, b))
        where
          only : (b : Bool) → (b || false) ≡ true → b ≡ true
          only true h = refl
          only false h = h
      by (g ∷ k ∷ gs) z h = absurd (two x z)
        where
          two : (x : Item) → item_gives x ≡ g ∷ k ∷ gs → ⊥
          two (item.Binary d o w a b c) z = cc
          two (item.Icmp d o w a b) z = cc
          two (item.Convert d o w a to) z = cc
          two (item.Select d w c a b) z = cc
          two (item.Read d v) z = cc
          two (item.Equal d v u) z = cc
          two (item.Operation name args) z = cc
          two (item.Output c args) z = cc

  take-past : {A : Type 0} (xs : List A) (q : ℕ) → slice_get xs q ≡ None → take (suc q) xs ≡ take q xs
  take-past [] zero e = refl
  take-past [] (suc q) e = refl
  take-past (x ∷ xs) zero e = cc
  take-past (x ∷ xs) (suc q) e = ap (λ l. x ∷ l) (take-past xs q e)

  none-taken : {A : Type 0} (xs : List A) → take 0 xs ≡ []
  none-taken [] = refl
  none-taken (x ∷ xs) = refl

  abbrev scope_of : List Item → List (ℕ × Width)
  scope_of xs = param_gives p ++ flat_map item_gives xs

  scope-late : (q d : ℕ) → is_in (scope_at p q) d ≡ true → base ≤ ws.name_of d
  scope-late zero d h =
      let e : is_in (param_gives p) d ≡ true = ap (λ l. is_in l d) (sym (append-nil (param_gives p))) ∙ ap (λ ls. is_in (scope_of (items_of ls)) d) (sym (none-taken p.lines)) ∙ h in
      let k = part-params-named r n p is_part distinct d e in
      let z = k.name in
      omega (arith, z)
  scope-late (suc q) d h = by (slice_get p.lines q) refl (scope-late q d)
    where
      earlier : take (suc q) p.lines ≡ take q p.lines → (is_in (scope_at p q) d ≡ true → base ≤ ws.name_of d) → base ≤ ws.name_of d
      earlier e ih = ih (ap (λ ls. is_in (scope_of (items_of ls)) d) (sym e) ∙ h)

      marked : items_of (take (suc q) p.lines) ≡ items_of (take q p.lines) → (is_in (scope_at p q) d ≡ true → base ≤ ws.name_of d) → base ≤ ws.name_of d
      marked e ih = ih (ap (λ xs. is_in (scope_of xs) d) (sym e) ∙ h)

      either : (x : Item) → slice_get p.lines q ≡ Some (line.Item x) → (is_in (scope_at p q) d ≡ true → base ≤ ws.name_of d) → (is_in (scope_at p q) d ≡ true) ⊎ (is_in (item_gives x) d ≡ true) → base ≤ ws.name_of d
      either x e ih (inl s) = ih s
      either x e ih (inr g) = given-late q d x e g

      by : (o : Option Line) → slice_get p.lines q ≡ o → (is_in (scope_at p q) d ≡ true → base ≤ ws.name_of d) → base ≤ ws.name_of d
      by None e ih = earlier (take-past p.lines q e) ih
      by (Some (line.Made j)) e ih = marked (items-same p.lines q (line.Made j) tt e) ih
      by (Some (line.Freed j)) e ih = marked (items-same p.lines q (line.Freed j) tt e) ih
      by (Some (line.Item x)) e ih =
          let items = items-next p.lines q x e in
          let xs = items_of (take q p.lines) in
          let whole : scope_at p (suc q) ≡ scope_at p q ++ item_gives x =
          ap scope_of items ∙ ap (λ l. param_gives p ++ l) (flat_map-append item_gives xs (x ∷ []) ∙ ap (λ l. flat_map item_gives xs ++ l) (append-nil (item_gives x))) ∙ sym (append_assoc (param_gives p) (flat_map item_gives xs) (item_gives x)) in
          either x e ih (or-cases (is_in (scope_at p q) d) (is_in (item_gives x) d) (sym (in-append (scope_at p q) (item_gives x) d) ∙ ap (λ l. is_in l d) (sym whole) ∙ h))

  pub val-fits : (q : ℕ) (a : Val) → ValIn (scope_at p q) a → ValFits ws base (free q) a
  val-fits q (Known v) h = tt
  val-fits q (Dynamic d) h = (scope-late q d.0 h, scope-early r n p is_part q d.0 h)

  args-fit : (q : ℕ) (args : List (Ty × Val)) → ArgsIn (scope_at p q) args → AllFit ws base (free q) args
  args-fit q [] h = tt
  args-fit q (a ∷ args) h = (val-fits q a.1 h.0, args-fit q args h.1)

  -- ---- the row

  free-next : (q : ℕ) (x : Item) → slice_get p.lines q ≡ Some (line.Item x) → free (suc q) ≡ free q + length (names_of_item x)
  free-next q x e =
      let a = before-length r n p is_part q in
      let b = before-length r n p is_part (suc q) in
      let c = ap (λ xs. length (names_of_items xs)) (items-next p.lines q x e) in
      let d = ap length (flat_map-append names_of_item (items_of (take q p.lines)) (x ∷ [])) in
      let f = length-append (names_of_items (items_of (take q p.lines))) (names_of_item x ++ []) in
      let g = ap length (append-nil (names_of_item x)) in
      omega (arith, a, b, c, d, f, g)

  free-same : (q : ℕ) → items_of (take (suc q) p.lines) ≡ items_of (take q p.lines) → free (suc q) ≡ free q
  free-same q e =
      let a = before-length r n p is_part q in
      let b = before-length r n p is_part (suc q) in
      let c = ap (λ xs. length (names_of_items xs)) e in
      omega (arith, a, b, c)

  abbrev pub FitsFrom : ℕ → List Item → Type 0
  FitsFrom k xs = RowFits ws base k (print_items ws k xs) × (free_behind ws base k (print_items ws k xs) ≡ k + length (names_of_items xs))

  pub rows : (lines : List Line) (q : ℕ) → ((k : ℕ) → slice_get lines k ≡ slice_get p.lines (q + k)) → FitsFrom (free q) (items_of lines)
  rows [] q h = (tt, omega arith)
  rows (line.Made j ∷ lines) q h =
      let e = sym (h 0 ∙ ap (slice_get p.lines) (let z : q + 0 ≡ q = omega arith in z)) in
      subst (λ k. FitsFrom k (items_of lines)) (free-same q (items-same p.lines q (line.Made j) tt e)) (rows lines (suc q) (λ k. h (suc k) ∙ ap (slice_get p.lines) (let z : q + suc k ≡ suc q + k = omega arith in z)))
  rows (line.Freed j ∷ lines) q h =
      let e = sym (h 0 ∙ ap (slice_get p.lines) (let z : q + 0 ≡ q = omega arith in z)) in
      subst (λ k. FitsFrom k (items_of lines)) (free-same q (items-same p.lines q (line.Freed j) tt e)) (rows lines (suc q) (λ k. h (suc k) ∙ ap (slice_get p.lines) (let z : q + suc k ≡ suc q + k = omega arith in z)))
  rows (line.Item x ∷ lines) q h =
      let e : slice_get p.lines q ≡ Some (line.Item x) = sym (h 0 ∙ ap (slice_get p.lines) (let z : q + 0 ≡ q = omega arith in z)) in
      let xs = cut-items p.lines q x e in
      let uses = item-in (param_gives p) (items_of (take q p.lines)) x xs.0 (subst (λ ys. items_within (param_gives p) ys ≡ true) xs.1 (scoped r t ok n p is_part).0) in
      let own = item-row ws base (free q) x (base-early q) (args-fit q (item_uses x) uses) in
      let rest : FitsFrom (free q + length (names_of_item x)) (items_of lines) = subst (λ k. FitsFrom k (items_of lines)) (free-next q x e) (rows lines (suc q) (λ k. h (suc k) ∙ ap (slice_get p.lines) (let z : q + suc k ≡ suc q + k = omega arith in z))) in
      let k : ℕ = free q + length (names_of_item x) in
      let long = length-append (names_of_item x) (names_of_items (items_of lines)) in
      let behind = rest.1 in (
        row-append ws base (free q) (instructions ws (free q) x) (print_items ws k (items_of lines)) own.0 (subst (λ m. RowFits ws base m (print_items ws k (items_of lines))) (sym own.1) rest.0),
        behind-append ws base (free q) (instructions ws (free q) x) (print_items ws k (items_of lines))
            ∙ ap (λ m. free_behind ws base m (print_items ws k (items_of lines))) own.1
            ∙ behind
            ∙ (let z : k + length (names_of_items (items_of lines)) ≡ free q + length (names_of_items (x ∷ items_of lines)) = omega (arith, long) in z),
      )
