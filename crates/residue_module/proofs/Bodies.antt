-- The instructions of a block, line by line.
use Rattle.std.proofs.Common.{◌≡◌, ℕ, ◌+◌, ◌≤◌, Bool, true, false, List, [], ◌∷◌, ◌++◌, length, refl, sym, ap, ◌∙◌, arith, append-nil, append_assoc, length-append}
use Rattle.std.proofs.lemmas.Bool.{and_parts}
use Rattle.std.specs.List.{list_all}
use Rattle.std.specs.Prelude.{◌==◌, if◌then◌else◌}
use Rattle.ir_module.specs.declared.tree.Inst.{Inst}
use Rattle.ir_module.specs.declared.tree.InstKind.TheVariants as kind
use Rattle.ir_module.specs.declared.tree.Operand.{Operand}
use Rattle.ir_values.specs.declared.int.Pred.TheVariants as pred
use Rattle.ir_values.specs.declared.int.Width.TheVariants.{W1}
use Rattle.ir_values.specs.declared.ty.Ty.TheVariants as ty
use Rattle.ir_values.specs.declared.value.Value.{Value}
use Rattle.kept_items.specs.declared.item.Item.{Item}
use Rattle.kept_items.specs.declared.item.Item.TheVariants as item
use Rattle.kept_items.specs.declared.val.Dyn.{Dyn}
use Rattle.residue.specs.declared.parts.Line.{Line}
use Rattle.residue.specs.declared.parts.Line.TheVariants as line
use Rattle.residue.specs.Instructions.{Words, defining, equal_test, instructions, names_of_item, print_items, reads, side_operand, side_reads}
use Rattle.residue.specs.Phases.{in_phase, phase_of}
use Rattle.residue.specs.Printed.{names_of_items}
use Rattle.residue.specs.Scopes.{item_uses, items_of}
use Rattle.printed_residue.proofs.Naming.{equal-names}
use Rattle.residue_module.specs.declared.body.Body.{Body}
use Rattle.residue_module.specs.code.Bodies.{Adds, Prints, PrintsIf}
use Rattle.residue_module.specs.code.Lines.{PrintsLine, PrintsLineIn, line_item, line_names, line_small}
use Rattle.residue_module.specs.code.Scenes.{are_small}
use Rattle.residue_module.proofs.Appended.{three-pieces}

-- a comparison of two results: what is read, and then the test
pub equal-printed : (ws : Words) (d : Dyn) (v u : Value) (old mid next new : Body) (left right : Operand) → left ≡ side_operand old.next v → right ≡ side_operand mid.next u
    → Adds (side_reads ws old.next v) (reads v) old mid → Adds (side_reads ws mid.next u) (reads u) mid next
    → Adds (defining next.next (kind.Icmp pred.Eq (ty.Int W1) left right) ∷ []) 1 next new → Prints ws (item.Equal d v u) old new
equal-printed ws d v u old mid next new left right e f a b c = record {
  insts = three-pieces old.insts mid.insts next.insts new.insts (side_reads ws old.next v) (side_reads ws (old.next + reads v) u) (equal_test old.next v u ∷ []) a.insts (b.insts ∙ ap (λ n. mid.insts ++ side_reads ws n u) a.next) (c.insts ∙ ap (λ i. next.insts ++ i ∷ []) test);
  next = let x = a.next in let y = b.next in let z = c.next in let n = equal-names d v u in omega (arith, x, y, z, n);
}
  where
    test : defining next.next (kind.Icmp pred.Eq (ty.Int W1) left right) ≡ equal_test old.next v u
    test =
        ap (λ n. defining n (kind.Icmp pred.Eq (ty.Int W1) left right)) (b.next ∙ ap (λ n. n + reads u) a.next)
        ∙ ap (λ o. defining (old.next + reads v + reads u) (kind.Icmp pred.Eq (ty.Int W1) o right)) e
        ∙ ap (λ o. defining (old.next + reads v + reads u) (kind.Icmp pred.Eq (ty.Int W1) (side_operand old.next v) o)) (f ∙ ap (λ n. side_operand n u) a.next)

module _ (ws : Words) where
  abbrev small : Item → Bool
  small x = are_small ws (item_uses x)

  -- ---- what is known of the first of some lines

  pub line-room : (all rest : List Line) (l : Line) (next whole : ℕ) → all ≡ l ∷ rest → next + length (names_of_items (items_of all)) ≤ whole → next + length (line_names (line_item l)) ≤ whole
  line-room all rest (line.Item x) next whole e h =
      let a = length-append (names_of_item x) (names_of_items (items_of rest)) in
      let g : length (names_of_items (items_of all)) ≡ length (names_of_item x ++ names_of_items (items_of rest)) = ap (λ ls. length (names_of_items (items_of ls))) e in
      omega (arith, a, g, h)
  line-room all rest (line.Made j) next whole e h = omega (arith, h)
  line-room all rest (line.Freed j) next whole e h = omega (arith, h)

  pub first-small : (all rest : List Line) (l : Line) → all ≡ l ∷ rest → list_all small (items_of all) ≡ true → line_small ws (line_item l) ≡ true
  first-small all rest (line.Item x) e h = (and_parts (small x) (list_all small (items_of rest)) (ap (λ ls. list_all small (items_of ls)) (sym e) ∙ h)).0
  first-small all rest (line.Made j) e h = refl
  first-small all rest (line.Freed j) e h = refl

  pub rest-small : (all rest : List Line) (l : Line) → all ≡ l ∷ rest → list_all small (items_of all) ≡ true → list_all small (items_of rest) ≡ true
  rest-small all rest (line.Item x) e h = (and_parts (small x) (list_all small (items_of rest)) (ap (λ ls. list_all small (items_of ls)) (sym e) ∙ h)).1
  rest-small all rest (line.Made j) e h = ap (λ ls. list_all small (items_of ls)) (sym e) ∙ h
  rest-small all rest (line.Freed j) e h = ap (λ ls. list_all small (items_of ls)) (sym e) ∙ h

  -- ---- an item more

  -- the instructions to come, behind those that are there
  abbrev comes : Body → List Item → List Inst
  comes b xs = b.insts ++ print_items ws b.next xs

  abbrev comes_next : Body → List Item → ℕ
  comes_next b xs = b.next + length (names_of_items xs)

  item-comes : (x : Item) (xs : List Item) (now next : Body) → Prints ws x now next → comes now (x ∷ xs) ≡ comes next xs
  item-comes x xs now next a =
      sym (append_assoc now.insts (instructions ws now.next x) (print_items ws (now.next + length (names_of_item x)) xs))
      ∙ ap (λ l. l ++ print_items ws (now.next + length (names_of_item x)) xs) (sym a.insts)
      ∙ ap (λ n. next.insts ++ print_items ws n xs) (sym a.next)

  item-comes-next : (x : Item) (xs : List Item) (now next : Body) → Prints ws x now next → comes_next now (x ∷ xs) ≡ comes_next next xs
  item-comes-next x xs now next a = let l = length-append (names_of_item x) (names_of_items xs) in let e = a.next in omega (arith, l, e)

  pub line-comes : (all rest : List Line) (l : Line) (now next : Body) → all ≡ l ∷ rest → PrintsLine ws (line_item l) now next → comes now (items_of all) ≡ comes next (items_of rest)
  line-comes all rest (line.Item x) now next e a = ap (λ ls. comes now (items_of ls)) e ∙ item-comes x (items_of rest) now next a
  line-comes all rest (line.Made j) now next e a = ap (λ ls. comes now (items_of ls)) e ∙ ap (λ b. comes b (items_of rest)) (sym a)
  line-comes all rest (line.Freed j) now next e a = ap (λ ls. comes now (items_of ls)) e ∙ ap (λ b. comes b (items_of rest)) (sym a)

  pub line-comes-next : (all rest : List Line) (l : Line) (now next : Body) → all ≡ l ∷ rest → PrintsLine ws (line_item l) now next → comes_next now (items_of all) ≡ comes_next next (items_of rest)
  line-comes-next all rest (line.Item x) now next e a = ap (λ ls. comes_next now (items_of ls)) e ∙ item-comes-next x (items_of rest) now next a
  line-comes-next all rest (line.Made j) now next e a = ap (λ ls. comes_next now (items_of ls)) e ∙ ap (λ b. comes_next b (items_of rest)) (sym a)
  line-comes-next all rest (line.Freed j) now next e a = ap (λ ls. comes_next now (items_of ls)) e ∙ ap (λ b. comes_next b (items_of rest)) (sym a)

  -- ---- an item more of those that stand in a phase

  module _ (irreversible : List (List ℕ)) (phase : ℕ) where
    item-in-comes : (x : Item) (xs : List Item) (now next : Body) (b : Bool) → PrintsIf b ws x now next → comes now (if b then x ∷ in_phase irreversible phase xs else in_phase irreversible phase xs) ≡ comes next (in_phase irreversible phase xs)
    item-in-comes x xs now next true a = item-comes x (in_phase irreversible phase xs) now next a
    item-in-comes x xs now next false a = ap (λ b. comes b (in_phase irreversible phase xs)) (sym a)

    pub line-in-comes : (all rest : List Line) (l : Line) (now next : Body) → all ≡ l ∷ rest → PrintsLineIn ws irreversible phase (line_item l) now next
        → comes now (in_phase irreversible phase (items_of all)) ≡ comes next (in_phase irreversible phase (items_of rest))
    line-in-comes all rest (line.Item x) now next e a = ap (λ ls. comes now (in_phase irreversible phase (items_of ls))) e ∙ item-in-comes x (items_of rest) now next (phase_of irreversible x == phase) a
    line-in-comes all rest (line.Made j) now next e a = ap (λ ls. comes now (in_phase irreversible phase (items_of ls))) e ∙ ap (λ b. comes b (in_phase irreversible phase (items_of rest))) (sym a)
    line-in-comes all rest (line.Freed j) now next e a = ap (λ ls. comes now (in_phase irreversible phase (items_of ls))) e ∙ ap (λ b. comes b (in_phase irreversible phase (items_of rest))) (sym a)

    if-room : (x : Item) (now next : Body) (b : Bool) → PrintsIf b ws x now next → next.next ≤ now.next + length (names_of_item x)
    if-room x now next true a = let e = a.next in omega (arith, e)
    if-room x now next false a = let e = ap (λ (b : Body). b.next) a in omega (arith, e)

    pub line-in-room : (all rest : List Line) (l : Line) (now next : Body) (whole : ℕ) → all ≡ l ∷ rest → PrintsLineIn ws irreversible phase (line_item l) now next → comes_next now (items_of all) ≤ whole → comes_next next (items_of rest) ≤ whole
    line-in-room all rest (line.Item x) now next whole e a h =
        let f = length-append (names_of_item x) (names_of_items (items_of rest)) in
        let g : length (names_of_items (items_of all)) ≡ length (names_of_item x ++ names_of_items (items_of rest)) = ap (λ ls. length (names_of_items (items_of ls))) e in
        let i = if-room x now next (phase_of irreversible x == phase) a in
        omega (arith, f, g, i, h)
    line-in-room all rest (line.Made j) now next whole e a h =
        let g : length (names_of_items (items_of all)) ≡ length (names_of_items (items_of rest)) = ap (λ ls. length (names_of_items (items_of ls))) e in
        let i = ap (λ (b : Body). b.next) a in
        omega (arith, g, i, h)
    line-in-room all rest (line.Freed j) now next whole e a h =
        let g : length (names_of_items (items_of all)) ≡ length (names_of_items (items_of rest)) = ap (λ ls. length (names_of_items (items_of ls))) e in
        let i = ap (λ (b : Body). b.next) a in
        omega (arith, g, i, h)

  -- ---- no line is left

  pub none-come : (lines : List Line) (now : Body) (whole : List Inst) → length lines ≡ 0 → comes now (items_of lines) ≡ whole → now.insts ≡ whole
  none-come [] now whole e h = sym (append-nil now.insts) ∙ h
  none-come (l ∷ lines) now whole e h = absurd (omega (arith, e))

  pub none-come-next : (lines : List Line) (now : Body) (whole : ℕ) → length lines ≡ 0 → comes_next now (items_of lines) ≡ whole → now.next ≡ whole
  none-come-next [] now whole e h = omega (arith, h)
  none-come-next (l ∷ lines) now whole e h = absurd (omega (arith, e))

  pub none-come-in : (irreversible : List (List ℕ)) (phase : ℕ) (lines : List Line) (now : Body) (whole : List Inst) → length lines ≡ 0 → comes now (in_phase irreversible phase (items_of lines)) ≡ whole → now.insts ≡ whole
  none-come-in irreversible phase [] now whole e h = sym (append-nil now.insts) ∙ h
  none-come-in irreversible phase (l ∷ lines) now whole e h = absurd (omega (arith, e))
