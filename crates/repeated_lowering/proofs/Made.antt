-- The lowered program that is made of the explored configurations of a printed Base residue has one part, with the items of that one.
use Rattle.std.proofs.Common.{◌≡◌, ℕ, suc, ◌+◌, ◌<◌, ◌≤◌, Bool, true, false, ◌&&◌, Option, None, Some, List, [], ◌∷◌, ◌++◌, length, map, option_map, refl, sym, ap, ◌∙◌, subst, arith, append-nil}
use Rattle.std.proofs.lemmas.Bool.{and_parts}
use Rattle.std.proofs.lemmas.List.Folds.{list_all-append}
use Rattle.std.specs.List.{list_all}
use Rattle.std.specs.Option.{option_to_list}
use Rattle.std.specs.Prelude.{◌==◌, if◌then◌else◌, nat_lt, slice_get}
use Rattle.ir_module.specs.declared.places.Point.{Point}
use Rattle.ir_module.specs.declared.tree.Module.{Module}
use Rattle.ir_values.specs.declared.ids.LocalId.{LocalId}
use Rattle.ir_values.specs.declared.int.Width.TheVariants.{W64}
use Rattle.ir_values.specs.declared.ty.Ty.{Ty}
use Rattle.ir_values.specs.declared.value.Value.TheVariants as value
use Rattle.ir_values.specs.Arithmetic.{modulo}
use Rattle.ir_values.specs.Int.{IntValue, signed}
use Rattle.kept_items.specs.declared.item.Item.{Item}
use Rattle.kept_items.specs.declared.item.Item.TheVariants as item
use Rattle.kept_items.specs.declared.target.Target.TheVariants.{Base}
use Rattle.kept_items.specs.declared.val.Dyn.{Dyn}
use Rattle.kept_items.specs.declared.val.Val.{Val}
use Rattle.kept_items.specs.declared.val.Val.TheVariants.{Known, Dynamic}
use Rattle.residue.specs.declared.parts.Line.TheVariants as line
use Rattle.residue.specs.declared.parts.Part.{Part}
use Rattle.residue.specs.declared.parts.Residue.{Residue}
use Rattle.residue.specs.declared.parts.Tail.TheVariants as tail
use Rattle.residue.specs.Instructions.{Words}
use Rattle.residue.specs.Printed.{words}
use Rattle.residue.specs.Scopes.{items_of}
use Rattle.residue.specs.Valid.{Valid, all_known, base_permits, is_base_record, is_known}
use Rattle.static_steps.specs.declared.config.Config.{Config}
use Rattle.fused_parts.specs.declared.flags.Entered.{Entered}
use Rattle.fused_parts.specs.declared.flags.Entered.TheVariants.{Never}
use Rattle.fused_parts.specs.declared.numbers.Numbers.{Numbers as DynNumbers}
use Rattle.fused_parts.specs.Nodes.{Node, entered, entered_by, is_once, item_of, joins, joins_from, leads_only, more as one_more}
use Rattle.fused_parts.specs.Parts.{Rest, after, first_of, freed, item_line, let_go, lines_of, made, marks_to, next_numbers, no_numbers, outcome_tail, parts_of, renamed, renamed_arg, renamed_item, rest_from}
use Rattle.path_search.proofs.Order.{Numbers, equal, less, more, numbers}
use Rattle.printed_residue.proofs.Looks.{differ, same-itself}
use Rattle.printed_residue.proofs.Scoped.{items-append}
use Rattle.profiled_residue.specs.Premises.{FitsProfile}
use Rattle.settled_lowering.proofs.BaseBlocks.{part}
use Rattle.settled_lowering.proofs.BaseTurns.{settled}
use Rattle.settled_lowering.proofs.Turns.{read, reads_of}
use Rattle.repeated_lowering.proofs.Chain.{FollowOn, Leads, rest}

-- ---- items of known values keep them

renamed-args : (ws : Words) (mine : List Dyn) (args : List (Ty × Val)) → all_known args ≡ true → map (renamed_arg mine) (reads_of ws [] args) ≡ reads_of ws [] args
renamed-args ws mine [] h = refl
renamed-args ws mine (a ∷ args) h =
    let p = and_parts (is_known a.1) (all_known args) h in
    ap (λ v. (a.0, v) ∷ map (renamed_arg mine) (reads_of ws [] args)) (known a.1 p.0) ∙ ap (λ l. (a.0, read ws [] a.1) ∷ l) (renamed-args ws mine args p.1)
  where
    known : (v : Val) → is_known v ≡ true → renamed mine (read ws [] v) ≡ read ws [] v
    known (Known v) h = refl
    known (Dynamic d) h = cc

renamed-same : (ws : Words) (mine : List Dyn) (n : ℕ) (x : Item) → base_permits x ≡ true → renamed_item mine n (settled ws [] x) ≡ settled ws [] x
renamed-same ws mine n (item.Operation name args) h = ap (item.Operation name) (renamed-args ws mine args h)
renamed-same ws mine n (item.Output c args) h = ap (item.Output c) (renamed-args ws mine args (and_parts (is_base_record c) (all_known args) h).1)
renamed-same ws mine n (item.Binary d o g w a b) h = cc
renamed-same ws mine n (item.Icmp d o w a b) h = cc
renamed-same ws mine n (item.Convert d o w a to) h = cc
renamed-same ws mine n (item.Select d w c a b) h = cc
renamed-same ws mine n (item.Read d v) h = cc
renamed-same ws mine n (item.Equal d v u) h = cc

-- ---- marks are no items

made-none : (b : Bool) (k : ℕ) → items_of (if b then (line.Made k ∷ []) else []) ≡ []
made-none true k = refl
made-none false k = refl

freed-none : (o : Option ℕ) → items_of (freed o) ≡ []
freed-none None = refl
freed-none (Some j) = refl

marks-none : (g : Config) (o : Option Node) → items_of (marks_to g o) ≡ []
marks-none g None = refl
marks-none g (Some y) =
    items-append (made g.allocated y.node.allocated) (freed (let_go g.held y.node.held))
    ∙ ap (λ l. l ++ items_of (freed (let_go g.held y.node.held))) (made-none (nat_lt g.allocated y.node.allocated) g.allocated)
    ∙ freed-none (let_go g.held y.node.held)

line-items : (nodes : List Node) (x : Node) (n : DynNumbers) → items_of (lines_of nodes x n) ≡ items_of (item_line (item_of x.item) n)
line-items nodes x n =
    items-append (item_line (item_of x.item) n) (marks_to x.node (first_of nodes x.links))
    ∙ ap (λ l. items_of (item_line (item_of x.item) n) ++ l) (marks-none x.node (first_of nodes x.links))
    ∙ append-nil (items_of (item_line (item_of x.item) n))

left-items : (ws : Words) (o : Option Item) (n : DynNumbers) → list_all base_permits (option_to_list o) ≡ true → items_of (item_line (option_map (settled ws []) o) n) ≡ map (settled ws []) (option_to_list o)
left-items ws None n h = refl
left-items ws (Some x) n h = ap (λ y. y ∷ []) (renamed-same ws n.mine n.free x (and_parts (base_permits x) true h).0)

map-both : {A B : Type 0} (f : A → B) (xs ys : List A) → map f (xs ++ ys) ≡ map f xs ++ map f ys
map-both f [] ys = refl
map-both f (x ∷ xs) ys = ap (λ l. f x ∷ l) (map-both f xs ys)

module _ (r : Residue) (ok : Valid r Base) (fits : FitsProfile r Base) (live : Point → LocalId → Bool) (qubits results budget : ℕ) where
  abbrev IsRow : ℕ → List Node → Type 0
  IsRow = FollowOn r ok fits live qubits results budget

  abbrev left : Config → List Item
  left = rest r ok fits live qubits results budget

  -- ---- each configuration but the first is entered once

  one-edge : (j i : ℕ) (x : Node) (e : Entered) → x.links ≡ (record { to = i; label = [] }) ∷ [] → entered_by j x.links e ≡ (if i == j then one_more e else e)
  one-edge j i x e l = ap (λ ls. entered_by j ls e) l

  entered-early : (xs : List Node) (i j : ℕ) (e : Entered) → IsRow i xs → j < i → entered (suc j) xs e ≡ e
  entered-early [] i j e h lt = absurd h
  entered-early (x ∷ []) i j e h lt = ap (λ ls. entered_by (suc j) ls e) h.links
  entered-early (x ∷ y ∷ xs) i j e h lt =
      ap (λ e. entered (suc j) (y ∷ xs) e) (one-edge (suc j) (suc i) x e h.0.links ∙ ap (λ b. if b then one_more e else e) (differ (suc i) (suc j) (λ z. absurd (omega (arith, z, lt)))))
      ∙ entered-early (y ∷ xs) (suc i) j e h.1 (omega (arith, lt))

  entered-row : (xs : List Node) (i j : ℕ) (e : Entered) → IsRow i xs → i ≤ j → suc j < i + length xs → entered (suc j) xs e ≡ one_more e
  entered-row [] i j e h le lt = absurd h
  entered-row (x ∷ []) i j e h le lt = absurd (omega (arith, le, lt))
  entered-row (x ∷ y ∷ xs) i j e h le lt = by (numbers i j) (λ g lo. entered-row (y ∷ xs) (suc i) j g h.1 lo (omega (arith, lt))) (λ g lo. entered-early (y ∷ xs) (suc i) j g h.1 lo)
    where
      by : Numbers i j → ((g : Entered) → suc i ≤ j → entered (suc j) (y ∷ xs) g ≡ one_more g) → ((g : Entered) → j < suc i → entered (suc j) (y ∷ xs) g ≡ g) → entered (suc j) (x ∷ y ∷ xs) e ≡ one_more e
      by (less a) f g =
          ap (λ e. entered (suc j) (y ∷ xs) e) (one-edge (suc j) (suc i) x e h.0.links ∙ ap (λ b. if b then one_more e else e) (differ (suc i) (suc j) (λ z. absurd (omega (arith, z, a)))))
          ∙ f e (omega (arith, a))
      by (equal a) f g =
          ap (λ e. entered (suc j) (y ∷ xs) e) (one-edge (suc j) (suc i) x e h.0.links ∙ ap (λ k. if suc i == suc k then one_more e else e) (sym a) ∙ ap (λ b. if b then one_more e else e) (same-itself (suc i)))
          ∙ g (one_more e) (omega (arith, a))
      by (more a) f g = absurd (omega (arith, a, le))

  -- ---- the rest of the part

  -- it has these items, and the tail of the printed part
  pub record IsMadeOf (xs : List Item) (t : Rest) : Type 0 where
    pub items : items_of t.lines ≡ map (settled (words r) []) xs
    pub parts : t.parts ≡ []
    pub returned : IntValue
    pub ends : (part r ok).tail ≡ tail.Return (Known (value.Int returned))
    pub again : t.tail ≡ tail.Return (Known (value.Int (modulo W64 (signed returned))))

  module _ (m : Module) (part_of : ℕ → ℕ) (nodes : List Node) (row : IsRow 0 nodes) where
    goes-on-flag : (i : ℕ) (x y : Node) → Leads r ok fits live qubits results budget i x y → suc i < length nodes → (leads_only (suc i) x.links && is_once (entered (suc i) nodes Never)) ≡ true
    goes-on-flag i x y l lt =
        ap (λ ls. leads_only (suc i) ls && is_once (entered (suc i) nodes Never)) l.links
        ∙ ap (λ b. b && is_once (entered (suc i) nodes Never)) (same-itself (suc i))
        ∙ ap is_once (entered-row nodes 0 i Never row (omega arith) (omega (arith, lt)))

    abbrev from : List Node → List Bool → DynNumbers → Rest
    from = rest_from m nodes part_of None

    rest-row : (xs : List Node) (x : Node) (i : ℕ) → IsRow i (x ∷ xs) → i + length (x ∷ xs) ≡ length nodes → list_all base_permits (left x.node) ≡ true → (n : DynNumbers) → IsMadeOf (left x.node) (from (x ∷ xs) (joins_from nodes i (x ∷ xs)) n)
    rest-row [] x i h e p n = record {
      items = line-items nodes x n ∙ ap (λ o. items_of (item_line (item_of o) n)) h.item ∙ ap (map (settled (words r) [])) (sym h.comes);
      parts = refl;
      returned = h.returned;
      ends = h.ends;
      again = ap (λ o. outcome_tail part_of None (after x n).mine o x.links) h.item;
    }
    rest-row (y ∷ xs) x i h e p n =
        let flag = goes-on-flag i x y h.0 (omega (arith, e)) in
        let both = and_parts (list_all base_permits (option_to_list h.0.left)) (list_all base_permits (left y.node)) (sym (list_all-append base_permits (option_to_list h.0.left) (left y.node)) ∙ ap (list_all base_permits) (sym h.0.comes) ∙ p) in
        let t = rest-row xs y (suc i) h.1 (omega (arith, e)) both.1 (next_numbers x true y n) in
        subst (λ b. IsMadeOf (left x.node) (from (x ∷ y ∷ xs) (b ∷ joins_from nodes (suc i) (y ∷ xs)) n)) (sym flag) (record {
          items =
              items-append (lines_of nodes x n) (from (y ∷ xs) (joins_from nodes (suc i) (y ∷ xs)) (next_numbers x true y n)).lines
              ∙ ap (λ l. l ++ items_of (from (y ∷ xs) (joins_from nodes (suc i) (y ∷ xs)) (next_numbers x true y n)).lines) (line-items nodes x n ∙ ap (λ o. items_of (item_line (item_of o) n)) h.0.item ∙ left-items (words r) h.0.left n both.0)
              ∙ ap (λ l. map (settled (words r) []) (option_to_list h.0.left) ++ l) t.items
              ∙ sym (map-both (settled (words r) []) (option_to_list h.0.left) (left y.node))
              ∙ ap (map (settled (words r) [])) (sym h.0.comes);
          parts = t.parts;
          returned = t.returned;
          ends = t.ends;
          again = t.again;
        })

    -- the one part
    pub record IsOnePart (xs : List Item) : Type 0 where
      pub again : Part
      pub parts : parts_of m part_of None nodes (joins nodes) ≡ again ∷ []
      pub params : again.params ≡ []
      pub items : items_of again.lines ≡ map (settled (words r) []) xs
      pub returned : IntValue
      pub ends : (part r ok).tail ≡ tail.Return (Known (value.Int returned))
      pub tail_again : again.tail ≡ tail.Return (Known (value.Int (modulo W64 (signed returned))))

    pub one-part-made : (xs : List Item) → list_all base_permits xs ≡ true → ((x : Node) → slice_get nodes 0 ≡ Some x → left x.node ≡ xs) → IsOnePart xs
    one-part-made xs p first = by nodes refl row
      where
        by : (ns : List Node) → nodes ≡ ns → IsRow 0 ns → IsOnePart xs
        by [] e h = absurd h
        by (x ∷ ns) e h =
            let start : left x.node ≡ xs = first x (ap (λ l. slice_get l 0) e) in
            let t = rest-row ns x 0 h (let z = ap length e in omega (arith, z)) (ap (list_all base_permits) start ∙ p) no_numbers in
            let whole : Rest = from (x ∷ ns) (joins_from nodes 0 (x ∷ ns)) no_numbers in
            record {
              again = record { params = []; lines = whole.lines; tail = whole.tail };
              parts =
                  ap (λ l. ((record { params = []; lines = (from l (joins_from nodes 0 l) no_numbers).lines; tail = (from l (joins_from nodes 0 l) no_numbers).tail }) ∷ (from l (joins_from nodes 0 l) no_numbers).parts) ++ []) e
                  ∙ ap (λ ps. ((record { params = []; lines = whole.lines; tail = whole.tail }) ∷ ps) ++ []) t.parts;
              params = refl;
              items = t.items ∙ ap (map (settled (words r) [])) start;
              returned = t.returned;
              ends = t.ends;
              tail_again = t.again;
            }
