-- Along the configurations of a part its scope has their Dynamic values with their widths.
use Rattle.std.proofs.Common.{◌≡◌, ℕ, suc, ◌+◌, Bool, true, false, Option, None, Some, List, [], ◌∷◌, ◌++◌, flat_map, length, map, refl, sym, ap, ◌∙◌, subst, arith, append-nil, length-append}
use Rattle.std.proofs.lemmas.Grind.{flat_map-append}
use Rattle.std.specs.Prelude.{⊤, if◌then◌else◌, nat_lt, slice_get}
use Rattle.ir_module.specs.declared.tree.Module.{Module}
use Rattle.ir_values.specs.declared.int.Width.{Width}
use Rattle.kept_items.specs.declared.item.Item.{Item}
use Rattle.kept_items.specs.declared.item.Item.TheVariants as item
use Rattle.kept_items.specs.declared.val.Dyn.{Dyn}
use Rattle.residue.specs.declared.parts.Line.TheVariants as line
use Rattle.residue.specs.declared.parts.Part.{Part}
use Rattle.residue.specs.Scopes.{item_gives, item_uses, items_of, part_gives}
use Rattle.static_steps.specs.declared.config.Config.{Config}
use Rattle.static_steps.specs.Works.{dynamics_of}
use Rattle.fused_parts.specs.declared.numbers.Numbers.{Numbers}
use Rattle.fused_parts.specs.Nodes.{Node, gives, item_of, widths_of}
use Rattle.fused_parts.specs.Parts.{Rest, after, first_label, first_of, freed, in_row, item_line, joined, let_go, lines_of, made, marks_to, next_numbers, no_numbers, nowhere, parts_of, renamed_item, rest_from, shared_part, tail_of, whole, with_widths}
use Rattle.fused_parts.specs.Ranks.{goes_on}
use Rattle.valid_steps.specs.Items.{gives_some}
use Rattle.valid_steps.specs.Types.{Fill}
use Rattle.scoped_parts.proofs.Fits.{Fit, fit-append, fit-behind, fit-filled, fit-more, fit-new, int_type}
use Rattle.scoped_parts.proofs.Good.{ItemsGood, PartsGood, RestGood, TailGood, all_have, given, items-of-append, on-begun, on-joined, parts-append}
use Rattle.scoped_parts.proofs.Rows.{IsRow, numbered_width, row-append, row-of-is, row-of-length, row-of-params, row_of}

-- ---- the item of a node, and what it gives

abbrev pub renamed_items : Option Item → Numbers → List Item
renamed_items None n = []
renamed_items (Some i) n = renamed_item n.mine n.free i ∷ []

-- marks are no items
marks-none : (g : Config) (o : Option Node) → items_of (marks_to g o) ≡ []
marks-none g None = refl
marks-none g (Some y) =
    items-of-append (made g.allocated y.node.allocated) (freed (let_go g.held y.node.held))
    ∙ ap (λ l. l ++ items_of (freed (let_go g.held y.node.held))) (by-test (nat_lt g.allocated y.node.allocated))
    ∙ by-option (let_go g.held y.node.held)
  where
    by-test : (b : Bool) → items_of (if b then (line.Made g.allocated ∷ []) else []) ≡ []
    by-test true = refl
    by-test false = refl

    by-option : (o : Option ℕ) → items_of (freed o) ≡ []
    by-option None = refl
    by-option (Some j) = refl

line-items : (o : Option Item) (n : Numbers) → items_of (item_line o n) ≡ renamed_items o n
line-items None n = refl
line-items (Some i) n = refl

node-items : (nodes : List Node) (x : Node) (n : Numbers) → items_of (lines_of nodes x n) ≡ renamed_items (item_of x.item) n
node-items nodes x n =
    items-of-append (item_line (item_of x.item) n) (marks_to x.node (first_of nodes x.links))
    ∙ ap (λ l. items_of (item_line (item_of x.item) n) ++ l) (marks-none x.node (first_of nodes x.links))
    ∙ append-nil (items_of (item_line (item_of x.item) n)) ∙ line-items (item_of x.item) n

-- the widths of what an item gives
abbrev pub widths_given : Option Item → List Width
widths_given None = []
widths_given (Some i) = map (λ x. x.1) (item_gives i)

pub types-given : (o : Option Item) → gives_some o ≡ map int_type (widths_given o)
types-given None = refl
types-given (Some (item.Binary d o flags w a b)) = refl
types-given (Some (item.Icmp d o w a b)) = refl
types-given (Some (item.Convert d o w a to)) = refl
types-given (Some (item.Select d w c a b)) = refl
types-given (Some (item.Read d v)) = refl
types-given (Some (item.Equal d v u)) = refl
types-given (Some (item.Operation name args)) = refl
types-given (Some (item.Output c args)) = refl

count-given : (o : Option Item) → gives o ≡ length (widths_given o)
count-given None = refl
count-given (Some (item.Binary d o flags w a b)) = refl
count-given (Some (item.Icmp d o w a b)) = refl
count-given (Some (item.Convert d o w a to)) = refl
count-given (Some (item.Select d w c a b)) = refl
count-given (Some (item.Read d v)) = refl
count-given (Some (item.Equal d v u)) = refl
count-given (Some (item.Operation name args)) = refl
count-given (Some (item.Output c args)) = refl

values-given : (o : Option Item) (n : Numbers) → given (renamed_items o n) ≡ row_of n.free (widths_given o)
values-given None n = refl
values-given (Some (item.Binary d o flags w a b)) n = refl
values-given (Some (item.Icmp d o w a b)) n = refl
values-given (Some (item.Convert d o w a to)) n = refl
values-given (Some (item.Select d w c a b)) n = refl
values-given (Some (item.Read d v)) n = refl
values-given (Some (item.Equal d v u)) n = refl
values-given (Some (item.Operation name args)) n = refl
values-given (Some (item.Output c args)) n = refl

-- ---- where a configuration stands

-- the scope is a row up to the next number, and has the Dynamic values with these widths
pub record At (scope : List (ℕ × Width)) (n : Numbers) (ws : List Width) : Type 0 where
  pub from : ℕ
  pub row : IsRow from scope
  pub free : from + length scope ≡ n.free
  pub fit : Fit scope n.mine ws

-- behind what an item gives
at-given : (scope : List (ℕ × Width)) (n : Numbers) (ws us : List Width) → At scope n ws
    → At (scope ++ row_of n.free us) (record { free = n.free + length us; mine = n.mine ++ in_row n.free (length us) }) (ws ++ us)
at-given scope n ws us h =
    let row : IsRow h.from (scope ++ row_of n.free us) =
    row-append h.from scope (row_of n.free us) h.row (subst (λ z. IsRow z (row_of n.free us)) (sym h.free) (row-of-is n.free us)) in
    record {
      from = h.from;
      row = row;
      free = (let a = length-append scope (row_of n.free us) in let b = row-of-length n.free us in let c = h.free in omega (arith, a, b, c));
      fit =
          fit-append (scope ++ row_of n.free us) n.mine (in_row n.free (length us)) ws us (fit-more scope (row_of n.free us) n.mine ws h.fit)
          (fit-behind h.from scope (row_of n.free us) (in_row n.free (length us)) us row (fit-new n.free us));
    }

-- at parameters
at-params : (n : ℕ) (ws : List Width) → At (row_of n ws) (record { free = n + length ws; mine = in_row n (length ws) }) ws
at-params n ws = record {
  from = n;
  row = row-of-is n ws;
  free = ap (λ k. n + k) (row-of-length n ws);
  fit = fit-new n ws;
}

-- the first of these configurations stands so
abbrev pub FirstAt : Module → List (ℕ × Width) → Numbers → List Node → Type 0
FirstAt m scope n [] = ⊤
FirstAt m scope n (x ∷ xs) = At scope n (widths_of m x.node)

module _ (m : Module) (nodes : List Node) (part_of : ℕ → ℕ) (shared : Option ℕ) (all : List Part) where
  -- the scope behind a node
  abbrev pub behind : List (ℕ × Width) → Node → Numbers → List (ℕ × Width)
  behind scope x n = scope ++ given (items_of (lines_of nodes x n))

  abbrev pub widths_behind : Node → List Width
  widths_behind x = widths_of m x.node ++ widths_given (item_of x.item)

  -- what holds of a node wherever it stands: its item has its types
  abbrev pub ItemHolds : Node → Type 0
  ItemHolds x = (scope : List (ℕ × Width)) (n : Numbers) (i : Item) → Fit scope n.mine (widths_of m x.node) → item_of x.item ≡ Some i
      → all_have scope (item_uses (renamed_item n.mine n.free i)) ≡ true

  -- and where it ends a part, its tail
  abbrev pub TailHolds : Node → Type 0
  TailHolds x = (scope : List (ℕ × Width)) (n : Numbers) → Fit scope (after x n).mine (widths_behind x) → TailGood all scope (tail_of part_of shared x n)

  -- and where it goes on, the next one's Dynamic names get their values
  abbrev pub Hands : Node → Node → Type 0
  Hands x y = Fill (map int_type (widths_behind x)) (first_label x.links) (map int_type (widths_of m y.node))

  pub record AllHold (xs : List Node) (bs : List Bool) : Type 0 where
    pub items : (i : ℕ) (x : Node) → slice_get xs i ≡ Some x → ItemHolds x
    pub counts : (i : ℕ) (x : Node) → slice_get xs i ≡ Some x → dynamics_of x.node ≡ length (widths_of m x.node)
    pub tails : (i : ℕ) (x : Node) → slice_get xs i ≡ Some x → goes_on xs bs i ≡ false → TailHolds x
    pub hands : (i : ℕ) (x y : Node) → slice_get xs i ≡ Some x → slice_get xs (suc i) ≡ Some y → goes_on xs bs i ≡ true → Hands x y

  all-behind : (x y : Node) (xs : List Node) (b : Bool) (bs : List Bool) → AllHold (x ∷ y ∷ xs) (b ∷ bs) → AllHold (y ∷ xs) bs
  all-behind x y xs b bs h = record {
    items = λ i z e. h.items (suc i) z e;
    counts = λ i z e. h.counts (suc i) z e;
    tails = λ i z e f. h.tails (suc i) z e f;
    hands = λ i z w e f g. h.hands (suc i) z w e f g;
  }

  -- ---- one node

  module _ (x : Node) (n : Numbers) (scope : List (ℕ × Width)) (at : At scope n (widths_of m x.node)) where
    own-values : given (items_of (lines_of nodes x n)) ≡ row_of n.free (widths_given (item_of x.item))
    own-values = ap given (node-items nodes x n) ∙ values-given (item_of x.item) n

    own-row : IsRow n.free (given (items_of (lines_of nodes x n)))
    own-row = subst (IsRow n.free) (sym own-values) (row-of-is n.free (widths_given (item_of x.item)))

    own-length : n.free + length (given (items_of (lines_of nodes x n))) ≡ (after x n).free
    own-length = ap (λ k. n.free + k) (ap length own-values ∙ row-of-length n.free (widths_given (item_of x.item)) ∙ sym (count-given (item_of x.item)))

    own-items : ItemHolds x → ItemsGood scope (items_of (lines_of nodes x n))
    own-items h = subst (ItemsGood scope) (sym (node-items nodes x n)) (by-item (item_of x.item) refl)
      where
        by-item : (o : Option Item) → item_of x.item ≡ o → ItemsGood scope (renamed_items o n)
        by-item None e = tt
        by-item (Some i) e = (h scope n i at.fit e, tt)

    at-behind : At (behind scope x n) (after x n) (widths_behind x)
    at-behind =
        subst (λ s. At (scope ++ s) (after x n) (widths_behind x)) (sym own-values)
        (subst (λ k. At (scope ++ row_of n.free (widths_given (item_of x.item))) (record { free = n.free + k; mine = n.mine ++ in_row n.free k }) (widths_behind x))
        (sym (count-given (item_of x.item))) (at-given scope n (widths_of m x.node) (widths_given (item_of x.item)) at))

    -- the next one in the part
    at-next : (y : Node) → Hands x y → At (behind scope x n) (next_numbers x true y n) (widths_of m y.node)
    at-next y h = record {
      from = at-behind.from;
      row = at-behind.row;
      free = at-behind.free;
      fit = fit-filled (behind scope x n) (after x n).mine (widths_behind x) at-behind.fit (first_label x.links) (widths_of m y.node) h;
    }

    -- the first of the next part
    at-begun : (y : Node) → dynamics_of y.node ≡ length (widths_of m y.node) → At (row_of (after x n).free (widths_of m y.node)) (next_numbers x false y n) (widths_of m y.node)
    at-begun y e =
        subst (λ k. At (row_of (after x n).free (widths_of m y.node)) (record { free = (after x n).free + k; mine = in_row (after x n).free k }) (widths_of m y.node))
        (sym e) (at-params (after x n).free (widths_of m y.node))

    params-begun : (y : Node) → dynamics_of y.node ≡ length (widths_of m y.node)
        → row_of (after x n).free (widths_of m y.node) ≡ map numbered_width (with_widths (next_numbers x false y n).mine (widths_of m y.node))
    params-begun y e =
        sym (ap (λ k. map numbered_width (with_widths (in_row (after x n).free k) (widths_of m y.node))) e ∙ row-of-params (after x n).free (widths_of m y.node))

    -- alone, or the last
    good-alone : ItemHolds x → TailHolds x → RestGood all scope n.free (record { lines = lines_of nodes x n; tail = tail_of part_of shared x n; parts = [] })
    good-alone h k = record {
      items = own-items h;
      tail = k (behind scope x n) n at-behind.fit;
      parts = tt;
      row = subst (IsRow n.free) (sym (append-nil (given (items_of (lines_of nodes x n))))) own-row;
    }

    abbrev next_params : Bool → Node → List (Dyn × Width)
    next_params b y = with_widths (next_numbers x b y n).mine (widths_of m y.node)

    good-joined : (y : Node) (r : Rest) → ItemHolds x → RestGood all (behind scope x n) (next_numbers x true y n).free r
        → RestGood all scope n.free (joined true (lines_of nodes x n) (tail_of part_of shared x n) (next_params true y) r)
    good-joined y r h k =
        on-joined all scope n.free (lines_of nodes x n) (tail_of part_of shared x n) (next_params true y) r (own-items h) own-row
        (subst (λ k. RestGood all (behind scope x n) k r) (sym own-length) k)

    good-begun : (y : Node) (r : Rest) → ItemHolds x → TailHolds x → dynamics_of y.node ≡ length (widths_of m y.node)
        → RestGood all (row_of (after x n).free (widths_of m y.node)) (next_numbers x false y n).free r
        → RestGood all scope n.free (joined false (lines_of nodes x n) (tail_of part_of shared x n) (next_params false y) r)
    good-begun y r h t e k =
        let new : List (ℕ × Width) = row_of (after x n).free (widths_of m y.node) in
        let sum : n.free + length (given (items_of (lines_of nodes x n))) + length new ≡ (next_numbers x false y n).free =
        (let a = own-length in let b = row-of-length (after x n).free (widths_of m y.node) in omega (arith, a, b, e)) in
        on-begun all scope n.free (lines_of nodes x n) (tail_of part_of shared x n) (next_params false y) new r (own-items h) own-row
        (t (behind scope x n) n at-behind.fit) (params-begun y e)
        (subst (λ k. IsRow k new) (sym own-length) (row-of-is (after x n).free (widths_of m y.node)))
        (subst (λ k. RestGood all new k r) (sym sum) k)

  -- ---- all of them

  module _ (stops : (scope : List (ℕ × Width)) → TailGood all scope nowhere) where
    good-from : (xs : List Node) (bs : List Bool) (n : Numbers) (scope : List (ℕ × Width)) → AllHold xs bs → FirstAt m scope n xs
        → RestGood all scope n.free (rest_from m nodes part_of shared xs bs n)
    good-from [] bs n scope h at = record { items = tt; tail = stops (scope ++ []); parts = tt; row = tt }
    good-from (x ∷ []) bs n scope h at = good-alone x n scope at (h.items 0 x refl) (h.tails 0 x refl refl)
    good-from (x ∷ y ∷ xs) [] n scope h at = good-alone x n scope at (h.items 0 x refl) (h.tails 0 x refl refl)
    good-from (x ∷ y ∷ xs) (true ∷ bs) n scope h at =
        good-joined x n scope at y (rest_from m nodes part_of shared (y ∷ xs) bs (next_numbers x true y n)) (h.items 0 x refl)
        (good-from (y ∷ xs) bs (next_numbers x true y n) (behind scope x n) (all-behind x y xs true bs h) (at-next x n scope at y (h.hands 0 x y refl refl refl)))
    good-from (x ∷ y ∷ xs) (false ∷ bs) n scope h at =
        good-begun x n scope at y (rest_from m nodes part_of shared (y ∷ xs) bs (next_numbers x false y n)) (h.items 0 x refl) (h.tails 0 x refl refl) (h.counts 1 y refl)
        (good-from (y ∷ xs) bs (next_numbers x false y n) (row_of (after x n).free (widths_of m y.node)) (all-behind x y xs false bs h) (at-begun x n scope at y (h.counts 1 y refl)))

    shared-good : (o : Option ℕ) → PartsGood all (shared_part o)
    shared-good None = tt
    shared-good (Some k) = ((tt, stops []), tt)

    shared-gives : (o : Option ℕ) → flat_map part_gives (shared_part o) ≡ []
    shared-gives None = refl
    shared-gives (Some k) = refl

    abbrev made_of : List Bool → Rest
    made_of bs = rest_from m nodes part_of shared nodes bs no_numbers

    good-first : (bs : List Bool) → AllHold nodes bs → FirstAt m [] no_numbers nodes → RestGood all [] 0 (made_of bs)
    good-first bs h at = good-from nodes bs no_numbers [] h at

    -- all parts are good
    pub parts-good : (bs : List Bool) → AllHold nodes bs → FirstAt m [] no_numbers nodes → PartsGood all (parts_of m part_of shared nodes bs)
    parts-good bs h at =
        let g = good-first bs h at in
        parts-append all (whole (made_of bs)) (shared_part shared) ((g.items, g.tail), g.parts) (shared-good shared)

    -- and what they give has the numbers from 0 on
    pub parts-give : (bs : List Bool) → AllHold nodes bs → FirstAt m [] no_numbers nodes → IsRow 0 (flat_map part_gives (parts_of m part_of shared nodes bs))
    parts-give bs h at =
        let g = good-first bs h at in
        subst (IsRow 0)
        (sym
        (flat_map-append part_gives (whole (made_of bs)) (shared_part shared)
        ∙ ap (λ l. flat_map part_gives (whole (made_of bs)) ++ l) (shared-gives shared) ∙ append-nil (flat_map part_gives (whole (made_of bs)))))
        g.row
