-- The items of configurations in a row stand in the order of the Base Profile.
use Rattle.std.proofs.Common.{◌≡◌, ℕ, ◌≤◌, Bool, true, false, Option, None, Some, List, [], ◌∷◌, ◌++◌, refl, sym, ap, ◌∙◌, subst, arith}
use Rattle.std.proofs.lemmas.Bool.{and_from, le-ltb}
use Rattle.std.specs.Prelude.{⊤, if◌then◌else◌, nat_lt, not}
use Rattle.ir_module.specs.declared.tree.Module.{Module}
use Rattle.kept_items.specs.declared.item.Item.{Item}
use Rattle.kept_items.specs.declared.item.Item.TheVariants as item
use Rattle.kept_items.specs.declared.val.Dyn.{Dyn}
use Rattle.residue.specs.declared.parts.Line.{Line}
use Rattle.residue.specs.declared.parts.Line.TheVariants as line
use Rattle.residue.specs.Phases.{phase_of, phases_rise}
use Rattle.residue.specs.Scopes.{items_of}
use Rattle.static_steps.specs.declared.config.Config.{Config}
use Rattle.static_steps.specs.declared.phase.Phase.{Phase}
use Rattle.static_steps.specs.declared.phase.Phase.TheVariants as phase
use Rattle.fused_parts.specs.declared.numbers.Numbers.{Numbers}
use Rattle.fused_parts.specs.Nodes.{Node, item_of, widths_of}
use Rattle.fused_parts.specs.Parts.{first_of, freed, item_line, joined, let_go, lines_of, made, marks_to, next_numbers, renamed_item, rest_from, tail_of, with_widths}
use Rattle.path_search.proofs.Walks.{app_nil}
use Rattle.base_order.proofs.Joined.{Joined}

-- the number of a phase in the order
abbrev pub level : Phase → ℕ
level phase.Begin = 0
level phase.Reversible = 1
level phase.Irreversible = 2
level phase.Output = 3

module _ (names : List (List ℕ)) where
  same-phase : (mine : List Dyn) (n : ℕ) (i : Item) → phase_of names (renamed_item mine n i) ≡ phase_of names i
  same-phase mine n (item.Binary d o flags w a b) = refl
  same-phase mine n (item.Icmp d o w a b) = refl
  same-phase mine n (item.Convert d o w a to) = refl
  same-phase mine n (item.Select d w c a b) = refl
  same-phase mine n (item.Read d v) = refl
  same-phase mine n (item.Equal d v u) = refl
  same-phase mine n (item.Operation name args) = refl
  same-phase mine n (item.Output c args) = refl

  -- behind an item, or none
  abbrev pub behind : Option Item → ℕ → ℕ
  behind None k = k
  behind (Some i) k = phase_of names i

  -- an item doesn't stand before the phase of its configuration
  abbrev pub InOrder : Node → Type 0
  InOrder x = (i : Item) → item_of x.item ≡ Some i → level x.node.phase ≤ phase_of names i

  -- each is in order, and the next stands in the phase behind it
  abbrev pub AreInOrder : List Node → Type 0
  AreInOrder [] = ⊤
  AreInOrder (x ∷ []) = InOrder x
  AreInOrder (x ∷ y ∷ xs) = InOrder x × (level y.node.phase ≡ behind (item_of x.item) (level x.node.phase)) × AreInOrder (y ∷ xs)

  -- ---- lines without items

  items-append : (ls ms : List Line) → items_of (ls ++ ms) ≡ items_of ls ++ items_of ms
  items-append [] ms = refl
  items-append (line.Item x ∷ ls) ms = ap (λ l. x ∷ l) (items-append ls ms)
  items-append (line.Made j ∷ ls) ms = items-append ls ms
  items-append (line.Freed j ∷ ls) ms = items-append ls ms

  made-none : (b : Bool) (n : ℕ) → items_of (if b then (line.Made n ∷ []) else []) ≡ []
  made-none true n = refl
  made-none false n = refl

  freed-none : (o : Option ℕ) → items_of (freed o) ≡ []
  freed-none None = refl
  freed-none (Some j) = refl

  marks-none : (g : Config) (o : Option Node) → items_of (marks_to g o) ≡ []
  marks-none g None = refl
  marks-none g (Some y) =
      items-append (made g.allocated y.node.allocated) (freed (let_go g.held y.node.held))
      ∙ ap (λ l. l ++ items_of (freed (let_go g.held y.node.held))) (made-none (nat_lt g.allocated y.node.allocated) g.allocated)
      ∙ freed-none (let_go g.held y.node.held)

  -- the items of a configuration and of what follows it
  lines-items : (nodes : List Node) (x : Node) (n : Numbers) (rest : List Line) → items_of (lines_of nodes x n ++ rest) ≡ items_of (item_line (item_of x.item) n) ++ items_of rest
  lines-items nodes x n rest =
      items-append (lines_of nodes x n) rest
      ∙ ap (λ l. l ++ items_of rest)
      (items-append (item_line (item_of x.item) n) (marks_to x.node (first_of nodes x.links))
      ∙ (ap (λ l. items_of (item_line (item_of x.item) n) ++ l) (marks-none x.node (first_of nodes x.links)) ∙ app_nil (items_of (item_line (item_of x.item) n))))

  -- ---- the order

  one-more : (o : Option Item) (n : Numbers) (k q : ℕ) (rest : List Item) → ((i : Item) → o ≡ Some i → q ≤ phase_of names i) → k ≤ q → ((j : ℕ) → j ≤ behind o q → phases_rise names j rest ≡ true)
      → phases_rise names k (items_of (item_line o n) ++ rest) ≡ true
  one-more None n k q rest own le more = more k le
  one-more (Some i) n k q rest own le more =
      let z = same-phase n.mine n.free i in
      let low = own i refl in
      and_from (not (nat_lt (phase_of names (renamed_item n.mine n.free i)) k)) (phases_rise names (phase_of names (renamed_item n.mine n.free i)) rest)
      (ap not (le-ltb (phase_of names (renamed_item n.mine n.free i)) k (omega (arith, z, low, le)))) (more (phase_of names (renamed_item n.mine n.free i)) (omega (arith, z)))

  module _ (m : Module) (nodes : List Node) (part_of : ℕ → ℕ) (shared : Option ℕ) where
    alone-rises : (x : Node) (n : Numbers) (k : ℕ) → InOrder x → k ≤ level x.node.phase → phases_rise names k (items_of (lines_of nodes x n)) ≡ true
    alone-rises x n k own le =
        subst (λ l. phases_rise names k l ≡ true) (sym (ap items_of (sym (app_nil (lines_of nodes x n))) ∙ lines-items nodes x n []))
        (one-more (item_of x.item) n k (level x.node.phase) [] own le (λ j lt. refl))

    rest-rises : (x : Node) (xs : List Node) (bs : List Bool) (n : Numbers) (k : ℕ) → Joined (x ∷ xs) bs → AreInOrder (x ∷ xs) → k ≤ level x.node.phase
        → phases_rise names k (items_of (rest_from m nodes part_of shared (x ∷ xs) bs n).lines) ≡ true
    rest-rises x [] bs n k h order le = alone-rises x n k order le
    rest-rises x (y ∷ xs) [] n k h order le = absurd h
    rest-rises x (y ∷ xs) (b ∷ bs) n k h order le =
        subst
        (λ q. phases_rise names k (items_of (joined q (lines_of nodes x n) (tail_of part_of shared x n) (with_widths (next_numbers x q y n).mine (widths_of m y.node)) (rest_from m nodes part_of shared (y ∷ xs) bs (next_numbers x q y n))).lines) ≡ true)
        (sym h.0)
        (subst (λ l. phases_rise names k l ≡ true) (sym (lines-items nodes x n (rest_from m nodes part_of shared (y ∷ xs) bs (next_numbers x true y n)).lines))
        (one-more (item_of x.item) n k (level x.node.phase) (items_of (rest_from m nodes part_of shared (y ∷ xs) bs (next_numbers x true y n)).lines) order.0 le (λ j lt.
        rest-rises y xs bs (next_numbers x true y n) j h.1 order.2 (let z = order.1 in omega (arith, lt, z)))))

    pub all-rise : (xs : List Node) (bs : List Bool) (n : Numbers) → Joined xs bs → AreInOrder xs → phases_rise names 0 (items_of (rest_from m nodes part_of shared xs bs n).lines) ≡ true
    all-rise [] bs n h order = refl
    all-rise (x ∷ xs) bs n h order = rest-rises x xs bs n 0 h order (omega arith)
