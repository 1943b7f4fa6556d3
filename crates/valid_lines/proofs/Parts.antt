-- A test that the items of all nodes pass, by whatever numbers, is passed by the items of the parts that are made of them.
use Rattle.std.proofs.Common.{◌≡◌, ℕ, suc, Bool, true, false, Option, None, Some, List, [], ◌∷◌, ◌++◌, slice_get, flat_map, refl}
use Rattle.std.proofs.lemmas.Bool.{and_from, and_parts}
use Rattle.std.specs.List.{list_all}
use Rattle.std.specs.Prelude.{if◌then◌else◌, nat_lt}
use Rattle.ir_module.specs.declared.tree.Module.{Module}
use Rattle.ir_values.specs.declared.int.Width.{Width}
use Rattle.kept_items.specs.declared.item.Item.{Item}
use Rattle.kept_items.specs.declared.val.Dyn.{Dyn}
use Rattle.residue.specs.declared.parts.Line.{Line}
use Rattle.residue.specs.declared.parts.Line.TheVariants as line
use Rattle.residue.specs.declared.parts.Part.{Part}
use Rattle.residue.specs.declared.parts.Tail.{Tail}
use Rattle.residue.specs.Scopes.{items_of}
use Rattle.static_steps.specs.declared.config.Config.{Config}
use Rattle.fused_parts.specs.declared.numbers.Numbers.{Numbers}
use Rattle.fused_parts.specs.Nodes.{Node, item_of, widths_of}
use Rattle.fused_parts.specs.Parts.{Rest, first_of, freed, item_line, joined, let_go, lines_of, made, marks_to, next_numbers, no_numbers, parts_of, renamed_item, rest_from, shared_part, tail_of, whole, with_widths}

-- ---- tests of all of a list

pub both-pass : {A : Type 0} (test : A → Bool) (xs ys : List A) → list_all test xs ≡ true → list_all test ys ≡ true → list_all test (xs ++ ys) ≡ true
both-pass test [] ys h k = k
both-pass test (x ∷ xs) ys h k =
    let p = and_parts (test x) (list_all test xs) h in and_from (test x) (list_all test (xs ++ ys)) p.0 (both-pass test xs ys p.1 k)

pub flat-passes : {A B : Type 0} (test : B → Bool) (f : A → List B) (xs : List A) → list_all (λ x. list_all test (f x)) xs ≡ true → list_all test (flat_map f xs) ≡ true
flat-passes test f [] h = refl
flat-passes test f (x ∷ xs) h =
    let p = and_parts (list_all test (f x)) (list_all (λ x. list_all test (f x)) xs) h in both-pass test (f x) (flat_map f xs) p.0 (flat-passes test f xs p.1)

module _ (test : Item → Bool) where
  abbrev pub Pass : List Line → Type 0
  Pass ls = list_all test (items_of ls) ≡ true

  pub lines-pass : (ls ms : List Line) → Pass ls → Pass ms → Pass (ls ++ ms)
  lines-pass [] ms h k = k
  lines-pass (line.Item x ∷ ls) ms h k =
      let p = and_parts (test x) (list_all test (items_of ls)) h in and_from (test x) (list_all test (items_of (ls ++ ms))) p.0 (lines-pass ls ms p.1 k)
  lines-pass (line.Made j ∷ ls) ms h k = lines-pass ls ms h k
  lines-pass (line.Freed j ∷ ls) ms h k = lines-pass ls ms h k

  made-pass : (b : Bool) (n : ℕ) → Pass (if b then (line.Made n ∷ []) else [])
  made-pass true n = refl
  made-pass false n = refl

  freed-pass : (o : Option ℕ) → Pass (freed o)
  freed-pass None = refl
  freed-pass (Some j) = refl

  marks-pass : (g : Config) (o : Option Node) → Pass (marks_to g o)
  marks-pass g None = refl
  marks-pass g (Some y) =
      lines-pass (made g.allocated y.node.allocated) (freed (let_go g.held y.node.held)) (made-pass (nat_lt g.allocated y.node.allocated) g.allocated) (freed-pass (let_go g.held y.node.held))

  -- the items of a node pass by whatever numbers
  abbrev pub NodePasses : Node → Type 0
  NodePasses x = (i : Item) → item_of x.item ≡ Some i → (mine : List Dyn) (n : ℕ) → test (renamed_item mine n i) ≡ true

  item-passes : (o : Option Item) (n : Numbers) → ((i : Item) → o ≡ Some i → test (renamed_item n.mine n.free i) ≡ true) → Pass (item_line o n)
  item-passes None n h = refl
  item-passes (Some i) n h = and_from (test (renamed_item n.mine n.free i)) true (h i refl) refl

  node-lines : (nodes : List Node) (x : Node) (n : Numbers) → NodePasses x → Pass (lines_of nodes x n)
  node-lines nodes x n h =
      lines-pass (item_line (item_of x.item) n) (marks_to x.node (first_of nodes x.links)) (item-passes (item_of x.item) n (λ i e. h i e n.mine n.free)) (marks-pass x.node (first_of nodes x.links))

  abbrev PartsPass : List Part → Type 0
  PartsPass ps = list_all (λ (p : Part). list_all test (items_of p.lines)) ps ≡ true

  record RestPasses (r : Rest) : Type 0 where
    lines : Pass r.lines
    parts : PartsPass r.parts

  joined-passes : (b : Bool) (ls : List Line) (t : Tail) (params : List (Dyn × Width)) (r : Rest) → Pass ls → RestPasses r → RestPasses (joined b ls t params r)
  joined-passes true ls t params r h k = record { lines = lines-pass ls r.lines h k.lines; parts = k.parts }
  joined-passes false ls t params r h k =
      record { lines = h; parts = and_from (list_all test (items_of r.lines)) (list_all (λ (p : Part). list_all test (items_of p.lines)) r.parts) k.lines k.parts }

  abbrev pub AllPass : List Node → Type 0
  AllPass xs = (i : ℕ) (x : Node) → slice_get xs i ≡ Some x → NodePasses x

  module _ (m : Module) (nodes : List Node) (part_of : ℕ → ℕ) (shared : Option ℕ) where
    rest-passes : (xs : List Node) (bs : List Bool) (n : Numbers) → AllPass xs → RestPasses (rest_from m nodes part_of shared xs bs n)
    rest-passes [] bs n h = record { lines = refl; parts = refl }
    rest-passes (x ∷ []) bs n h = record { lines = node-lines nodes x n (h 0 x refl); parts = refl }
    rest-passes (x ∷ y ∷ xs) [] n h = record { lines = node-lines nodes x n (h 0 x refl); parts = refl }
    rest-passes (x ∷ y ∷ xs) (b ∷ bs) n h =
        let n' : Numbers = next_numbers x b y n in
        joined-passes b (lines_of nodes x n) (tail_of part_of shared x n) (with_widths n'.mine (widths_of m y.node)) (rest_from m nodes part_of shared (y ∷ xs) bs n') (node-lines nodes x n (h 0 x refl))
        (rest-passes (y ∷ xs) bs n' (λ i z e. h (suc i) z e))

    shared-passes : (o : Option ℕ) → PartsPass (shared_part o)
    shared-passes None = refl
    shared-passes (Some n) = refl

    pub parts-pass : (bs : List Bool) → AllPass nodes → list_all test (flat_map (λ (p : Part). items_of p.lines) (parts_of m part_of shared nodes bs)) ≡ true
    parts-pass bs h =
        let q = rest-passes nodes bs no_numbers h in
        let r : Rest = rest_from m nodes part_of shared nodes bs no_numbers in
        flat-passes test (λ (p : Part). items_of p.lines) (parts_of m part_of shared nodes bs)
        (both-pass (λ (p : Part). list_all test (items_of p.lines)) (whole r) (shared_part shared)
        (and_from (list_all test (items_of r.lines)) (list_all (λ (p : Part). list_all test (items_of p.lines)) r.parts) q.lines q.parts) (shared-passes shared))
