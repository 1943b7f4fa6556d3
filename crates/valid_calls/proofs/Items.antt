-- What holds of the items of all configurations, by whatever numbers, holds of each item of the parts that are made of them.
use Rattle.std.proofs.Common.{◌≡◌, ℕ, suc, Bool, true, false, Option, None, Some, List, [], ◌∷◌, ◌++◌, slice_get, flat_map, refl}
use Rattle.std.proofs.lemmas.Bool.{and_from}
use Rattle.std.specs.List.{list_all}
use Rattle.std.specs.Prelude.{⊤, if◌then◌else◌, nat_lt}
use Rattle.ir_module.specs.declared.tree.Module.{Module}
use Rattle.ir_values.specs.declared.int.Width.{Width}
use Rattle.kept_items.specs.declared.item.Item.{Item}
use Rattle.kept_items.specs.declared.val.Dyn.{Dyn}
use Rattle.residue.specs.declared.parts.Line.{Line}
use Rattle.residue.specs.declared.parts.Line.TheVariants as line
use Rattle.residue.specs.declared.parts.Part.{Part}
use Rattle.residue.specs.declared.parts.Tail.{Tail}
use Rattle.residue.specs.Scopes.{items_of}
use Rattle.static_steps.specs.declared.config.Config.{Config}
use Rattle.fused_parts.specs.declared.numbers.Numbers.{Numbers}
use Rattle.fused_parts.specs.Nodes.{Node, item_of, widths_of}
use Rattle.fused_parts.specs.Parts.{Rest, first_of, freed, item_line, joined, let_go, lines_of, made, marks_to, next_numbers, no_numbers, parts_of, renamed_item, rest_from, shared_part, tail_of, whole, with_widths}

-- a fact of each of a list
abbrev pub Each : {A : Type 0} → (A → Type 0) → List A → Type 0
Each P [] = ⊤
Each P (x ∷ xs) = P x × Each P xs

pub each-append : {A : Type 0} (P : A → Type 0) (xs ys : List A) → Each P xs → Each P ys → Each P (xs ++ ys)
each-append P [] ys h k = k
each-append P (x ∷ xs) ys h k = (h.0, each-append P xs ys h.1 k)

pub each-flat : {A B : Type 0} (P : B → Type 0) (f : A → List B) (xs : List A) → Each (λ x. Each P (f x)) xs → Each P (flat_map f xs)
each-flat P f [] h = tt
each-flat P f (x ∷ xs) h = each-append P (f x) (flat_map f xs) h.0 (each-flat P f xs h.1)

module _ (P : Item → Type 0) where
  abbrev Have : List Line → Type 0
  Have ls = Each P (items_of ls)

  lines-have : (ls ms : List Line) → Have ls → Have ms → Have (ls ++ ms)
  lines-have [] ms h k = k
  lines-have (line.Item x ∷ ls) ms h k = (h.0, lines-have ls ms h.1 k)
  lines-have (line.Made j ∷ ls) ms h k = lines-have ls ms h k
  lines-have (line.Freed j ∷ ls) ms h k = lines-have ls ms h k

  made-have : (b : Bool) (n : ℕ) → Have (if b then (line.Made n ∷ []) else [])
  made-have true n = tt
  made-have false n = tt

  freed-have : (o : Option ℕ) → Have (freed o)
  freed-have None = tt
  freed-have (Some j) = tt

  marks-have : (g : Config) (o : Option Node) → Have (marks_to g o)
  marks-have g None = tt
  marks-have g (Some y) =
      lines-have (made g.allocated y.node.allocated) (freed (let_go g.held y.node.held)) (made-have (nat_lt g.allocated y.node.allocated) g.allocated) (freed-have (let_go g.held y.node.held))

  -- the item of a configuration by whatever numbers
  abbrev pub NodeHas : Node → Type 0
  NodeHas x = (i : Item) → item_of x.item ≡ Some i → (mine : List Dyn) (n : ℕ) → P (renamed_item mine n i)

  item-has : (o : Option Item) (n : Numbers) → ((i : Item) → o ≡ Some i → P (renamed_item n.mine n.free i)) → Have (item_line o n)
  item-has None n h = tt
  item-has (Some i) n h = (h i refl, tt)

  node-has : (nodes : List Node) (x : Node) (n : Numbers) → NodeHas x → Have (lines_of nodes x n)
  node-has nodes x n h =
      lines-have (item_line (item_of x.item) n) (marks_to x.node (first_of nodes x.links)) (item-has (item_of x.item) n (λ i e. h i e n.mine n.free)) (marks-have x.node (first_of nodes x.links))

  record RestHas (r : Rest) : Type 0 where
    lines : Have r.lines
    parts : Each (λ (p : Part). Have p.lines) r.parts

  joined-has : (b : Bool) (ls : List Line) (t : Tail) (params : List (Dyn × Width)) (r : Rest) → Have ls → RestHas r → RestHas (joined b ls t params r)
  joined-has true ls t params r h k = record { lines = lines-have ls r.lines h k.lines; parts = k.parts }
  joined-has false ls t params r h k = record { lines = h; parts = (k.lines, k.parts) }

  abbrev pub AllHave : List Node → Type 0
  AllHave xs = (i : ℕ) (x : Node) → slice_get xs i ≡ Some x → NodeHas x

  module _ (m : Module) (nodes : List Node) (part_of : ℕ → ℕ) (shared : Option ℕ) where
    rest-has : (xs : List Node) (bs : List Bool) (n : Numbers) → AllHave xs → RestHas (rest_from m nodes part_of shared xs bs n)
    rest-has [] bs n h = record { lines = tt; parts = tt }
    rest-has (x ∷ []) bs n h = record { lines = node-has nodes x n (h 0 x refl); parts = tt }
    rest-has (x ∷ y ∷ xs) [] n h = record { lines = node-has nodes x n (h 0 x refl); parts = tt }
    rest-has (x ∷ y ∷ xs) (b ∷ bs) n h =
        let k : Numbers = next_numbers x b y n in
        joined-has b (lines_of nodes x n) (tail_of part_of shared x n) (with_widths k.mine (widths_of m y.node)) (rest_from m nodes part_of shared (y ∷ xs) bs k) (node-has nodes x n (h 0 x refl))
        (rest-has (y ∷ xs) bs k (λ i z e. h (suc i) z e))

    shared-has : (o : Option ℕ) → Each (λ (p : Part). Have p.lines) (shared_part o)
    shared-has None = tt
    shared-has (Some n) = (tt, tt)

    pub parts-have : (bs : List Bool) → AllHave nodes → Each P (flat_map (λ (p : Part). items_of p.lines) (parts_of m part_of shared nodes bs))
    parts-have bs h =
        let q = rest-has nodes bs no_numbers h in
        let r : Rest = rest_from m nodes part_of shared nodes bs no_numbers in
        each-flat P (λ (p : Part). items_of p.lines) (parts_of m part_of shared nodes bs) (each-append (λ (p : Part). Have p.lines) (whole r) (shared_part shared) (q.lines, q.parts) (shared-has shared))

-- tests
pub each-passes : {A : Type 0} (test : A → Bool) (xs : List A) → Each (λ x. test x ≡ true) xs → list_all test xs ≡ true
each-passes test [] h = refl
each-passes test (x ∷ xs) h = and_from (test x) (list_all test xs) h.0 (each-passes test xs h.1)
