-- How many parts, lines and local names a lowered program has.
use Rattle.std.proofs.Common.{◌≡◌, ℕ, ◌+◌, ◌*◌, ◌^◌, ◌<◌, ◌≤◌, Bool, true, false, Option, None, Some, List, [], ◌∷◌, ◌++◌, length, flat_map, refl, arith}
use Rattle.std.proofs.lemmas.List.{length-append, length-map}
use Rattle.std.specs.Prelude.{if◌then◌else◌, nat_lt}
use Rattle.ir_module.specs.declared.tree.Module.{Module}
use Rattle.ir_values.specs.declared.int.Width.{Width}
use Rattle.ir_values.specs.declared.int.Width.TheVariants.{W1}
use Rattle.ir_values.specs.declared.ty.Ty.{Ty}
use Rattle.ir_values.specs.declared.ty.Ty.TheVariants as ty
use Rattle.ir_values.specs.declared.value.Value.{Value}
use Rattle.kept_items.specs.declared.item.Item.{Item}
use Rattle.kept_items.specs.declared.item.Item.TheVariants as item
use Rattle.kept_items.specs.declared.val.Dyn.{Dyn}
use Rattle.residue.specs.declared.parts.Line.{Line}
use Rattle.residue.specs.declared.parts.Line.TheVariants as line
use Rattle.residue.specs.declared.parts.Part.{Part}
use Rattle.residue.specs.declared.parts.Tail.{Tail}
use Rattle.residue.specs.Functions.{is_constant}
use Rattle.residue.specs.Instructions.{names_of_item, names_of_reading}
use Rattle.residue.specs.Printed.{names_of_items, names_of_params, names_of_part}
use Rattle.residue.specs.Scopes.{item_gives, items_of, param_gives, part_gives}
use Rattle.residue.specs.Valid.{parts_and_lines}
use Rattle.static_steps.specs.declared.config.Config.{Config}
use Rattle.fused_parts.specs.declared.numbers.Numbers.{Numbers}
use Rattle.fused_parts.specs.Nodes.{Node, item_of, widths_of}
use Rattle.fused_parts.specs.Parts.{Rest, first_of, freed, item_line, joined, let_go, lines_of, made, marks_to, next_numbers, no_numbers, parts_of, rest_from, shared_part, tail_of, whole, with_widths}

-- ---- lines: at most four a configuration, one that ends a part counted among them

few-made : (b : Bool) (n : ℕ) → length (if b then (line.Made n ∷ []) else []) ≤ 1
few-made true n = omega arith
few-made false n = omega arith

few-freed : (o : Option ℕ) → length (freed o) ≤ 1
few-freed None = omega arith
few-freed (Some j) = omega arith

few-marks : (g : Config) (o : Option Node) → length (marks_to g o) ≤ 2
few-marks g None = omega arith
few-marks g (Some y) =
    let a = few-made (nat_lt g.allocated y.node.allocated) g.allocated in
    let b = few-freed (let_go g.held y.node.held) in
    let c = length-append (made g.allocated y.node.allocated) (freed (let_go g.held y.node.held)) in
    omega (arith, a, b, c)

few-items : (o : Option Item) (n : Numbers) → length (item_line o n) ≤ 1
few-items None n = omega arith
few-items (Some i) n = omega arith

few-lines : (nodes : List Node) (x : Node) (n : Numbers) → length (lines_of nodes x n) ≤ 3
few-lines nodes x n =
    let a = few-items (item_of x.item) n in
    let b = few-marks x.node (first_of nodes x.links) in
    let c = length-append (item_line (item_of x.item) n) (marks_to x.node (first_of nodes x.links)) in
    omega (arith, a, b, c)

abbrev size : Rest → ℕ
size r = 1 + length r.lines + parts_and_lines r.parts

joined-size : (b : Bool) (ls : List Line) (t : Tail) (params : List (Dyn × Width)) (r : Rest) → length ls ≤ 3 → size (joined b ls t params r) ≤ 4 + size r
joined-size true ls t params r h = let c = length-append ls r.lines in omega (arith, c, h)
joined-size false ls t params r h = omega (arith, h)

module _ (m : Module) (nodes : List Node) (part_of : ℕ → ℕ) (shared : Option ℕ) where
  rest-size : (xs : List Node) (bs : List Bool) (n : Numbers) → size (rest_from m nodes part_of shared xs bs n) ≤ 4 * length xs + 1
  rest-size [] bs n = omega arith
  rest-size (x ∷ []) bs n = let a = few-lines nodes x n in omega (arith, a)
  rest-size (x ∷ y ∷ xs) [] n = let a = few-lines nodes x n in omega (arith, a)
  rest-size (x ∷ y ∷ xs) (b ∷ bs) n =
      let k : Numbers = next_numbers x b y n in
      let a = joined-size b (lines_of nodes x n) (tail_of part_of shared x n) (with_widths k.mine (widths_of m y.node)) (rest_from m nodes part_of shared (y ∷ xs) bs k) (few-lines nodes x n) in
      let ih = rest-size (y ∷ xs) bs k in
      omega (arith, a, ih)

  parts-apart : (ps qs : List Part) → parts_and_lines (ps ++ qs) ≡ parts_and_lines ps + parts_and_lines qs
  parts-apart [] qs = omega arith
  parts-apart (p ∷ ps) qs = let ih = parts-apart ps qs in omega (arith, ih)

  shared-size : (o : Option ℕ) → parts_and_lines (shared_part o) ≤ 1
  shared-size None = omega arith
  shared-size (Some n) = omega arith

  pub parts-few : (bs : List Bool) → parts_and_lines (parts_of m part_of shared nodes bs) ≤ 4 * length nodes + 2
  parts-few bs =
      let r : Rest = rest_from m nodes part_of shared nodes bs no_numbers in
      let a = rest-size nodes bs no_numbers in
      let b = shared-size shared in
      let c = parts-apart (whole r) (shared_part shared) in
      omega (arith, a, b, c)

-- ---- local names: beside the Dynamic values at most two reads an item

few-reading : (v : Value) → length (names_of_reading v) ≤ 1
few-reading v = by (is_constant v)
  where
    by : (b : Bool) → length {A = Option ℕ × Ty} (if b then [] else ((None, ty.Int W1) ∷ [])) ≤ 1
    by true = omega arith
    by false = omega arith

few-names : (x : Item) → length (names_of_item x) ≤ length (item_gives x) + 2
few-names (item.Binary d op flags w a b) = omega arith
few-names (item.Icmp d pred w a b) = omega arith
few-names (item.Convert d conv w a to) = omega arith
few-names (item.Select d w c a b) = omega arith
few-names (item.Read d v) = omega arith
few-names (item.Equal d v u) =
    let a = few-reading v in
    let b = few-reading u in
    let last : List (Option ℕ × Ty) = (Some d.0, ty.Int W1) ∷ [] in
    let c = length-append (names_of_reading v) (names_of_reading u ++ last) in
    let e = length-append (names_of_reading u) last in
    omega (arith, a, b, c, e)
few-names (item.Operation name args) = omega arith
few-names (item.Output c args) = omega arith

items-few : (ls : List Line) → length (items_of ls) ≤ length ls
items-few [] = omega arith
items-few (line.Item x ∷ ls) = let ih = items-few ls in omega (arith, ih)
items-few (line.Made j ∷ ls) = let ih = items-few ls in omega (arith, ih)
items-few (line.Freed j ∷ ls) = let ih = items-few ls in omega (arith, ih)

item-names : (xs : List Item) → length (names_of_items xs) ≤ length (flat_map item_gives xs) + 2 * length xs
item-names [] = omega arith
item-names (x ∷ xs) =
    let a = few-names x in
    let ih = item-names xs in
    let b = length-append (names_of_item x) (names_of_items xs) in
    let c = length-append (item_gives x) (flat_map item_gives xs) in
    omega (arith, a, ih, b, c)

part-names : (p : Part) → length (names_of_part p) ≤ length (part_gives p) + 2 * length p.lines
part-names p =
    let a = item-names (items_of p.lines) in
    let b = items-few p.lines in
    let c = length-append (names_of_params p.params) (names_of_items (items_of p.lines)) in
    let d = length-append (param_gives p) (flat_map item_gives (items_of p.lines)) in
    let e = length-map {B = Option ℕ × Ty} p.params (λ (x : Dyn × Width). (Some x.0.0, ty.Int x.1)) in
    let f = length-map {B = ℕ × Width} p.params (λ (x : Dyn × Width). (x.0.0, x.1)) in
    omega (arith, a, b, c, d, e, f)

pub names-few : (ps : List Part) → length (flat_map names_of_part ps) ≤ length (flat_map part_gives ps) + 2 * parts_and_lines ps
names-few [] = omega arith
names-few (p ∷ ps) =
    let a = part-names p in
    let ih = names-few ps in
    let b = length-append (names_of_part p) (flat_map names_of_part ps) in
    let c = length-append (part_gives p) (flat_map part_gives ps) in
    omega (arith, a, ih, b, c)

-- ---- in numbers that a machine holds

pub lines-hold : (n k : ℕ) → k ≤ 4 * n + 2 → n ≤ 1000000 → k < 2 ^ 31
lines-hold n k h le = let z : 2147483648 ≡ 2 ^ 31 = refl in omega (arith, h, le, z)

pub names-hold : (names gives k : ℕ) → names ≤ gives + 2 * k → gives < 2 ^ 63 → k < 2 ^ 31 → names < 2 ^ 64
names-hold names gives k h lt few =
    let y : 2147483648 ≡ 2 ^ 31 = refl in
    let z : 9223372036854775808 ≡ 2 ^ 63 = refl in
    let w : 18446744073709551616 ≡ 2 ^ 64 = refl in
    omega (arith, h, lt, few, y, z, w)
