-- How many instructions and phis a lowered module has.
use Rattle.std.proofs.Common.{◌≡◌, ◌∙◌, ℕ, zero, suc, ◌+◌, ◌*◌, ◌≤◌, Bool, true, false, Option, None, Some, List, [], ◌∷◌, ◌++◌, length, map, refl, sym, ap, subst, arith, append-nil, length-append}
use Rattle.std.specs.Prelude.{◌==◌, if◌then◌else◌, nat_lt}
use Rattle.ir_module.specs.declared.tree.Block.{Block}
use Rattle.ir_module.specs.declared.tree.Module.{Module}
use Rattle.ir_values.specs.declared.int.Width.{Width}
use Rattle.ir_values.specs.declared.value.Value.{Value}
use Rattle.kept_items.specs.declared.item.Item.{Item}
use Rattle.kept_items.specs.declared.item.Item.TheVariants as item
use Rattle.kept_items.specs.declared.target.Target.{Target}
use Rattle.kept_items.specs.declared.target.Target.TheVariants.{Adaptive, Base}
use Rattle.kept_items.specs.declared.val.Dyn.{Dyn}
use Rattle.residue.specs.declared.parts.Jump.{Jump}
use Rattle.residue.specs.declared.parts.Line.{Line}
use Rattle.residue.specs.declared.parts.Line.TheVariants as line
use Rattle.residue.specs.declared.parts.Part.{Part}
use Rattle.residue.specs.declared.parts.Residue.{Residue}
use Rattle.residue.specs.Functions.{Called, declaration, declared_of, is_constant}
use Rattle.residue.specs.Instructions.{Words, equal_test, instructions as printed_item, names_of_item, print_items, read_into, reads, side_reads}
use Rattle.residue.specs.Phases.{in_phase, phase_of}
use Rattle.residue.specs.Printed.{base_blocks, beginning, edges_to, initialize_call, names_of_part, print_blocks, print_parts, print_phis, words}
use Rattle.residue.specs.Scopes.{items_of}
use Rattle.static_steps.specs.declared.config.Config.{Config}
use Rattle.static_steps.specs.Works.{dynamics_of}
use Rattle.fused_parts.specs.declared.numbers.Numbers.{Numbers}
use Rattle.fused_parts.specs.Nodes.{Node, item_of, widths_of}
use Rattle.fused_parts.specs.Parts.{after, first_of, freed, in_row, item_line, let_go, lines_of, made, marks_to, next_numbers, no_numbers, parts_of, rest_from, shared_part, whole, with_widths}
use Rattle.lowered_program.specs.Residues.{greater, greatest}
use Rattle.lowered_sizes.specs.Sizes.{HasFewInstructions, HasFewPhis, bodies, count_instructions, count_phis}

-- ---- items

one-or-none : {A : Type 0} (b : Bool) (x : A) → length (if b then [] else (x ∷ [])) ≤ 1
one-or-none true x = omega arith
one-or-none false x = omega arith

none-or-one : {A : Type 0} (b : Bool) (x : A) → length (if b then (x ∷ []) else []) ≤ 1
none-or-one true x = omega arith
none-or-one false x = omega arith

three : {A : Type 0} (xs ys : List A) (z : A) → length xs ≤ 1 → length ys ≤ 1 → length (xs ++ (ys ++ z ∷ [])) ≤ 3
three xs ys z a b = omega (arith, a, b, length-append xs (ys ++ z ∷ []), length-append ys (z ∷ []))

side-small : (ws : Words) (n : ℕ) (v : Value) → length (side_reads ws n v) ≤ 1
side-small ws n v = one-or-none (is_constant v) (read_into ws n v)

item-small : (ws : Words) (n : ℕ) (x : Item) → length (printed_item ws n x) ≤ 3
item-small ws n (item.Binary d op flags w a b) = omega arith
item-small ws n (item.Icmp d pred w a b) = omega arith
item-small ws n (item.Convert d conv w a to) = omega arith
item-small ws n (item.Select d w c a b) = omega arith
item-small ws n (item.Read d v) = omega arith
item-small ws n (item.Equal d v u) =
    three (side_reads ws n v) (side_reads ws (n + reads v) u) (equal_test n v u) (side-small ws n v) (side-small ws (n + reads v) u)
item-small ws n (item.Operation name args) = omega arith
item-small ws n (item.Output c args) = omega arith

items-small : (ws : Words) (n : ℕ) (xs : List Item) → length (print_items ws n xs) ≤ 3 * length xs
items-small ws n [] = omega arith
items-small ws n (x ∷ xs) =
    let a = item-small ws n x in
    let next = n + length (names_of_item x) in
    let b = items-small ws next xs in
    let c = length-append (printed_item ws n x) (print_items ws next xs) in
    omega (arith, a, b, c)

-- ---- the items of parts

abbrev items_in : List Part → ℕ
items_in [] = 0
items_in (p ∷ ps) = length (items_of p.lines) + items_in ps

items-append : (xs ys : List Line) → length (items_of (xs ++ ys)) ≡ length (items_of xs) + length (items_of ys)
items-append [] ys = omega arith
items-append (line.Item x ∷ xs) ys = let h = items-append xs ys in omega (arith, h)
items-append (line.Made j ∷ xs) ys = items-append xs ys
items-append (line.Freed j ∷ xs) ys = items-append xs ys

made-none : (b : Bool) (k : ℕ) → length (items_of (if b then (line.Made k ∷ []) else [])) ≡ 0
made-none true k = refl
made-none false k = refl

freed-none : (o : Option ℕ) → length (items_of (freed o)) ≡ 0
freed-none None = refl
freed-none (Some j) = refl

marks-none : (g : Config) (o : Option Node) → length (items_of (marks_to g o)) ≡ 0
marks-none g None = refl
marks-none g (Some y) =
    let a = items-append (made g.allocated y.node.allocated) (freed (let_go g.held y.node.held)) in
    let b = made-none (nat_lt g.allocated y.node.allocated) g.allocated in
    let c = freed-none (let_go g.held y.node.held) in
    omega (arith, a, b, c)

own-small : (o : Option Item) (n : Numbers) → length (items_of (item_line o n)) ≤ 1
own-small None n = omega arith
own-small (Some i) n = omega arith

module _ (m : Module) (nodes : List Node) (part_of : ℕ → ℕ) (shared : Option ℕ) where
  lines-small : (x : Node) (n : Numbers) → length (items_of (lines_of nodes x n)) ≤ 1
  lines-small x n =
      let a = own-small (item_of x.item) n in
      let b = marks-none x.node (first_of nodes x.links) in
      let c = items-append (item_line (item_of x.item) n) (marks_to x.node (first_of nodes x.links)) in
      omega (arith, a, b, c)

  rest-small : (xs : List Node) (bs : List Bool) (n : Numbers)
      → length (items_of (rest_from m nodes part_of shared xs bs n).lines) + items_in (rest_from m nodes part_of shared xs bs n).parts ≤ length xs
  rest-small [] bs n = omega arith
  rest-small (x ∷ []) bs n = let a = lines-small x n in omega (arith, a)
  rest-small (x ∷ y ∷ xs) [] n = let a = lines-small x n in omega (arith, a)
  rest-small (x ∷ y ∷ xs) (true ∷ bs) n =
      let r = rest_from m nodes part_of shared (y ∷ xs) bs (next_numbers x true y n) in
      let a = lines-small x n in
      let b = rest-small (y ∷ xs) bs (next_numbers x true y n) in
      let c = items-append (lines_of nodes x n) r.lines in
      omega (arith, a, b, c)
  rest-small (x ∷ y ∷ xs) (false ∷ bs) n =
      let a = lines-small x n in
      let b = rest-small (y ∷ xs) bs (next_numbers x false y n) in
      omega (arith, a, b)

  rest-parts : (xs : List Node) (bs : List Bool) (n : Numbers) → length (rest_from m nodes part_of shared xs bs n).parts ≤ length xs
  rest-parts [] bs n = omega arith
  rest-parts (x ∷ []) bs n = omega arith
  rest-parts (x ∷ y ∷ xs) [] n = omega arith
  rest-parts (x ∷ y ∷ xs) (true ∷ bs) n = let b = rest-parts (y ∷ xs) bs (next_numbers x true y n) in omega (arith, b)
  rest-parts (x ∷ y ∷ xs) (false ∷ bs) n = let b = rest-parts (y ∷ xs) bs (next_numbers x false y n) in omega (arith, b)

  items-in-append : (ps qs : List Part) → items_in (ps ++ qs) ≡ items_in ps + items_in qs
  items-in-append [] qs = omega arith
  items-in-append (p ∷ ps) qs = let a = items-in-append ps qs in omega (arith, a)

  shared-small : (o : Option ℕ) → (items_in (shared_part o) ≡ 0) × (length (shared_part o) ≤ 1)
  shared-small None = (refl, omega arith)
  shared-small (Some n) = (refl, omega arith)

  parts-small : (flags : List Bool) → items_in (parts_of m part_of shared nodes flags) ≤ length nodes
  parts-small flags =
      let r = rest_from m nodes part_of shared nodes flags no_numbers in
      let a = rest-small nodes flags no_numbers in
      let b = items-in-append (whole r) (shared_part shared) in
      let c = shared-small shared in
      omega (arith, a, b, c.0)

  parts-few : (flags : List Bool) → length (parts_of m part_of shared nodes flags) ≤ length nodes + 2
  parts-few flags =
      let r = rest_from m nodes part_of shared nodes flags no_numbers in
      let a = rest-parts nodes flags no_numbers in
      let b = length-append (whole r) (shared_part shared) in
      let c = shared-small shared in
      omega (arith, a, b, c.1)

-- ---- blocks

module _ (r : Residue) where
  beginning-small : (n : ℕ) → length (beginning n) ≤ 1
  beginning-small n = none-or-one (n == 0) initialize_call

  -- behind part 0 no block begins with initialize
  no-beginning : (n : ℕ) → length (beginning (suc n)) ≡ 0
  no-beginning n = by (suc n == 0) refl
    where
      by : (first : Bool) → (suc n == 0) ≡ first → length (if first then (initialize_call ∷ []) else []) ≡ 0
      by true e = absurd (grind (arith, e))
      by false e = refl

  block-small : (n free : ℕ) (p : Part) → length (beginning n ++ print_items (words r) (free + length p.params) (items_of p.lines)) ≤ length (beginning n) + 3 * length (items_of p.lines)
  block-small n free p =
      let a = items-small (words r) (free + length p.params) (items_of p.lines) in
      let b = length-append (beginning n) (print_items (words r) (free + length p.params) (items_of p.lines)) in
      omega (arith, a, b)

  later-small : (n free : ℕ) (ps : List Part) → count_instructions (print_parts r (suc n) free ps) ≤ 3 * items_in ps + length ps
  later-small n free [] = omega arith
  later-small n free (p ∷ ps) =
      let a = block-small (suc n) free p in
      let b = later-small (suc n) (free + length (names_of_part p)) ps in
      let c = no-beginning n in
      omega (arith, a, b, c)

  parts-instructions : (ps : List Part) → count_instructions (print_parts r 0 0 ps) ≤ 3 * items_in ps + length ps + 1
  parts-instructions [] = omega arith
  parts-instructions (p ∷ ps) =
      let a = block-small 0 0 p in
      let b = later-small 0 (0 + length (names_of_part p)) ps in
      let c = beginning-small 0 in
      omega (arith, a, b, c)

bit : Bool → ℕ
bit true = 1
bit false = 0

kept-bit : {A : Type 0} (b : Bool) (x : A) (xs : List A) → length (if b then x ∷ xs else xs) ≡ bit b + length xs
unfolding bit
kept-bit true x xs = omega arith
kept-bit false x xs = omega arith

-- an item stands in one phase at most
one-phase : (k : ℕ) → bit (k == 1) + bit (k == 2) + bit (k == 3) ≤ 1
unfolding bit
one-phase k = by (k == 1) (k == 2) (k == 3) refl refl refl
  where
    by : (a b c : Bool) → (k == 1) ≡ a → (k == 2) ≡ b → (k == 3) ≡ c → bit a + bit b + bit c ≤ 1
    by true true c e f g = absurd (grind (arith, e, f))
    by true false true e f g = absurd (grind (arith, e, g))
    by true false false e f g = omega arith
    by false true true e f g = absurd (grind (arith, f, g))
    by false true false e f g = omega arith
    by false false true e f g = omega arith
    by false false false e f g = omega arith

phases-small : (names : List (List ℕ)) (xs : List Item) → length (in_phase names 1 xs) + length (in_phase names 2 xs) + length (in_phase names 3 xs) ≤ length xs
phases-small names [] = omega arith
phases-small names (x ∷ xs) =
    let k = phase_of names x in
    let a = kept-bit (k == 1) x (in_phase names 1 xs) in
    let b = kept-bit (k == 2) x (in_phase names 2 xs) in
    let c = kept-bit (k == 3) x (in_phase names 3 xs) in
    let d = one-phase k in
    let e = phases-small names xs in
    omega (arith, a, b, c, d, e)

base-instructions : (r : Residue) (ps : List Part) → count_instructions (base_blocks r ps) ≤ 3 * items_in ps + 5
base-instructions r [] = omega arith
base-instructions r (p ∷ ps) =
    let xs = items_of p.lines in
    let a = items-small (words r) 0 (in_phase r.irreversible 1 xs) in
    let b = items-small (words r) 0 (in_phase r.irreversible 2 xs) in
    let c = items-small (words r) 0 (in_phase r.irreversible 3 xs) in
    let d = phases-small r.irreversible xs in
    omega (arith, a, b, c, d)

-- declarations have no blocks
no-bodies : (names : List (List ℕ)) (cs : List Called) → bodies (map (declaration names) cs) ≡ []
no-bodies names [] = refl
no-bodies names (c ∷ cs) = no-bodies names cs

count-append : (bs cs : List Block) → count_instructions (bs ++ cs) ≡ count_instructions bs + count_instructions cs
count-append [] cs = omega arith
count-append (b ∷ bs) cs = let a = count-append bs cs in omega (arith, a)

blocks-instructions : (r : Residue) (t : Target) → count_instructions (print_blocks r t) ≤ 3 * items_in r.parts + length r.parts + 5
blocks-instructions r Base = let a = base-instructions r r.parts in omega (arith, a)
blocks-instructions r (Adaptive caps) = let a = parts-instructions r r.parts in omega (arith, a)

pub few-instructions : HasFewInstructions
few-instructions m nodes flags part_of shared r t e =
    let a = blocks-instructions r t in
    let b = parts-small m nodes part_of shared flags in
    let c = parts-few m nodes part_of shared flags in
    let d = count-append (print_blocks r t) (bodies (map (declaration r.irreversible) (declared_of r))) in
    let none = ap count_instructions (no-bodies r.irreversible (declared_of r)) in
    omega (arith, a, b, c, d, none, ap items_in e, ap length e)

-- ---- phis

greater-left : (a b : ℕ) → a ≤ greater a b
greater-left a b = by (nat_lt a b) refl
  where
    by : (less : Bool) → nat_lt a b ≡ less → a ≤ (if less then b else a)
    by true e = grind (arith, e)
    by false e = omega arith

greater-right : (a b : ℕ) → b ≤ greater a b
greater-right a b = by (nat_lt a b) refl
  where
    by : (less : Bool) → nat_lt a b ≡ less → b ≤ (if less then b else a)
    by true e = omega arith
    by false e = grind (arith, e)

pub greater-below : (a b c : ℕ) → a ≤ c → b ≤ c → greater a b ≤ c
greater-below a b c x y = by (nat_lt a b)
  where
    by : (less : Bool) → (if less then b else a) ≤ c
    by true = y
    by false = x

phis-many : (r : Residue) (ws : Words) (edges : List (ℕ × Jump)) (n i : ℕ) (params : List (Dyn × Width)) → length (print_phis ws edges n i params) ≡ length params
phis-many r ws edges n i [] = refl
phis-many r ws edges n i (x ∷ params) = ap suc (phis-many r ws edges (suc n) (suc i) params)

-- the greatest number of parameters
abbrev most_params : List Part → ℕ
most_params [] = 0
most_params (p ∷ ps) = greater (length p.params) (most_params ps)

parts-phis : (r : Residue) (n free : ℕ) (ps : List Part) → count_phis (print_parts r n free ps) ≡ most_params ps
parts-phis r n free [] = refl
parts-phis r n free (p ∷ ps) =
    let next = free + length (names_of_part p) in
    ap (λ k. greater k (count_phis (print_parts r (suc n) next ps))) (phis-many r (words r) (edges_to n r.parts) free 0 p.params)
    ∙ ap (greater (length p.params)) (parts-phis r (suc n) next ps)

base-phis : (r : Residue) (ps : List Part) → count_phis (base_blocks r ps) ≡ 0
base-phis r [] = refl
base-phis r (p ∷ ps) = refl

widths-few : (ds : List Dyn) (ws : List Width) → length (with_widths ds ws) ≤ length ds
widths-few [] ws = omega arith
widths-few (d ∷ ds) [] = omega arith
widths-few (d ∷ ds) (w ∷ ws) = let a = widths-few ds ws in omega (arith, a)

row-length : (n k : ℕ) → length (in_row n k) ≡ k
row-length n zero = refl
row-length n (suc k) = ap suc (row-length (suc n) k)

most-append : (n : ℕ) (ps qs : List Part) → most_params ps ≤ n → most_params qs ≤ n → most_params (ps ++ qs) ≤ n
most-append n [] qs a b = b
most-append n (p ∷ ps) qs a b =
    let l = greater-left (length p.params) (most_params ps) in
    let r = greater-right (length p.params) (most_params ps) in
    greater-below (length p.params) (most_params (ps ++ qs)) n (omega (arith, l, a)) (most-append n ps qs (omega (arith, r, a)) b)

module _ (m : Module) (nodes : List Node) (part_of : ℕ → ℕ) (shared : Option ℕ) where
  rest-params : (xs : List Node) (bs : List Bool) (n : Numbers) → most_params (rest_from m nodes part_of shared xs bs n).parts ≤ greatest dynamics_of xs
  rest-params [] bs n = omega arith
  rest-params (x ∷ []) bs n = omega arith
  rest-params (x ∷ y ∷ xs) [] n = omega arith
  rest-params (x ∷ y ∷ xs) (true ∷ bs) n =
      let a = rest-params (y ∷ xs) bs (next_numbers x true y n) in
      let b = greater-right (dynamics_of x.node) (greatest dynamics_of (y ∷ xs)) in
      omega (arith, a, b)
  rest-params (x ∷ y ∷ xs) (false ∷ bs) n =
      let k = next_numbers x false y n in
      let a = rest-params (y ∷ xs) bs k in
      let b = greater-right (dynamics_of x.node) (greatest dynamics_of (y ∷ xs)) in
      let c = greater-left (dynamics_of y.node) (greatest dynamics_of xs) in
      let d = widths-few k.mine (widths_of m y.node) in
      let e = row-length (after x n).free (dynamics_of y.node) in
      greater-below (length (with_widths k.mine (widths_of m y.node))) (most_params (rest_from m nodes part_of shared (y ∷ xs) bs k).parts) (greatest dynamics_of (x ∷ y ∷ xs))
      (omega (arith, b, c, d, e)) (omega (arith, a, b))

  shared-params : (o : Option ℕ) → most_params (shared_part o) ≡ 0
  shared-params None = refl
  shared-params (Some n) = refl

  parts-params : (flags : List Bool) → most_params (parts_of m part_of shared nodes flags) ≤ greatest dynamics_of nodes
  parts-params flags =
      let r = rest_from m nodes part_of shared nodes flags no_numbers in
      most-append (greatest dynamics_of nodes) (whole r) (shared_part shared)
      (greater-below 0 (most_params r.parts) (greatest dynamics_of nodes) (omega arith) (rest-params nodes flags no_numbers))
      (let a = shared-params shared in omega (arith, a))

blocks-phis : (r : Residue) (t : Target) → count_phis (print_blocks r t) ≤ most_params r.parts
blocks-phis r Base = let a = base-phis r r.parts in omega (arith, a)
blocks-phis r (Adaptive caps) = let a = parts-phis r 0 0 r.parts in omega (arith, a)

pub few-phis : HasFewPhis
few-phis m nodes flags part_of shared r t e =
    let a = blocks-phis r t in
    let b = parts-params m nodes part_of shared flags in
    let none = no-bodies r.irreversible (declared_of r) in
    subst (λ bs. count_phis (print_blocks r t ++ bs) ≤ greatest dynamics_of nodes) (sym none)
    (subst (λ bs. count_phis bs ≤ greatest dynamics_of nodes) (sym (append-nil (print_blocks r t))) (omega (arith, a, b, ap most_params e)))
