-- The results of the printed entry are numbered in text order.
use Rattle.std.proofs.Common.{◌≡◌, ℕ, suc, ◌+◌, Bool, true, false, ◌&&◌, List, [], ◌∷◌, ◌++◌, length, map, refl, sym, ap, ◌∙◌, subst, arith, length-append}
use Rattle.std.proofs.lemmas.Bool.{and_from, and_parts}
use Rattle.std.proofs.lemmas.Grind.{flat_map-append}
use Rattle.std.specs.List.{list_all}
use Rattle.std.specs.Option.{option_to_list}
use Rattle.std.specs.Prelude.{◌==◌, if◌then◌else◌, flat_map}
use Rattle.ir_module.specs.declared.tree.Block.{Block}
use Rattle.ir_module.specs.declared.tree.Inst.{Inst}
use Rattle.ir_module.specs.declared.tree.Phi.{Phi}
use Rattle.ir_module.specs.Operands.{step_defines}
use Rattle.ir_module.specs.Printable.{ascend_from, in_text_order}
use Rattle.ir_module.specs.Steps.{Step, PhiAt, InstAt, TermAt, steps_of, steps_of_block}
use Rattle.ir_values.specs.declared.ids.LocalId.{LocalId}
use Rattle.ir_values.specs.declared.int.Width.{Width}
use Rattle.ir_values.specs.declared.value.Value.{Value}
use Rattle.kept_items.specs.declared.item.Item.{Item}
use Rattle.kept_items.specs.declared.item.Item.TheVariants as item
use Rattle.kept_items.specs.declared.target.Target.{Target}
use Rattle.kept_items.specs.declared.target.Target.TheVariants.{Base, Adaptive}
use Rattle.kept_items.specs.declared.val.Dyn.{Dyn}
use Rattle.residue.specs.declared.parts.Jump.{Jump}
use Rattle.residue.specs.declared.parts.Part.{Part}
use Rattle.residue.specs.declared.parts.Residue.{Residue}
use Rattle.residue.specs.Functions.{all_items, is_constant}
use Rattle.residue.specs.Instructions.{Words, equal_test, instructions, local, names_of_item, print_items, read_into, reads, side_reads}
use Rattle.residue.specs.Printed.{beginning, edges_to, initialize_call, names_of, names_of_items, names_of_params, names_of_part, print_part, print_parts, print_phis, printed_entry, words}
use Rattle.residue.specs.Scopes.{items_of}
use Rattle.residue.specs.Valid.{Valid, all_tails, base_permits, base_permits_tail}
use Rattle.printed_residue.proofs.Facts.{passes-here}
use Rattle.printed_residue.proofs.Looks.{same-itself}
use Rattle.printed_residue.proofs.Naming.{equal-names}
use Rattle.numbered_residue.proofs.Passing.{entry-passes}
use Rattle.numbered_residue.proofs.Shared.{params-long}

-- ---- local names in a row

-- these local names are numbered from n on, up to the number before m
abbrev Row : ℕ → List LocalId → ℕ → Type 0
Row n xs m = (ascend_from n xs ≡ true) × (n + length xs ≡ m)

none-in-row : (n : ℕ) → Row n [] n
none-in-row n = (refl, omega arith)

one-in-row : (n : ℕ) → Row n (local n ∷ []) (suc n)
one-in-row n = (ap (λ b. b && true) (same-itself n), omega arith)

ends-at : (n m k : ℕ) (xs : List LocalId) → Row n xs m → m ≡ k → Row n xs k
ends-at n m k xs a e = (a.0, a.1 ∙ e)

row-append : (n k m : ℕ) (xs ys : List LocalId) → Row n xs k → Row k ys m → Row n (xs ++ ys) m
row-append n k m [] ys a b = let e = a.1 in let z : k ≡ n = omega (arith, e) in subst (λ j. Row j ys m) z b
row-append n k m (x ∷ xs) ys a b =
    let p = and_parts (x.0 == n) (ascend_from (n + 1) xs) a.0 in
    let e = a.1 in
    let z : n + 1 + length xs ≡ k = omega (arith, e) in
    let ih = row-append (n + 1) k m xs ys (p.1, z) b in
    let d = ih.1 in
    (and_from (x.0 == n) (ascend_from (n + 1) (xs ++ ys)) p.0 ih.0, let y : n + length (x ∷ (xs ++ ys)) ≡ m = omega (arith, d) in y)

-- ---- what instructions define

abbrev defines : Inst → List LocalId
defines i = option_to_list i.result

abbrev InstsRow : ℕ → List Inst → ℕ → Type 0
InstsRow n is m = Row n (flat_map defines is) m

insts-append : (n k m : ℕ) (is js : List Inst) → InstsRow n is k → InstsRow k js m → InstsRow n (is ++ js) m
insts-append n k m is js a b = subst (λ l. Row n l m) (sym (flat_map-append defines is js)) (row-append n k m (flat_map defines is) (flat_map defines js) a b)

side-row : (ws : Words) (n : ℕ) (v : Value) → InstsRow n (side_reads ws n v) (n + reads v)
side-row ws n v = by (is_constant v)
  where
    by : (b : Bool) → InstsRow n (if b then [] else (read_into ws n v ∷ [])) (n + (if b then 0 else 1))
    by true = (refl, refl)
    by false = ends-at n (suc n) (n + 1) (local n ∷ []) (one-in-row n) (omega arith)

-- one name
named : (n : ℕ) → Row n (local n ∷ []) (n + 1)
named n = ends-at n (suc n) (n + 1) (local n ∷ []) (one-in-row n) (omega arith)

item-row : (ws : Words) (n : ℕ) (x : Item) → InstsRow n (instructions ws n x) (n + length (names_of_item x))
item-row ws n (item.Binary d o g w a b) = named n
item-row ws n (item.Icmp d o w a b) = named n
item-row ws n (item.Convert d o w a to) = named n
item-row ws n (item.Select d w c a b) = named n
item-row ws n (item.Read d v) = named n
item-row ws n (item.Equal d v u) =
    let e = equal-names d v u in
    ends-at n (n + reads v + reads u + 1) (n + length (names_of_item (item.Equal d v u))) (flat_map defines (instructions ws n (item.Equal d v u)))
    (insts-append n (n + reads v) (n + reads v + reads u + 1) (side_reads ws n v) (side_reads ws (n + reads v) u ++ equal_test n v u ∷ []) (side-row ws n v)
    (insts-append (n + reads v) (n + reads v + reads u) (n + reads v + reads u + 1) (side_reads ws (n + reads v) u) (equal_test n v u ∷ []) (side-row ws (n + reads v) u) (named (n + reads v + reads u))))
    (omega (arith, e))
item-row ws n (item.Operation name args) = (refl, refl)
item-row ws n (item.Output c args) = (refl, refl)

items-row : (ws : Words) (n : ℕ) (xs : List Item) → InstsRow n (print_items ws n xs) (n + length (names_of_items xs))
items-row ws n [] = (refl, refl)
items-row ws n (x ∷ xs) =
    let a = length-append (names_of_item x) (names_of_items xs) in
    let k : ℕ = n + length (names_of_item x) in
    ends-at n (k + length (names_of_items xs)) (n + length (names_of_items (x ∷ xs))) (flat_map defines (print_items ws n (x ∷ xs)))
    (insts-append n k (k + length (names_of_items xs)) (instructions ws n x) (print_items ws k xs) (item-row ws n x) (items-row ws k xs))
    (omega (arith, a))

-- ---- what phis and blocks define

phis-row : (ws : Words) (edges : List (ℕ × Jump)) (n i : ℕ) (params : List (Dyn × Width)) → Row n (map (λ x. x.result) (print_phis ws edges n i params)) (n + length params)
phis-row ws edges n i [] = (refl, refl)
phis-row ws edges n i (x ∷ params) =
    ends-at n (suc n + length params) (n + length (x ∷ params)) (map (λ x. x.result) (print_phis ws edges n i (x ∷ params)))
    (row-append n (suc n) (suc n + length params) (local n ∷ []) (map (λ x. x.result) (print_phis ws edges (suc n) (suc i) params)) (one-in-row n) (phis-row ws edges (suc n) (suc i) params))
    (omega arith)

-- a block defines the results of its phis and of its instructions
block-defines : (b : Block) → flat_map step_defines (steps_of_block b) ≡ map (λ x. x.result) b.phis ++ flat_map defines b.insts
block-defines b = phis b.phis
  where
    insts : (is : List Inst) → flat_map step_defines (map InstAt is ++ (TermAt b.term ∷ [])) ≡ flat_map defines is
    insts [] = refl
    insts (i ∷ is) = ap (λ l. defines i ++ l) (insts is)

    phis : (ps : List Phi) → flat_map step_defines (map PhiAt ps ++ (map InstAt b.insts ++ (TermAt b.term ∷ []))) ≡ map (λ x. x.result) ps ++ flat_map defines b.insts
    phis [] = insts b.insts
    phis (p ∷ ps) = ap (λ l. p.result ∷ l) (phis ps)

-- ---- parts

begins-row : (n free : ℕ) → InstsRow free (beginning n) free
begins-row n free = by (n == 0)
  where
    by : (b : Bool) → InstsRow free (if b then (initialize_call ∷ []) else []) free
    by true = none-in-row free
    by false = none-in-row free

part-row : (r : Residue) (n free : ℕ) (p : Part) → Row free (flat_map step_defines (steps_of_block (print_part r n free p))) (free + length (names_of_part p))
part-row r n free p =
    let k : ℕ = free + length p.params in
    let m : ℕ = k + length (names_of_items (items_of p.lines)) in
    let insts : List Inst = print_items (words r) k (items_of p.lines) in
    let phis : List LocalId = map (λ x. x.result) (print_phis (words r) (edges_to n r.parts) free 0 p.params) in
    let a = length-append (names_of_params p.params) (names_of_items (items_of p.lines)) in
    let c = params-long p.params in
    subst (λ l. Row free l (free + length (names_of_part p))) (sym (block-defines (print_part r n free p)))
    (ends-at free m (free + length (names_of_part p)) (phis ++ flat_map defines (beginning n ++ insts))
    (row-append free k m phis (flat_map defines (beginning n ++ insts)) (phis-row (words r) (edges_to n r.parts) free 0 p.params)
    (insts-append k k m (beginning n) insts (begins-row n k) (items-row (words r) k (items_of p.lines))))
    (omega (arith, a, c)))

parts-row : (r : Residue) (n free : ℕ) (parts : List Part) → Row free (flat_map step_defines (flat_map steps_of_block (print_parts r n free parts))) (free + length (names_of parts))
parts-row r n free [] = (refl, refl)
parts-row r n free (p ∷ parts) =
    let k : ℕ = free + length (names_of_part p) in
    let here : List Step = steps_of_block (print_part r n free p) in
    let later : List Step = flat_map steps_of_block (print_parts r (suc n) k parts) in
    let a = length-append (names_of_part p) (names_of parts) in
    ends-at free (k + length (names_of parts)) (free + length (names_of (p ∷ parts))) (flat_map step_defines (here ++ later))
    (subst (λ l. Row free l (k + length (names_of parts))) (sym (flat_map-append step_defines here later))
    (row-append free k (k + length (names_of parts)) (flat_map step_defines here) (flat_map step_defines later) (part-row r n free p) (parts-row r (suc n) k parts)))
    (omega (arith, a))

-- ---- Base defines no names

abbrev is_none : List LocalId → Bool
is_none [] = true
is_none (x ∷ xs) = false

none-defined : (ss : List Step) → list_all (λ s. is_none (step_defines s)) ss ≡ true → flat_map step_defines ss ≡ []
none-defined [] h = refl
none-defined (s ∷ ss) h =
    let p = and_parts (is_none (step_defines s)) (list_all (λ s. is_none (step_defines s)) ss) h in
    ap (λ l. l ++ flat_map step_defines ss) (empty (step_defines s) p.0) ∙ none-defined ss p.1
  where
    empty : (xs : List LocalId) → is_none xs ≡ true → xs ≡ []
    empty [] h = refl
    empty (x ∷ xs) h = cc

base-item : (ws : Words) (x : Item) → base_permits x ≡ true → (n : ℕ) → list_all (λ i. is_none (step_defines (InstAt i))) (instructions ws n x) ≡ true
base-item ws (item.Operation name args) h n = refl
base-item ws (item.Output c args) h n = refl
base-item ws x h n = cc

clash : true ≡ false → ⊥
clash e = cc

pub entry-ordered : (r : Residue) (t : Target) → Valid r t → in_text_order (printed_entry r t) ≡ true
entry-ordered r (Adaptive caps) ok = (parts-row r 0 0 r.parts).0
entry-ordered r Base ok = ap (ascend_from 0) (none-defined (steps_of (printed_entry r Base)) steps)
  where
    permits : list_all base_permits (all_items r) ≡ true
    permits = (and_parts (list_all base_permits (all_items r)) (all_tails base_permits_tail r) ok.permits).0

    steps : list_all (λ s. is_none (step_defines s)) (steps_of (printed_entry r Base)) ≡ true
    steps = entry-passes r Base (λ s. is_none (step_defines s)) ok (record {
      start = refl;
      item = λ x a pre post e. base-item (words r) x (passes-here base_permits (all_items r) a.0 x permits a.1) (length pre);
      tail = λ n p s. refl;
      phi = λ z n p s k x g. absurd (clash z);
      leads = λ e n lt. refl;
    })
