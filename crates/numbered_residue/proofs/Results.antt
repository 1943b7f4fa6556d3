-- Each local name of the printed module is defined once.
use Rattle.std.proofs.Common.{◌≡◌, ℕ, zero, suc, ◌+◌, ◌<◌, ◌≤◌, Bool, true, false, ◌&&◌, cond, Option, None, Some, List, [], ◌∷◌, ◌++◌, length, map, refl, sym, ap, ◌∙◌, subst, arith, length-append, append-nil, ⊎_elim}
use Rattle.std.proofs.lemmas.Bool.{and_parts, cases_lt}
use Rattle.std.proofs.lemmas.Grind.{flat_map-append}
use Rattle.std.proofs.lemmas.List.Folds.{list_all-append}
use Rattle.std.proofs.lemmas.List.Sums.{sum_by-cons}
use Rattle.std.specs.List.{list_all}
use Rattle.std.specs.Option.{option_to_list}
use Rattle.std.specs.Prelude.{◌==◌, if◌then◌else◌, count_by, flat_map, nat_lt}
use Rattle.ir_module.specs.declared.tree.Block.{Block}
use Rattle.ir_module.specs.declared.tree.Function.{Function}
use Rattle.ir_module.specs.declared.tree.Inst.{Inst}
use Rattle.ir_module.specs.declared.tree.Phi.{Phi}
use Rattle.ir_module.specs.Numbered.{defined_once, results_of}
use Rattle.ir_module.specs.Operands.{step_defines}
use Rattle.ir_module.specs.Tree.{blocks_or_none}
use Rattle.ir_module.specs.Steps.{PhiAt, InstAt, TermAt, steps_of_block}
use Rattle.ir_values.specs.declared.ids.LocalId.{LocalId}
use Rattle.ir_values.specs.declared.int.Width.{Width}
use Rattle.ir_values.specs.declared.int.Width.TheVariants.{W1}
use Rattle.ir_values.specs.declared.ty.Ty.{Ty}
use Rattle.ir_values.specs.declared.ty.Ty.TheVariants as ty
use Rattle.ir_values.specs.declared.value.Value.{Value}
use Rattle.kept_items.specs.declared.item.Item.{Item}
use Rattle.kept_items.specs.declared.item.Item.TheVariants as item
use Rattle.kept_items.specs.declared.target.Target.{Target}
use Rattle.kept_items.specs.declared.target.Target.TheVariants.{Base, Adaptive}
use Rattle.kept_items.specs.declared.val.Dyn.{Dyn}
use Rattle.residue.specs.declared.parts.Jump.{Jump}
use Rattle.residue.specs.declared.parts.Part.{Part}
use Rattle.residue.specs.declared.parts.Residue.{Residue}
use Rattle.residue.specs.Functions.{all_items, declaration, declared_of, is_constant, parameters}
use Rattle.residue.specs.Instructions.{Words, equal_test, instructions, local, names_of_item, names_of_reading, print_items, read_into, reads, side_reads}
use Rattle.residue.specs.Phases.{phases_rise}
use Rattle.residue.specs.Printed.{beginning, edges_to, initialize_call, names_of, names_of_items, names_of_params, names_of_part, print_part, print_parts, print_phis, printed, printed_entry, words}
use Rattle.residue.specs.Scopes.{items_of, jumps}
use Rattle.residue.specs.Valid.{Valid, all_tails, base_permits, base_permits_tail, begins, leads_on}
use Rattle.printed_residue.proofs.Looks.{differ, other-numbers, same-numbers}
use Rattle.printed_residue.proofs.Rising.{all-none-named}
use Rattle.numbered_residue.proofs.Passing.{all-each, all-map}
use Rattle.numbered_residue.proofs.Shared.{locals-long, parameters-long, params-long}

-- so many local names in a row
abbrev pub names_in_row : ℕ → ℕ → List LocalId
names_in_row n zero = []
names_in_row n (suc k) = local n ∷ names_in_row (suc n) k

row-append : (n a b m : ℕ) → m ≡ n + a → names_in_row n a ++ names_in_row m b ≡ names_in_row n (a + b)
row-append n zero b m e = ap (λ k. names_in_row k b) (let z : m ≡ n = omega (arith, e) in z) ∙ ap (names_in_row n) (let z : b ≡ 0 + b = omega arith in z)
row-append n (suc a) b m e = ap (λ l. local n ∷ l) (row-append (suc n) a b m (omega (arith, e))) ∙ ap (names_in_row n) (let z : suc (a + b) ≡ suc a + b = omega arith in z)

abbrev defines : Inst → List LocalId
defines i = option_to_list i.result

-- ---- what blocks define

block-defines : (b : Block) → flat_map step_defines (steps_of_block b) ≡ map (λ x. x.result) b.phis ++ flat_map defines b.insts
block-defines b =
    flat_map-append step_defines (map PhiAt b.phis) (map InstAt b.insts ++ (TermAt b.term ∷ []))
    ∙ ap (λ l. l ++ flat_map step_defines (map InstAt b.insts ++ (TermAt b.term ∷ []))) (phis b.phis)
    ∙ ap (λ l. map (λ x. x.result) b.phis ++ l) (flat_map-append step_defines (map InstAt b.insts) (TermAt b.term ∷ []) ∙ append-nil (flat_map step_defines (map InstAt b.insts)) ∙ insts b.insts)
  where
    phis : (ps : List Phi) → flat_map step_defines (map PhiAt ps) ≡ map (λ x. x.result) ps
    phis [] = refl
    phis (p ∷ ps) = ap (λ l. p.result ∷ l) (phis ps)

    insts : (is : List Inst) → flat_map step_defines (map InstAt is) ≡ flat_map defines is
    insts [] = refl
    insts (i ∷ is) = ap (λ l. defines i ++ l) (insts is)

phis-define : (ws : Words) (edges : List (ℕ × Jump)) (n i : ℕ) (params : List (Dyn × Width)) → map (λ x. x.result) (print_phis ws edges n i params) ≡ names_in_row n (length params)
phis-define ws edges n i [] = refl
phis-define ws edges n i (x ∷ params) = ap (λ l. local n ∷ l) (phis-define ws edges (suc n) (suc i) params)

side-defines : (ws : Words) (n : ℕ) (v : Value) → flat_map defines (side_reads ws n v) ≡ names_in_row n (reads v)
side-defines ws n v = by (is_constant v)
  where
    by : (b : Bool) → flat_map defines (if b then [] else (read_into ws n v ∷ [])) ≡ names_in_row n (if b then 0 else 1)
    by true = refl
    by false = refl

reading-long : (v : Value) → length (names_of_reading v) ≡ reads v
reading-long v = by (is_constant v)
  where
    by : (b : Bool) → length {A = Option ℕ × Ty} (if b then [] else ((None, ty.Int W1) ∷ [])) ≡ (if b then 0 else 1)
    by true = refl
    by false = refl

item-defines : (ws : Words) (n : ℕ) (x : Item) → flat_map defines (instructions ws n x) ≡ names_in_row n (length (names_of_item x))
item-defines ws n (item.Binary d o g w a b) = refl
item-defines ws n (item.Icmp d o w a b) = refl
item-defines ws n (item.Convert d o w a to) = refl
item-defines ws n (item.Select d w c a b) = refl
item-defines ws n (item.Read d v) = refl
item-defines ws n (item.Equal d v u) =
    let a = length-append (names_of_reading v) (names_of_reading u ++ (Some d.0, ty.Int W1) ∷ []) in
    let b = length-append (names_of_reading u) ((Some d.0, ty.Int W1) ∷ []) in
    let c = reading-long v in
    let e = reading-long u in
    flat_map-append defines (side_reads ws n v) (side_reads ws (n + reads v) u ++ equal_test n v u ∷ [])
    ∙ ap (λ l. l ++ flat_map defines (side_reads ws (n + reads v) u ++ equal_test n v u ∷ [])) (side-defines ws n v)
    ∙ ap (λ l. names_in_row n (reads v) ++ l) (flat_map-append defines (side_reads ws (n + reads v) u) (equal_test n v u ∷ []) ∙ ap (λ l. l ++ names_in_row (n + reads v + reads u) 1) (side-defines ws (n + reads v) u) ∙ row-append (n + reads v) (reads u) 1 (n + reads v + reads u) refl)
    ∙ row-append n (reads v) (reads u + 1) (n + reads v) refl
    ∙ ap (names_in_row n) (let z : reads v + (reads u + 1) ≡ length (names_of_item (item.Equal d v u)) = omega (arith, a, b, c, e) in z)
item-defines ws n (item.Operation name args) = refl
item-defines ws n (item.Output c args) = refl

items-define : (ws : Words) (n : ℕ) (xs : List Item) → flat_map defines (print_items ws n xs) ≡ names_in_row n (length (names_of_items xs))
items-define ws n [] = refl
items-define ws n (x ∷ xs) =
    let a = length-append (names_of_item x) (names_of_items xs) in
    flat_map-append defines (instructions ws n x) (print_items ws (n + length (names_of_item x)) xs)
    ∙ ap (λ l. l ++ flat_map defines (print_items ws (n + length (names_of_item x)) xs)) (item-defines ws n x)
    ∙ ap (λ l. names_in_row n (length (names_of_item x)) ++ l) (items-define ws (n + length (names_of_item x)) xs)
    ∙ row-append n (length (names_of_item x)) (length (names_of_items xs)) (n + length (names_of_item x)) refl
    ∙ ap (names_in_row n) (sym a)

part-defines : (r : Residue) (n free : ℕ) (p : Part) → flat_map step_defines (steps_of_block (print_part r n free p)) ≡ names_in_row free (length (names_of_part p))
part-defines r n free p =
    let a = length-append (names_of_params p.params) (names_of_items (items_of p.lines)) in
    let b = params-long p.params in
    block-defines (print_part r n free p)
    ∙ ap (λ l. l ++ flat_map defines (beginning n ++ print_items (words r) (free + length p.params) (items_of p.lines))) (phis-define (words r) (edges_to n r.parts) free 0 p.params)
    ∙ ap (λ l. names_in_row free (length p.params) ++ l) (flat_map-append defines (beginning n) (print_items (words r) (free + length p.params) (items_of p.lines)) ∙ ap (λ l. l ++ flat_map defines (print_items (words r) (free + length p.params) (items_of p.lines))) (none n) ∙ items-define (words r) (free + length p.params) (items_of p.lines))
    ∙ row-append free (length p.params) (length (names_of_items (items_of p.lines))) (free + length p.params) refl
    ∙ ap (names_in_row free) (let z : length p.params + length (names_of_items (items_of p.lines)) ≡ length (names_of_part p) = omega (arith, a, b) in z)
  where
    none : (n : ℕ) → flat_map defines (beginning n) ≡ []
    none n = by (n == 0)
      where
        by : (b : Bool) → flat_map defines (if b then (initialize_call ∷ []) else []) ≡ []
        by true = refl
        by false = refl

parts-define : (r : Residue) (n free : ℕ) (parts : List Part) → flat_map step_defines (flat_map steps_of_block (print_parts r n free parts)) ≡ names_in_row free (length (names_of parts))
parts-define r n free [] = refl
parts-define r n free (p ∷ parts) =
    let a = length-append (names_of_part p) (names_of parts) in
    flat_map-append step_defines (steps_of_block (print_part r n free p)) (flat_map steps_of_block (print_parts r (suc n) (free + length (names_of_part p)) parts))
    ∙ ap (λ l. l ++ flat_map step_defines (flat_map steps_of_block (print_parts r (suc n) (free + length (names_of_part p)) parts))) (part-defines r n free p)
    ∙ ap (λ l. names_in_row free (length (names_of_part p)) ++ l) (parts-define r (suc n) (free + length (names_of_part p)) parts)
    ∙ row-append free (length (names_of_part p)) (length (names_of parts)) (free + length (names_of_part p)) refl
    ∙ ap (names_in_row free) (sym a)

-- ---- each name once

none-counted : (x n k : ℕ) → x < n → count_by (λ y. y.0 == x) (names_in_row n k) ≡ 0
none-counted x n zero lt = refl
none-counted x n (suc k) lt =
    sum_by-cons (λ y. cond (y.0 == x) 1 0) (local n) (names_in_row (suc n) k)
    ∙ ap (λ b. cond b 1 0 + count_by (λ y. y.0 == x) (names_in_row (suc n) k)) (differ n x (λ e. absurd (omega (arith, e, lt))))
    ∙ (let h = none-counted x (suc n) k (omega (arith, lt)) in let z : 0 + count_by (λ y. y.0 == x) (names_in_row (suc n) k) ≡ 0 = omega (arith, h) in z)

strict : {n x : ℕ} → n ≤ x → (n ≡ x → ⊥) → suc n ≤ x
strict {n} {x} le h = ⊎_elim (λ l. l) (λ g. absurd (h (omega (arith, le, g)))) (cases_lt n x)

once-counted : (x n k : ℕ) → n ≤ x → x < n + k → count_by (λ y. y.0 == x) (names_in_row n k) ≡ 1
once-counted x n zero le lt = absurd (omega (arith, le, lt))
once-counted x n (suc k) le lt =
    sum_by-cons (λ y. cond (y.0 == x) 1 0) (local n) (names_in_row (suc n) k)
    ∙ by (n == x) refl (λ a. once-counted x (suc n) k a (omega (arith, lt)))
  where
    by : (b : Bool) → (n == x) ≡ b → (suc n ≤ x → count_by (λ y. y.0 == x) (names_in_row (suc n) k) ≡ 1) → cond b 1 0 + count_by (λ y. y.0 == x) (names_in_row (suc n) k) ≡ 1
    by true e ih = let z = same-numbers n x e in let h = none-counted x (suc n) k (omega (arith, z)) in omega (arith, h)
    by false e ih = let h = ih (strict le (other-numbers n x e)) in omega (arith, h)

once-in-row : (f : Function) (n more : ℕ) → f.params ≡ 0 → results_of f ≡ names_in_row 0 (n + more) → defined_once f n more ≡ true
once-in-row f n zero e h = refl
once-in-row f n (suc more) e h =
    let c : count_by (λ y. y.0 == n) (results_of f) ≡ 1 = ap (count_by (λ y. y.0 == n)) h ∙ once-counted n 0 (n + suc more) (omega arith) (omega arith) in
    ap (λ m. (m == (if nat_lt n f.params then 0 else 1)) && defined_once f (suc n) more) c
    ∙ ap (λ k. (1 == (if nat_lt n k then 0 else 1)) && defined_once f (suc n) more) e
    ∙ ap (λ b. (1 == (if b then 0 else 1)) && defined_once f (suc n) more) (none n)
    ∙ once-in-row f (suc n) more e (h ∙ ap (names_in_row 0) (let y : n + suc more ≡ suc n + more = omega arith in y))
  where
    none : (n : ℕ) → nat_lt n 0 ≡ false
    none n = grind arith

-- a declaration has parameters alone
once-declared : (f : Function) (n more : ℕ) → f.blocks ≡ None → n + more ≤ f.params → defined_once f n more ≡ true
once-declared f n zero e h = refl
once-declared f n (suc more) e h =
    let c : count_by (λ y. y.0 == n) (results_of f) ≡ 0 = ap (λ o. count_by (λ y. y.0 == n) (flat_map step_defines (flat_map steps_of_block (blocks_or_none o)))) e in
    ap (λ m. (m == (if nat_lt n f.params then 0 else 1)) && defined_once f (suc n) more) c
    ∙ ap (λ b. (0 == (if b then 0 else 1)) && defined_once f (suc n) more) (below n f.params (omega (arith, h)))
    ∙ once-declared f (suc n) more e (omega (arith, h))
  where
    below : (a b : ℕ) → a < b → nat_lt a b ≡ true
    below a b h = grind arith

module _ (r : Residue) (t : Target) (ok : Valid r t) where
  -- ---- Base defines no names

  one-part : {A : Type 0} (xs : List A) → (length xs == 1) ≡ true → (x : A) × (xs ≡ x ∷ [])
  one-part [] h = let e = same-numbers 0 1 h in absurd (omega (arith, e))
  one-part (x ∷ []) h = (x, refl)
  one-part (x ∷ y ∷ xs) h = let e = same-numbers (length (x ∷ y ∷ xs)) 1 h in absurd (omega (arith, e))

  module _ (v : Valid r Base) where
    the-part : (p : Part) × (r.parts ≡ p ∷ [])
    the-part = one-part r.parts (and_parts (length r.parts == 1) (phases_rise r.irreversible 0 (all_items r)) v.phases).0

    abbrev p : Part
    p = the-part.0

    allowed : list_all base_permits (items_of p.lines) ≡ true
    allowed =
        (and_parts (list_all base_permits (items_of p.lines)) true
        (sym (list_all-append base_permits (items_of p.lines) []) ∙ ap (λ ps. list_all base_permits (flat_map (λ p. items_of p.lines) ps)) (sym the-part.1) ∙ (and_parts (list_all base_permits (all_items r)) (all_tails base_permits_tail r) v.permits).0)).0

    no-params : length p.params ≡ 0
    no-params =
        same-numbers (length p.params) 0
        (ap begins (sym the-part.1) ∙ (and_parts (begins r.parts) (all_tails (λ t. list_all (leads_on (length r.parts)) (jumps t)) r) v.start).0)

    base-names : length (names_of r.parts) ≡ 0
    base-names =
        let a = length-append (names_of_part p) [] in
        let b = length-append (names_of_params p.params) (names_of_items (items_of p.lines)) in
        let c = params-long p.params in
        let d = no-params in
        let e = ap length (all-none-named (items_of p.lines) allowed) in
        ap (λ ps. length (names_of ps)) the-part.1 ∙ (let z : length (names_of_part p ++ []) ≡ 0 = omega (arith, a, b, c, d, e) in z)

  pub results : list_all (λ f. defined_once f 0 (length f.locals)) (printed r t).funcs ≡ true
  results =
      ap (λ b. b && list_all (λ f. defined_once f 0 (length f.locals)) (map (declaration r.irreversible) (declared_of r))) (by t refl)
      ∙ all-map (λ f. defined_once f 0 (length f.locals)) (declaration r.irreversible) (declared_of r) (all-each (λ c. defined_once (declaration r.irreversible c) 0 (length (parameters 0 c.params))) (declared_of r) (λ i c s.
      let e = parameters-long 0 c.params in once-declared (declaration r.irreversible c) 0 (length (parameters 0 c.params)) refl (omega (arith, e))))
    where
      by : (u : Target) → t ≡ u → defined_once (printed_entry r t) 0 (length (printed_entry r t).locals) ≡ true
      by Base e =
          ap (defined_once (printed_entry r t) 0) (let a = locals-long 0 (names_of r.parts) in let b = base-names (subst (Valid r) e ok) in let z : length (printed_entry r t).locals ≡ 0 = omega (arith, a, b) in z)
      by (Adaptive caps) e =
          subst (λ u. defined_once (printed_entry r u) 0 (length (printed_entry r u).locals) ≡ true) (sym e)
          (once-in-row (printed_entry r (Adaptive caps)) 0 (length (printed_entry r (Adaptive caps)).locals) refl
          (parts-define r 0 0 r.parts ∙ ap (names_in_row 0) (let a = locals-long 0 (names_of r.parts) in let z : length (names_of r.parts) ≡ 0 + length (printed_entry r (Adaptive caps)).locals = omega (arith, a) in z)))
