-- The instructions of items, one form at a time, and what is known of items and edges.
use Rattle.std.proofs.Common.{◌≡◌, ℕ, zero, suc, ◌+◌, Bool, true, false, ◌&&◌, Some, List, [], ◌∷◌, ◌++◌, map, refl, sym, ap, ◌∙◌, arith}
use Rattle.std.proofs.lemmas.Bool.{and_parts}
use Rattle.std.proofs.lemmas.List.Folds.{list_all-append}
use Rattle.std.specs.List.{list_all}
use Rattle.std.specs.Prelude.{◌==◌, if◌then◌else◌, flat_map, slice_get, slice_index_or}
use Rattle.ir_module.specs.declared.tree.Inst.{Inst}
use Rattle.ir_module.specs.declared.tree.Operand.{Operand}
use Rattle.ir_values.specs.declared.ids.BlockId.{BlockId}
use Rattle.ir_values.specs.declared.ty.Ty.{Ty}
use Rattle.ir_values.specs.declared.value.Value.{Value}
use Rattle.ir_values.specs.declared.value.Value.TheVariants as value
use Rattle.kept_items.specs.declared.item.Item.{Item}
use Rattle.kept_items.specs.declared.item.Item.TheVariants as item
use Rattle.kept_items.specs.declared.val.Dyn.{Dyn}
use Rattle.kept_items.specs.declared.val.Val.{Val}
use Rattle.kept_items.specs.declared.val.Val.TheVariants.{Known}
use Rattle.residue.specs.declared.parts.Jump.{Jump}
use Rattle.residue.specs.declared.parts.Part.{Part}
use Rattle.residue.specs.declared.parts.Residue.{Residue}
use Rattle.residue.specs.declared.parts.Tail.{Tail}
use Rattle.residue.specs.Functions.{all_items, is_constant}
use Rattle.residue.specs.Instructions.{Words, equal_test, instructions, operand_of, read_into, reads, side_reads}
use Rattle.residue.specs.Printed.{argument, edges_of, edges_to, entries}
use Rattle.residue.specs.Scopes.{item_uses, items_of, jump_args, jumps, part_uses, tail_uses, uses_of, written}
use Rattle.printed_residue.proofs.Declared.{Among}
use Rattle.printed_residue.proofs.Facts.{passes-here, passes-piece}
use Rattle.printed_residue.proofs.Lines.{all-typed}
use Rattle.printed_residue.proofs.Rising.{filter-passes}
use Rattle.numbered_residue.proofs.Passing.{all-both, all-map}

-- ---- a comparison of two results: its reads, and the test

module _ (test : Inst → Bool) (ws : Words) where
  side-passes : (n : ℕ) (v : Value) → (is_constant v ≡ false → test (read_into ws n v) ≡ true) → list_all test (side_reads ws n v) ≡ true
  side-passes n v h = by (is_constant v) h
    where
      by : (b : Bool) → (b ≡ false → test (read_into ws n v) ≡ true) → list_all test (if b then [] else (read_into ws n v ∷ [])) ≡ true
      by true h = refl
      by false h = ap (λ s. s && true) (h refl)

  pub equal-passes : (n : ℕ) (d : Dyn) (v u : Value) → (is_constant v ≡ false → test (read_into ws n v) ≡ true) → (is_constant u ≡ false → test (read_into ws (n + reads v) u) ≡ true) → test (equal_test n v u) ≡ true → list_all test (instructions ws n (item.Equal d v u)) ≡ true
  equal-passes n d v u f g t =
      all-both test (side_reads ws n v) (side_reads ws (n + reads v) u ++ equal_test n v u ∷ []) (side-passes n v f)
      (all-both test (side_reads ws (n + reads v) u) (equal_test n v u ∷ []) (side-passes (n + reads v) u g) (ap (λ s. s && true) t))

-- ---- what all values pass, each item's and each tail's pass

-- a test of the values of a residue
pub uses-of-written : (test : Val → Bool) (r : Residue) → list_all test (written r) ≡ true → list_all (λ a. test a.1) (uses_of r) ≡ true
uses-of-written test r h = of-map (uses_of r) (and_parts (list_all test (map (λ a. a.1) (uses_of r))) (list_all test (flat_map (λ p. jump_args p.tail) r.parts)) (sym (list_all-append test (map (λ a. a.1) (uses_of r)) (flat_map (λ p. jump_args p.tail) r.parts)) ∙ h)).0
  where
    of-map : (xs : List (Ty × Val)) → list_all test (map (λ a. a.1) xs) ≡ true → list_all (λ a. test a.1) xs ≡ true
    of-map [] h = refl
    of-map (x ∷ xs) h = let p = and_parts (test x.1) (list_all test (map (λ a. a.1) xs)) h in ap (λ b. b && list_all (λ a. test a.1) xs) p.0 ∙ of-map xs p.1

pub args-of-written : (test : Val → Bool) (r : Residue) → list_all test (written r) ≡ true → list_all test (flat_map (λ p. jump_args p.tail) r.parts) ≡ true
args-of-written test r h = (and_parts (list_all test (map (λ a. a.1) (uses_of r))) (list_all test (flat_map (λ p. jump_args p.tail) r.parts)) (sym (list_all-append test (map (λ a. a.1) (uses_of r)) (flat_map (λ p. jump_args p.tail) r.parts)) ∙ h)).1

pub item-uses-pass : (test : Ty × Val → Bool) (r : Residue) (x : Item) → list_all test (uses_of r) ≡ true → Among (all_items r) x → list_all test (item_uses x) ≡ true
item-uses-pass test r x h m = passes-here (λ x. list_all test (item_uses x)) (all_items r) m.0 x (all-typed test r.parts h) m.1

pub tail-uses-pass : (test : Ty × Val → Bool) (r : Residue) (n : ℕ) (p : Part) → list_all test (uses_of r) ≡ true → slice_get r.parts n ≡ Some p → list_all test (tail_uses p.tail) ≡ true
tail-uses-pass test r n p h s =
    let part = passes-piece test part_uses r.parts n p h s in
    (and_parts (list_all test (flat_map item_uses (items_of p.lines))) (list_all test (tail_uses p.tail)) (sym (list_all-append test (flat_map item_uses (items_of p.lines)) (tail_uses p.tail)) ∙ part)).1

pub first-passes : (test : Ty × Val → Bool) (a : Ty × Val) (rest : List (Ty × Val)) → list_all test (a ∷ rest) ≡ true → test a ≡ true
first-passes test a rest h = (and_parts (test a) (list_all test rest) h).0

pub second-passes : (test : Ty × Val → Bool) (a b : Ty × Val) (rest : List (Ty × Val)) → list_all test (a ∷ b ∷ rest) ≡ true → test b ≡ true
second-passes test a b rest h = (and_parts (test b) (list_all test rest) (and_parts (test a) (list_all test (b ∷ rest)) h).1).0

pub third-passes : (test : Ty × Val → Bool) (a b c : Ty × Val) (rest : List (Ty × Val)) → list_all test (a ∷ b ∷ c ∷ rest) ≡ true → test c ≡ true
third-passes test a b c rest h = second-passes test b c rest (and_parts (test a) (list_all test (b ∷ c ∷ rest)) h).1

-- ---- edges

-- a jump of a part's tail
pub edges-pass : (test : ℕ × Jump → Bool) (m : ℕ) (parts : List Part) → ((n : ℕ) (p : Part) → slice_get parts n ≡ Some p → (j : Jump) → Among (jumps p.tail) j → test (m + n, j) ≡ true) → list_all test (edges_of m parts) ≡ true
edges-pass test m [] h = refl
edges-pass test m (p ∷ parts) h =
    all-both test (map (λ j. (m, j)) (jumps p.tail)) (edges_of (suc m) parts) (each (jumps p.tail) (λ j a. ap (λ k. test (k, j)) (let z : m ≡ m + 0 = omega arith in z) ∙ h 0 p refl j a))
    (edges-pass test (suc m) parts (λ n q s j a. ap (λ k. test (k, j)) (let z : suc m + n ≡ m + suc n = omega arith in z) ∙ h (suc n) q s j a))
  where
    each : (js : List Jump) → ((j : Jump) → Among js j → test (m, j) ≡ true) → list_all test (map (λ j. (m, j)) js) ≡ true
    each [] h = refl
    each (j ∷ js) h = ap (λ b. b && list_all test (map (λ j. (m, j)) js)) (h j (0, refl)) ∙ each js (λ i a. h i (suc a.0, a.1))

-- an argument of a jump, or the value in its place
pub index-passes : (test : Val → Bool) (args : List Val) (i : ℕ) → list_all test args ≡ true → test (Known value.NoLabel) ≡ true → test (slice_index_or args i (Known value.NoLabel)) ≡ true
index-passes test [] i h d = d
index-passes test (a ∷ args) zero h d = (and_parts (test a) (list_all test args) h).0
index-passes test (a ∷ args) (suc i) h d = index-passes test args i (and_parts (test a) (list_all test args) h).1 d

-- the entries of a phi pass what the arguments of jumps and the numbers of parts pass
pub entries-pass : (test : Operand × BlockId → Bool) (ws : Words) (r : Residue) (k to : ℕ)
    → ((n : ℕ) (p : Part) → slice_get r.parts n ≡ Some p → (j : Jump) → Among (jumps p.tail) j → test (operand_of ws (argument k j), record { 0 = n }) ≡ true)
    → list_all test (entries ws k (edges_to to r.parts)) ≡ true
entries-pass test ws r k to h =
    all-map test (λ e. (operand_of ws (argument k e.1), record { 0 = e.0 })) (edges_to to r.parts)
    (filter-passes (λ e. test (operand_of ws (argument k e.1), record { 0 = e.0 })) (λ e. e.1.to == to) (edges_of 0 r.parts)
    (edges-pass (λ e. test (operand_of ws (argument k e.1), record { 0 = e.0 })) 0 r.parts (λ n p s j a. ap (λ m. test (operand_of ws (argument k j), record { 0 = m })) (let z : 0 + n ≡ n = omega arith in z) ∙ h n p s j a)))

-- the arguments of a jump of a tail
pub jump-args-pass : (test : Val → Bool) (t : Tail) (j : Jump) → list_all test (jump_args t) ≡ true → Among (jumps t) j → list_all test j.args ≡ true
jump-args-pass test t j h a = passes-piece test (λ j. j.args) (jumps t) a.0 j h a.1
