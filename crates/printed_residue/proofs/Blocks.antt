-- Where the items of an Adaptive residue stand in its blocks.
use Rattle.std.proofs.Common.{◌≡◌, ℕ, zero, suc, ◌+◌, Some, List, [], ◌∷◌, ◌++◌, length, take, refl, sym, ap, ◌∙◌, subst, arith, length-append, append_assoc}
use Rattle.std.specs.Prelude.{slice_get}
use Rattle.ir_module.specs.declared.tree.Inst.{Inst}
use Rattle.ir_values.specs.declared.value.Value.{Value}
use Rattle.ir_values.specs.declared.value.Value.TheVariants as value
use Rattle.kept_items.specs.declared.item.Item.{Item}
use Rattle.kept_items.specs.declared.item.Item.TheVariants as item
use Rattle.residue.specs.declared.parts.Part.{Part}
use Rattle.residue.specs.declared.parts.Residue.{Residue}
use Rattle.residue.specs.Instructions.{Words, equal_test, instructions, names_of_item, print_items, reads, side_reads}
use Rattle.residue.specs.Printed.{names_of, names_of_items, names_of_part, print_part, print_parts}
use Rattle.printed_residue.specs.Places.{ticks}
use Rattle.printed_residue.proofs.Standing.{StandAt, stand-behind}

module _ (ws : Words) where
  pub print-append : (n : ℕ) (xs ys : List Item) → print_items ws n (xs ++ ys) ≡ print_items ws n xs ++ print_items ws (n + length (names_of_items xs)) ys
  print-append n [] ys = ap (λ m. print_items ws m ys) (let z : n ≡ n + 0 = omega arith in z)
  print-append n (x ∷ xs) ys =
      let c = length-append (names_of_item x) (names_of_items xs) in
      ap (λ l. instructions ws n x ++ l) (print-append (n + length (names_of_item x)) xs ys)
      ∙ ap (λ m. instructions ws n x ++ (print_items ws (n + length (names_of_item x)) xs ++ print_items ws m ys)) (let z : n + length (names_of_item x) + length (names_of_items xs) ≡ n + length (names_of_items (x ∷ xs)) = omega (arith, c) in z)
      ∙ sym (append_assoc (instructions ws n x) (print_items ws (n + length (names_of_item x)) xs) (print_items ws (n + length (names_of_items (x ∷ xs))) ys))

  -- an item's instructions stand behind those of the items before it
  pub stand-item : (pre : List Inst) (n : ℕ) (xs : List Item) (x : Item) (rest : List Item) (m : ℕ) → m ≡ length pre + length (print_items ws n xs) → StandAt (pre ++ print_items ws n (xs ++ (x ∷ rest))) m (instructions ws (n + length (names_of_items xs)) x)
  stand-item pre n xs x rest m e =
      let k : ℕ = n + length (names_of_items xs) in
      let a = length-append pre (print_items ws n xs) in
      subst (λ l. StandAt l m (instructions ws k x))
      (append_assoc pre (print_items ws n xs) (instructions ws k x ++ print_items ws (k + length (names_of_item x)) rest) ∙ ap (λ l. pre ++ l) (sym (print-append n xs (x ∷ rest))))
      (stand-behind (pre ++ print_items ws n xs) (instructions ws k x) (print_items ws (k + length (names_of_item x)) rest) m (omega (arith, a, e)))

  side-length : (n : ℕ) (v : Value) → length (side_reads ws n v) ≡ reads v
  side-length n value.One = refl
  side-length n value.Zero = refl
  side-length n (value.Id i) = refl
  side-length n (value.Measured i) = refl
  side-length n (value.Int i) = refl
  side-length n (value.Double i) = refl
  side-length n (value.Alloc i) = refl
  side-length n (value.Label i) = refl
  side-length n value.NoLabel = refl
  side-length n (value.Func i) = refl

  -- an item takes a tick for each of its instructions
  pub ticks-are : (n : ℕ) (x : Item) → length (instructions ws n x) ≡ ticks x
  ticks-are n (item.Binary d op flags w a b) = refl
  ticks-are n (item.Icmp d pred w a b) = refl
  ticks-are n (item.Convert d conv w a to) = refl
  ticks-are n (item.Select d w c a b) = refl
  ticks-are n (item.Read d v) = refl
  ticks-are n (item.Equal d v u) =
      let a = length-append (side_reads ws n v) (side_reads ws (n + reads v) u ++ equal_test n v u ∷ []) in
      let b = length-append (side_reads ws (n + reads v) u) (equal_test n v u ∷ []) in
      let c = side-length n v in
      let e = side-length (n + reads v) u in
      omega (arith, a, b, c, e)
  ticks-are n (item.Operation name args) = refl
  ticks-are n (item.Output c args) = refl

  pub print-one : (n : ℕ) (xs : List Item) (x : Item) → length (print_items ws n (xs ++ x ∷ [])) ≡ length (print_items ws n xs) + ticks x
  print-one n xs x =
      let k : ℕ = n + length (names_of_items xs) in
      let a = length-append (print_items ws n xs) (instructions ws k x ++ []) in
      let b = length-append (instructions ws k x) [] in
      let c = ticks-are k x in
      ap length (print-append n xs (x ∷ [])) ∙ (let z : length (print_items ws n xs ++ (instructions ws k x ++ [])) ≡ length (print_items ws n xs) + ticks x = omega (arith, a, b, c) in z)

-- part i is block i, and its names follow those of the parts before it
pub part-stands : (r : Residue) (n free : ℕ) (parts : List Part) (i : ℕ) (p : Part) → slice_get parts i ≡ Some p
    → slice_get (print_parts r n free parts) i ≡ Some (print_part r (n + i) (free + length (names_of (take i parts))) p)
part-stands r n free [] i p h = cc
part-stands r n free (q ∷ parts) zero p h =
    let s : q ≡ p = cc in
    ap (λ z. Some (print_part r n free z)) s
    ∙ ap (λ z. Some (print_part r z free p)) (let z : n ≡ n + 0 = omega arith in z)
    ∙ ap (λ z. Some (print_part r (n + 0) z p)) (let z : free ≡ free + 0 = omega arith in z)
part-stands r n free (q ∷ parts) (suc i) p h =
    let c = length-append (names_of_part q) (names_of (take i parts)) in
    part-stands r (suc n) (free + length (names_of_part q)) parts i p h
    ∙ ap (λ z. Some (print_part r z (free + length (names_of_part q) + length (names_of (take i parts))) p)) (let z : suc n + i ≡ n + suc i = omega arith in z)
    ∙ ap (λ z. Some (print_part r (n + suc i) z p)) (let z : free + length (names_of_part q) + length (names_of (take i parts)) ≡ free + length (names_of (take (suc i) (q ∷ parts))) = omega (arith, c) in z)
