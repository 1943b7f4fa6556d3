-- Rows of printed instructions: each reads names of its own part, and defines the next one.
use Rattle.std.proofs.Common.{◌≡◌, ℕ, zero, suc, ◌+◌, ◌<◌, ◌≤◌, Bool, true, false, None, Some, List, [], ◌∷◌, ◌++◌, length, map, refl, sym, ap, ◌∙◌, subst, arith}
use Rattle.std.specs.Prelude.{⊤, if◌then◌else◌, option_to_list, slice_get}
use Rattle.ir_module.specs.declared.tree.Inst.{Inst}
use Rattle.ir_module.specs.declared.tree.Operand.{Operand}
use Rattle.ir_module.specs.declared.tree.Operand.TheVariants as operand
use Rattle.ir_module.specs.Operands.{operands_of}
use Rattle.ir_values.specs.declared.ids.LocalId.{LocalId}
use Rattle.ir_values.specs.declared.ty.Ty.{Ty}
use Rattle.ir_values.specs.declared.value.Value.{Value}
use Rattle.ir_values.specs.declared.value.Value.TheVariants as value
use Rattle.kept_items.specs.declared.item.Item.{Item}
use Rattle.kept_items.specs.declared.item.Item.TheVariants as item
use Rattle.kept_items.specs.declared.val.Val.{Val}
use Rattle.kept_items.specs.declared.val.Val.TheVariants.{Known, Dynamic}
use Rattle.residue.specs.Functions.{is_constant}
use Rattle.residue.specs.Instructions.{Words, equal_test, instructions, local, names_of_item, operand_of, read_into, reads, side_operand, side_reads, typed_operand}
use Rattle.residue.specs.Scopes.{item_uses}
use Rattle.printed_residue.proofs.Naming.{equal-names}

-- the names of a part begin with the number base
module _ (ws : Words) (base : ℕ) where
  abbrev pub NameIn : ℕ → ℕ → Type 0
  NameIn free x = (base ≤ x) × (x < free)

  abbrev pub OperandIn : ℕ → Operand → Type 0
  OperandIn free (operand.Const v) = ⊤
  OperandIn free (operand.Local x) = NameIn free x.0

  abbrev pub AllIn : ℕ → List Operand → Type 0
  AllIn free [] = ⊤
  AllIn free (a ∷ rest) = OperandIn free a × AllIn free rest

  -- it reads names below this one, and defines this one
  pub record InstFits (free : ℕ) (i : Inst) : Type 0 where
    pub reads_in : AllIn free (operands_of i.what)
    pub result : (y : LocalId) → i.result ≡ Some y → y.0 ≡ free

  abbrev pub made_by : Inst → ℕ
  made_by i = length (option_to_list i.result)

  abbrev pub RowFits : ℕ → List Inst → Type 0
  RowFits free [] = ⊤
  RowFits free (i ∷ is) = InstFits free i × RowFits (free + made_by i) is

  -- the next name behind so many instructions
  abbrev pub free_at : ℕ → List Inst → ℕ → ℕ
  free_at free [] j = free
  free_at free (i ∷ is) zero = free
  free_at free (i ∷ is) (suc j) = free_at (free + made_by i) is j

  abbrev pub free_behind : ℕ → List Inst → ℕ
  free_behind free [] = free
  free_behind free (i ∷ is) = free_behind (free + made_by i) is

  pub row-append : (free : ℕ) (xs ys : List Inst) → RowFits free xs → RowFits (free_behind free xs) ys → RowFits free (xs ++ ys)
  row-append free [] ys h g = g
  row-append free (x ∷ xs) ys h g = (h.0, row-append (free + made_by x) xs ys h.1 g)

  pub behind-append : (free : ℕ) (xs ys : List Inst) → free_behind free (xs ++ ys) ≡ free_behind (free_behind free xs) ys
  behind-append free [] ys = refl
  behind-append free (x ∷ xs) ys = behind-append (free + made_by x) xs ys

  pub row-at : (free : ℕ) (is : List Inst) (j : ℕ) (i : Inst) → RowFits free is → slice_get is j ≡ Some i → InstFits (free_at free is j) i × (free_at free is (suc j) ≡ free_at free is j + made_by i)
  row-at free [] j i h e = cc
  row-at free (x ∷ is) zero i h e = let s : x ≡ i = cc in (subst (InstFits free) s h.0, first is ∙ ap (λ y. free + made_by y) s)
    where
      first : (is : List Inst) → free_at (free + made_by x) is 0 ≡ free + made_by x
      first [] = refl
      first (y ∷ is) = refl
  row-at free (x ∷ is) (suc j) i h e = row-at (free + made_by x) is j i h.1 e

  pub at-end : (free : ℕ) (is : List Inst) → free_at free is (length is) ≡ free_behind free is
  at-end free [] = refl
  at-end free (x ∷ is) = at-end (free + made_by x) is

  -- ---- the instructions of an item

  abbrev pub ValFits : ℕ → Val → Type 0
  ValFits free (Known v) = ⊤
  ValFits free (Dynamic d) = NameIn free (ws.name_of d.0)

  abbrev pub AllFit : ℕ → List (Ty × Val) → Type 0
  AllFit free [] = ⊤
  AllFit free (a ∷ args) = ValFits free a.1 × AllFit free args

  pub operand-fits : (free : ℕ) (a : Val) → ValFits free a → OperandIn free (operand_of ws a)
  operand-fits free (Known v) h = tt
  operand-fits free (Dynamic d) h = h

  args-fit : (free : ℕ) (args : List (Ty × Val)) → AllFit free args → AllIn free (map (λ a. a.1) (map (typed_operand ws) args))
  args-fit free [] h = tt
  args-fit free (a ∷ args) h = (operand-fits free a.1 h.0, args-fit free args h.1)

  named : (free : ℕ) (y : LocalId) → Some (local free) ≡ Some y → y.0 ≡ free
  named free y e = let s : local free ≡ y = cc in ap (λ (z : LocalId). z.0) (sym s)

  unnamed : (free : ℕ) (y : LocalId) → None ≡ Some y → y.0 ≡ free
  unnamed free y e = cc

  side-in : (v : Value) (n k : ℕ) → base ≤ n → OperandIn (n + reads v + k) (side_operand n v)
  side-in value.One n k le = tt
  side-in value.Zero n k le = tt
  side-in (value.Int i) n k le = (le, omega arith)
  side-in (value.Double i) n k le = (le, omega arith)
  side-in (value.Id i) n k le = (le, omega arith)
  side-in (value.Alloc i) n k le = (le, omega arith)
  side-in (value.Measured i) n k le = (le, omega arith)
  side-in (value.Label i) n k le = (le, omega arith)
  side-in value.NoLabel n k le = (le, omega arith)
  side-in (value.Func i) n k le = (le, omega arith)

  side-row : (n : ℕ) (v : Value) → RowFits n (side_reads ws n v) × (free_behind n (side_reads ws n v) ≡ n + reads v)
  side-row n v = by (is_constant v)
    where
      by : (b : Bool) → RowFits n (if b then [] else (read_into ws n v ∷ [])) × (free_behind n (if b then [] else (read_into ws n v ∷ [])) ≡ n + (if b then 0 else 1))
      by true = (tt, omega arith)
      by false = ((record { reads_in = (tt, (tt, tt)); result = named n }, tt), refl)

  -- a row fits, and so many names are defined
  abbrev pub ItemFits : ℕ → Item → Type 0
  ItemFits free x = RowFits free (instructions ws free x) × (free_behind free (instructions ws free x) ≡ free + length (names_of_item x))

  pub item-row : (free : ℕ) (x : Item) → base ≤ free → AllFit free (item_uses x) → ItemFits free x
  item-row free (item.Binary d o g w a b) le h = ((record { reads_in = (operand-fits free a h.0, (operand-fits free b h.1.0, tt)); result = named free }, tt), refl)
  item-row free (item.Icmp d o w a b) le h = ((record { reads_in = (operand-fits free a h.0, (operand-fits free b h.1.0, tt)); result = named free }, tt), refl)
  item-row free (item.Convert d o w a to) le h = ((record { reads_in = (operand-fits free a h.0, tt); result = named free }, tt), refl)
  item-row free (item.Select d w c a b) le h = ((record { reads_in = (operand-fits free c h.0, (operand-fits free a h.1.0, (operand-fits free b h.1.1.0, tt))); result = named free }, tt), refl)
  item-row free (item.Read d v) le h = ((record { reads_in = (tt, (tt, tt)); result = named free }, tt), refl)
  item-row free (item.Operation name args) le h = ((record { reads_in = (tt, args-fit free args h); result = unnamed free }, tt), refl)
  item-row free (item.Output c args) le h = ((record { reads_in = (tt, args-fit free args h); result = unnamed free }, tt), refl)
  item-row free (item.Equal d v u) le h =
      let first = side-row free v in
      let second = side-row (free + reads v) u in
      let n : ℕ = free + reads v + reads u in
      let test : InstFits n (equal_test free v u) = record {
        reads_in = (side-in v free (reads u) le, (subst (λ k. OperandIn k (side_operand (free + reads v) u)) (let z : free + reads v + reads u + 0 ≡ n = omega arith in z) (side-in u (free + reads v) 0 (omega (arith, le))), tt));
        result = named n;
      } in
      let behind : RowFits (free + reads v) (side_reads ws (free + reads v) u ++ equal_test free v u ∷ []) =
      row-append (free + reads v) (side_reads ws (free + reads v) u) (equal_test free v u ∷ []) second.0 (subst (λ k. RowFits k (equal_test free v u ∷ [])) (sym second.1) (test, tt)) in
      let long = equal-names d v u in (
        row-append free (side_reads ws free v) (side_reads ws (free + reads v) u ++ equal_test free v u ∷ []) first.0 (subst (λ k. RowFits k (side_reads ws (free + reads v) u ++ equal_test free v u ∷ [])) (sym first.1) behind),
        behind-append free (side_reads ws free v) (side_reads ws (free + reads v) u ++ equal_test free v u ∷ [])
            ∙ ap (λ k. free_behind k (side_reads ws (free + reads v) u ++ equal_test free v u ∷ [])) first.1
            ∙ behind-append (free + reads v) (side_reads ws (free + reads v) u) (equal_test free v u ∷ [])
            ∙ ap (λ k. free_behind k (equal_test free v u ∷ [])) second.1
            ∙ (let z : n + 1 ≡ free + length (names_of_item (item.Equal d v u)) = omega (arith, long) in z),
      )
