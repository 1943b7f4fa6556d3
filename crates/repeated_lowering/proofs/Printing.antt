-- A Base residue whose items are those of another, as they are left again, is printed as the same blocks and declarations.
use Rattle.std.proofs.Common.{◌≡◌, ℕ, suc, ◌+◌, Bool, true, false, None, Some, List, [], ◌∷◌, ◌++◌, length, map, refl, ap, ◌∙◌}
use Rattle.std.proofs.lemmas.Bool.{and_parts}
use Rattle.std.specs.List.{list_all}
use Rattle.std.specs.Prelude.{◌==◌, codes, flat_map, if◌then◌else◌, slice_get}
use Rattle.ir_module.specs.declared.tree.Callee.TheVariants as callee
use Rattle.ir_module.specs.declared.tree.InstKind.TheVariants as kind
use Rattle.ir_module.specs.declared.tree.Operand.TheVariants as operand
use Rattle.ir_module.specs.declared.tree.Term.TheVariants as term
use Rattle.ir_values.specs.declared.ty.Ty.{Ty}
use Rattle.ir_values.specs.declared.ty.Ty.TheVariants as ty
use Rattle.ir_values.specs.declared.value.Value.{Value}
use Rattle.ir_values.specs.declared.value.Value.TheVariants as value
use Rattle.kept_items.specs.declared.item.Item.{Item}
use Rattle.kept_items.specs.declared.item.Item.TheVariants as item
use Rattle.kept_items.specs.declared.val.Val.{Val}
use Rattle.kept_items.specs.declared.val.Val.TheVariants.{Known, Dynamic}
use Rattle.residue.specs.declared.parts.Part.{Part}
use Rattle.residue.specs.declared.parts.Residue.{Residue}
use Rattle.residue.specs.Functions.{called, calls_of, record_name, types_of}
use Rattle.residue.specs.Instructions.{Words, block_number, call_void, instructions, named_value, names_of_item, operand_of, print_items, print_tail, typed_operand}
use Rattle.residue.specs.Phases.{in_phase, phase_of}
use Rattle.residue.specs.Printed.{base_blocks, block, initialize_call, names_of_items, print_phase, words}
use Rattle.residue.specs.Scopes.{items_of}
use Rattle.residue.specs.Valid.{all_known, base_permits, is_base_record, is_known}
use Rattle.printed_residue.proofs.Rising.{filter-passes}
use Rattle.settled_lowering.proofs.BaseTurns.{settled}
use Rattle.settled_lowering.proofs.Turns.{read, reads_of}

module _ (ws : Words) where
  abbrev settle : Item → Item
  settle x = settled ws [] x

  -- ---- the same functions are called

  types-again : (args : List (Ty × Val)) → types_of (reads_of ws [] args) ≡ types_of args
  types-again [] = refl
  types-again (a ∷ args) = ap (λ l. a.0 ∷ l) (types-again args)

  calls-again : (x : Item) → calls_of (settle x) ≡ calls_of x
  calls-again (item.Operation name args) = ap (λ ts. called name ty.Void ts ∷ []) (types-again args)
  calls-again (item.Output c args) = ap (λ ts. called (record_name c) ty.Void ts ∷ []) (types-again args)
  calls-again (item.Binary d o g w a b) = refl
  calls-again (item.Icmp d o w a b) = refl
  calls-again (item.Convert d o w a to) = refl
  calls-again (item.Select d w c a b) = refl
  calls-again (item.Read d v) = refl
  calls-again (item.Equal d v u) = refl

  pub all-calls-again : (xs : List Item) → flat_map calls_of (map settle xs) ≡ flat_map calls_of xs
  all-calls-again [] = refl
  all-calls-again (x ∷ xs) = ap (λ l. l ++ flat_map calls_of (map settle xs)) (calls-again x) ∙ ap (λ l. calls_of x ++ l) (all-calls-again xs)

  -- ---- phases

  abbrev SamePhases : List (List ℕ) → List (List ℕ) → List Item → Type 0
  SamePhases irr' irr xs = (i : ℕ) (x : Item) → slice_get xs i ≡ Some x → phase_of irr' (settle x) ≡ phase_of irr x

  pub phases-again : (irr' irr : List (List ℕ)) (n : ℕ) (xs : List Item) → SamePhases irr' irr xs → in_phase irr' n (map settle xs) ≡ map settle (in_phase irr n xs)
  phases-again irr' irr n [] h = refl
  phases-again irr' irr n (x ∷ xs) h =
      ap (λ k. if k == n then settle x ∷ in_phase irr' n (map settle xs) else in_phase irr' n (map settle xs)) (h 0 x refl)
      ∙ ap (λ l. if phase_of irr x == n then settle x ∷ l else l) (phases-again irr' irr n xs (λ i y e. h (suc i) y e))
      ∙ by (phase_of irr x == n)
    where
      by : (b : Bool) → (if b then settle x ∷ map settle (in_phase irr n xs) else map settle (in_phase irr n xs)) ≡ map settle (if b then x ∷ in_phase irr n xs else in_phase irr n xs)
      by true = refl
      by false = refl

  -- ---- the same instructions are printed

  module _ (ws' : Words) where
    named-again : (v : Value) → named_value ws' (named_value ws v) ≡ named_value ws v
    named-again (value.Alloc j) = refl
    named-again (value.Measured j) = refl
    named-again (value.Int i) = refl
    named-again (value.Double d) = refl
    named-again (value.Id i) = refl
    named-again value.One = refl
    named-again value.Zero = refl
    named-again (value.Label g) = refl
    named-again value.NoLabel = refl
    named-again (value.Func f) = refl

    operand-again : (a : Val) → is_known a ≡ true → operand_of ws' (read ws [] a) ≡ operand_of ws a
    operand-again (Known v) h = ap operand.Const (named-again v)
    operand-again (Dynamic d) h = cc

    operands-again : (args : List (Ty × Val)) → all_known args ≡ true → map (typed_operand ws') (reads_of ws [] args) ≡ map (typed_operand ws) args
    operands-again [] h = refl
    operands-again (a ∷ args) h =
        let p = and_parts (is_known a.1) (all_known args) h in
        ap (λ o. (a.0, o) ∷ map (typed_operand ws') (reads_of ws [] args)) (operand-again a.1 p.0) ∙ ap (λ l. (a.0, operand_of ws a.1) ∷ l) (operands-again args p.1)

    module _ (functions : (name : List ℕ) → ws'.function name ≡ ws.function name) where
      call-again : (name : List ℕ) (args : List (Ty × Val)) → all_known args ≡ true → call_void ws' name (reads_of ws [] args) ≡ call_void ws name args
      call-again name args h =
          ap (λ f. record { result = None; what = kind.Call ty.Void (callee.Func f) (map (typed_operand ws') (reads_of ws [] args)) }) (functions name)
          ∙ ap (λ l. record { result = None; what = kind.Call ty.Void (callee.Func (ws.function name)) l }) (operands-again args h)

      item-again : (n : ℕ) (x : Item) → base_permits x ≡ true → (instructions ws' n (settle x) ≡ instructions ws n x) × (names_of_item (settle x) ≡ names_of_item x)
      item-again n (item.Operation name args) h = (ap (λ i. i ∷ []) (call-again name args h), refl)
      item-again n (item.Output c args) h = (ap (λ i. i ∷ []) (call-again (record_name c) args (and_parts (is_base_record c) (all_known args) h).1), refl)
      item-again n (item.Binary d o g w a b) h = cc
      item-again n (item.Icmp d o w a b) h = cc
      item-again n (item.Convert d o w a to) h = cc
      item-again n (item.Select d w c a b) h = cc
      item-again n (item.Read d v) h = cc
      item-again n (item.Equal d v u) h = cc

      pub items-again : (n : ℕ) (xs : List Item) → list_all base_permits xs ≡ true → print_items ws' n (map settle xs) ≡ print_items ws n xs
      items-again n [] h = refl
      items-again n (x ∷ xs) h =
          let p = and_parts (base_permits x) (list_all base_permits xs) h in
          let t = item-again n x p.0 in
          ap (λ l. l ++ print_items ws' (n + length (names_of_item (settle x))) (map settle xs)) t.0
          ∙ ap (λ ns. instructions ws n x ++ print_items ws' (n + length ns) (map settle xs)) t.1
          ∙ ap (λ l. instructions ws n x ++ l) (items-again (n + length (names_of_item x)) xs p.1)

  -- ---- no names are defined

  none-defined : (x : Item) → base_permits x ≡ true → names_of_item (settle x) ≡ []
  none-defined (item.Operation name args) h = refl
  none-defined (item.Output c args) h = refl
  none-defined (item.Binary d o g w a b) h = cc
  none-defined (item.Icmp d o w a b) h = cc
  none-defined (item.Convert d o w a to) h = cc
  none-defined (item.Select d w c a b) h = cc
  none-defined (item.Read d v) h = cc
  none-defined (item.Equal d v u) h = cc

  pub names-again : (xs : List Item) → list_all base_permits xs ≡ true → names_of_items (map settle xs) ≡ []
  names-again [] h = refl
  names-again (x ∷ xs) h =
      let p = and_parts (base_permits x) (list_all base_permits xs) h in
      ap (λ l. l ++ names_of_items (map settle xs)) (none-defined x p.0) ∙ names-again xs p.1

-- ---- the four blocks

pub blocks-again : (r r' : Residue) (p p' : Part) → items_of p'.lines ≡ map (settled (words r) []) (items_of p.lines)
    → list_all base_permits (items_of p.lines) ≡ true
    → ((name : List ℕ) → (words r').function name ≡ (words r).function name)
    → ((i : ℕ) (x : Item) → slice_get (items_of p.lines) i ≡ Some x → phase_of r'.irreversible (settled (words r) [] x) ≡ phase_of r.irreversible x)
    → print_tail (words r') p'.tail ≡ print_tail (words r) p.tail
    → base_blocks r' (p' ∷ []) ≡ base_blocks r (p ∷ [])
blocks-again r r' p p' same permitted functions phases tails =
    ap (λ is. block (codes "entry") [] (initialize_call ∷ []) (term.Br (block_number 1)) ∷ block (codes "body") [] is (term.Br (block_number 2)) ∷ block (codes "measurements") [] (print_phase r' 2 (items_of p'.lines)) (term.Br (block_number 3)) ∷ block (codes "output") [] (print_phase r' 3 (items_of p'.lines)) (print_tail (words r') p'.tail) ∷ []) (phase 1)
    ∙ ap (λ is. block (codes "entry") [] (initialize_call ∷ []) (term.Br (block_number 1)) ∷ block (codes "body") [] (print_phase r 1 (items_of p.lines)) (term.Br (block_number 2)) ∷ block (codes "measurements") [] is (term.Br (block_number 3)) ∷ block (codes "output") [] (print_phase r' 3 (items_of p'.lines)) (print_tail (words r') p'.tail) ∷ []) (phase 2)
    ∙ ap (λ is. block (codes "entry") [] (initialize_call ∷ []) (term.Br (block_number 1)) ∷ block (codes "body") [] (print_phase r 1 (items_of p.lines)) (term.Br (block_number 2)) ∷ block (codes "measurements") [] (print_phase r 2 (items_of p.lines)) (term.Br (block_number 3)) ∷ block (codes "output") [] is (print_tail (words r') p'.tail) ∷ []) (phase 3)
    ∙ ap (λ t. block (codes "entry") [] (initialize_call ∷ []) (term.Br (block_number 1)) ∷ block (codes "body") [] (print_phase r 1 (items_of p.lines)) (term.Br (block_number 2)) ∷ block (codes "measurements") [] (print_phase r 2 (items_of p.lines)) (term.Br (block_number 3)) ∷ block (codes "output") [] (print_phase r 3 (items_of p.lines)) t ∷ []) tails
  where
    phase : (n : ℕ) → print_phase r' n (items_of p'.lines) ≡ print_phase r n (items_of p.lines)
    phase n =
        ap (λ l. print_items (words r') 0 (in_phase r'.irreversible n l)) same
        ∙ ap (print_items (words r') 0) (phases-again (words r) r'.irreversible r.irreversible n (items_of p.lines) phases)
        ∙ items-again (words r) (words r') functions 0 (in_phase r.irreversible n (items_of p.lines)) (filter-passes base_permits (λ x. phase_of r.irreversible x == n) (items_of p.lines) permitted)
