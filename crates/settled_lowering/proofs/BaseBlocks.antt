-- What stands in the four blocks of a printed Base residue.
use Rattle.std.proofs.Common.{◌≡◌, ℕ, zero, suc, ◌+◌, ◌<◌, ◌≤◌, Bool, true, false, Some, List, [], ◌∷◌, ◌++◌, length, refl, sym, ap, ◌∙◌, subst, arith}
use Rattle.std.proofs.lemmas.Bool.{and_parts}
use Rattle.std.specs.List.{list_all}
use Rattle.std.specs.Prelude.{◌==◌, filter, if◌then◌else◌, slice_get}
use Rattle.ir_module.specs.declared.tree.Block.{Block}
use Rattle.ir_module.specs.declared.tree.Inst.{Inst}
use Rattle.ir_module.specs.declared.tree.Term.TheVariants as term
use Rattle.ir_values.specs.declared.class.Class.{Class}
use Rattle.ir_values.specs.declared.ty.Ty.{Ty}
use Rattle.kept_items.specs.declared.item.Item.{Item}
use Rattle.kept_items.specs.declared.item.Item.TheVariants as item
use Rattle.kept_items.specs.declared.target.Target.TheVariants.{Base}
use Rattle.kept_items.specs.declared.val.Val.{Val}
use Rattle.residue.specs.declared.parts.Part.{Part}
use Rattle.residue.specs.declared.parts.Residue.{Residue}
use Rattle.residue.specs.Functions.{all_items, record_name}
use Rattle.residue.specs.Instructions.{Words, block_number, call_void, instructions, names_of_item, print_items, print_tail}
use Rattle.residue.specs.Phases.{in_phase, phase_of}
use Rattle.residue.specs.Printed.{base_blocks, initialize_call, print_blocks, words}
use Rattle.residue.specs.Scopes.{items_of}
use Rattle.residue.specs.Valid.{Valid, base_permits}
use Rattle.printed_residue.proofs.Declared.{Among, among-piece}
use Rattle.printed_residue.proofs.Looks.{differ, same-numbers}
use Rattle.printed_residue.proofs.Rising.{phase-few}
use Rattle.numbered_residue.proofs.Passing.{all-each, among-filter}
use Rattle.numbered_residue.proofs.Shared.{some-same}
use Rattle.profiled_residue.proofs.CallRules.{base-permits}
use Rattle.profiled_residue.proofs.Located.{one-part}

-- an instruction that Base has: the call of the operation or of the record that stands at the same place among the items
pub data IsCall (ws : Words) (xs : List Item) (j : ℕ) (i : Inst) : Type 0 where
  operation : (name : List ℕ) (args : List (Ty × Val)) → slice_get xs j ≡ Some (item.Operation name args) → call_void ws name args ≡ i → IsCall ws xs j i
  output : (c : Class) (args : List (Ty × Val)) → slice_get xs j ≡ Some (item.Output c args) → call_void ws (record_name c) args ≡ i → IsCall ws xs j i

call-behind : (ws : Words) (x : Item) (xs : List Item) (j : ℕ) (i : Inst) → IsCall ws xs j i → IsCall ws (x ∷ xs) (suc j) i
call-behind ws x xs j i (operation name args a e) = operation name args a e
call-behind ws x xs j i (output c args a e) = output c args a e

-- the call of one item stands in one place
one-call : (ws : Words) (n : ℕ) (x : Item) → base_permits x ≡ true → (c : Inst) × (instructions ws n x ≡ c ∷ []) × IsCall ws (x ∷ []) 0 c
one-call ws n (item.Operation name args) p = (call_void ws name args, refl, operation name args refl refl)
one-call ws n (item.Output c args) p = (call_void ws (record_name c) args, refl, output c args refl refl)
one-call ws n (item.Binary d o g w a b) p = cc
one-call ws n (item.Icmp d o w a b) p = cc
one-call ws n (item.Convert d o w a to) p = cc
one-call ws n (item.Select d w c a b) p = cc
one-call ws n (item.Read d v) p = cc
one-call ws n (item.Equal d v u) p = cc

calls-only : (ws : Words) (n : ℕ) (xs : List Item) → list_all base_permits xs ≡ true → (j : ℕ) (i : Inst) → slice_get (print_items ws n xs) j ≡ Some i → IsCall ws xs j i
calls-only ws n [] h j i e = cc
calls-only ws n (x ∷ xs) h j i e =
    let p = and_parts (base_permits x) (list_all base_permits xs) h in
    let next = n + length (names_of_item x) in
    let c = one-call ws n x p.0 in
    by c.0 c.2 j (ap (λ is. slice_get (is ++ print_items ws next xs) j) (sym c.1) ∙ e) (λ k f. call-behind ws x xs k i (calls-only ws next xs p.1 k i f))
  where
    here : (c : Inst) → IsCall ws (x ∷ []) 0 c → c ≡ i → IsCall ws (x ∷ xs) 0 i
    here c (operation name args a e) s = operation name args a (e ∙ s)
    here c (output k args a e) s = output k args a (e ∙ s)

    by : (c : Inst) → IsCall ws (x ∷ []) 0 c → (j : ℕ) → slice_get ((c ∷ []) ++ print_items ws (n + length (names_of_item x)) xs) j ≡ Some i
        → ((k : ℕ) → slice_get (print_items ws (n + length (names_of_item x)) xs) k ≡ Some i → IsCall ws (x ∷ xs) (suc k) i) → IsCall ws (x ∷ xs) j i
    by c t zero e ih = here c t (some-same e)
    by c t (suc k) e ih = ih k e

filter-passed : {A : Type 0} (f : A → Bool) (xs : List A) (x : A) → Among (filter f xs) x → f x ≡ true
filter-passed f [] x h = let s = h.1 in cc
filter-passed f (y ∷ xs) x h = by (f y) refl h (λ g. filter-passed f xs x g)
  where
    by : (b : Bool) → f y ≡ b → Among (if b then y ∷ filter f xs else filter f xs) x → (Among (filter f xs) x → f x ≡ true) → f x ≡ true
    by true e (zero, s) ih = let z : y ≡ x = cc in subst (λ w. f w ≡ true) z e
    by true e (suc i, s) ih = ih (i, s)
    by false e g ih = ih g

-- what stands first in block n, or is the call of the item that stands at the same place among these of its phase
pub data StandsIn (r : Residue) (xs : List Item) (n j : ℕ) (i : Inst) : Type 0 where
  initializes : xs ≡ [] → initialize_call ≡ i → StandsIn r xs n j i
  operates : (name : List ℕ) (args : List (Ty × Val)) → slice_get xs j ≡ Some (item.Operation name args) → Among (all_items r) (item.Operation name args) → phase_of r.irreversible (item.Operation name args) ≡ n → call_void (words r) name args ≡ i → StandsIn r xs n j i
  records : (c : Class) (args : List (Ty × Val)) → slice_get xs j ≡ Some (item.Output c args) → Among (all_items r) (item.Output c args) → n ≡ 3 → call_void (words r) (record_name c) args ≡ i → StandsIn r xs n j i

-- how block n ends
pub data EndsIn (r : Residue) (n : ℕ) (b : Block) : Type 0 where
  leads : (to : Block) → n < 3 → b.term ≡ term.Br (block_number (suc n)) → slice_get (print_blocks r Base) (suc n) ≡ Some to → EndsIn r n b
  last : (p : Part) → n ≡ 3 → slice_get r.parts 0 ≡ Some p → b.term ≡ print_tail (words r) p.tail → EndsIn r n b

pub record IsBaseBlock (r : Residue) (xs : List Item) (n : ℕ) (b : Block) : Type 0 where
  pub phis : b.phis ≡ []
  pub inst : (j : ℕ) (i : Inst) → slice_get b.insts j ≡ Some i → StandsIn r xs n j i
  pub long : length xs ≤ length b.insts
  pub ends : EndsIn r n b

module _ (r : Residue) (ok : Valid r Base) where
  -- the one part
  abbrev pub part : Part
  part = (one-part r ok).0

  pub only : r.parts ≡ part ∷ []
  only = (one-part r ok).1

  pub part-is : slice_get r.parts 0 ≡ Some part
  part-is = ap (λ ps. slice_get ps 0) only

  -- its items of a phase
  abbrev pub items_in : ℕ → List Item
  items_in n = in_phase r.irreversible n (items_of part.lines)

  abbrev blocks : List Block
  blocks = base_blocks r (part ∷ [])

  mine : (n : ℕ) (x : Item) → Among (items_in n) x → Among (all_items r) x
  mine n x a = among-piece (λ p. items_of p.lines) r.parts 0 part x part-is (among-filter (λ x. phase_of r.irreversible x == n) (items_of part.lines) x a)

  all-permitted : (n : ℕ) → list_all base_permits (items_in n) ≡ true
  all-permitted n = all-each base_permits (items_in n) (λ i x s. base-permits r ok x (mine n x (i, s)))

  stands-in : (n : ℕ) (j : ℕ) (i : Inst) → slice_get (print_items (words r) 0 (items_in n)) j ≡ Some i → StandsIn r (items_in n) n j i
  stands-in n j i e = by (calls-only (words r) 0 (items_in n) (all-permitted n) j i e)
    where
      in-phase : (x : Item) → Among (items_in n) x → phase_of r.irreversible x ≡ n
      in-phase x a = same-numbers (phase_of r.irreversible x) n (filter-passed (λ x. phase_of r.irreversible x == n) (items_of part.lines) x a)

      by : IsCall (words r) (items_in n) j i → StandsIn r (items_in n) n j i
      by (operation name args a e) = operates name args a (mine n (item.Operation name args) (j, a)) (in-phase (item.Operation name args) (j, a)) e
      by (output c args a e) = records c args a (mine n (item.Output c args) (j, a)) (sym (in-phase (item.Output c args) (j, a))) e

  -- there is a call for each item
  calls-long : (n : ℕ) (xs : List Item) → list_all base_permits xs ≡ true → length (print_items (words r) n xs) ≡ length xs
  calls-long n [] h = refl
  calls-long n (x ∷ xs) h =
      let p = and_parts (base_permits x) (list_all base_permits xs) h in
      let next = n + length (names_of_item x) in
      ap (λ is. length (is ++ print_items (words r) next xs)) (one-call (words r) n x p.0).1 ∙ ap suc (calls-long next xs p.1)

  long-enough : (n : ℕ) → length (items_in n) ≤ length (print_items (words r) 0 (items_in n))
  long-enough n = let e = calls-long 0 (items_in n) (all-permitted n) in omega (arith, e)

  -- no item stands in block 0
  pub none-first : (xs : List Item) → in_phase r.irreversible 0 xs ≡ []
  none-first [] = refl
  none-first (x ∷ xs) =
      ap (λ b. if b then x ∷ in_phase r.irreversible 0 xs else in_phase r.irreversible 0 xs) (differ (phase_of r.irreversible x) 0 (λ e. let f = (phase-few r.irreversible x).0 in absurd (omega (arith, e, f)))) ∙ none-first xs

  block-is : (n : ℕ) (b : Block) → slice_get blocks n ≡ Some b → slice_get (print_blocks r Base) n ≡ Some b
  block-is n b e = ap (λ ps. slice_get (base_blocks r ps) n) only ∙ e

  base-block : (n : ℕ) (b : Block) → slice_get blocks n ≡ Some b → IsBaseBlock r (items_in n) n b
  base-block zero b e = subst (IsBaseBlock r (items_in 0) 0) (some-same e) (record {
    phis = refl;
    inst = λ j i g. initializes (none-first (items_of part.lines)) (first j i g);
    long = let z = ap length (none-first (items_of part.lines)) in omega (arith, z);
    ends = leads _ (omega arith) refl (block-is 1 _ refl);
  })
    where
      first : (j : ℕ) (i : Inst) → slice_get (initialize_call ∷ []) j ≡ Some i → initialize_call ≡ i
      first zero i g = some-same g
      first (suc j) i g = cc
  base-block (suc zero) b e = subst (IsBaseBlock r (items_in 1) 1) (some-same e) (record { phis = refl; inst = λ j i g. stands-in 1 j i g; long = long-enough 1; ends = leads _ (omega arith) refl (block-is 2 _ refl) })
  base-block (suc (suc zero)) b e = subst (IsBaseBlock r (items_in 2) 2) (some-same e) (record { phis = refl; inst = λ j i g. stands-in 2 j i g; long = long-enough 2; ends = leads _ (omega arith) refl (block-is 3 _ refl) })
  base-block (suc (suc (suc zero))) b e = subst (IsBaseBlock r (items_in 3) 3) (some-same e) (record { phis = refl; inst = λ j i g. stands-in 3 j i g; long = long-enough 3; ends = last part refl part-is refl })
  base-block (suc (suc (suc (suc n)))) b e = cc

  -- each block is one of the four
  pub each-block : (n : ℕ) (b : Block) → slice_get (print_blocks r Base) n ≡ Some b → IsBaseBlock r (items_in n) n b
  each-block n b e = base-block n b (ap (λ ps. slice_get (base_blocks r ps) n) (sym only) ∙ e)

  pub first-block : (b : Block) × (slice_get (print_blocks r Base) 0 ≡ Some b)
  first-block = (_, block-is 0 _ refl)
