-- Which tests the steps of the entry pass where they stand: a test is of the number of a block, an index in it, and the step.
use Rattle.std.proofs.Common.{◌≡◌, ℕ, zero, suc, ◌+◌, ◌-◌, ◌<◌, Bool, true, false, Option, None, Some, List, [], ◌∷◌, ◌++◌, length, refl, ap, ◌∙◌, subst, arith}
use Rattle.std.proofs.lemmas.Bool.{and_parts}
use Rattle.std.specs.List.{list_all}
use Rattle.std.specs.Prelude.{◌==◌, ⊤, codes, if◌then◌else◌, filter, slice_get}
use Rattle.ir_module.specs.declared.tree.Inst.{Inst}
use Rattle.ir_module.specs.declared.tree.Operand.{Operand}
use Rattle.ir_module.specs.declared.tree.Phi.{Phi}
use Rattle.ir_module.specs.declared.tree.Term.{Term}
use Rattle.ir_module.specs.declared.tree.Term.TheVariants as term
use Rattle.ir_module.specs.Steps.{Step, PhiAt, InstAt, TermAt, NoStep, at_end, from_option, step_at, step_in}
use Rattle.ir_module.proofs.StepLemmas.{step-passes}
use Rattle.ir_values.specs.declared.ids.BlockId.{BlockId}
use Rattle.ir_values.specs.declared.int.Width.{Width}
use Rattle.kept_items.specs.declared.item.Item.{Item}
use Rattle.kept_items.specs.declared.target.Caps.{Caps}
use Rattle.kept_items.specs.declared.target.Target.{Target}
use Rattle.kept_items.specs.declared.target.Target.TheVariants.{Base, Adaptive}
use Rattle.kept_items.specs.declared.val.Dyn.{Dyn}
use Rattle.kept_items.specs.Targets.{is_base}
use Rattle.residue.specs.declared.parts.Jump.{Jump}
use Rattle.residue.specs.declared.parts.Part.{Part}
use Rattle.residue.specs.declared.parts.Residue.{Residue}
use Rattle.residue.specs.Functions.{all_items}
use Rattle.residue.specs.Instructions.{Words, block_number, instructions, local, names_of_item, print_items, print_tail}
use Rattle.residue.specs.Phases.{in_phase, phase_of, phases_rise}
use Rattle.residue.specs.Printed.{base_blocks, beginning, block, block_name, edges_to, entries, initialize_call, names_of_part, print_blocks, print_part, print_parts, print_phase, print_phis, words}
use Rattle.residue.specs.Scopes.{items_of, jumps}
use Rattle.residue.specs.Valid.{Valid, all_tails, begins, leads_on}
use Rattle.printed_residue.specs.Places.{names_before}
use Rattle.printed_residue.proofs.Blocks.{part-stands}
use Rattle.printed_residue.proofs.Declared.{Among, among-piece}
use Rattle.printed_residue.proofs.Looks.{differ, same-numbers}
use Rattle.numbered_residue.proofs.Passing.{all-both, among-filter, block-passes}
use Rattle.numbered_residue.proofs.Shared.{both}

-- ---- what is to be shown of a test

-- an item stands in this block: Base has a block for each phase
abbrev pub InBlock : Residue → Target → ℕ → Item → Type 0
InBlock r Base n x = phase_of r.irreversible x ≡ n
InBlock r (Adaptive caps) n x = ⊤

-- the tail of part q ends this block
abbrev pub Ends : Target → ℕ → ℕ → Type 0
Ends Base n q = n ≡ 3
Ends (Adaptive caps) n q = n ≡ q

pub record PassesAt (r : Residue) (t : Target) (test : ℕ → ℕ → Step → Bool) : Type 0 where
  pub none : (n i : ℕ) → test n i NoStep ≡ true
  pub start : test 0 0 (InstAt initialize_call) ≡ true
  pub item : (n i : ℕ) (x : Item) → Among (all_items r) x → InBlock r t n x → (m : ℕ) → list_all (λ c. test n i (InstAt c)) (instructions (words r) m x) ≡ true
  pub tail : (n i q : ℕ) (p : Part) → slice_get r.parts q ≡ Some p → Ends t n q → test n i (TermAt (print_tail (words r) p.tail)) ≡ true
  pub phi : is_base t ≡ false → (n i : ℕ) (p : Part) → slice_get r.parts n ≡ Some p → (k : ℕ) (x : Dyn × Width) → slice_get p.params k ≡ Some x
      → (es : List (Operand × BlockId)) → test n i (PhiAt (record { result = local (names_before r n + k); entries = es })) ≡ true
  -- Base's blocks lead on
  pub leads : t ≡ Base → (n i : ℕ) → n < 3 → test n i (TermAt (term.Br (block_number (suc n)))) ≡ true

-- ---- rows of items and of phis

-- items pass under whatever numbers their names have
items-pass : (ws : Words) (test : Inst → Bool) (n : ℕ) (xs : List Item) → ((x : Item) → Among xs x → (m : ℕ) → list_all test (instructions ws m x) ≡ true) → list_all test (print_items ws n xs) ≡ true
items-pass ws test n [] h = refl
items-pass ws test n (x ∷ xs) h =
    all-both test (instructions ws n x) (print_items ws (n + length (names_of_item x)) xs) (h x (0, refl) n)
    (items-pass ws test (n + length (names_of_item x)) xs (λ y a m. h y (suc a.0, a.1) m))

-- phis pass whatever their entries are
phis-pass : (ws : Words) (edges : List (ℕ × Jump)) (test : Phi → Bool) (n i : ℕ) (params : List (Dyn × Width)) → ((k : ℕ) (x : Dyn × Width) → slice_get params k ≡ Some x → (es : List (Operand × BlockId)) → test (record { result = local (n + k); entries = es }) ≡ true) → list_all test (print_phis ws edges n i params) ≡ true
phis-pass ws edges test n i [] h = refl
phis-pass ws edges test n i (x ∷ params) h =
    both (test (record { result = local n; entries = entries ws i edges })) (list_all test (print_phis ws edges (suc n) (suc i) params))
    (ap (λ m. test (record { result = local m; entries = entries ws i edges })) (let z : n ≡ n + 0 = omega arith in z) ∙ h 0 x refl (entries ws i edges))
    (phis-pass ws edges test (suc n) (suc i) params (λ k y s es. ap (λ m. test (record { result = local m; entries = es })) (let z : suc n + k ≡ n + suc k = omega arith in z) ∙ h (suc k) y s es))

-- ---- a block without phis, behind its first instruction

behind-first : (name : List ℕ) (c : Inst) (rest : List Inst) (t : Term) (i : ℕ) → step_at (block name [] (c ∷ rest) t) (suc i) ≡ step_at (block name [] rest t) i
behind-first name c rest t i =
    ap (λ k. from_option (slice_get (c ∷ rest) k) InstAt (at_end t (suc i - (0 + length (c ∷ rest))))) (let z : suc i - 0 ≡ suc i = omega arith in z)
    ∙ ap (λ k. from_option (slice_get rest i) InstAt (at_end t k)) (let z : suc i - (0 + length (c ∷ rest)) ≡ i - (0 + length rest) = omega arith in z)
    ∙ ap (λ k. from_option (slice_get rest k) InstAt (at_end t (i - (0 + length rest)))) (let z : i ≡ i - 0 = omega arith in z)

-- ---- where parts stand

no-part : (r : Residue) (n free : ℕ) (parts : List Part) (i : ℕ) → slice_get parts i ≡ None → slice_get (print_parts r n free parts) i ≡ None
no-part r n free [] i h = refl
no-part r n free (p ∷ parts) zero h = cc
no-part r n free (p ∷ parts) (suc i) h = no-part r (suc n) (free + length (names_of_part p)) parts i h

-- part n is block n
pub block-of-part : (r : Residue) (n : ℕ) (p : Part) → slice_get r.parts n ≡ Some p → slice_get (print_parts r 0 0 r.parts) n ≡ Some (print_part r n (names_before r n) p)
block-of-part r n p s =
    part-stands r 0 0 r.parts n p s
    ∙ ap (λ m. Some (print_part r m (0 + names_before r n) p)) (let z : 0 + n ≡ n = omega arith in z)
    ∙ ap (λ m. Some (print_part r n m p)) (let z : 0 + names_before r n ≡ names_before r n = omega arith in z)

pub no-block : (r : Residue) (n : ℕ) → slice_get r.parts n ≡ None → slice_get (print_parts r 0 0 r.parts) n ≡ None
no-block r n s = no-part r 0 0 r.parts n s

-- part 0 has no parameters
no-params : (parts : List Part) (p : Part) → begins parts ≡ true → slice_get parts 0 ≡ Some p → p.params ≡ []
no-params [] p b s = cc
no-params (q ∷ parts) p b s = let z : q ≡ p = cc in subst (λ (q : Part). q.params ≡ []) z (nil q.params b)
  where
    nil : {A : Type 0} (xs : List A) → (length xs == 0) ≡ true → xs ≡ []
    nil [] h = refl
    nil (x ∷ xs) h = let z = same-numbers (length (x ∷ xs)) 0 h in absurd (omega (arith, z))

filter-passed : {A : Type 0} (f : A → Bool) (xs : List A) (x : A) → Among (filter f xs) x → f x ≡ true
filter-passed f [] x h = let s = h.1 in cc
filter-passed f (y ∷ xs) x h = by (f y) refl h (λ g. filter-passed f xs x g)
  where
    by : (b : Bool) → f y ≡ b → Among (if b then y ∷ filter f xs else filter f xs) x → (Among (filter f xs) x → f x ≡ true) → f x ≡ true
    by true e (zero, s) ih = let z : y ≡ x = cc in subst (λ w. f w ≡ true) z e
    by true e (suc i, s) ih = ih (i, s)
    by false e g ih = ih g

module _ (r : Residue) (test : ℕ → ℕ → Step → Bool) where
  abbrev insts : ℕ → ℕ → Inst → Bool
  insts n i c = test n i (InstAt c)

  -- ---- Adaptive

  module _ (caps : Caps) (begun : begins r.parts ≡ true) (h : PassesAt r (Adaptive caps) test) where
    part-items : (n i m : ℕ) (p : Part) → slice_get r.parts n ≡ Some p → list_all (insts n i) (print_items (words r) m (items_of p.lines)) ≡ true
    part-items n i m p s = items-pass (words r) (insts n i) m (items_of p.lines) (λ x a k. h.item n i x (among-piece (λ p. items_of p.lines) r.parts n p x s a) tt k)

    -- the block of part 0 without the call of initialize
    abbrev first_rest : Part → List Inst
    first_rest p = print_items (words r) (names_before r 0 + length p.params) (items_of p.lines)

    first-block : (i : ℕ) (p : Part) → slice_get r.parts 0 ≡ Some p → test 0 i (step_at (block (block_name 0) [] (initialize_call ∷ first_rest p) (print_tail (words r) p.tail)) i) ≡ true
    first-block zero p s = h.start
    first-block (suc i) p s =
        ap (test 0 (suc i)) (behind-first (block_name 0) initialize_call (first_rest p) (print_tail (words r) p.tail) i)
        ∙ step-passes (test 0 (suc i)) (h.none 0 (suc i)) (block (block_name 0) [] (first_rest p) (print_tail (words r) p.tail)) i
        (block-passes (test 0 (suc i)) (block (block_name 0) [] (first_rest p) (print_tail (words r) p.tail)) refl (part-items 0 (suc i) (names_before r 0 + length p.params) p s) (h.tail 0 (suc i) 0 p s refl))

    abbrev phis_of : ℕ → List (Dyn × Width) → List Phi
    phis_of n params = print_phis (words r) (edges_to n r.parts) (names_before r n) 0 params

    later-block : (n i : ℕ) (p : Part) → slice_get r.parts (suc n) ≡ Some p → (start : List Inst) → start ≡ [] → test (suc n) i (step_at (block (block_name (suc n)) (phis_of (suc n) p.params) (start ++ print_items (words r) (names_before r (suc n) + length p.params) (items_of p.lines)) (print_tail (words r) p.tail)) i) ≡ true
    later-block n i p s (c ∷ start) e = cc
    later-block n i p s [] e =
        step-passes (test (suc n) i) (h.none (suc n) i) (block (block_name (suc n)) (phis_of (suc n) p.params) (print_items (words r) (names_before r (suc n) + length p.params) (items_of p.lines)) (print_tail (words r) p.tail)) i
        (block-passes (test (suc n) i) (block (block_name (suc n)) (phis_of (suc n) p.params) (print_items (words r) (names_before r (suc n) + length p.params) (items_of p.lines)) (print_tail (words r) p.tail))
        (phis-pass (words r) (edges_to (suc n) r.parts) (λ x. test (suc n) i (PhiAt x)) (names_before r (suc n)) 0 p.params (λ k x g es. h.phi refl (suc n) i p s k x g es))
        (part-items (suc n) i (names_before r (suc n) + length p.params) p s) (h.tail (suc n) i (suc n) p s refl))

    part-passes : (n i : ℕ) (p : Part) → slice_get r.parts n ≡ Some p → test n i (step_at (print_part r n (names_before r n) p) i) ≡ true
    part-passes zero i p s =
        ap (λ ps. test 0 i (step_at (block (block_name 0) (phis_of 0 ps) (initialize_call ∷ first_rest p) (print_tail (words r) p.tail)) i)) (no-params r.parts p begun s)
        ∙ first-block i p s
    part-passes (suc n) i p s =
        later-block n i p s (beginning (suc n)) (ap (λ b. if b then initialize_call ∷ [] else []) (differ (suc n) 0 (λ e. absurd (omega (arith, e)))))

    adaptive-at : (n i : ℕ) → test n i (step_in (slice_get (print_parts r 0 0 r.parts) n) i) ≡ true
    adaptive-at n i = by (slice_get r.parts n) refl
      where
        by : (o : Option Part) → slice_get r.parts n ≡ o → test n i (step_in (slice_get (print_parts r 0 0 r.parts) n) i) ≡ true
        by None e = ap (λ o. test n i (step_in o i)) (no-block r n e) ∙ h.none n i
        by (Some p) e = ap (λ o. test n i (step_in o i)) (block-of-part r n p e) ∙ part-passes n i p e

  -- ---- Base

  module _ (h : PassesAt r Base test) (p : Part) (is : r.parts ≡ p ∷ []) where
    is_part : slice_get r.parts 0 ≡ Some p
    is_part = ap (λ ps. slice_get ps 0) is

    -- the items of a phase stand in its block
    phase-items : (n i : ℕ) → list_all (insts n i) (print_phase r n (items_of p.lines)) ≡ true
    phase-items n i = items-pass (words r) (insts n i) 0 (in_phase r.irreversible n (items_of p.lines)) (λ x a m.
        h.item n i x (among-piece (λ p. items_of p.lines) r.parts 0 p x is_part (among-filter (λ x. phase_of r.irreversible x == n) (items_of p.lines) x a))
        (same-numbers (phase_of r.irreversible x) n (filter-passed (λ x. phase_of r.irreversible x == n) (items_of p.lines) x a)) m)

    -- a block of a phase
    phase-block : (n i : ℕ) (name : List ℕ) (t : Term) → test n i (TermAt t) ≡ true → test n i (step_at (block name [] (print_phase r n (items_of p.lines)) t) i) ≡ true
    phase-block n i name t g =
        step-passes (test n i) (h.none n i) (block name [] (print_phase r n (items_of p.lines)) t) i
        (block-passes (test n i) (block name [] (print_phase r n (items_of p.lines)) t) refl (phase-items n i) g)

    base-at : (n i : ℕ) → test n i (step_in (slice_get (base_blocks r (p ∷ [])) n) i) ≡ true
    base-at zero zero = h.start
    base-at zero (suc i) =
        ap (test 0 (suc i)) (behind-first (codes "entry") initialize_call [] (term.Br (block_number 1)) i)
        ∙ step-passes (test 0 (suc i)) (h.none 0 (suc i)) (block (codes "entry") [] [] (term.Br (block_number 1))) i
        (block-passes (test 0 (suc i)) (block (codes "entry") [] [] (term.Br (block_number 1))) refl refl (h.leads refl 0 (suc i) (omega arith)))
    base-at (suc zero) i = phase-block 1 i (codes "body") (term.Br (block_number 2)) (h.leads refl 1 i (omega arith))
    base-at (suc (suc zero)) i = phase-block 2 i (codes "measurements") (term.Br (block_number 3)) (h.leads refl 2 i (omega arith))
    base-at (suc (suc (suc zero))) i = phase-block 3 i (codes "output") (print_tail (words r) p.tail) (h.tail 3 i 0 p is_part refl)
    base-at (suc (suc (suc (suc n)))) i = h.none (suc (suc (suc (suc n)))) i

-- Base has one part
pub one-part : (r : Residue) → Valid r Base → (p : Part) × (r.parts ≡ p ∷ [])
one-part r ok = by r.parts (and_parts (length r.parts == 1) (phases_rise r.irreversible 0 (all_items r)) ok.phases).0
  where
    by : (parts : List Part) → (length parts == 1) ≡ true → (p : Part) × (parts ≡ p ∷ [])
    by [] l = let z = same-numbers 0 1 l in absurd (omega (arith, z))
    by (p ∷ []) l = (p, refl)
    by (p ∷ q ∷ parts) l = let z = same-numbers (length (p ∷ q ∷ parts)) 1 l in absurd (omega (arith, z))

-- all steps of the entry pass
pub steps-pass : (r : Residue) (t : Target) (test : ℕ → ℕ → Step → Bool) → Valid r t → PassesAt r t test → (n i : ℕ) → test n i (step_in (slice_get (print_blocks r t) n) i) ≡ true
steps-pass r Base test ok h n i =
    let one = one-part r ok in
    ap (λ ps. test n i (step_in (slice_get (base_blocks r ps) n) i)) one.1 ∙ base-at r test h one.0 one.1 n i
steps-pass r (Adaptive caps) test ok h n i =
    adaptive-at r test caps (and_parts (begins r.parts) (all_tails (λ t. list_all (leads_on (length r.parts)) (jumps t)) r) ok.start).0 h n i
