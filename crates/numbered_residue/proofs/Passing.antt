-- Which tests all steps of the printed module pass.
use Rattle.std.proofs.Common.{◌≡◌, ℕ, zero, suc, ◌+◌, ◌<◌, Bool, true, false, ◌&&◌, Option, Some, List, [], ◌∷◌, ◌++◌, length, map, take, refl, sym, ap, ◌∙◌, arith, length-append, append_assoc}
use Rattle.std.proofs.lemmas.Bool.{and_parts}
use Rattle.std.proofs.lemmas.List.Folds.{list_all-append}
use Rattle.std.proofs.lemmas.Option.{slice_get_within}
use Rattle.std.specs.List.{list_all}
use Rattle.std.specs.Prelude.{◌==◌, codes, if◌then◌else◌, filter, flat_map, slice_get}
use Rattle.ir_module.specs.declared.tree.Block.{Block}
use Rattle.ir_module.specs.declared.tree.Function.{Function}
use Rattle.ir_module.specs.declared.tree.Inst.{Inst}
use Rattle.ir_module.specs.declared.tree.Phi.{Phi}
use Rattle.ir_module.specs.declared.tree.Term.TheVariants as term
use Rattle.ir_module.specs.Numbered.{all_steps}
use Rattle.ir_module.specs.Steps.{Step, PhiAt, InstAt, TermAt, steps_of, steps_of_block}
use Rattle.ir_values.specs.declared.int.Width.{Width}
use Rattle.ir_values.specs.declared.ty.Ty.{Ty}
use Rattle.kept_items.specs.declared.item.Item.{Item}
use Rattle.kept_items.specs.declared.target.Caps.{Caps}
use Rattle.kept_items.specs.declared.target.Target.{Target}
use Rattle.kept_items.specs.declared.target.Target.TheVariants.{Base, Adaptive}
use Rattle.kept_items.specs.declared.val.Dyn.{Dyn}
use Rattle.kept_items.specs.Targets.{is_base}
use Rattle.residue.specs.declared.parts.Jump.{Jump}
use Rattle.residue.specs.declared.parts.Part.{Part}
use Rattle.residue.specs.declared.parts.Residue.{Residue}
use Rattle.residue.specs.Functions.{Called, all_items, declaration, declared_of}
use Rattle.residue.specs.Instructions.{Words, block_number, instructions, local, names_of_item, print_items, print_tail}
use Rattle.residue.specs.Phases.{in_phase, phase_of, phases_rise}
use Rattle.residue.specs.Printed.{base_blocks, beginning, block, edges_to, entries, initialize_call, names_of, names_of_items, names_of_params, print_part, print_parts, print_phase, print_phis, printed, printed_entry, words}
use Rattle.residue.specs.Scopes.{items_of}
use Rattle.residue.specs.Valid.{Valid, base_permits, base_permits_tail}
use Rattle.printed_residue.specs.Places.{names_before}
use Rattle.printed_residue.proofs.Blocks.{part-stands}
use Rattle.printed_residue.proofs.Declared.{Among, among-piece}
use Rattle.printed_residue.proofs.Looks.{same-numbers}
use Rattle.printed_residue.proofs.Naming.{names-by}
use Rattle.printed_residue.proofs.Rising.{all-none-named, filter-passes}
use Rattle.numbered_residue.proofs.Shared.{params-long, parts-long}

-- ---- tests of lists

module _ {A : Type 0} where
  pub all-map : {B : Type 0} (test : A → Bool) (f : B → A) (xs : List B) → list_all (λ x. test (f x)) xs ≡ true → list_all test (map f xs) ≡ true
  all-map test f [] h = refl
  all-map test f (x ∷ xs) h =
      let p = and_parts (test (f x)) (list_all (λ x. test (f x)) xs) h in
      ap (λ b. b && list_all test (map f xs)) p.0 ∙ all-map test f xs p.1

  pub all-both : (test : A → Bool) (xs ys : List A) → list_all test xs ≡ true → list_all test ys ≡ true → list_all test (xs ++ ys) ≡ true
  all-both test xs ys h g = list_all-append test xs ys ∙ ap (λ b. b && list_all test ys) h ∙ g

  pub all-flat : {B : Type 0} (test : A → Bool) (f : B → List A) (xs : List B) → list_all (λ x. list_all test (f x)) xs ≡ true → list_all test (flat_map f xs) ≡ true
  all-flat test f [] h = refl
  all-flat test f (x ∷ xs) h =
      let p = and_parts (list_all test (f x)) (list_all (λ x. list_all test (f x)) xs) h in
      all-both test (f x) (flat_map f xs) p.0 (all-flat test f xs p.1)

  pub all-each : (test : A → Bool) (xs : List A) → ((i : ℕ) (x : A) → slice_get xs i ≡ Some x → test x ≡ true) → list_all test xs ≡ true
  all-each test [] h = refl
  all-each test (x ∷ xs) h = ap (λ b. b && list_all test xs) (h 0 x refl) ∙ all-each test xs (λ i y s. h (suc i) y s)

  pub among-filter : (f : A → Bool) (xs : List A) (x : A) → Among (filter f xs) x → Among xs x
  among-filter f [] x h = h
  among-filter f (y ∷ xs) x h = by (f y) (λ g. among-filter f xs x g) h
    where
      by : (b : Bool) → (Among (filter f xs) x → Among xs x) → Among (if b then y ∷ filter f xs else filter f xs) x → Among (y ∷ xs) x
      by true ih (zero, s) = (0, s)
      by true ih (suc i, s) = let r = ih (i, s) in (suc r.0, r.1)
      by false ih h = let r = ih h in (suc r.0, r.1)

-- ---- steps

pub block-passes : (test : Step → Bool) (b : Block) → list_all (λ x. test (PhiAt x)) b.phis ≡ true → list_all (λ i. test (InstAt i)) b.insts ≡ true → test (TermAt b.term) ≡ true → list_all test (steps_of_block b) ≡ true
block-passes test b p i t =
    all-both test (map PhiAt b.phis) (map InstAt b.insts ++ (TermAt b.term ∷ [])) (all-map test PhiAt b.phis p)
    (all-both test (map InstAt b.insts) (TermAt b.term ∷ []) (all-map test InstAt b.insts i) (ap (λ s. s && true) t))

declarations-pass : (test : Function → Step → Bool) (irr : List (List ℕ)) (cs : List Called) → list_all (λ f. list_all (test f) (steps_of f)) (map (declaration irr) cs) ≡ true
declarations-pass test irr [] = refl
declarations-pass test irr (c ∷ cs) = declarations-pass test irr cs

-- a declaration has no steps
pub all-steps : (test : Function → Step → Bool) (r : Residue) (t : Target) → list_all (test (printed_entry r t)) (steps_of (printed_entry r t)) ≡ true → all_steps test (printed r t) ≡ true
all-steps test r t h = ap (λ b. b && list_all (λ f. list_all (test f) (steps_of f)) (map (declaration r.irreversible) (declared_of r))) h ∙ declarations-pass test r.irreversible (declared_of r)

abbrev pub Names : Type 0
Names = List (Option ℕ × Ty)

-- items pass, each printed where its names stand among all of them
module _ (ws : Words) (test : Inst → Bool) (all : Names) where
  pub items-pass : (pre : Names) (xs : List Item) (post : Names) → all ≡ pre ++ (names_of_items xs ++ post)
      → ((x : Item) → Among xs x → (before after : Names) → all ≡ before ++ (names_of_item x ++ after) → list_all test (instructions ws (length before) x) ≡ true)
      → list_all test (print_items ws (length pre) xs) ≡ true
  items-pass pre [] post e h = refl
  items-pass pre (y ∷ ys) post e h =
      let a = length-append pre (names_of_item y) in
      let here : all ≡ pre ++ (names_of_item y ++ (names_of_items ys ++ post)) = e ∙ ap (λ l. pre ++ l) (append_assoc (names_of_item y) (names_of_items ys) post) in
      all-both test (instructions ws (length pre) y) (print_items ws (length pre + length (names_of_item y)) ys) (h y (0, refl) pre (names_of_items ys ++ post) here)
      (ap (λ n. list_all test (print_items ws n ys)) (sym a)
      ∙ items-pass (pre ++ names_of_item y) ys post (here ∙ sym (append_assoc pre (names_of_item y) (names_of_items ys ++ post))) (λ x m before after g. h x (suc m.0, m.1) before after g))

get-within : {A : Type 0} (xs : List A) (i : ℕ) → i < length xs → (x : A) × (slice_get xs i ≡ Some x)
get-within [] i lt = absurd (omega arith)
get-within (x ∷ xs) zero lt = (x, refl)
get-within (x ∷ xs) (suc i) lt = get-within xs i (omega arith)

-- block i is that of part i
pub blocks-pass : (r : Residue) (test : Block → Bool) → ((i : ℕ) (p : Part) → slice_get r.parts i ≡ Some p → test (print_part r i (names_before r i) p) ≡ true) → list_all test (print_parts r 0 0 r.parts) ≡ true
blocks-pass r test h = all-each test (print_parts r 0 0 r.parts) (λ i b s.
    let lt = slice_get_within (print_parts r 0 0 r.parts) i b s in
    let long = parts-long r 0 0 r.parts in
    let g = get-within r.parts i (omega (arith, lt, long)) in
    let e = part-stands r 0 0 r.parts i g.0 g.1 in
    let z : 0 + i ≡ i = omega arith in
    let y : 0 + names_before r i ≡ names_before r i = omega arith in
    let same : b ≡ print_part r (0 + i) (0 + names_before r i) g.0 = some-same (sym s ∙ e) in
    ap test (same ∙ ap (λ m. print_part r m (0 + names_before r i) g.0) z ∙ ap (λ m. print_part r i m g.0) y) ∙ h i g.0 g.1)
  where
    some-same : {A : Type 0} {x y : A} → Some x ≡ Some y → x ≡ y
    some-same e = cc

-- what is to be shown of a test, so that all steps of the entry pass it
pub record Passes (r : Residue) (t : Target) (test : Step → Bool) : Type 0 where
  pub start : test (InstAt initialize_call) ≡ true
  pub item : (x : Item) → Among (all_items r) x → (before after : Names) → names_of r.parts ≡ before ++ (names_of_item x ++ after) → list_all (λ i. test (InstAt i)) (instructions (words r) (length before) x) ≡ true
  pub tail : (n : ℕ) (p : Part) → slice_get r.parts n ≡ Some p → test (TermAt (print_tail (words r) p.tail)) ≡ true
  pub phi : is_base t ≡ false → (n : ℕ) (p : Part) → slice_get r.parts n ≡ Some p → (k : ℕ) (x : Dyn × Width) → slice_get p.params k ≡ Some x
      → test (PhiAt (record { result = local (names_before r n + k); entries = entries (words r) k (edges_to n r.parts) })) ≡ true
  -- Base's blocks lead on
  pub leads : t ≡ Base → (n : ℕ) → n < 4 → test (TermAt (term.Br (block_number n))) ≡ true

phis-pass : (ws : Words) (edges : List (ℕ × Jump)) (test : Phi → Bool) (n i : ℕ) (params : List (Dyn × Width)) → ((k : ℕ) (x : Dyn × Width) → slice_get params k ≡ Some x → test (record { result = local (n + k); entries = entries ws (i + k) edges }) ≡ true) → list_all test (print_phis ws edges n i params) ≡ true
phis-pass ws edges test n i [] h = refl
phis-pass ws edges test n i (x ∷ params) h =
    ap (λ b. b && list_all test (print_phis ws edges (suc n) (suc i) params))
    (ap (λ m. test (record { result = local m; entries = entries ws i edges })) (let z : n ≡ n + 0 = omega arith in z)
    ∙ ap (λ m. test (record { result = local (n + 0); entries = entries ws m edges })) (let z : i ≡ i + 0 = omega arith in z)
    ∙ h 0 x refl)
    ∙ phis-pass ws edges test (suc n) (suc i) params (λ k y s.
    ap (λ m. test (record { result = local m; entries = entries ws (suc i + k) edges })) (let z : suc n + k ≡ n + suc k = omega arith in z)
    ∙ ap (λ m. test (record { result = local (n + suc k); entries = entries ws m edges })) (let z : suc i + k ≡ i + suc k = omega arith in z)
    ∙ h (suc k) y s)

-- Base's four blocks
abbrev first_block : Block
first_block = block (codes "entry") [] (initialize_call ∷ []) (term.Br (block_number 1))

abbrev body_block : Residue → Part → Block
body_block r p = block (codes "body") [] (print_phase r 1 (items_of p.lines)) (term.Br (block_number 2))

abbrev measuring_block : Residue → Part → Block
measuring_block r p = block (codes "measurements") [] (print_phase r 2 (items_of p.lines)) (term.Br (block_number 3))

abbrev output_block : Residue → Part → Block
output_block r p = block (codes "output") [] (print_phase r 3 (items_of p.lines)) (print_tail (words r) p.tail)

module _ (r : Residue) (test : Step → Bool) where
  adaptive-passes : (caps : Caps) → Passes r (Adaptive caps) test → list_all test (steps_of (printed_entry r (Adaptive caps))) ≡ true
  adaptive-passes caps h = all-flat test steps_of_block (print_parts r 0 0 r.parts) (blocks-pass r (λ b. list_all test (steps_of_block b)) (λ n p s.
      block-passes test (print_part r n (names_before r n) p)
      (phis-pass (words r) (edges_to n r.parts) (λ x. test (PhiAt x)) (names_before r n) 0 p.params (λ k x g.
      ap (λ m. test (PhiAt (record { result = local (names_before r n + k); entries = entries (words r) m (edges_to n r.parts) }))) (let z : 0 + k ≡ k = omega arith in z) ∙ h.phi refl n p s k x g))
      (all-both (λ i. test (InstAt i)) (beginning n) (print_items (words r) (names_before r n + length p.params) (items_of p.lines)) (first n)
      (of-items n p s))
      (h.tail n p s)))
    where
      of-items : (n : ℕ) (p : Part) → slice_get r.parts n ≡ Some p → list_all (λ i. test (InstAt i)) (print_items (words r) (names_before r n + length p.params) (items_of p.lines)) ≡ true
      of-items n p s =
          let c = names-by r n p s [] (items_of p.lines) refl in
          let pre : Names = names_of (take n r.parts) ++ (names_of_params p.params ++ []) in
          let a = length-append (names_of (take n r.parts)) (names_of_params p.params ++ []) in
          let b = length-append (names_of_params p.params) [] in
          let d = params-long p.params in
          let z : names_before r n + length p.params ≡ length pre = omega (arith, a, b, d) in
          ap (λ m. list_all (λ i. test (InstAt i)) (print_items (words r) m (items_of p.lines))) z
          ∙ items-pass (words r) (λ i. test (InstAt i)) (names_of r.parts) pre (items_of p.lines) c.0 c.1 (λ x a before after e. h.item x (among-piece (λ p. items_of p.lines) r.parts n p x s a) before after e)

      first : (n : ℕ) → list_all (λ i. test (InstAt i)) (beginning n) ≡ true
      first n = by (n == 0)
        where
          by : (b : Bool) → list_all (λ i. test (InstAt i)) (if b then (initialize_call ∷ []) else []) ≡ true
          by true = ap (λ b. b && true) h.start
          by false = refl

  base-passes : Valid r Base → Passes r Base test → list_all test (steps_of (printed_entry r Base)) ≡ true
  base-passes ok h = by r.parts refl (and_parts (length r.parts == 1) (phases_rise r.irreversible 0 (all_items r)) ok.phases).0
    where
      permits : list_all base_permits (all_items r) ≡ true
      permits = (and_parts (list_all base_permits (all_items r)) (list_all (λ p. base_permits_tail p.tail) r.parts) ok.permits).0

      by : (parts : List Part) → r.parts ≡ parts → (length parts == 1) ≡ true → list_all test (flat_map steps_of_block (base_blocks r parts)) ≡ true
      by [] e l = let z = same-numbers 0 1 l in absurd (omega (arith, z))
      by (p ∷ q ∷ parts) e l = let z = same-numbers (length (p ∷ q ∷ parts)) 1 l in absurd (omega (arith, z))
      by (p ∷ []) e l =
          all-flat test steps_of_block (base_blocks r (p ∷ [])) (four (list_all test (steps_of_block first_block)) (list_all test (steps_of_block (body_block r p))) (list_all test (steps_of_block (measuring_block r p))) (list_all test (steps_of_block (output_block r p)))
          (block-passes test first_block refl (ap (λ b. b && true) h.start) (h.leads refl 1 (omega arith)))
          (block-passes test (body_block r p) refl (phase 1) (h.leads refl 2 (omega arith)))
          (block-passes test (measuring_block r p) refl (phase 2) (h.leads refl 3 (omega arith)))
          (block-passes test (output_block r p) refl (phase 3) (h.tail 0 p (ap (λ ps. slice_get ps 0) e))))
        where
          four : (a b c d : Bool) → a ≡ true → b ≡ true → c ≡ true → d ≡ true → (a && (b && (c && (d && true)))) ≡ true
          four a b c d f g i j = ap (λ x. x && (b && (c && (d && true)))) f ∙ ap (λ x. x && (c && (d && true))) g ∙ ap (λ x. x && (d && true)) i ∙ ap (λ x. x && true) j

          is_part : slice_get r.parts 0 ≡ Some p
          is_part = ap (λ ps. slice_get ps 0) e

          mine : (x : Item) → Among (items_of p.lines) x → Among (all_items r) x
          mine x a = among-piece (λ p. items_of p.lines) r.parts 0 p x is_part a

          allowed : list_all base_permits (items_of p.lines) ≡ true
          allowed = (and_parts (list_all base_permits (items_of p.lines)) true (sym (list_all-append base_permits (items_of p.lines) []) ∙ ap (λ ps. list_all base_permits (flat_map (λ p. items_of p.lines) ps)) (sym e) ∙ permits)).0

          phase : (n : ℕ) → list_all (λ i. test (InstAt i)) (print_items (words r) 0 (in_phase r.irreversible n (items_of p.lines))) ≡ true
          phase n =
              let none = all-none-named (in_phase r.irreversible n (items_of p.lines)) (filter-passes base_permits (λ x. phase_of r.irreversible x == n) (items_of p.lines) allowed) in
              items-pass (words r) (λ i. test (InstAt i)) (names_of r.parts) [] (in_phase r.irreversible n (items_of p.lines)) (names_of r.parts) (ap (λ l. l ++ names_of r.parts) (sym none)) (λ x a before after g.
              h.item x (mine x (among-filter (λ x. phase_of r.irreversible x == n) (items_of p.lines) x a)) before after g)

-- all steps of the entry pass
pub entry-passes : (r : Residue) (t : Target) (test : Step → Bool) → Valid r t → Passes r t test → list_all test (steps_of (printed_entry r t)) ≡ true
entry-passes r Base test ok h = base-passes r test ok h
entry-passes r (Adaptive caps) test ok h = adaptive-passes r test caps h
