-- No edge of the printed module leads to the first block, and it has no phis.
use Rattle.std.proofs.Common.{◌≡◌, ℕ, zero, suc, ◌+◌, Bool, true, false, ◌&&◌, not, Option, None, Some, List, [], ◌∷◌, length, map, refl, sym, ap, ◌∙◌, subst, arith}
use Rattle.std.proofs.lemmas.Bool.{and_parts}
use Rattle.std.proofs.lemmas.Option.{slice_get_within}
use Rattle.std.specs.List.{list_all}
use Rattle.std.specs.Prelude.{◌==◌, nat_lt, slice_get}
use Rattle.ir_module.specs.declared.places.Point.{Point}
use Rattle.ir_module.specs.declared.places.Spot.{Spot}
use Rattle.ir_module.specs.declared.places.Spot.TheVariants as spot
use Rattle.ir_module.specs.declared.tree.Block.{Block}
use Rattle.ir_module.specs.declared.tree.Function.{Function}
use Rattle.ir_module.specs.declared.tree.Inst.{Inst}
use Rattle.ir_module.specs.declared.tree.Module.{Module}
use Rattle.ir_module.specs.declared.tree.Phi.{Phi}
use Rattle.ir_module.specs.declared.tree.Term.{Term}
use Rattle.ir_module.specs.Edges.{edges}
use Rattle.ir_module.specs.Steps.{PhiAt, InstAt, TermAt, NoStep, step_in, step_of_point, steps_of_block}
use Rattle.ir_module.proofs.StepLemmas.{step-passes}
use Rattle.ir_values.specs.declared.ids.BlockId.{BlockId}
use Rattle.ir_values.specs.declared.int.Width.{Width}
use Rattle.ir_values.specs.Int.{IntValue}
use Rattle.kept_items.specs.declared.target.Target.{Target}
use Rattle.kept_items.specs.declared.target.Target.TheVariants.{Base, Adaptive}
use Rattle.kept_items.specs.declared.val.Dyn.{Dyn}
use Rattle.residue.specs.declared.parts.Jump.{Jump}
use Rattle.residue.specs.declared.parts.Part.{Part}
use Rattle.residue.specs.declared.parts.Residue.{Residue}
use Rattle.residue.specs.declared.parts.Tail.{Tail}
use Rattle.residue.specs.declared.parts.Tail.TheVariants as tail
use Rattle.residue.specs.Functions.{Called, all_items, declaration, declared_of}
use Rattle.residue.specs.Instructions.{Words, block_number, print_tail}
use Rattle.residue.specs.Printed.{base_blocks, edges_to, print_blocks, print_part, print_parts, print_phis, printed, printed_entry, words}
use Rattle.residue.specs.Scopes.{jumps}
use Rattle.residue.specs.Valid.{Valid, all_tails, base_permits, base_permits_tail, begins, leads_on, target_permits}
use Rattle.type_check.specs.declared.code.TypeCode.TheVariants as code
use Rattle.type_check.specs.Faults.{keeps_rule, on_function}
use Rattle.type_check.specs.Rules.{is_first, keeps_first}
use Rattle.printed_residue.specs.Places.{names_before}
use Rattle.printed_residue.proofs.Blocks.{part-stands}
use Rattle.printed_residue.proofs.Ends.{get-within}
use Rattle.printed_residue.proofs.Facts.{passes-here}
use Rattle.printed_residue.proofs.Looks.{differ, same-numbers}
use Rattle.numbered_residue.proofs.Passing.{all-both, block-passes}
use Rattle.numbered_residue.proofs.Shared.{both, every, less, parts-long, some-same}

inst-first : (b : BlockId) (i : Inst) → keeps_first b (InstAt i) ≡ true
unfolding keeps_first
inst-first b i = refl

none-first : (b : BlockId) → keeps_first b NoStep ≡ true
unfolding keeps_first
none-first b = refl

phi-first : (b : BlockId) (x : Phi) → is_first b ≡ false → keeps_first b (PhiAt x) ≡ true
unfolding keeps_first
phi-first b x h = ap not h

term-first : (b : BlockId) (x : Term) → list_all (λ to. not (is_first to)) (edges x) ≡ true → keeps_first b (TermAt x) ≡ true
unfolding keeps_first
term-first b x h = h

abbrev not_first : BlockId → Bool
not_first to = not (is_first to)

module _ (r : Residue) (t : Target) (ok : Valid r t) where
  abbrev m : Module
  m = printed r t

  abbrev f : Function
  f = printed_entry r t

  abbrev ws : Words
  ws = words r

  -- ---- terminators

  to-later : (j : Jump) → leads_on (length r.parts) j ≡ true → not_first (block_number j.to) ≡ true
  to-later j h = ap not (differ j.to 0 (λ e. absurd (let a = less 0 j.to (and_parts (nat_lt 0 j.to) (nat_lt j.to (length r.parts)) h).0 in omega (arith, a, e))))

  cases-later : (cases : List (IntValue × Jump)) → list_all (leads_on (length r.parts)) (map (λ (c : IntValue × Jump). c.1) cases) ≡ true → list_all not_first (map (λ (c : IntValue × BlockId). c.1) (map (λ (c : IntValue × Jump). (c.0, block_number c.1.to)) cases)) ≡ true
  cases-later [] h = refl
  cases-later (c ∷ cases) h =
      let p = and_parts (leads_on (length r.parts) c.1) (list_all (leads_on (length r.parts)) (map (λ (c : IntValue × Jump). c.1) cases)) h in
      both (not_first (block_number c.1.to)) (list_all not_first (map (λ (c : IntValue × BlockId). c.1) (map (λ (c : IntValue × Jump). (c.0, block_number c.1.to)) cases))) (to-later c.1 p.0) (cases-later cases p.1)

  tail-later : (x : Tail) → list_all (leads_on (length r.parts)) (jumps x) ≡ true → list_all not_first (edges (print_tail ws x)) ≡ true
  tail-later (tail.Jump j) h = ap (λ s. s && true) (to-later j (and_parts (leads_on (length r.parts) j) true h).0)
  tail-later (tail.Branch a j i) h =
      let p = and_parts (leads_on (length r.parts) j) (leads_on (length r.parts) i && true) h in
      both (not_first (block_number j.to)) (not_first (block_number i.to) && true) (to-later j p.0) (ap (λ s. s && true) (to-later i (and_parts (leads_on (length r.parts) i) true p.1).0))
  tail-later (tail.Switch w a j cases) h =
      let p = and_parts (leads_on (length r.parts) j) (list_all (leads_on (length r.parts)) (map (λ (c : IntValue × Jump). c.1) cases)) h in
      all-both not_first (map (λ (c : IntValue × BlockId). c.1) (map (λ (c : IntValue × Jump). (c.0, block_number c.1.to)) cases)) (block_number j.to ∷ []) (cases-later cases p.1) (ap (λ s. s && true) (to-later j p.0))
  tail-later (tail.Return a) h = refl

  begun : (begins r.parts ≡ true) × (all_tails (λ t. list_all (leads_on (length r.parts)) (jumps t)) r ≡ true)
  begun = and_parts (begins r.parts) (all_tails (λ t. list_all (leads_on (length r.parts)) (jumps t)) r) ok.start

  part-later : (n : ℕ) (p : Part) → slice_get r.parts n ≡ Some p → list_all not_first (edges (print_tail ws p.tail)) ≡ true
  part-later n p s = tail-later p.tail (passes-here (λ p. list_all (leads_on (length r.parts)) (jumps p.tail)) r.parts n p begun.1 s)

  -- ---- phis

  phis-first : (b : BlockId) (edges : List (ℕ × Jump)) (n i : ℕ) (params : List (Dyn × Width)) → is_first b ≡ false → list_all (λ x. keeps_first b (PhiAt x)) (print_phis ws edges n i params) ≡ true
  phis-first b edges n i params h = every (λ x. keeps_first b (PhiAt x)) (print_phis ws edges n i params) (λ x. phi-first b x h)

  first-part : (parts : List Part) (p : Part) → begins parts ≡ true → slice_get parts 0 ≡ Some p → p.params ≡ []
  first-part [] p h s = cc
  first-part (q ∷ parts) p h s = let z : q ≡ p = cc in subst (λ x. x.params ≡ []) z (none q.params h)
    where
      none : (ps : List (Dyn × Width)) → (length ps == 0) ≡ true → ps ≡ []
      none [] h = refl
      none (x ∷ ps) h = let e = same-numbers (length (x ∷ ps)) 0 h in absurd (omega (arith, e))

  part-phis : (n : ℕ) (p : Part) → slice_get r.parts n ≡ Some p → list_all (λ x. keeps_first (block_number n) (PhiAt x)) (print_part r n (names_before r n) p).phis ≡ true
  part-phis n p s = by (n == 0) refl
    where
      by : (b : Bool) → (n == 0) ≡ b → list_all (λ x. keeps_first (block_number n) (PhiAt x)) (print_phis ws (edges_to n r.parts) (names_before r n) 0 p.params) ≡ true
      by false e = phis-first (block_number n) (edges_to n r.parts) (names_before r n) 0 p.params e
      by true e =
          ap (λ ps. list_all (λ x. keeps_first (block_number n) (PhiAt x)) (print_phis ws (edges_to n r.parts) (names_before r n) 0 ps))
          (first-part r.parts p begun.0 (ap (slice_get r.parts) (sym (same-numbers n 0 e)) ∙ s))

  -- ---- blocks

  part-first : (n : ℕ) (p : Part) → slice_get r.parts n ≡ Some p → list_all (keeps_first (block_number n)) (steps_of_block (print_part r n (names_before r n) p)) ≡ true
  part-first n p s =
      block-passes (keeps_first (block_number n)) (print_part r n (names_before r n) p) (part-phis n p s)
      (every (λ i. keeps_first (block_number n) (InstAt i)) (print_part r n (names_before r n) p).insts (λ i. inst-first (block_number n) i))
      (term-first (block_number n) (print_tail ws p.tail) (part-later n p s))

  adaptive-first : (n : ℕ) (b : Block) → slice_get (print_parts r 0 0 r.parts) n ≡ Some b → list_all (keeps_first (block_number n)) (steps_of_block b) ≡ true
  adaptive-first n b s =
      let lt = slice_get_within (print_parts r 0 0 r.parts) n b s in
      let long = parts-long r 0 0 r.parts in
      let g = get-within r.parts n (omega (arith, lt, long)) in
      let e = part-stands r 0 0 r.parts n g.0 g.1 in
      let z : 0 + n ≡ n = omega arith in
      let y : 0 + names_before r n ≡ names_before r n = omega arith in
      let same : b ≡ print_part r n (names_before r n) g.0 = some-same (sym s ∙ e) ∙ ap (λ k. print_part r k (0 + names_before r n) g.0) z ∙ ap (λ k. print_part r n k g.0) y in
      subst (λ c. list_all (keeps_first (block_number n)) (steps_of_block c) ≡ true) (sym same) (part-first n g.0 g.1)

  plain-first : (n : ℕ) (b : Block) → b.phis ≡ [] → list_all not_first (edges b.term) ≡ true → list_all (keeps_first (block_number n)) (steps_of_block b) ≡ true
  plain-first n b h e =
      block-passes (keeps_first (block_number n)) b (ap (list_all (λ x. keeps_first (block_number n) (PhiAt x))) h)
      (every (λ i. keeps_first (block_number n) (InstAt i)) b.insts (λ i. inst-first (block_number n) i))
      (term-first (block_number n) b.term e)

  base-first : t ≡ Base → (n : ℕ) (b : Block) → slice_get (base_blocks r r.parts) n ≡ Some b → list_all (keeps_first (block_number n)) (steps_of_block b) ≡ true
  base-first e n b s = by r.parts refl n s
    where
      permits : list_all (λ p. base_permits_tail p.tail) r.parts ≡ true
      permits = (and_parts (list_all base_permits (all_items r)) (all_tails base_permits_tail r) (subst (λ u. target_permits r u ≡ true) e ok.permits)).1

      no-edges : (x : Tail) → base_permits_tail x ≡ true → list_all not_first (edges (print_tail ws x)) ≡ true
      no-edges (tail.Return a) h = refl
      no-edges (tail.Jump j) h = cc
      no-edges (tail.Branch a j i) h = cc
      no-edges (tail.Switch w a j cases) h = cc

      here : (c : Block) (n : ℕ) → c ≡ b → c.phis ≡ [] → list_all not_first (edges c.term) ≡ true → list_all (keeps_first (block_number n)) (steps_of_block b) ≡ true
      here c n z p q = subst (λ d. list_all (keeps_first (block_number n)) (steps_of_block d) ≡ true) z (plain-first n c p q)

      by : (parts : List Part) → r.parts ≡ parts → (n : ℕ) → slice_get (base_blocks r parts) n ≡ Some b → list_all (keeps_first (block_number n)) (steps_of_block b) ≡ true
      by [] w n s = cc
      by (p ∷ parts) w zero s = here _ 0 (some-same s) refl refl
      by (p ∷ parts) w (suc zero) s = here _ 1 (some-same s) refl refl
      by (p ∷ parts) w (suc (suc zero)) s = here _ 2 (some-same s) refl refl
      by (p ∷ parts) w (suc (suc (suc zero))) s = here _ 3 (some-same s) refl (no-edges p.tail (passes-here (λ p. base_permits_tail p.tail) r.parts 0 p permits (ap (λ ps. slice_get ps 0) w)))
      by (p ∷ parts) w (suc (suc (suc (suc n)))) s = cc

  block-first : (n : ℕ) (b : Block) → slice_get (print_blocks r t) n ≡ Some b → list_all (keeps_first (block_number n)) (steps_of_block b) ≡ true
  block-first n b s = by t refl
    where
      by : (u : Target) → t ≡ u → list_all (keeps_first (block_number n)) (steps_of_block b) ≡ true
      by Base e = base-first e n b (ap (λ u. slice_get (print_blocks r u) n) (sym e) ∙ s)
      by (Adaptive caps) e = adaptive-first n b (ap (λ u. slice_get (print_blocks r u) n) (sym e) ∙ s)

  point-first : (p : Point) → on_function (slice_get m.funcs p.func.0) (λ g. keeps_first p.block (step_of_point g p)) ≡ true
  point-first p = by p.func.0
    where
      in-block : (o : Option Block) → slice_get (print_blocks r t) p.block.0 ≡ o → keeps_first p.block (step_in o p.index) ≡ true
      in-block None e = none-first p.block
      in-block (Some b) e = step-passes (keeps_first p.block) (none-first p.block) b p.index (block-first p.block.0 b e)

      later : (n : ℕ) (cs : List Called) → on_function (slice_get (map (declaration r.irreversible) cs) n) (λ g. keeps_first p.block (step_of_point g p)) ≡ true
      later n [] = refl
      later zero (c ∷ cs) = none-first p.block
      later (suc n) (c ∷ cs) = later n cs

      by : (n : ℕ) → on_function (slice_get m.funcs n) (λ g. keeps_first p.block (step_of_point g p)) ≡ true
      by zero = in-block (slice_get (print_blocks r t) p.block.0) refl
      by (suc n) = later n (declared_of r)

  pub first-blocks : (limit : ℕ) (s : Spot) → keeps_rule m limit s code.EntryBlock ≡ true
  unfolding keeps_rule
  first-blocks limit spot.Module = refl
  first-blocks limit (spot.Func g) = refl
  first-blocks limit (spot.At p) = point-first p
