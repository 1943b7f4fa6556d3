-- Each phi of the printed module has an entry for each edge into its block, and entries for one block don't differ.
use Rattle.std.proofs.Common.{◌≡◌, ℕ, zero, suc, ◌+◌, ◌<◌, Bool, true, false, not, Option, None, Some, List, [], ◌∷◌, ◌++◌, length, map, refl, sym, ap, ◌∙◌, subst, arith, append-nil}
use Rattle.std.proofs.lemmas.Bool.{and_parts}
use Rattle.std.proofs.lemmas.List.{map-append}
use Rattle.std.proofs.lemmas.Option.{slice_get_within}
use Rattle.std.specs.Cmp.{unsigned_Decides}
use Rattle.std.specs.Cmp.Lexicographic.{pointwise_decides}
use Rattle.std.specs.List.{list_all}
use Rattle.std.specs.Prelude.{◌||◌, ◌==◌, ⊤, if◌then◌else◌, filter, slice_get}
use Rattle.ir_module.specs.declared.places.Point.{Point}
use Rattle.ir_module.specs.declared.places.Spot.{Spot}
use Rattle.ir_module.specs.declared.places.Spot.TheVariants as spot
use Rattle.ir_module.specs.declared.tree.Block.{Block}
use Rattle.ir_module.specs.declared.tree.Function.{Function}
use Rattle.ir_module.specs.declared.tree.Inst.{Inst}
use Rattle.ir_module.specs.declared.tree.Module.{Module}
use Rattle.ir_module.specs.declared.tree.Operand.{Operand}
use Rattle.ir_module.specs.declared.tree.Operand.TheVariants as operand
use Rattle.ir_module.specs.declared.tree.Phi.{Phi}
use Rattle.ir_module.specs.declared.tree.Term.{Term}
use Rattle.ir_module.specs.Edges.{edges}
use Rattle.ir_module.specs.Tree.{blocks_of}
use Rattle.ir_module.specs.Steps.{PhiAt, InstAt, TermAt, NoStep, step_in, step_of_point, steps_of_block}
use Rattle.ir_module.proofs.StepLemmas.{step-passes}
use Rattle.ir_values.specs.declared.ids.BlockId.{BlockId}
use Rattle.ir_values.specs.declared.int.Width.{Width}
use Rattle.ir_values.specs.declared.value.Value.{Value}
use Rattle.ir_values.specs.declared.value.Value.TheVariants as value
use Rattle.ir_values.specs.Int.{IntValue}
use Rattle.ir_values.specs.Values.{same_value, same_width}
use Rattle.kept_items.specs.declared.target.Caps.{Caps}
use Rattle.kept_items.specs.declared.target.Target.{Target}
use Rattle.kept_items.specs.declared.target.Target.TheVariants.{Base, Adaptive}
use Rattle.kept_items.specs.declared.val.Dyn.{Dyn}
use Rattle.residue.specs.declared.parts.Jump.{Jump}
use Rattle.residue.specs.declared.parts.Part.{Part}
use Rattle.residue.specs.declared.parts.Residue.{Residue}
use Rattle.residue.specs.declared.parts.Tail.{Tail}
use Rattle.residue.specs.declared.parts.Tail.TheVariants as tail
use Rattle.residue.specs.Functions.{Called, declaration, declared_of}
use Rattle.residue.specs.Instructions.{Words, block_number, operand_of, print_tail}
use Rattle.residue.specs.Printed.{argument, base_blocks, edges_of, edges_to, entries, names_of_part, print_blocks, print_part, print_parts, print_phis, printed, printed_entry, words}
use Rattle.residue.specs.Scopes.{jumps}
use Rattle.residue.specs.Valid.{Valid, agrees_with, all_agree, all_tails, fits_part, same_vals}
use Rattle.residue.specs.Scopes as scopes
use Rattle.type_check.specs.declared.code.TypeCode.TheVariants as code
use Rattle.type_check.specs.Faults.{keeps_rule, on_function}
use Rattle.type_check.specs.Rules.{entries_agree, entries_fit, entries_match, entry_blocks, same_operand, sources, times}
use Rattle.printed_residue.specs.Places.{names_before}
use Rattle.printed_residue.proofs.Blocks.{part-stands}
use Rattle.printed_residue.proofs.Edges.{same-vals}
use Rattle.printed_residue.proofs.Ends.{get-within}
use Rattle.printed_residue.proofs.Looks.{same-itself, same-numbers}
use Rattle.printed_residue.proofs.Rising.{filter-append}
use Rattle.numbered_residue.proofs.Passing.{block-passes}
use Rattle.numbered_residue.proofs.Shared.{both, every, parts-long, some-same, width-itself}

abbrev Edge : Type 0
Edge = ℕ × Jump

abbrev number_of : Edge → ℕ
number_of e = e.0

abbrev leads_to : ℕ → Edge → Bool
leads_to b e = e.1.to == b

-- ---- an entry for each edge

module _ (ws : Words) (b n : ℕ) where
  abbrev from_term : List BlockId → List ℕ
  from_term bs = map (λ (t : BlockId). n) (filter (λ (t : BlockId). t.0 == b) bs)

  abbrev from_jumps : List Jump → List ℕ
  from_jumps js = map number_of (filter (leads_to b) (map (λ (j : Jump). (n, j)) js))

  one-from : (j : Jump) (bs : List BlockId) (js : List Jump) → from_term bs ≡ from_jumps js → from_term (block_number j.to ∷ bs) ≡ from_jumps (j ∷ js)
  one-from j bs js h = by (j.to == b)
    where
      by : (t : Bool) → map (λ (t : BlockId). n) (if t then block_number j.to ∷ filter (λ (t : BlockId). t.0 == b) bs else filter (λ (t : BlockId). t.0 == b) bs)
          ≡ map number_of (if t then (n, j) ∷ filter (leads_to b) (map (λ (j : Jump). (n, j)) js) else filter (leads_to b) (map (λ (j : Jump). (n, j)) js))
      by true = ap (λ l. n ∷ l) h
      by false = h

  cases-from : (cases : List (IntValue × Jump)) → from_term (map (λ (c : IntValue × BlockId). c.1) (map (λ (c : IntValue × Jump). (c.0, block_number c.1.to)) cases)) ≡ from_jumps (map (λ (c : IntValue × Jump). c.1) cases)
  cases-from [] = refl
  cases-from (c ∷ cases) = one-from c.1 (map (λ (c : IntValue × BlockId). c.1) (map (λ (c : IntValue × Jump). (c.0, block_number c.1.to)) cases)) (map (λ (c : IntValue × Jump). c.1) cases) (cases-from cases)

  -- one more of the same number, in front or behind
  turned : (bs : List BlockId) → map (λ (t : BlockId). n) bs ++ n ∷ [] ≡ n ∷ map (λ (t : BlockId). n) bs
  turned [] = refl
  turned (x ∷ bs) = ap (λ l. n ∷ l) (turned bs)

  last-first : (j : Jump) (bs : List BlockId) → from_term (bs ++ block_number j.to ∷ []) ≡ from_term (block_number j.to ∷ bs)
  last-first j bs =
      ap (map (λ (t : BlockId). n)) (filter-append (λ (t : BlockId). t.0 == b) bs (block_number j.to ∷ []))
      ∙ map-append (λ (t : BlockId). n) (filter (λ (t : BlockId). t.0 == b) bs) (filter (λ (t : BlockId). t.0 == b) (block_number j.to ∷ []))
      ∙ by (j.to == b)
    where
      by : (t : Bool) → from_term bs ++ map (λ (t : BlockId). n) (if t then block_number j.to ∷ [] else []) ≡ map (λ (t : BlockId). n) (if t then block_number j.to ∷ filter (λ (t : BlockId). t.0 == b) bs else filter (λ (t : BlockId). t.0 == b) bs)
      by true = turned (filter (λ (t : BlockId). t.0 == b) bs)
      by false = append-nil (from_term bs)

  tail-from : (x : Tail) → from_term (edges (print_tail ws x)) ≡ from_jumps (jumps x)
  tail-from (tail.Jump j) = one-from j [] [] refl
  tail-from (tail.Branch a j i) = one-from j (block_number i.to ∷ []) (i ∷ []) (one-from i [] [] refl)
  tail-from (tail.Switch w a j cases) =
      last-first j (map (λ (c : IntValue × BlockId). c.1) (map (λ (c : IntValue × Jump). (c.0, block_number c.1.to)) cases))
      ∙ one-from j (map (λ (c : IntValue × BlockId). c.1) (map (λ (c : IntValue × Jump). (c.0, block_number c.1.to)) cases)) (map (λ (c : IntValue × Jump). c.1) cases) (cases-from cases)
  tail-from (tail.Return a) = refl

sources-are : (r : Residue) (b n free : ℕ) (parts : List Part) → sources b n (print_parts r n free parts) ≡ map number_of (filter (leads_to b) (edges_of n parts))
sources-are r b n free [] = refl
sources-are r b n free (p ∷ parts) =
    ap (λ l. l ++ sources b (suc n) (print_parts r (suc n) (free + length (names_of_part p)) parts)) (tail-from (words r) b n p.tail)
    ∙ ap (λ l. from_jumps (words r) b n (jumps p.tail) ++ l) (sources-are r b (suc n) (free + length (names_of_part p)) parts)
    ∙ sym (ap (map number_of) (filter-append (leads_to b) (map (λ (j : Jump). (n, j)) (jumps p.tail)) (edges_of (suc n) parts)) ∙ map-append number_of (filter (leads_to b) (map (λ (j : Jump). (n, j)) (jumps p.tail))) (filter (leads_to b) (edges_of (suc n) parts)))

blocks-of-entries : (ws : Words) (k : ℕ) (es : List Edge) → entry_blocks (entries ws k es) ≡ map number_of es
blocks-of-entries ws k [] = refl
blocks-of-entries ws k (e ∷ es) = ap (λ l. e.0 ∷ l) (blocks-of-entries ws k es)

match-self : (from : List ℕ) (es : List (Operand × BlockId)) → from ≡ entry_blocks es → entries_match from es ≡ true
match-self from es h = every (λ q. times q from == times q (entry_blocks es)) (from ++ entry_blocks es) (λ q. ap (λ l. times q l == times q (entry_blocks es)) h ∙ same-itself (times q (entry_blocks es)))

-- ---- entries for one block don't differ

value-itself : (v : Value) → same_value v v ≡ true
value-itself (value.Int i) = both (same_width i.width i.width) (i.bits == i.bits) (width-itself i.width) (same-itself i.bits)
value-itself (value.Double a) = (pointwise_decides unsigned_Decides a a).1 refl
value-itself (value.Id i) = same-itself i
value-itself (value.Alloc i) = same-itself i
value-itself (value.Measured i) = same-itself i
value-itself value.One = refl
value-itself value.Zero = refl
value-itself (value.Label a) = same-itself a.0
value-itself value.NoLabel = refl
value-itself (value.Func g) = same-itself g.0

operand-itself : (a : Operand) → same_operand a a ≡ true
operand-itself (operand.Const v) = value-itself v
operand-itself (operand.Local x) = same-itself x.0

module _ (ws : Words) (k : ℕ) where
  abbrev Each : Edge → List Edge → Type 0
  Each e [] = ⊤
  Each e (d ∷ es) = (d.0 ≡ e.0 → argument k d.1 ≡ argument k e.1) × Each e es

  abbrev Pairs : List Edge → Type 0
  Pairs [] = ⊤
  Pairs (e ∷ es) = Each e es × Pairs es

  each-agree : (e : Edge) (es : List Edge) → Each e es → list_all (λ (d : Operand × BlockId). not (d.1.0 == e.0) || same_operand d.0 (operand_of ws (argument k e.1))) (entries ws k es) ≡ true
  each-agree e [] h = refl
  each-agree e (d ∷ es) h =
      both (not (d.0 == e.0) || same_operand (operand_of ws (argument k d.1)) (operand_of ws (argument k e.1))) (list_all (λ (d : Operand × BlockId). not (d.1.0 == e.0) || same_operand d.0 (operand_of ws (argument k e.1))) (entries ws k es))
      (by (d.0 == e.0) refl) (each-agree e es h.1)
    where
      by : (b : Bool) → (d.0 == e.0) ≡ b → (not b || same_operand (operand_of ws (argument k d.1)) (operand_of ws (argument k e.1))) ≡ true
      by false z = refl
      by true z = ap (λ a. same_operand (operand_of ws a) (operand_of ws (argument k e.1))) (h.0 (same-numbers d.0 e.0 z)) ∙ operand-itself (operand_of ws (argument k e.1))

  pairs-agree : (es : List Edge) → Pairs es → entries_agree (entries ws k es) ≡ true
  pairs-agree [] h = refl
  pairs-agree (e ∷ es) h = both (list_all (λ (d : Operand × BlockId). not (d.1.0 == e.0) || same_operand d.0 (operand_of ws (argument k e.1))) (entries ws k es)) (entries_agree (entries ws k es)) (each-agree e es h.0) (pairs-agree es h.1)

  each-both : (e : Edge) (a b : List Edge) → Each e a → Each e b → Each e (a ++ b)
  each-both e [] b h g = g
  each-both e (d ∷ a) b h g = (h.0, each-both e a b h.1 g)

  -- none of these has the number n
  abbrev Later : ℕ → List Edge → Type 0
  Later n [] = ⊤
  Later n (e ∷ es) = (n < e.0) × Later n es

  abbrev AllAt : ℕ → List Edge → Type 0
  AllAt n [] = ⊤
  AllAt n (e ∷ es) = (e.0 ≡ n) × AllAt n es

  each-later : (n : ℕ) (e : Edge) (es : List Edge) → e.0 ≡ n → Later n es → Each e es
  each-later n e [] z h = tt
  each-later n e (d ∷ es) z h = (λ w. absurd (let a = h.0 in omega (arith, a, w, z)), each-later n e es z h.1)

  pairs-both : (n : ℕ) (a b : List Edge) → AllAt n a → Pairs a → Later n b → Pairs b → Pairs (a ++ b)
  pairs-both n [] b z h l g = g
  pairs-both n (e ∷ a) b z h l g = (each-both e a b h.0 (each-later n e b z.0 l), pairs-both n a b z.1 h.1 l g)

  module _ (to : ℕ) where
    abbrev there : List Edge → List Edge
    there es = filter (leads_to to) es

    at-there : (n : ℕ) (js : List Jump) → AllAt n (there (map (λ (j : Jump). (n, j)) js))
    at-there n [] = tt
    at-there n (x ∷ js) = by (x.to == to) (at-there n js)
      where
        by : (b : Bool) → AllAt n (there (map (λ (j : Jump). (n, j)) js)) → AllAt n (if b then (n, x) ∷ there (map (λ (j : Jump). (n, j)) js) else there (map (λ (j : Jump). (n, j)) js))
        by true h = (refl, h)
        by false h = h

    agreed : (j i : Jump) → agrees_with j i ≡ true → j.to ≡ to → i.to ≡ to → argument k i ≡ argument k j
    agreed j i h y z = ap (λ as_. argument k (record { to = i.to; args = as_ })) (sym (same-vals j.args i.args (by (j.to == i.to) (ap (λ n. j.to == n) (z ∙ sym y) ∙ same-itself j.to) h)))
      where
        by : (b : Bool) → b ≡ true → (not b || same_vals j.args i.args) ≡ true → same_vals j.args i.args ≡ true
        by true e h = h
        by false e h = cc

    each-there : (n : ℕ) (j : Jump) (js : List Jump) → j.to ≡ to → list_all (agrees_with j) js ≡ true → Each (n, j) (there (map (λ (j : Jump). (n, j)) js))
    each-there n j [] y h = tt
    each-there n j (x ∷ js) y h =
        let p = and_parts (agrees_with j x) (list_all (agrees_with j) js) h in by (x.to == to) refl p.0 (each-there n j js y p.1)
      where
        by : (b : Bool) → (x.to == to) ≡ b → agrees_with j x ≡ true → Each (n, j) (there (map (λ (j : Jump). (n, j)) js)) → Each (n, j) (if b then (n, x) ∷ there (map (λ (j : Jump). (n, j)) js) else there (map (λ (j : Jump). (n, j)) js))
        by true e a ih = (λ w. agreed j x a y (same-numbers x.to to e), ih)
        by false e a ih = ih

    pairs-there : (n : ℕ) (js : List Jump) → all_agree js ≡ true → Pairs (there (map (λ (j : Jump). (n, j)) js))
    pairs-there n [] h = tt
    pairs-there n (x ∷ js) h =
        let p = and_parts (list_all (agrees_with x) js) (all_agree js) h in by (x.to == to) refl p.0 (pairs-there n js p.1)
      where
        by : (b : Bool) → (x.to == to) ≡ b → list_all (agrees_with x) js ≡ true → Pairs (there (map (λ (j : Jump). (n, j)) js)) → Pairs (if b then (n, x) ∷ there (map (λ (j : Jump). (n, j)) js) else there (map (λ (j : Jump). (n, j)) js))
        by true e a ih = (each-there n x js (same-numbers x.to to e) a, ih)
        by false e a ih = ih

    later-both : (n : ℕ) (a b : List Edge) → Later n a → Later n b → Later n (a ++ b)
    later-both n [] b h g = g
    later-both n (e ∷ a) b h g = (h.0, later-both n a b h.1 g)

    later-filter : (n : ℕ) (es : List Edge) → Later n es → Later n (there es)
    later-filter n [] h = tt
    later-filter n (e ∷ es) h = by (e.1.to == to) (later-filter n es h.1)
      where
        by : (b : Bool) → Later n (there es) → Later n (if b then e ∷ there es else there es)
        by true ih = (h.0, ih)
        by false ih = ih

    later-jumps : (n m : ℕ) (js : List Jump) → n < m → Later n (map (λ (j : Jump). (m, j)) js)
    later-jumps n m [] lt = tt
    later-jumps n m (j ∷ js) lt = (lt, later-jumps n m js lt)

    later-edges : (n m : ℕ) (parts : List Part) → n < m → Later n (edges_of m parts)
    later-edges n m [] lt = tt
    later-edges n m (p ∷ parts) lt = later-both n (map (λ (j : Jump). (m, j)) (jumps p.tail)) (edges_of (suc m) parts) (later-jumps n m (jumps p.tail) lt) (later-edges n (suc m) parts (omega (arith, lt)))

    pairs-edges : (n : ℕ) (parts : List Part) → list_all (λ p. all_agree (jumps p.tail)) parts ≡ true → Pairs (there (edges_of n parts))
    pairs-edges n [] h = tt
    pairs-edges n (p ∷ parts) h =
        let q = and_parts (all_agree (jumps p.tail)) (list_all (λ p. all_agree (jumps p.tail)) parts) h in
        subst Pairs (sym (filter-append (leads_to to) (map (λ (j : Jump). (n, j)) (jumps p.tail)) (edges_of (suc n) parts)))
        (pairs-both n (there (map (λ (j : Jump). (n, j)) (jumps p.tail))) (there (edges_of (suc n) parts)) (at-there n (jumps p.tail)) (pairs-there n (jumps p.tail) q.0) (later-filter n (edges_of (suc n) parts) (later-edges n (suc n) parts (omega arith))) (pairs-edges (suc n) parts q.1))

-- ---- at every spot

fit-inst : (f : Function) (b : BlockId) (i : Inst) → entries_fit f b (InstAt i) ≡ true
unfolding entries_fit
fit-inst f b i = refl

fit-term : (f : Function) (b : BlockId) (x : Term) → entries_fit f b (TermAt x) ≡ true
unfolding entries_fit
fit-term f b x = refl

fit-none : (f : Function) (b : BlockId) → entries_fit f b NoStep ≡ true
unfolding entries_fit
fit-none f b = refl

fit-phi : (f : Function) (b : BlockId) (x : Phi) → entries_match (sources b.0 0 (blocks_of f)) x.entries ≡ true → entries_agree x.entries ≡ true → entries_fit f b (PhiAt x) ≡ true
unfolding entries_fit
fit-phi f b x h g = both (entries_match (sources b.0 0 (blocks_of f)) x.entries) (entries_agree x.entries) h g

module _ (r : Residue) (t : Target) (ok : Valid r t) where
  abbrev m : Module
  m = printed r t

  abbrev f : Function
  f = printed_entry r t

  abbrev ws : Words
  ws = words r

  agree : list_all (λ p. all_agree (jumps p.tail)) r.parts ≡ true
  agree = (and_parts (all_tails (λ t. list_all (λ j. fits_part (scopes.gives_of r) (slice_get r.parts j.to) j.args) (jumps t)) r) (all_tails (λ t. all_agree (jumps t)) r) ok.jumps).1

  plain-fit : (n : ℕ) (b : Block) → list_all (λ x. entries_fit f (block_number n) (PhiAt x)) b.phis ≡ true → list_all (entries_fit f (block_number n)) (steps_of_block b) ≡ true
  plain-fit n b h = block-passes (entries_fit f (block_number n)) b h (every (λ i. entries_fit f (block_number n) (InstAt i)) b.insts (λ i. fit-inst f (block_number n) i)) (fit-term f (block_number n) b.term)

  phis-fit : (n : ℕ) → blocks_of f ≡ print_parts r 0 0 r.parts → (i k : ℕ) (params : List (Dyn × Width)) → list_all (λ x. entries_fit f (block_number n) (PhiAt x)) (print_phis ws (edges_to n r.parts) i k params) ≡ true
  phis-fit n e i k [] = refl
  phis-fit n e i k (x ∷ params) =
      both (entries_fit f (block_number n) (PhiAt (record { result = record { 0 = i }; entries = entries ws k (edges_to n r.parts) }))) (list_all (λ x. entries_fit f (block_number n) (PhiAt x)) (print_phis ws (edges_to n r.parts) (suc i) (suc k) params))
      (fit-phi f (block_number n) (record { result = record { 0 = i }; entries = entries ws k (edges_to n r.parts) })
      (match-self (sources n 0 (blocks_of f)) (entries ws k (edges_to n r.parts)) (ap (sources n 0) e ∙ sources-are r n 0 0 r.parts ∙ sym (blocks-of-entries ws k (edges_to n r.parts))))
      (pairs-agree ws k (edges_to n r.parts) (pairs-edges ws k n 0 r.parts agree)))
      (phis-fit n e (suc i) (suc k) params)

  adaptive-fit : (caps : Caps) → t ≡ Adaptive caps → (n : ℕ) (b : Block) → slice_get (print_parts r 0 0 r.parts) n ≡ Some b → list_all (entries_fit f (block_number n)) (steps_of_block b) ≡ true
  adaptive-fit caps z n b s =
      let lt = slice_get_within (print_parts r 0 0 r.parts) n b s in
      let long = parts-long r 0 0 r.parts in
      let g = get-within r.parts n (omega (arith, lt, long)) in
      let e = part-stands r 0 0 r.parts n g.0 g.1 in
      let same : b ≡ print_part r (0 + n) (0 + names_before r n) g.0 = some-same (sym s ∙ e) in
      let w : 0 + n ≡ n = omega arith in
      plain-fit n b (ap (λ c. list_all (λ x. entries_fit f (block_number n) (PhiAt x)) c.phis) same
      ∙ ap (λ k. list_all (λ x. entries_fit f (block_number n) (PhiAt x)) (print_phis ws (edges_to k r.parts) (0 + names_before r n) 0 g.0.params)) w
      ∙ phis-fit n (ap (print_blocks r) z) (0 + names_before r n) 0 g.0.params)

  base-fit : (parts : List Part) (n : ℕ) (b : Block) → slice_get (base_blocks r parts) n ≡ Some b → b.phis ≡ []
  base-fit [] n b s = cc
  base-fit (p ∷ parts) zero b s = ap (λ c. c.phis) (sym (some-same s))
  base-fit (p ∷ parts) (suc zero) b s = ap (λ c. c.phis) (sym (some-same s))
  base-fit (p ∷ parts) (suc (suc zero)) b s = ap (λ c. c.phis) (sym (some-same s))
  base-fit (p ∷ parts) (suc (suc (suc zero))) b s = ap (λ c. c.phis) (sym (some-same s))
  base-fit (p ∷ parts) (suc (suc (suc (suc n)))) b s = cc

  block-fit : (n : ℕ) (b : Block) → slice_get (print_blocks r t) n ≡ Some b → list_all (entries_fit f (block_number n)) (steps_of_block b) ≡ true
  block-fit n b s = by t refl
    where
      by : (u : Target) → t ≡ u → list_all (entries_fit f (block_number n)) (steps_of_block b) ≡ true
      by Base e = plain-fit n b (ap (list_all (λ x. entries_fit f (block_number n) (PhiAt x))) (base-fit r.parts n b (ap (λ u. slice_get (print_blocks r u) n) (sym e) ∙ s)))
      by (Adaptive caps) e = adaptive-fit caps e n b (ap (λ u. slice_get (print_blocks r u) n) (sym e) ∙ s)

  point-fit : (p : Point) → on_function (slice_get m.funcs p.func.0) (λ g. entries_fit g p.block (step_of_point g p)) ≡ true
  point-fit p = by p.func.0
    where
      in-block : (o : Option Block) → slice_get (print_blocks r t) p.block.0 ≡ o → entries_fit f p.block (step_in o p.index) ≡ true
      in-block None e = fit-none f p.block
      in-block (Some b) e = step-passes (entries_fit f p.block) (fit-none f p.block) b p.index (block-fit p.block.0 b e)

      later : (n : ℕ) (cs : List Called) → on_function (slice_get (map (declaration r.irreversible) cs) n) (λ g. entries_fit g p.block (step_of_point g p)) ≡ true
      later n [] = refl
      later zero (c ∷ cs) = fit-none (declaration r.irreversible c) p.block
      later (suc n) (c ∷ cs) = later n cs

      by : (n : ℕ) → on_function (slice_get m.funcs n) (λ g. entries_fit g p.block (step_of_point g p)) ≡ true
      by zero = in-block (slice_get (print_blocks r t) p.block.0) refl
      by (suc n) = later n (declared_of r)

  pub phi-entries : (limit : ℕ) (s : Spot) → keeps_rule m limit s code.PhiEntries ≡ true
  unfolding keeps_rule
  phi-entries limit spot.Module = refl
  phi-entries limit (spot.Func g) = refl
  phi-entries limit (spot.At p) = point-fit p
