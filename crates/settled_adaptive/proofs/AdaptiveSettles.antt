-- A printed Adaptive residue has one configuration a point.
use mathlib.Core.Logic.{◌⊎◌, inl, inr}
use Rattle.std.proofs.Common.{◌≡◌, ℕ, zero, suc, ◌+◌, ◌-◌, ◌<◌, ◌≤◌, Bool, true, false, Option, None, Some, List, [], ◌∷◌, ◌++◌, length, map, refl, sym, ap, ◌∙◌, subst, arith}
use Rattle.std.proofs.lemmas.Option.{slice_get-map}
use Rattle.std.proofs.lemmas.Bool.{and_parts}
use Rattle.std.specs.List.{list_all}
use Rattle.std.specs.Prelude.{◌==◌, if◌then◌else◌, option_map, slice_get, Contains}
use Rattle.graph_cycles.specs.Cycles.{Graph, LeadsTo, Reaches, list_or_none, successors as nodes_after}
use Rattle.graph_cycles.proofs.Lists.{get-contains}
use Rattle.ir_module.specs.declared.places.Point.{Point}
use Rattle.ir_module.specs.declared.tree.Block.{Block}
use Rattle.ir_module.specs.declared.tree.Inst.{Inst}
use Rattle.ir_module.specs.Operands.{operands_of}
use Rattle.ir_module.specs.Steps.{InstAt, TermAt, step_at, step_in, step_in_module}
use Rattle.ir_values.specs.declared.ids.LocalId.{LocalId}
use Rattle.kept_items.specs.declared.item.Choice.{Choice}
use Rattle.kept_items.specs.declared.item.Choice.TheVariants.{One}
use Rattle.kept_items.specs.declared.item.Code.{Code}
use Rattle.kept_items.specs.declared.item.Item.{Item}
use Rattle.kept_items.specs.declared.target.Caps.{Caps}
use Rattle.kept_items.specs.declared.target.Kind.{Kind}
use Rattle.kept_items.specs.declared.target.Target.TheVariants.{Adaptive}
use Rattle.kept_items.specs.declared.val.Val.TheVariants.{Dynamic}
use Rattle.lowered_sizes.specs.Sizes.{instructions}
use Rattle.path_search.specs.Paths.{Bad, Search, end_from, successors}
use Rattle.path_search.specs.Paths as path
use Rattle.path_search.specs.Verdict.{Accepts}
use Rattle.path_search.proofs.Frontier.{get_within}
use Rattle.path_search.proofs.Order.{Numbers, equal, less, more, numbers}
use Rattle.path_search.proofs.Walks.{end_cons, end_none, one_end}
use Rattle.residue.specs.declared.parts.Jump.{Jump}
use Rattle.residue.specs.declared.parts.Part.{Part}
use Rattle.residue.specs.declared.parts.Residue.{Residue}
use Rattle.residue.specs.Instructions.{Words, instructions as printed_item, local, names_of_item, print_items}
use Rattle.residue.specs.Printed.{edges_to as jumps_to, initialize_call, names_of, print_blocks, printed, words}
use Rattle.residue.specs.Scopes.{items_of, jumps}
use Rattle.residue.specs.Valid.{Valid, all_tails, begins, leads_on}
use Rattle.static_steps.specs.declared.config.Config.{Config}
use Rattle.static_steps.specs.declared.phase.Phase.TheVariants as phase
use Rattle.static_steps.specs.declared.turn.Move.{Move}
use Rattle.static_steps.specs.declared.turn.Turn.{Turn}
use Rattle.static_steps.specs.declared.turn.Turn.TheVariants.{Exits, Goes}
use Rattle.static_steps.specs.Settings.{Setting, bound, move_to}
use Rattle.static_steps.specs.Steps.{start_of, static_step, step_turn}
use Rattle.unroller.specs.Programs.{Program, search_of, turn_of}
use Rattle.runs_follow_steps.specs.Describes.{TellsLive}
use Rattle.printed_residue.specs.Places.{in_entry, names_before}
use Rattle.printed_residue.proofs.Declared.{Among, among-piece}
use Rattle.printed_residue.proofs.Edges.{phis-length}
use Rattle.printed_residue.proofs.Looks.{same-numbers}
use Rattle.numbered_residue.proofs.Shared.{some-same}
use Rattle.profiled_residue.specs.Premises.{FitsProfile, jump_graph}
use Rattle.profiled_residue.proofs.Located.{block-of-part}
use Rattle.settled_lowering.proofs.Offsets.{Stands, entry-instructions, is_inst, is_term, number-is, number_of, offset, offset-next, offset-within, stands}
use Rattle.settled_lowering.proofs.Searches.{Settles, settled-accepts}
use Rattle.settled_adaptive.specs.Laws.{LivesWithin}
use Rattle.settled_adaptive.specs.Undecided.{all_undecided}
use Rattle.settled_lowering.specs.Laws.{IsPrinted}
use Rattle.settled_adaptive.proofs.AdaptiveMoves.{AreArrived, IsArrived, block, flow, fresh, here, inst-leads, items-undecided, operands-have, standing, w}
use Rattle.settled_adaptive.proofs.AdaptiveTails.{Ends, ends-so, leads_on as tail_leads, returns}
use Rattle.settled_adaptive.proofs.AdaptiveTurns.{AllHave, Passes, initial-turns, item-turns}
use Rattle.settled_adaptive.proofs.Names.{none-kept}

among-print : (ws : Words) (n : ℕ) (xs : List Item) (i : Inst) → Among (print_items ws n xs) i → (x : Item) × Among xs x × (k : ℕ) × Among (printed_item ws k x) i
among-print ws n [] i a = let z = a.1 in cc
among-print ws n (x ∷ xs) i a = by (either (printed_item ws n x) a) (λ b. among-print ws (n + length (names_of_item x)) xs i b)
  where
    either : (ys : List Inst) → Among (ys ++ print_items ws (n + length (names_of_item x)) xs) i → Among ys i ⊎ Among (print_items ws (n + length (names_of_item x)) xs) i
    either [] a = inr a
    either (y ∷ ys) (zero, e) = inl (zero, e)
    either (y ∷ ys) (suc k, e) = up (either ys (k, e))
      where
        up : Among ys i ⊎ Among (print_items ws (n + length (names_of_item x)) xs) i → Among (y ∷ ys) i ⊎ Among (print_items ws (n + length (names_of_item x)) xs) i
        up (inl b) = inl (suc b.0, b.1)
        up (inr b) = inr b

    by : Among (printed_item ws n x) i ⊎ Among (print_items ws (n + length (names_of_item x)) xs) i → (Among (print_items ws (n + length (names_of_item x)) xs) i → (x : Item) × Among xs x × (k : ℕ) × Among (printed_item ws k x) i)
        → (y : Item) × Among (x ∷ xs) y × (k : ℕ) × Among (printed_item ws k y) i
    by (inl b) ih = (x, (0, refl), n, b)
    by (inr b) ih = let r = ih b in (r.0, (suc r.1.0, r.1.1), r.2, r.3)

-- ---- the numbers of points tell them

offset-rises : (bs : List Block) (n k : ℕ) → offset bs n ≤ offset bs (n + k)
offset-rises [] zero k = omega arith
offset-rises [] (suc n) k = omega arith
offset-rises (b ∷ bs) zero k = omega arith
offset-rises (b ∷ bs) (suc n) k =
    let h = offset-rises bs n k in
    let z = ap (λ q. offset (b ∷ bs) q) (let y : suc n + k ≡ suc (n + k) = omega arith in y) in
    omega (arith, h, z)

pub record IsPlace (bs : List Block) (n i : ℕ) : Type 0 where
  pub within : Block
  pub is : slice_get bs n ≡ Some within
  pub few : i ≤ length within.insts

later-block : (bs : List Block) (n i k l : ℕ) → IsPlace bs n i → n < k → offset bs n + i ≡ offset bs k + l → ⊥
later-block bs n i k l a lt e =
    let next = offset-next bs n a.within a.is in
    let few = a.few in
    let up = offset-rises bs (suc n) (k - suc n) in
    let z = ap (offset bs) (let y : suc n + (k - suc n) ≡ k = omega (arith, lt) in y) in
    omega (arith, e, next, few, up, z)

pub same-place : (bs : List Block) (n i k l : ℕ) → IsPlace bs n i → IsPlace bs k l → offset bs n + i ≡ offset bs k + l → (n ≡ k) × (i ≡ l)
same-place bs n i k l a b e = by (numbers n k)
  where
    by : Numbers n k → (n ≡ k) × (i ≡ l)
    by (less lt) = absurd (later-block bs n i k l a lt e)
    by (equal q) = (q, let z = ap (offset bs) q in omega (arith, e, z))
    by (more gt) = absurd (later-block bs k l n i b gt (sym e))

-- ---- walks of a graph

edge-first : (g : Graph) (u v : ℕ) → Contains (nodes_after g u) v → (w : ℕ) → Reaches g v w → LeadsTo g u w
edge-first g u v e w h = record { first = v; edge = e; rest = h }

reaches-by : (g : Graph) (u w : ℕ) → LeadsTo g u w → Reaches g u w
reaches-by g u w h = record { walk = h.first ∷ h.rest.walk; is = (h.edge, h.rest.is) }

reaches-itself : (g : Graph) (u v : ℕ) → u ≡ v → Reaches g u v
reaches-itself g u v e = record { walk = []; is = e }

module _ (r : Residue) (caps : Caps) (ok : Valid r (Adaptive caps)) (profile : FitsProfile r (Adaptive caps)) (undecided : all_undecided r ≡ true) (live : Point → LocalId → Bool) (qubits results : ℕ)
    (tells : TellsLive (printed r (Adaptive caps)) live) (bounded : (n i : ℕ) (y : LocalId) → live (in_entry n i) y ≡ true → y.0 < length (names_of r.parts)) (starting : (y : ℕ) → live (in_entry 0 0) (local y) ≡ false) where
  abbrev pub program : Program
  program = record { m = printed r (Adaptive caps); target = Adaptive caps; live = live; entry = record { 0 = 0 }; qubits = qubits; results = results }

  abbrev search : Search Config Kind
  search = search_of program (instructions (printed r (Adaptive caps)))

  abbrev blocks : List Block
  blocks = print_blocks r (Adaptive caps)

  abbrev number : Config → ℕ
  number g = number_of blocks g.top.at

  abbrev stands_at : ℕ → ℕ → Config
  stands_at n j = standing r caps ok undecided live tells bounded n j

  abbrev block_of : ℕ → Part → Block
  block_of n p = block r caps ok undecided live tells bounded n p

  record Fits (g : Config) : Type 0 where
    part_number : ℕ
    part : Part
    is : slice_get r.parts part_number ≡ Some part
    index : ℕ
    few : index ≤ length (block_of part_number part).insts
    same : g ≡ stands_at part_number (length (block_of part_number part).phis + index)

  block-is : (n : ℕ) (p : Part) → slice_get r.parts n ≡ Some p → slice_get blocks n ≡ Some (block_of n p)
  block-is n p e = block-of-part r n p e

  at-number : (g : Config) (f : Fits g) → number g ≡ offset blocks f.part_number + f.index
  at-number g f = ap (λ g. number g) f.same ∙ number-is blocks f.part_number (block_of f.part_number f.part) f.index (block-is f.part_number f.part f.is)

  part-is : (g : Config) (f : Fits g) → g.top.at.block.0 ≡ f.part_number
  part-is g f = ap (λ (g : Config). g.top.at.block.0) f.same

  abbrev part_of : Config → ℕ
  part_of g = g.top.at.block.0

  -- one step leads on within the part, or by a jump
  record Follows (g h : Config) : Type 0 where
    fits : Fits h
    way : ((part_of g ≡ part_of h) × (number h ≡ suc (number g))) ⊎ Contains (nodes_after (jump_graph r) (part_of g)) (part_of h)

  abbrev AllFollow : Config → List Move → Type 0
  AllFollow g mvs = (k : ℕ) (mv : Move) → slice_get mvs k ≡ Some mv → Follows g mv.to

  data GoesOn (g : Config) (turn : Turn) : Type 0 where
    leads : (mvs : List Move) (o : Option Item) (c : Choice) → turn ≡ Goes mvs o c → AllFollow g mvs → GoesOn g turn
    exits : (c : Code) → turn ≡ Exits c → GoesOn g turn

  module _ (g : Config) (f : Fits g) where
    abbrev n : ℕ
    n = f.part_number

    abbrev p : Part
    p = f.part

    abbrev b : Block
    b = block_of n p

    abbrev j : ℕ
    j = length b.phis + f.index

    abbrev setting : Setting
    setting = here r caps ok undecided live tells bounded n j

    step-is-here : step_in_module (printed r (Adaptive caps)) (in_entry n j) ≡ step_at b j
    step-is-here = ap (λ o. step_in o j) (block-is n p f.is)

    turned : (s : _) → step_at b j ≡ s → static_step (printed r (Adaptive caps)) (Adaptive caps) live g ≡ step_turn setting s
    unfolding static_step
    turned s e = ap (static_step (printed r (Adaptive caps)) (Adaptive caps) live) f.same ∙ ap (step_turn setting) (step-is-here ∙ e)

    stood : (i : Inst) → slice_get b.insts f.index ≡ Some i → AllHave r caps ok (items-undecided r caps ok undecided live tells bounded) live (w r caps ok undecided live tells bounded n j) (fresh r caps ok undecided live tells bounded n j) (operands_of i.what)
        → Passes r caps ok (items-undecided r caps ok undecided live tells bounded) live (w r caps ok undecided live tells bounded n j) (fresh r caps ok undecided live tells bounded n j) i.result (step_turn setting (InstAt i))
    stood i e h = by (n == 0) (f.index, e)
      where
        items-stand : Among (print_items (words r) (names_before r n + length p.params) (items_of p.lines)) i → Passes r caps ok (items-undecided r caps ok undecided live tells bounded) live (w r caps ok undecided live tells bounded n j) (fresh r caps ok undecided live tells bounded n j) i.result (step_turn setting (InstAt i))
        items-stand a =
            let x = among-print (words r) (names_before r n + length p.params) (items_of p.lines) i a in
            item-turns r caps ok (items-undecided r caps ok undecided live tells bounded) live (w r caps ok undecided live tells bounded n j) (fresh r caps ok undecided live tells bounded n j) x.0 (among-piece (λ p. items_of p.lines) r.parts n p x.0 f.is x.1) x.2 i x.3 h

        by : (z : Bool) → Among ((if z then (initialize_call ∷ []) else []) ++ print_items (words r) (names_before r n + length p.params) (items_of p.lines)) i → Passes r caps ok (items-undecided r caps ok undecided live tells bounded) live (w r caps ok undecided live tells bounded n j) (fresh r caps ok undecided live tells bounded n j) i.result (step_turn setting (InstAt i))
        by true (zero, e) = subst (λ i. Passes r caps ok (items-undecided r caps ok undecided live tells bounded) live (w r caps ok undecided live tells bounded n j) (fresh r caps ok undecided live tells bounded n j) i.result (step_turn setting (InstAt i))) (some-same e) (initial-turns r caps ok (items-undecided r caps ok undecided live tells bounded) live (w r caps ok undecided live tells bounded n j) (fresh r caps ok undecided live tells bounded n j) (tt, (tt, tt)))
        by true (suc k, e) = items-stand (k, e)
        by false a = items-stand a

    at-inst : (i : Inst) → slice_get b.insts f.index ≡ Some i → step_at b j ≡ InstAt i → GoesOn g (static_step (printed r (Adaptive caps)) (Adaptive caps) live g)
    at-inst i h e =
        let in-module : step_in_module (printed r (Adaptive caps)) (in_entry n j) ≡ InstAt i = step-is-here ∙ e in
        let t = stood i h (operands-have r caps ok undecided live tells bounded n j (operands_of i.what) ((flow r caps ok undecided live tells bounded).inst_reads (in_entry n j) i in-module)) in
        let lt = get_within b.insts f.index i h in
        let to : Config = (move_to live (bound setting i.result (Dynamic t.given))).to in
        let same : to ≡ stands_at n (length b.phis + suc f.index) = inst-leads r caps ok undecided live tells bounded n j i t.given in-module ∙ ap (stands_at n) (let z : j + 1 ≡ length b.phis + suc f.index = omega arith in z) in
        let fits-next : Fits to = record { part_number = n; part = p; is = f.is; index = suc f.index; few = omega (arith, lt); same = same } in
        let a = at-number g f in
        let c = at-number to fits-next in
        leads (move_to live (bound setting i.result (Dynamic t.given)) ∷ []) t.left One (turned (InstAt i) e ∙ t.is)
        (λ k mv q. single (move_to live (bound setting i.result (Dynamic t.given))) k mv q (record { fits = fits-next; way = inl (part-is g f ∙ sym (part-is to fits-next), omega (arith, a, c)) }))
      where
        single : (x : Move) (k : ℕ) (mv : Move) → slice_get (x ∷ []) k ≡ Some mv → Follows g x.to → Follows g mv.to
        single x zero mv q h = subst (λ (y : Move). Follows g y.to) (some-same q) h
        single x (suc k) mv q h = cc

    at-end : f.index ≡ length b.insts → step_at b j ≡ TermAt b.term → GoesOn g (static_step (printed r (Adaptive caps)) (Adaptive caps) live g)
    at-end e s = by (ends-so r caps ok undecided live tells bounded n j p f.is (step-is-here ∙ s))
      where
        jumped : (mv : Move) → IsArrived r caps ok undecided live tells bounded n j p f.is (step-is-here ∙ s) mv → Follows g mv.to
        jumped mv a = record {
          fits = record { part_number = a.jump.to; part = a.part; is = a.there; index = 0; few = omega arith; same = a.at };
          way = inr (subst (λ u. Contains (nodes_after (jump_graph r) u) (part_of mv.to)) (sym (part-is g f))
              (subst (λ v. Contains (nodes_after (jump_graph r) n) v) (sym (ap (λ (g : Config). g.top.at.block.0) a.at))
              (subst (λ l. Contains l a.jump.to) (sym (ap list_or_none (slice_get-map (λ (p : Part). map (λ j. j.to) (jumps p.tail)) r.parts n ∙ ap (option_map (λ (p : Part). map (λ j. j.to) (jumps p.tail))) f.is)))
              (get-contains (map (λ j. j.to) (jumps p.tail)) a.number a.jump.to (slice_get-map (λ (j : Jump). j.to) (jumps p.tail) a.number ∙ ap (option_map (λ (j : Jump). j.to)) a.is)))));
        }

        all-jumped : (mvs : List Move) → AreArrived r caps ok undecided live tells bounded n j p f.is (step-is-here ∙ s) mvs → AllFollow g mvs
        all-jumped [] h k mv q = cc
        all-jumped (x ∷ mvs) h zero mv q = subst (λ (y : Move). Follows g y.to) (some-same q) (jumped x h.0)
        all-jumped (x ∷ mvs) h (suc k) mv q = all-jumped mvs h.1 k mv q

        by : Ends r caps ok undecided live tells bounded n j p f.is (step-is-here ∙ s) (step_turn setting (TermAt b.term)) → GoesOn g (static_step (printed r (Adaptive caps)) (Adaptive caps) live g)
        by (tail_leads mvs c z h) = leads mvs None c (turned (TermAt b.term) s ∙ z) (all-jumped mvs h)
        by (returns c z) = exits c (turned (TermAt b.term) s ∙ z)

    goes-on : GoesOn g (static_step (printed r (Adaptive caps)) (Adaptive caps) live g)
    goes-on = by (stands b f.index f.few)
      where
        by : Stands b f.index → GoesOn g (static_step (printed r (Adaptive caps)) (Adaptive caps) live g)
        by (is_inst i h e) = at-inst i h e
        by (is_term e s) = at-end e s

  -- ---- successors

  follows : (g h : Config) (i : ℕ) → Fits g → slice_get (successors search g) i ≡ Some h → Follows g h
  follows g h i f e = by (goes-on g f)
    where
      among : (mvs : List Move) (i : ℕ) → slice_get (map (λ mv. mv.to) mvs) i ≡ Some h → AllFollow g mvs → Follows g h
      among [] i q a = cc
      among (x ∷ mvs) zero q a = subst (Follows g) (some-same q) (a 0 x refl)
      among (x ∷ mvs) (suc i) q a = among mvs i q (λ k mv z. a (suc k) mv z)

      by : GoesOn g (static_step (printed r (Adaptive caps)) (Adaptive caps) live g) → Follows g h
      by (leads mvs o c z a) = among mvs i (ap (λ t. slice_get (path.onward (turn_of t)) i) (sym z) ∙ e) a
      by (exits c z) = none (ap (λ t. slice_get (path.onward (turn_of t)) i) (sym z) ∙ e)
        where
          none : slice_get [] i ≡ Some h → Follows g h
          none q = cc

  never-bad : (g : Config) (k : Kind) → Fits g → turn_of (static_step (printed r (Adaptive caps)) (Adaptive caps) live g) ≡ Bad k → ⊥
  never-bad g k f h = by (goes-on g f)
    where
      by : GoesOn g (static_step (printed r (Adaptive caps)) (Adaptive caps) live g) → ⊥
      by (leads mvs o c z a) = clash (sym (ap turn_of z) ∙ h)
        where
          clash : turn_of (Goes mvs o c) ≡ Bad k → ⊥
          clash e = cc
      by (exits c z) = clash (sym (ap turn_of z) ∙ h)
        where
          clash : turn_of (Exits c) ≡ Bad k → ⊥
          clash e = cc

  -- ---- no walk leads back

  abbrev Way : Config → Config → Type 0
  Way h g = ((part_of h ≡ part_of g) × (number h ≤ number g)) ⊎ LeadsTo (jump_graph r) (part_of h) (part_of g)

  walk-way : (q : List ℕ) (h g : Config) → Fits h → end_from search h q ≡ Some g → Way h g × Fits g
  walk-way [] h g f e = let s = one_end search h h g [] (end_none search h) e in (inl (ap (λ (g : Config). g.top.at.block.0) s, subst (λ x. number h ≤ number x) s (omega arith)), subst Fits s f)
  walk-way (i ∷ q) h g f e =
      let b = end_cons search h g i q e in
      let s = follows h b.by i f b.is in
      let t = walk-way q b.by g s.fits b.gives in
      (by b.by s.way t.0, t.1)
    where
      by : (b : Config) → ((part_of h ≡ part_of b) × (number b ≡ suc (number h))) ⊎ Contains (nodes_after (jump_graph r) (part_of h)) (part_of b) → Way b g → Way h g
      by b (inl s) (inl u) = inl (s.0 ∙ u.0, let x = s.1 in let y = u.1 in omega (arith, x, y))
      by b (inl s) (inr u) = inr (subst (λ k. LeadsTo (jump_graph r) k (part_of g)) (sym s.0) u)
      by b (inr s) (inl u) = inr (edge-first (jump_graph r) (part_of h) (part_of b) s (part_of g) (reaches-itself (jump_graph r) (part_of b) (part_of g) u.0))
      by b (inr s) (inr u) = inr (edge-first (jump_graph r) (part_of h) (part_of b) s (part_of g) (reaches-by (jump_graph r) (part_of b) (part_of g) u))

  never-back : caps.loops ≡ false → (g h : Config) (i : ℕ) (q : List ℕ) → Fits h → end_from search h q ≡ Some g → slice_get (successors search g) i ≡ Some h → ⊥
  never-back off g h i q f e l =
      let t = walk-way q h g f e in
      by (follows g h i t.1 l).way t.0
    where
      by : ((part_of g ≡ part_of h) × (number h ≡ suc (number g))) ⊎ Contains (nodes_after (jump_graph r) (part_of g)) (part_of h) → Way h g → ⊥
      by (inl s) (inl u) = let x = s.1 in let y = u.1 in too-high (number g) (omega (arith, x, y))
        where
          too-high : (n : ℕ) → suc n ≤ n → ⊥
          too-high n h = omega (arith, h)
      by (inl s) (inr u) = profile.onward off (part_of h) (subst (λ k. LeadsTo (jump_graph r) (part_of h) k) s.0 u)
      by (inr s) (inl u) = profile.onward off (part_of g) (edge-first (jump_graph r) (part_of g) (part_of h) s (part_of g) (reaches-itself (jump_graph r) (part_of h) (part_of g) u.0))
      by (inr s) (inr u) = profile.onward off (part_of g) (edge-first (jump_graph r) (part_of g) (part_of h) s (part_of g) (reaches-by (jump_graph r) (part_of h) (part_of g) u))

  -- ---- the whole

  only-one : (g h : Config) → Fits g → Fits h → number g ≡ number h → g ≡ h
  only-one g h f k e =
      let a = at-number g f in
      let b = at-number h k in
      let s = same-place blocks f.part_number f.index k.part_number k.index (record { within = block_of f.part_number f.part; is = block-is f.part_number f.part f.is; few = f.few }) (record { within = block_of k.part_number k.part; is = block-is k.part_number k.part k.is; few = k.few }) (omega (arith, a, b, e)) in
      let same-part : f.part ≡ k.part = some-same (sym f.is ∙ ap (slice_get r.parts) s.0 ∙ k.is) in
      f.same
      ∙ ap (λ n. stands_at n (length (block_of n f.part).phis + f.index)) s.0
      ∙ ap (λ p. stands_at k.part_number (length (block_of k.part_number p).phis + f.index)) same-part
      ∙ ap (λ i. stands_at k.part_number (length (block_of k.part_number k.part).phis + i)) s.1
      ∙ sym k.same

  first-part : (parts : List Part) → begins parts ≡ true → (p : Part) × (slice_get parts 0 ≡ Some p) × (length p.params ≡ 0)
  first-part [] h = cc
  first-part (p ∷ parts) h = (p, refl, same-numbers (length p.params) 0 h)

  start-fits : Fits (start_of (record { 0 = 0 }))
  start-fits =
      let p = first-part r.parts (and_parts (begins r.parts) (all_tails (λ t. list_all (leads_on (length r.parts)) (jumps t)) r) ok.start).0 in
      let none : length (block_of 0 p.0).phis ≡ 0 = phis-length (words r) (jumps_to 0 r.parts) (names_before r 0) 0 p.0.params ∙ p.2 in record {
        part_number = 0;
        part = p.0;
        is = p.1;
        index = 0;
        few = omega arith;
        same =
            ap (λ ns. record { top = record { at = in_entry 0 0; names = ns }; below = []; allocated = 0; held = []; returned = 0; phase = phase.Begin }) (sym (none-kept (live (in_entry 0 0)) 0 (length (names_of r.parts)) starting))
            ∙ ap (stands_at 0) (let z : 0 ≡ length (block_of 0 p.0).phis + 0 = omega (arith, none) in z);
      }

  settles : Settles search Fits number
  settles = record {
    start = start-fits;
    permitted = λ g k f e. never-bad g k f e;
    leads = λ g h i f e. (follows g h i f e).fits;
    within = λ g f.
        let a = at-number g f in
        let c = offset-within blocks f.part_number (block_of f.part_number f.part) (block-is f.part_number f.part f.is) in
        let d = entry-instructions r (Adaptive caps) in
        let e = f.few in
        omega (arith, a, c, d, e);
    one = only-one;
    onward = λ c g h i q f e l. never-back c g h i q f e l;
  }

  pub adaptive-accepts : Accepts search
  adaptive-accepts = settled-accepts search Fits number settles

-- of any program that is the printed module
pub printed-accepts : (r : Residue) (caps : Caps) (p : Program) → Valid r (Adaptive caps) → FitsProfile r (Adaptive caps) → all_undecided r ≡ true → IsPrinted r (Adaptive caps) p → TellsLive p.m p.live → LivesWithin r p.live
    → Accepts (search_of p (instructions (printed r (Adaptive caps))))
printed-accepts r caps p ok fits undecided is tells within =
    subst (λ p. Accepts (search_of p (instructions (printed r (Adaptive caps))))) (sym same) (adaptive-accepts r caps ok fits undecided p.live p.qubits p.results told within.bounded within.starting)
  where
    told : TellsLive (printed r (Adaptive caps)) p.live
    told = subst (λ m. TellsLive m p.live) is.module_is tells

    same : p ≡ record { m = printed r (Adaptive caps); target = Adaptive caps; live = p.live; entry = record { 0 = 0 }; qubits = p.qubits; results = p.results }
    same =
        ap (λ m. record p { m = m }) is.module_is
        ∙ ap (λ t. record p { m = printed r (Adaptive caps); target = t }) is.target
        ∙ ap (λ e. record p { m = printed r (Adaptive caps); target = Adaptive caps; entry = e }) is.entry
