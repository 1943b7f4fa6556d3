-- No name is live where a block begins, and every name that is live is one of the residue's.
use mathlib.Core.Logic.{◌⊎◌, inl, inr}
use Rattle.std.proofs.Common.{◌≡◌, ℕ, zero, suc, ◌+◌, ◌-◌, ◌<◌, ◌≤◌, Bool, true, false, Option, None, Some, List, [], ◌∷◌, length, map, refl, sym, ap, ◌∙◌, subst, arith}
use Rattle.std.proofs.lemmas.List.Elements.{Contains-append_cases}
use Rattle.std.proofs.lemmas.Option.{slice_get_past}
use Rattle.std.specs.Prelude.{Contains, flat_map, option_to_list, slice_get}
use Rattle.graph_cycles.proofs.Lists.{cases, here, none}
use Rattle.ir_module.specs.declared.places.Point.{Point}
use Rattle.ir_module.specs.declared.tree.Block.{Block}
use Rattle.ir_module.specs.declared.tree.Function.{Function}
use Rattle.ir_module.specs.declared.tree.Inst.{Inst}
use Rattle.ir_module.specs.declared.tree.Phi.{Phi}
use Rattle.ir_module.specs.declared.tree.Term.{Term}
use Rattle.ir_module.specs.Edges.{edges}
use Rattle.ir_module.specs.Operands.{operands_of, step_defines, term_operands}
use Rattle.ir_module.specs.Steps.{InstAt, NoStep, PhiAt, Step, TermAt, step_at, step_in, step_of_point}
use Rattle.ir_module.specs.Tree.{block_at}
use Rattle.ir_values.specs.declared.ids.BlockId.{BlockId}
use Rattle.ir_values.specs.declared.ids.LocalId.{LocalId}
use Rattle.ir_values.specs.declared.int.Width.{Width}
use Rattle.kept_items.specs.declared.target.Caps.{Caps}
use Rattle.kept_items.specs.declared.target.Target.{Target}
use Rattle.kept_items.specs.declared.target.Target.TheVariants.{Adaptive}
use Rattle.kept_items.specs.declared.val.Dyn.{Dyn}
use Rattle.name_flow.specs.Uses.{phis_read, reads, step_reads}
use Rattle.name_flow.specs.Walks.{IsLive, IsWalk, ReadsFirst, first_point, successors}
use Rattle.path_search.proofs.Frontier.{get_some}
use Rattle.path_search.proofs.Order.{Numbers, equal, less, more, numbers}
use Rattle.residue.specs.declared.parts.Jump.{Jump}
use Rattle.residue.specs.declared.parts.Part.{Part}
use Rattle.residue.specs.declared.parts.Residue.{Residue}
use Rattle.residue.specs.Instructions.{Words, local}
use Rattle.residue.specs.Printed.{edges_to as jumps_to, names_of, names_of_items, printed, print_part, print_phis, printed_entry, words}
use Rattle.residue.specs.Scopes.{items_of}
use Rattle.residue.specs.Valid.{Valid}
use Rattle.runs_follow_steps.specs.Describes.{TellsLive}
use Rattle.runs_follow_steps.proofs.Live.{phi-at}
use Rattle.lowered_sizes.specs.Sizes.{instructions}
use Rattle.path_search.specs.Verdict.{Accepts}
use Rattle.profiled_residue.specs.Premises.{FitsProfile}
use Rattle.settled_lowering.specs.Laws.{IsPrinted}
use Rattle.unroller.specs.Programs.{Program, search_of}
use Rattle.settled_adaptive.specs.Laws.{LivesWithin}
use Rattle.settled_adaptive.specs.Undecided.{all_undecided}
use Rattle.settled_adaptive.proofs.AdaptiveSettles.{printed-accepts}
use Rattle.printed_residue.proofs.Naming.{params-enough, part-enough}
use Rattle.printed_residue.specs.Places.{in_entry, names_before}
use Rattle.printed_residue.proofs.Edges.{phis-length}
use Rattle.printed_residue.proofs.Steps.{past}
use Rattle.numbered_residue.proofs.Shared.{some-same}
use Rattle.profiled_residue.proofs.Located.{block-of-part, no-block}
use Rattle.settled_lowering.proofs.Offsets.{Stands, is_inst, is_term, stands}
use Rattle.live_names.proofs.Rows.{NameIn, RowFits, at-end, free_at, free_behind, row-at}
use Rattle.live_names.proofs.Within.{contains-in, insts-row, phis-in, tail-reads}

phi-result : (ws : Words) (es : List (ℕ × Jump)) (q i : ℕ) (params : List (Dyn × Width)) (k : ℕ) (x : Phi) → slice_get (print_phis ws es q i params) k ≡ Some x → x.result.0 ≡ q + k
phi-result ws es q i [] k x e = cc
phi-result ws es q i (d ∷ params) zero x e = let s : _ ≡ x = (some-same e) in ap (λ (x : Phi). x.result.0) (sym s) ∙ (let z : q ≡ q + 0 = omega arith in z)
phi-result ws es q i (d ∷ params) (suc k) x e = phi-result ws es (suc q) (suc i) params k x e ∙ (let z : suc q + k ≡ q + suc k = omega arith in z)

-- all that are read are of lists
flat-in : {A : Type 0} (P : LocalId → Type 0) (f : A → List LocalId) (xs : List A) (y : LocalId) → ((x : A) → Contains (f x) y → P y) → Contains (flat_map f xs) y → P y
flat-in P f [] y h c = absurd (none y c)
flat-in P f (x ∷ xs) y h c = at (Contains-append_cases (f x) (flat_map f xs) y c) (λ d. flat-in P f xs y h d)
  where
    at : Contains (f x) y ⊎ Contains (flat_map f xs) y → (Contains (flat_map f xs) y → P y) → P y
    at (inl d) ih = h x d
    at (inr d) ih = ih d

module _ (r : Residue) (caps : Caps) (ok : Valid r (Adaptive caps)) where
  abbrev t : Target
  t = Adaptive caps

  abbrev f : Function
  f = printed_entry r t

  abbrev ws : Words
  ws = words r

  abbrev base : ℕ → ℕ
  base n = names_before r n

  abbrev block : ℕ → Part → Block
  block n p = print_part r n (base n) p

  abbrev first : ℕ → Part → ℕ
  first n p = base n + length p.params

  abbrev free : ℕ → Part → ℕ → ℕ
  free n p j = free_at ws (base n) (first n p) (block n p).insts j

  phis-long : (n : ℕ) (p : Part) → length (block n p).phis ≡ length p.params
  phis-long n p = phis-length ws (jumps_to n r.parts) (base n) 0 p.params

  step-is : (n : ℕ) (p : Part) (i : ℕ) → slice_get r.parts n ≡ Some p → step_of_point f (in_entry n i) ≡ step_at (block n p) i
  step-is n p i e = ap (λ o. step_in o i) (block-of-part r n p e)

  -- the name is defined before index i of the block, and not before the block
  pub record Before (n : ℕ) (p : Part) (i : ℕ) (y : LocalId) : Type 0 where
    pub phi : i < length (block n p).phis → NameIn ws (base n) (base n + i) y.0
    pub inst : (j : ℕ) → i ≡ length (block n p).phis + j → NameIn ws (base n) (free n p j) y.0

  -- at the first index there is none
  nothing-before : (n : ℕ) (p : Part) (y : LocalId) → Before n p 0 y → ⊥
  nothing-before n p y h = by (numbers 0 (length (block n p).phis))
    where
      free-start : (is : List Inst) → free_at ws (base n) (first n p) is 0 ≡ first n p
      free-start [] = refl
      free-start (x ∷ is) = refl

      by : Numbers 0 (length (block n p).phis) → ⊥
      by (less lt) = let q = h.phi lt in let a = q.0 in let b = q.1 in omega (arith, a, b)
      by (equal e) = let q = h.inst 0 (omega (arith, e)) in let a = q.0 in let b = q.1 in let c = free-start (block n p).insts in let d = phis-long n p in omega (arith, a, b, c, d, e)
      by (more gt) = absurd (omega (arith, gt))

  abbrev or-else : {A : Type 0} → Option A → (A → Step) → Step → Step
  or-else None g s = s
  or-else (Some x) g s = g x

  abbrev ending : Term → ℕ → Step
  ending t zero = TermAt t
  ending t (suc n) = NoStep

  -- behind the terminator nothing stands
  no-step : (b : Block) (j : ℕ) → length b.insts < j → step_at b (length b.phis + j) ≡ NoStep
  no-step b j lt =
      let e : length b.phis + j - length b.phis ≡ j = omega arith in
      let z : length b.phis + j - (length b.phis + length b.insts) ≡ suc (j - length b.insts - 1) = omega (arith, lt) in
      ap (λ o. or-else o PhiAt (or-else (slice_get b.insts (length b.phis + j - length b.phis)) InstAt (ending b.term (length b.phis + j - (length b.phis + length b.insts))))) (past b.phis j)
      ∙ ap (λ o. or-else o InstAt (ending b.term (length b.phis + j - (length b.phis + length b.insts)))) (slice_get_past b.insts (length b.phis + j - length b.phis) (omega (arith, e, lt)))
      ∙ ap (ending b.term) z

  -- ---- what is read at a point

  phi-reads : (n : ℕ) (b : BlockId) (y : LocalId) (p : Part) → slice_get r.parts n ≡ Some p → Contains (phis_read (record { 0 = n }) (block_at f b)) y → NameIn ws (base n) (first n p + length (names_of_items (items_of p.lines))) y.0
  phi-reads n b y p e c = by (slice_get r.parts b.0) refl
    where
      by : (o : Option Part) → slice_get r.parts b.0 ≡ o → NameIn ws (base n) (first n p + length (names_of_items (items_of p.lines))) y.0
      by None z = absurd (none y (subst (λ o. Contains (phis_read (record { 0 = n }) o) y) (no-block r b.0 z) c))
      by (Some q) z = phis-in r t ok n p e b.0 (base b.0) 0 q.params y (subst (λ o. Contains (phis_read (record { 0 = n }) o) y) (block-of-part r b.0 q z) c)

  module _ (n : ℕ) (p : Part) (e : slice_get r.parts n ≡ Some p) where
    abbrev b : Block
    b = block n p

    abbrev last : ℕ
    last = first n p + length (names_of_items (items_of p.lines))

    term-reads : (y : LocalId) → Contains (step_reads f (record { 0 = n }) (TermAt b.term)) y → NameIn ws (base n) last y.0
    term-reads y c = at (Contains-append_cases (flat_map reads (term_operands b.term)) (flat_map (λ k. phis_read (record { 0 = n }) (block_at f k)) (edges b.term)) y c)
      where
        at : Contains (flat_map reads (term_operands b.term)) y ⊎ Contains (flat_map (λ k. phis_read (record { 0 = n }) (block_at f k)) (edges b.term)) y → NameIn ws (base n) last y.0
        at (inl d) = tail-reads r t ok n p e y d
        at (inr d) = flat-in (λ y. NameIn ws (base n) last y.0) (λ k. phis_read (record { 0 = n }) (block_at f k)) (edges b.term) y (λ k g. phi-reads n k y p e g) d

    row : RowFits ws (base n) (first n p) b.insts × (free_behind ws (base n) (first n p) b.insts ≡ last)
    row = insts-row r t ok n p e

    reads-here : (i j : ℕ) (y : LocalId) → i ≡ length b.phis + j → Contains (step_reads f (record { 0 = n }) (step_at b i)) y → NameIn ws (base n) (free n p j) y.0
    reads-here i j y q c = by (numbers j (length b.insts))
      where
        at : Contains (step_reads f (record { 0 = n }) (step_at b (length b.phis + j))) y
        at = subst (λ i. Contains (step_reads f (record { 0 = n }) (step_at b i)) y) q c

        stood : Stands b j → NameIn ws (base n) (free n p j) y.0
        stood (is_inst x h s) = contains-in ws (base n) (free n p j) (operands_of x.what) y (row-at ws (base n) (first n p) b.insts j x row.0 h).0.reads_in (subst (λ s. Contains (step_reads f (record { 0 = n }) s) y) s at)
        stood (is_term h s) = subst (λ k. NameIn ws (base n) k y.0) (sym (ap (free n p) h ∙ at-end ws (base n) (first n p) b.insts ∙ row.1)) (term-reads y (subst (λ s. Contains (step_reads f (record { 0 = n }) s) y) s at))

        by : Numbers j (length b.insts) → NameIn ws (base n) (free n p j) y.0
        by (less lt) = stood (stands b j (omega (arith, lt)))
        by (equal h) = stood (stands b j (omega (arith, h)))
        by (more gt) = absurd (none y (subst (λ s. Contains (step_reads f (record { 0 = n }) s) y) (no-step b j gt) at))

    -- ---- on to the next point

    single : (q x : Point) → Contains (q ∷ []) x → q ≡ x
    single q x c = at (cases q x [] c)
      where
        at : (q ≡ x) ⊎ Contains [] x → q ≡ x
        at (inl e) = e
        at (inr d) = absurd (none x d)

    not-it : (k : ℕ) (z y : LocalId) → z.0 ≡ k → ¬ Contains (z ∷ []) y → y.0 < k + 1 → y.0 < k
    not-it k z y e h lt = by (numbers y.0 k)
      where
        by : Numbers y.0 k → y.0 < k
        by (less l) = l
        by (equal q) = absurd (h (subst (λ w. Contains (z ∷ []) w) (let s : z ≡ y = ap (λ m. record { 0 = m }) (e ∙ sym q) in s) (here z [])))
        by (more g) = absurd (omega (arith, g, lt))

    over-phi : (i : ℕ) (x : Phi) (y : LocalId) → slice_get b.phis i ≡ Some x → i < length b.phis → ¬ Contains (x.result ∷ []) y → Before n p (i + 1) y → NameIn ws (base n) (base n + i) y.0
    over-phi i x y h lt new k = by (numbers (i + 1) (length b.phis))
      where
        free-start : (is : List Inst) → free_at ws (base n) (first n p) is 0 ≡ first n p
        free-start [] = refl
        free-start (z ∷ is) = refl

        done : (base n ≤ y.0) → y.0 < base n + i + 1 → NameIn ws (base n) (base n + i) y.0
        done le l = (le, not-it (base n + i) x.result y (phi-result ws (jumps_to n r.parts) (base n) 0 p.params i x h) new l)

        by : Numbers (i + 1) (length b.phis) → NameIn ws (base n) (base n + i) y.0
        by (less l) = let q = k.phi l in let c = q.1 in done q.0 (omega (arith, c))
        by (equal z) = let q = k.inst 0 (omega (arith, z)) in let c = q.1 in let d = free-start b.insts in let g = phis-long n p in done q.0 (omega (arith, c, d, g, z))
        by (more g) = absurd (omega (arith, g, lt))

    over-inst : (j : ℕ) (x : Inst) (y : LocalId) → slice_get b.insts j ≡ Some x → ¬ Contains (option_to_list x.result) y → NameIn ws (base n) (free n p (suc j)) y.0 → NameIn ws (base n) (free n p j) y.0
    over-inst j x y h new k =
        let t = row-at ws (base n) (first n p) b.insts j x row.0 h in
        by x.result (λ z. t.0.result z) new t.1
      where
        by : (o : Option LocalId) → ((z : LocalId) → o ≡ Some z → z.0 ≡ free n p j) → ¬ Contains (option_to_list o) y → free n p (suc j) ≡ free n p j + length (option_to_list o) → NameIn ws (base n) (free n p j) y.0
        by None g new s = let c = k.1 in (k.0, omega (arith, c, s))
        by (Some z) g new s = let c = k.1 in (k.0, not-it (free n p j) z y (g z refl) new (omega (arith, c, s)))

  -- ---- the walk

  live-before : (walk : List Point) (y : LocalId) (n : ℕ) (p : Part) (i : ℕ) → slice_get r.parts n ≡ Some p → IsWalk f (in_entry n i) walk → ReadsFirst f y (in_entry n i) walk → Before n p i y
  live-before [] y n p i e w rd =
      let here-reads : Contains (step_reads f (record { 0 = n }) (step_at (block n p) i)) y = subst (λ s. Contains (step_reads f (record { 0 = n }) s) y) (step-is n p i e) rd in record {
        phi = λ lt. let x = get_some (block n p).phis i lt in absurd (none y (subst (λ s. Contains (step_reads f (record { 0 = n }) s) y) (phi-at (block n p) i x.0 x.1) here-reads));
        inst = λ j q. reads-here n p e i j y q here-reads;
      }
  live-before (q ∷ qs) y n p i e w rd =
      goes (subst (λ s. Contains (successors (in_entry n i) s) q) (step-is n p i e) w.0) (subst (λ s. ¬ Contains (step_defines s) y) (step-is n p i e) rd.0) w.1 rd.1 (λ m k l g u v. live-before qs y m k l g u v)
    where
      goes : Contains (successors (in_entry n i) (step_at (block n p) i)) q → ¬ Contains (step_defines (step_at (block n p) i)) y → IsWalk f q qs → ReadsFirst f y q qs
          → ((m : ℕ) (k : Part) (l : ℕ) → slice_get r.parts m ≡ Some k → IsWalk f (in_entry m l) qs → ReadsFirst f y (in_entry m l) qs → Before m k l y) → Before n p i y
      goes c new u v ih = record { phi = at-phi; inst = at-inst }
        where
          on : (s : in_entry n (i + 1) ≡ q) → Before n p (i + 1) y
          on s = ih n p (i + 1) e (subst (λ z. IsWalk f z qs) (sym s) u) (subst (λ z. ReadsFirst f y z qs) (sym s) v)

          at-phi : i < length (block n p).phis → NameIn ws (base n) (base n + i) y.0
          at-phi lt =
              let x = get_some (block n p).phis i lt in
              let s = phi-at (block n p) i x.0 x.1 in
              over-phi n p e i x.0 y x.1 lt (subst (λ s. ¬ Contains (step_defines s) y) s new) (on (single n p e (in_entry n (i + 1)) q (subst (λ s. Contains (successors (in_entry n i) s) q) s c)))

          start-none : (m : ℕ) → in_entry m 0 ≡ q → ⊥
          start-none m s = by (slice_get r.parts m) refl qs refl
            where
              by : (o : Option Part) → slice_get r.parts m ≡ o → (ws' : List Point) → qs ≡ ws' → ⊥
              by (Some k) z ws' g = nothing-before m k y (ih m k 0 z (subst (λ z. IsWalk f z qs) (sym s) u) (subst (λ z. ReadsFirst f y z qs) (sym s) v))
              by None z [] g = none y (subst (λ s. Contains (step_reads f (record { 0 = m }) s) y) (ap (λ o. step_in o 0) (no-block r m z)) (subst (λ l. ReadsFirst f y (in_entry m 0) l) g (subst (λ z. ReadsFirst f y z qs) (sym s) v)))
              by None z (a ∷ as_) g = none a (subst (λ s. Contains (successors (in_entry m 0) s) a) (ap (λ o. step_in o 0) (no-block r m z)) (subst (λ l. IsWalk f (in_entry m 0) l) g (subst (λ z. IsWalk f z qs) (sym s) u)).0)

          first-of : (bs : List BlockId) → Contains (map (first_point (in_entry n i)) bs) q → ⊥
          first-of [] d = none q d
          first-of (k ∷ bs) d = at (cases (first_point (in_entry n i) k) q (map (first_point (in_entry n i)) bs) d) (λ g. first-of bs g)
            where
              at : (first_point (in_entry n i) k ≡ q) ⊎ Contains (map (first_point (in_entry n i)) bs) q → (Contains (map (first_point (in_entry n i)) bs) q → ⊥) → ⊥
              at (inl s) g = start-none k.0 s
              at (inr d) g = g d

          at-inst : (j : ℕ) → i ≡ length (block n p).phis + j → NameIn ws (base n) (free n p j) y.0
          at-inst j z = by (numbers j (length (block n p).insts))
            where
              stood : Stands (block n p) j → NameIn ws (base n) (free n p j) y.0
              stood (is_inst x h s) =
                  let here-is : step_at (block n p) i ≡ InstAt x = ap (step_at (block n p)) z ∙ s in
                  over-inst n p e j x y h (subst (λ s. ¬ Contains (step_defines s) y) here-is new)
                  ((on (single n p e (in_entry n (i + 1)) q (subst (λ s. Contains (successors (in_entry n i) s) q) here-is c))).inst (suc j) (omega (arith, z)))
              stood (is_term h s) =
                  let here-is : step_at (block n p) i ≡ TermAt (block n p).term = ap (step_at (block n p)) z ∙ s in
                  absurd (first-of (edges (block n p).term) (subst (λ s. Contains (successors (in_entry n i) s) q) here-is c))

              by : Numbers j (length (block n p).insts) → NameIn ws (base n) (free n p j) y.0
              by (less lt) = stood (stands (block n p) j (omega (arith, lt)))
              by (equal h) = stood (stands (block n p) j (omega (arith, h)))
              by (more gt) = absurd (none q (subst (λ s. Contains (successors (in_entry n i) s) q) (ap (step_at (block n p)) z ∙ no-step (block n p) j gt) c))

  -- ---- live names

  free-most : (base k : ℕ) (is : List Inst) (j : ℕ) → free_at ws base k is j ≤ free_behind ws base k is
  free-most base k [] j = omega arith
  free-most base k (x ∷ is) zero = let h = free-most base (k + length (option_to_list x.result)) is 0 in let z = starts (k + length (option_to_list x.result)) is in omega (arith, h, z)
    where
      starts : (k : ℕ) (is : List Inst) → free_at ws base k is 0 ≡ k
      starts k [] = refl
      starts k (x ∷ is) = refl
  free-most base k (x ∷ is) (suc j) = free-most base (k + length (option_to_list x.result)) is j

  -- a name that is live at a point of a part
  pub live-in : (n i : ℕ) (y : LocalId) → IsLive f (in_entry n i) y → (p : Part) × (slice_get r.parts n ≡ Some p) × Before n p i y
  live-in n i y l = by (slice_get r.parts n) refl l.walk l.follows l.reads
    where
      by : (o : Option Part) → slice_get r.parts n ≡ o → (walk : List Point) → IsWalk f (in_entry n i) walk → ReadsFirst f y (in_entry n i) walk → (p : Part) × (slice_get r.parts n ≡ Some p) × Before n p i y
      by (Some p) e walk u v = (p, e, live-before walk y n p i e u v)
      by None e [] u v = absurd (none y (subst (λ s. Contains (step_reads f (record { 0 = n }) s) y) (ap (λ o. step_in o i) (no-block r n e)) v))
      by None e (a ∷ walk) u v = absurd (none a (subst (λ s. Contains (successors (in_entry n i) s) a) (ap (λ o. step_in o i) (no-block r n e)) u.0))

  pub live-bounded : (n i : ℕ) (y : LocalId) → IsLive f (in_entry n i) y → y.0 < length (names_of r.parts)
  live-bounded n i y l = let t = live-in n i y l in by t.0 t.1 t.2
    where
      by : (p : Part) → slice_get r.parts n ≡ Some p → Before n p i y → y.0 < length (names_of r.parts)
      by p e h = at (numbers i (length (block n p).phis))
        where
          far : (j : ℕ) → i ≡ length (block n p).phis + j → y.0 < length (names_of r.parts)
          far j q =
              let k = (h.inst j q).1 in
              let most = free-most (base n) (first n p) (block n p).insts j in
              let row-end = (insts-row r t ok n p e).1 in
              let enough = part-enough r n p e in
              omega (arith, k, most, row-end, enough)

          at : Numbers i (length (block n p).phis) → y.0 < length (names_of r.parts)
          at (less lt) = let k = (h.phi lt).1 in let enough = params-enough r n p e in let g = phis-long n p in omega (arith, k, enough, g, lt)
          at (equal z) = far 0 (omega (arith, z))
          at (more gt) = far (i - length (block n p).phis) (omega (arith, gt))

  pub none-at-start : (y : LocalId) → IsLive f (in_entry 0 0) y → ⊥
  none-at-start y l = let t = live-in 0 0 y l in nothing-before 0 t.0 y t.2

-- the live names of a printed residue
pub lives-within : (r : Residue) (caps : Caps) (live : Point → LocalId → Bool) → Valid r (Adaptive caps) → TellsLive (printed r (Adaptive caps)) live → LivesWithin r live
lives-within r caps live ok tells = record {
  bounded = λ n i y l. live-bounded r caps ok n i y ((tells (printed_entry r (Adaptive caps)) (in_entry n i) y refl).0 l);
  starting = λ y. by y (live (in_entry 0 0) (local y)) refl;
}
  where
    by : (y : ℕ) (b : Bool) → live (in_entry 0 0) (local y) ≡ b → b ≡ false
    by y false e = refl
    by y true e = absurd (none-at-start r caps ok (local y) ((tells (printed_entry r (Adaptive caps)) (in_entry 0 0) (local y) refl).0 e))

-- a printed residue is accepted
pub accepts-printed : (r : Residue) (caps : Caps) (p : Program) → Valid r (Adaptive caps) → FitsProfile r (Adaptive caps) → all_undecided r ≡ true → IsPrinted r (Adaptive caps) p → TellsLive p.m p.live
    → Accepts (search_of p (instructions (printed r (Adaptive caps))))
accepts-printed r caps p ok fits undecided is tells =
    printed-accepts r caps p ok fits undecided is tells (lives-within r caps p.live ok (subst (λ m. TellsLive m p.live) is.module_is tells))
