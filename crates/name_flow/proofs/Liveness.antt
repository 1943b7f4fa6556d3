-- The tables of a flow tell the names that are live by walks.
use Rattle.std.proofs.Common.{◌≡◌, zero, suc, ◌⊎◌, ◌↔◌, Result, Ok, Err, IfOk, ℕ, ◌+◌, ◌-◌, ◌<◌, ◌≤◌, Bool, true, false, ltb, leb, List, [], ◌∷◌, ◌++◌, map, if◌then◌else◌, Option, Some, None, refl, sym, ap, ◌∙◌, arith, inl, inr, subst, Contains, slice_get, true≢false}
use Rattle.std.proofs.lemmas.Bool.Decides.{nat_tests}
use Rattle.std.proofs.lemmas.List.Sorted.{Contains-permutation, IsPermutation-sym}
use Rattle.ir_values.specs.declared.ids.BlockId.{BlockId}
use Rattle.ir_values.specs.declared.ids.FuncId.{FuncId}
use Rattle.ir_module.specs.declared.places.Point.{Point}
use Rattle.ir_module.specs.declared.tree.Block.{Block}
use Rattle.ir_module.specs.declared.tree.Function.{Function}
use Rattle.ir_module.specs.Edges.{edges}
use Rattle.ir_module.specs.Steps.{Step, TermAt, NoStep, step_at, step_of_point}
use Rattle.name_flow.specs.declared.flow.Flow.{Flow}
use Rattle.name_flow.specs.code.Built.{IsBuiltFrom}
use Rattle.name_flow.specs.code.Marks.{gather, block_used, block_defined, block_edges, block_phis_used, end_index}
use Rattle.name_flow.specs.code.Runs.{in_run, AreRuns}
use Rattle.name_flow.specs.code.Spread.{IsWanted, used_here, used_later, IsWantedAfter}
use Rattle.name_flow.specs.Tables.{or_else, end_use, live, IsFlowOf}
use Rattle.name_flow.specs.code.Triples.{Triple, next, is_first, Sorts}
use Rattle.ir_module.specs.Operands.{step_defines}
use Rattle.name_flow.specs.Uses.{step_reads}
use Rattle.name_flow.specs.Walks.{successors, first_point, IsWalk, ReadsFirst, IsLive}
use Rattle.name_flow.proofs.Marked.{name, block_id, At, at_phi, at_inst, at_term, at_none, at, get-below, StepHas, defined-from, defined-has, edge-from, edge-holds, used-from, used-has, some-block, step-term-at}
use Rattle.name_flow.proofs.Members.{none, here, cases, Contains-map, FromMap, map-cases}
use Rattle.name_flow.proofs.Order.{IsNext, NextIs, next-is}

-- the first use from i on, with no definition between
pub record Reaches (uses : ℕ → Type 0) (defined : List Triple) (b x i : ℕ) : Type 0 where
  pub index : ℕ
  pub from : i ≤ index
  pub use_there : uses index
  pub clear : (k : ℕ) → i ≤ k → k < index → Contains defined (b, x, k) → ⊥

module _ (uses : ℕ → Type 0) (defined : List Triple) (b x i : ℕ) where
  first-reaches : (n m : Option ℕ) → IsNext uses i n → NextIs defined b x i m → is_first n m ≡ true → Reaches uses defined b x i
  first-reaches None m u d e = absurd (true≢false (sym e))
  first-reaches (Some j) None u d e = record { index = j; from = u.0; use_there = u.1; clear = λ k l h c. d k l c }
  first-reaches (Some j) (Some k) u d e = let le : j ≤ k = grind (arith, nat_tests) in record { index = j; from = u.0; use_there = u.1; clear = λ z l h c. d.2 z l (omega arith) c }

  reaches-first : (n m : Option ℕ) → IsNext uses i n → NextIs defined b x i m → Reaches uses defined b x i → is_first n m ≡ true
  reaches-first None m u d r = absurd (u r.index r.from r.use_there)
  reaches-first (Some j) None u d r = refl
  reaches-first (Some j) (Some k) u d r = near (leb j k) refl
    where
      near : (q : Bool) → leb j k ≡ q → is_first (Some j) (Some k) ≡ true
      near true e = e
      near false e = after (ltb r.index j) refl
        where
          after : (q : Bool) → ltb r.index j ≡ q → is_first (Some j) (Some k) ≡ true
          after true g = absurd (u.2 r.index r.from (grind (arith, nat_tests)) r.use_there)
          after false g = absurd (r.clear k d.0 (grind (arith, nat_tests)) d.1)

-- an element of a mapped list
get-map : {A B : Type 0} (f : A → B) (xs : List A) (k : ℕ) (x : A) → slice_get xs k ≡ Some x → slice_get (map f xs) k ≡ Some (f x)
get-map f [] k x e = cc
get-map f (y ∷ ys) zero x e = let same : y ≡ x = cc in ap (λ z. Some (f z)) same
get-map f (y ∷ ys) (suc k) x e = get-map f ys k x e

get-from-map : {A B : Type 0} (f : A → B) (xs : List A) (k : ℕ) (z : B) → slice_get (map f xs) k ≡ Some z → (x : A) × (slice_get xs k ≡ Some x) × (f x ≡ z)
get-from-map f [] k z e = cc
get-from-map f (y ∷ ys) zero z e = (y, refl, cc)
get-from-map f (y ∷ ys) (suc k) z e = get-from-map f ys k z e

module _ (defined : List Triple) (b x : ℕ) where
  clear-from : (i : ℕ) (m : Option ℕ) → NextIs defined b x 0 m → is_first (Some i) m ≡ true → (k : ℕ) → k < i → Contains defined (b, x, k) → ⊥
  clear-from i None d e k l c = d k (omega arith) c
  clear-from i (Some j) d e k l c = let le : i ≤ j = grind (arith, nat_tests) in d.2 k (omega arith) (omega arith) c

  clear-to : (i : ℕ) (m : Option ℕ) → NextIs defined b x 0 m → ((k : ℕ) → k < i → Contains defined (b, x, k) → ⊥) → is_first (Some i) m ≡ true
  clear-to i None d c = refl
  clear-to i (Some j) d c = near (leb i j) refl
    where
      near : (q : Bool) → leb i j ≡ q → is_first (Some i) (Some j) ≡ true
      near true e = e
      near false e = absurd (c j (grind (arith, nat_tests)) d.1)

  none-from : (m : Option ℕ) → NextIs defined b x 0 m → m ≡ None → (k : ℕ) → Contains defined (b, x, k) → ⊥
  none-from None d e k c = d k (omega arith) c
  none-from (Some j) d e k c = cc

  none-to : (m : Option ℕ) → NextIs defined b x 0 m → ((k : ℕ) → Contains defined (b, x, k) → ⊥) → m ≡ None
  none-to None d c = refl
  none-to (Some j) d c = absurd (c j d.1)

module _ (f : Function) (blocks : List Block) (body : f.blocks ≡ Some blocks) (es used defined : List Triple)
    (es_sorted : Sorts (gather block_edges 0 blocks) es)
    (defined_sorted : Sorts (gather block_defined 0 blocks) defined)
    (used_sorted : Sorts (gather block_used 0 blocks ++ gather (block_phis_used blocks es) 0 blocks) used) where
  defined-step : (b x i : ℕ) → Contains defined (b, x, i) → StepHas blocks step_defines b x i
  defined-step b x i m = defined-from blocks b x i (Contains-permutation defined (gather block_defined 0 blocks) (b, x, i) (IsPermutation-sym (gather block_defined 0 blocks) defined defined_sorted.same) m)

  step-defined : (b x i : ℕ) (blk : Block) → slice_get blocks b ≡ Some blk → Contains (step_defines (step_at blk i)) (name x) → Contains defined (b, x, i)
  step-defined b x i blk e m = Contains-permutation (gather block_defined 0 blocks) defined (b, x, i) defined_sorted.same (defined-has blocks b x i blk e m)

  used-step : (b x i : ℕ) → Contains used (b, x, i) → StepHas blocks (step_reads f (block_id b)) b x i
  used-step b x i m = used-from f blocks body es es_sorted b x i (Contains-permutation used (gather block_used 0 blocks ++ gather (block_phis_used blocks es) 0 blocks) (b, x, i) (IsPermutation-sym (gather block_used 0 blocks ++ gather (block_phis_used blocks es) 0 blocks) used used_sorted.same) m)

  step-used : (b x i : ℕ) (blk : Block) → slice_get blocks b ≡ Some blk → Contains (step_reads f (block_id b) (step_at blk i)) (name x) → Contains used (b, x, i)
  step-used b x i blk e m = Contains-permutation (gather block_used 0 blocks ++ gather (block_phis_used blocks es) 0 blocks) used (b, x, i) used_sorted.same (used-has f blocks body es es_sorted b x i blk e m)

  point-step : (p : Point) (blk : Block) → slice_get blocks p.block.0 ≡ Some blk → step_of_point f p ≡ step_at blk p.index
  point-step p blk e = rw (body, e) refl

  point-none : (p : Point) → slice_get blocks p.block.0 ≡ None → step_of_point f p ≡ NoStep
  point-none p e = rw (body, e) refl

  -- nothing is defined from the terminator on
  late : (blk : Block) (k x : ℕ) → end_index blk ≤ k → Contains (step_defines (step_at blk k)) (name x) → ⊥
  late blk k x l m = by (at blk k) m
    where
      by : {s : Step} → At blk k s → Contains (step_defines s) (name x) → ⊥
      by (at_phi phi p) n = absurd (omega (arith, get-below blk.phis k phi p))
      by (at_inst j inst q p) n = absurd (omega (arith, get-below blk.insts j inst p))
      by (at_term q) n = none (name x) n
      by (at_none q) n = none (name x) n

  -- nothing is read past the terminator
  reads-within : (blk : Block) (b k x : ℕ) → Contains (step_reads f (block_id b) (step_at blk k)) (name x) → k ≤ end_index blk
  reads-within blk b k x m = by (at blk k) m
    where
      by : {s : Step} → At blk k s → Contains (step_reads f (block_id b) s) (name x) → k ≤ end_index blk
      by (at_phi phi p) n = omega (arith, get-below blk.phis k phi p)
      by (at_inst j inst q p) n = omega (arith, get-below blk.insts j inst p)
      by (at_term q) n = omega arith
      by (at_none q) n = absurd (none (name x) n)

  module _ (g : FuncId) where
    abbrev pt : ℕ → ℕ → Point
    pt b i = record { func = g; block = block_id b; index = i }

    go-on : (b i x : ℕ) (blk : Block) → slice_get blocks b ≡ Some blk → i < end_index blk → (Contains defined (b, x, i) → ⊥) → IsLive f (pt b (i + 1)) (name x) → IsLive f (pt b i) (name x)
    go-on b i x blk e l c r = record { walk = pt b (i + 1) ∷ r.walk; follows = (subst (λ s. Contains (successors (pt b i) s) (pt b (i + 1))) (sym (point-step (pt b i) blk e)) (by (at blk i)), r.follows); reads = (λ m. c (step-defined b x i blk e (subst (λ s. Contains (step_defines s) (name x)) (point-step (pt b i) blk e) m)), r.reads) }
      where
        by : {s : Step} → At blk i s → Contains (successors (pt b i) s) (pt b (i + 1))
        by (at_phi phi p) = here (pt b (i + 1)) []
        by (at_inst j inst q p) = here (pt b (i + 1)) []
        by (at_term q) = absurd (omega arith)
        by (at_none q) = absurd (omega arith)

    straight : (b x : ℕ) (blk : Block) → slice_get blocks b ≡ Some blk → (n i j : ℕ) → i + n ≡ j → j ≤ end_index blk → ((k : ℕ) → i ≤ k → k < j → Contains defined (b, x, k) → ⊥) → IsLive f (pt b j) (name x) → IsLive f (pt b i) (name x)
    straight b x blk e zero i j q l c r = let same : j ≡ i = omega (arith, q) in subst (λ k. IsLive f (pt b k) (name x)) same r
    straight b x blk e (suc n) i j q l c r = go-on b i x blk e (omega (arith, q)) (c i (omega arith) (omega (arith, q))) (straight b x blk e n (i + 1) j (omega (arith, q)) l (λ k m h. c k (omega arith) h) r)

    over-edge : (b x s : ℕ) (blk : Block) → slice_get blocks b ≡ Some blk → Contains (edges blk.term) (block_id s) → IsLive f (pt s 0) (name x) → IsLive f (pt b (end_index blk)) (name x)
    over-edge b x s blk e m r = record { walk = pt s 0 ∷ r.walk; follows = (subst (λ z. Contains (successors (pt b (end_index blk)) z) (pt s 0)) (sym step) (Contains-map (first_point (pt b (end_index blk))) (edges blk.term) (block_id s) m), r.follows); reads = (λ k. none (name x) (subst (λ z. Contains (step_defines z) (name x)) step k), r.reads) }
      where
        step : step_of_point f (pt b (end_index blk)) ≡ TermAt blk.term
        step = point-step (pt b (end_index blk)) blk e ∙ step-term-at blk (end_index blk) refl

    read-here : (b x i : ℕ) (blk : Block) → slice_get blocks b ≡ Some blk → Contains (step_reads f (block_id b) (step_at blk i)) (name x) → IsLive f (pt b i) (name x)
    read-here b x i blk e m = record { walk = []; follows = tt; reads = subst (λ s. Contains (step_reads f (block_id b) s) (name x)) (sym (point-step (pt b i) blk e)) m }

    sound : {x b : ℕ} → IsWanted used defined es x b → IsLive f (pt b 0) (name x)
    sound {x} {b} (used_here i c e) =
        let h = used-step b x i c in
        straight b x h.blk h.at_block i 0 i (omega arith) (reads-within h.blk b i x h.has) (λ k l m. clear-from defined b x i (next defined b x 0) (next-is defined b x 0 defined_sorted.ascends) e k m) (read-here b x i h.blk h.at_block h.has)
    sound {x} {b} (used_later {s = s} h k w) =
        let e = edge-from blocks es es_sorted b s h in
        straight b x e.blk e.at_block (end_index e.blk) 0 (end_index e.blk) (omega arith) (omega arith) (λ j l m. none-from defined b x (next defined b x 0) (next-is defined b x 0 defined_sorted.ascends) k j) (over-edge b x s e.blk e.at_block e.leads (sound w))

  -- one step of a walk
  data Moves (blk : Block) (p q : Point) : Type 0 where
    along : ◌≡◌ {A = Point} (record p { index = p.index + 1 }) q → p.index < end_index blk → Moves blk p q
    over : (s : BlockId) → Contains (edges blk.term) s → first_point p s ≡ q → p.index ≡ end_index blk → Moves blk p q

  moves : (p q : Point) → Contains (successors p (step_of_point f p)) q → (blk : Block) × (slice_get blocks p.block.0 ≡ Some blk) × Moves blk p q
  moves p q m = by-block (slice_get blocks p.block.0) refl
    where
      single : (blk : Block) → p.index < end_index blk → (◌≡◌ {A = Point} (record p { index = p.index + 1 }) q) ⊎ Contains {X = Point} [] q → Moves blk p q
      single blk l (inl e) = along e l
      single blk l (inr n) = absurd (none q n)

      edge : (blk : Block) → p.index ≡ end_index blk → FromMap (first_point p) (edges blk.term) q → Moves blk p q
      edge blk l r = over r.source r.within r.is l

      by : (blk : Block) {s : Step} → At blk p.index s → Contains (successors p s) q → Moves blk p q
      by blk (at_phi phi h) n = single blk (omega (arith, get-below blk.phis p.index phi h)) (cases (let r : Point = record p { index = p.index + 1 } in r) q [] n)
      by blk (at_inst j inst h k) n = single blk (omega (arith, get-below blk.insts j inst k)) (cases (let r : Point = record p { index = p.index + 1 } in r) q [] n)
      by blk (at_term h) n = edge blk h (map-cases (first_point p) (edges blk.term) q n)
      by blk (at_none h) n = absurd (none q n)

      by-block : (o : Option Block) → slice_get blocks p.block.0 ≡ o → (blk : Block) × (slice_get blocks p.block.0 ≡ Some blk) × Moves blk p q
      by-block None e = absurd (none q (subst (λ s. Contains (successors p s) q) (point-none p e) m))
      by-block (Some blk) e = (blk, e, by blk (at blk p.index) (subst (λ s. Contains (successors p s) q) (point-step p blk e) m))

  reads-at : (p : Point) (x : ℕ) → Contains (step_reads f p.block (step_of_point f p)) (name x) → Contains used (p.block.0, x, p.index)
  reads-at p x m = by (slice_get blocks p.block.0) refl
    where
      by : (o : Option Block) → slice_get blocks p.block.0 ≡ o → Contains used (p.block.0, x, p.index)
      by None e = absurd (none (name x) (subst (λ s. Contains (step_reads f p.block s) (name x)) (point-none p e) m))
      by (Some blk) e = step-used p.block.0 x p.index blk e (subst (λ s. Contains (step_reads f p.block s) (name x)) (point-step p blk e) m)

  not-defined : (p : Point) (x : ℕ) (blk : Block) → slice_get blocks p.block.0 ≡ Some blk → (Contains (step_defines (step_of_point f p)) (name x) → ⊥) → Contains defined (p.block.0, x, p.index) → ⊥
  not-defined p x blk e c m =
      let h = defined-step p.block.0 x p.index m in
      let same : h.blk ≡ blk = some-block h.blk blk (sym h.at_block ∙ e) in
      c (subst (λ s. Contains (step_defines s) (name x)) (sym (point-step p blk e)) (subst (λ b. Contains (step_defines (step_at b p.index)) (name x)) same h.has))

  clear-all : (b x i : ℕ) (blk : Block) → slice_get blocks b ≡ Some blk → i ≡ end_index blk → ((k : ℕ) → k < i → Contains defined (b, x, k) → ⊥) → (k : ℕ) → Contains defined (b, x, k) → ⊥
  clear-all b x i blk e q c k m = near (ltb k i) refl
    where
      near : (r : Bool) → ltb k i ≡ r → ⊥
      near true g = c k (grind (arith, nat_tests)) m
      near false g =
          let h = defined-step b x k m in
          let same : h.blk ≡ blk = some-block h.blk blk (sym h.at_block ∙ e) in
          let le : i ≤ k = grind (arith, nat_tests) in
          late blk k x (omega arith) (subst (λ z. Contains (step_defines (step_at z k)) (name x)) same h.has)

  clear-next : (p : Point) (x : ℕ) → ((k : ℕ) → k < p.index → Contains defined (p.block.0, x, k) → ⊥) → (Contains defined (p.block.0, x, p.index) → ⊥) → (k : ℕ) → k < p.index + 1 → Contains defined (p.block.0, x, k) → ⊥
  clear-next p x c d k l m = near (ltb k p.index) refl
    where
      near : (r : Bool) → ltb k p.index ≡ r → ⊥
      near true g = c k (grind (arith, nat_tests)) m
      near false g = let same : k ≡ p.index = grind (arith, nat_tests) in d (subst (λ z. Contains defined (p.block.0, x, z)) same m)

  -- what a walk makes wanted
  wanted : (x : ℕ) (ps : List Point) (p : Point) → IsWalk f p ps → ReadsFirst f (name x) p ps → ((k : ℕ) → k < p.index → Contains defined (p.block.0, x, k) → ⊥) → IsWanted used defined es x p.block.0
  wanted x [] p w r c = used_here p.index (reads-at p x r) (clear-to defined p.block.0 x p.index (next defined p.block.0 x 0) (next-is defined p.block.0 x 0 defined_sorted.ascends) c)
  wanted x (q ∷ qs) p w r c = by (wanted x qs q w.1 r.1) (moves p q w.0)
    where
      by : (((k : ℕ) → k < q.index → Contains defined (q.block.0, x, k) → ⊥) → IsWanted used defined es x q.block.0) → (blk : Block) × (slice_get blocks p.block.0 ≡ Some blk) × Moves blk p q → IsWanted used defined es x p.block.0
      by ih (blk, e, along s l) = subst (λ (z : Point). IsWanted used defined es x z.block.0) (sym s) (ih (subst (λ (z : Point). (k : ℕ) → k < z.index → Contains defined (z.block.0, x, k) → ⊥) s (clear-next p x c (not-defined p x blk e r.0))))
      by ih (blk, e, over s m t l) =
          let at-q : IsWanted used defined es x q.block.0 = ih (subst (λ (z : Point). (k : ℕ) → k < z.index → Contains defined (z.block.0, x, k) → ⊥) t (λ k h z. absurd (omega arith))) in
          let at-s : IsWanted used defined es x s.0 = subst (λ (z : Point). IsWanted used defined es x z.block.0) (sym t) at-q in
          used_later {s = s.0} (edge-holds blocks es es_sorted p.block.0 s.0 blk e m) (none-to defined p.block.0 x (next defined p.block.0 x 0) (next-is defined p.block.0 x 0 defined_sorted.ascends) (clear-all p.block.0 x p.index blk e l c)) at-s

  -- the name is used at the end of the block, by what follows
  record EndUse (b x i : ℕ) : Type 0 where
    blk : Block
    at_block : slice_get blocks b ≡ Some blk
    is : i ≡ end_index blk
    after : IsWantedAfter used defined es x b

  abbrev Uses : ℕ → ℕ → ℕ → Type 0
  Uses b x i = Contains used (b, x, i) ⊎ EndUse b x i

  reached : (x : ℕ) (ps : List Point) (p : Point) → IsWalk f p ps → ReadsFirst f (name x) p ps → Reaches (Uses p.block.0 x) defined p.block.0 x p.index
  reached x [] p w r = record { index = p.index; from = omega arith; use_there = inl (reads-at p x r); clear = λ k l m c. absurd (omega arith) }
  reached x (q ∷ qs) p w r = by (reached x qs q w.1 r.1) (moves p q w.0)
    where
      back : (blk : Block) → slice_get blocks p.block.0 ≡ Some blk → Reaches (Uses p.block.0 x) defined p.block.0 x (p.index + 1) → Reaches (Uses p.block.0 x) defined p.block.0 x p.index
      back blk e h = record { index = h.index; from = omega (arith, h.from); use_there = h.use_there; clear = each }
        where
          each : (k : ℕ) → p.index ≤ k → k < h.index → Contains defined (p.block.0, x, k) → ⊥
          each k l m c = near (leb (p.index + 1) k) refl
            where
              near : (z : Bool) → leb (p.index + 1) k ≡ z → ⊥
              near true g = h.clear k (grind (arith, nat_tests)) m c
              near false g = let same : k ≡ p.index = grind (arith, nat_tests) in not-defined p x blk e r.0 (subst (λ z. Contains defined (p.block.0, x, z)) same c)

      by : Reaches (Uses q.block.0 x) defined q.block.0 x q.index → (blk : Block) × (slice_get blocks p.block.0 ≡ Some blk) × Moves blk p q → Reaches (Uses p.block.0 x) defined p.block.0 x p.index
      by h (blk, e, along s l) = back blk e (subst (λ (z : Point). Reaches (Uses z.block.0 x) defined z.block.0 x z.index) (sym s) h)
      by h (blk, e, over s m t l) =
          let at-q : IsWanted used defined es x q.block.0 = wanted x qs q w.1 r.1 (subst (λ (z : Point). (k : ℕ) → k < z.index → Contains defined (z.block.0, x, k) → ⊥) t (λ k h z. absurd (omega arith))) in
          let at-s : IsWanted used defined es x s.0 = subst (λ (z : Point). IsWanted used defined es x z.block.0) (sym t) at-q in
          let there : IsWantedAfter used defined es x p.block.0 = record { target = s.0; edge = edge-holds blocks es es_sorted p.block.0 s.0 blk e m; wanted = at-s } in
          record { index = p.index; from = omega arith; use_there = inr (record { blk = blk; at_block = e; is = l; after = there }); clear = λ k l m c. absurd (omega arith) }

  lives : (g : FuncId) (b x i : ℕ) → Reaches (Uses b x) defined b x i → IsLive f (pt g b i) (name x)
  lives g b x i r = elim r.use_there [ inl u ↦ by-use (used-step b x r.index u) | inr u ↦ by-end u ]
    where
      by-use : StepHas blocks (step_reads f (block_id b)) b x r.index → IsLive f (pt g b i) (name x)
      by-use h = straight g b x h.blk h.at_block (r.index - i) i r.index (omega (arith, r.from)) (reads-within h.blk b r.index x h.has) r.clear (read-here g b x r.index h.blk h.at_block h.has)

      by-end : EndUse b x r.index → IsLive f (pt g b i) (name x)
      by-end h =
          let w = h.after in
          let e = edge-from blocks es es_sorted b w.target w.edge in
          let at-end = over-edge g b x w.target e.blk e.at_block e.leads (sound g w.wanted) in
          let same : e.blk ≡ h.blk = some-block e.blk h.blk (sym e.at_block ∙ h.at_block) in
          let is : end_index e.blk ≡ r.index = ap end_index same ∙ sym h.is in
          straight g b x h.blk h.at_block (r.index - i) i r.index (omega (arith, r.from)) (omega (arith, h.is)) r.clear (subst (λ j. IsLive f (pt g b j) (name x)) is at-end)

  module _ (runs : List Triple) (last : List ℕ) (runs_are : AreRuns used defined es runs) (last_is : last ≡ map end_index blocks) where
    -- no use in a block stands past its terminator
    used-within : (b x i k : ℕ) → Contains used (b, x, i) → EndUse b x k → i ≤ k
    used-within b x i k m e =
        let h = used-step b x i m in
        let same : h.blk ≡ e.blk = some-block h.blk e.blk (sym h.at_block ∙ e.at_block) in
        let within : i ≤ end_index h.blk = reads-within h.blk b i x h.has in
        let is : k ≡ end_index h.blk = e.is ∙ ap end_index (sym same) in
        omega arith

    last-at : (b x k : ℕ) → EndUse b x k → slice_get last b ≡ Some k
    last-at b x k e = ap (λ l. slice_get l b) last_is ∙ (get-map end_index blocks b e.blk e.at_block ∙ ap Some (sym e.is))

    end-use : (b x k : ℕ) → in_run runs x b ≡ true → slice_get last b ≡ Some k → EndUse b x k
    end-use b x k t e =
        let r = get-from-map end_index blocks b k (ap (λ l. slice_get l b) (sym last_is) ∙ e) in
        record { blk = r.0; at_block = r.1; is = sym r.2; after = (runs_are x b).0 t }

    in-run : (b x k : ℕ) → EndUse b x k → in_run runs x b ≡ true
    in-run b x k e = (runs_are x b).1 e.after

    end-is : (b x i : ℕ) → NextIs used b x i None → IsNext (Uses b x) i (end_use (in_run runs x b) (slice_get last b) i)
    end-is b x i u = at (in_run runs x b) refl (slice_get last b) refl
      where
        some-same : (m n : ℕ) → Some m ≡ Some n → m ≡ n
        some-same m n e = cc

        near : (n : ℕ) → in_run runs x b ≡ true → slice_get last b ≡ Some n → (r : Bool) → leb i n ≡ r → IsNext (Uses b x) i (if r then Some n else None)
        near n t g true e = (grind (arith, nat_tests), inr (end-use b x n t g), λ k l m w. elim w [ inl c ↦ u k l c | inr h ↦ (let same : k ≡ n = some-same k n (sym (last-at b x k h) ∙ g) in absurd (omega arith)) ])
        near n t g false e = λ k l w. elim w [ inl c ↦ u k l c | inr h ↦ (let same : k ≡ n = some-same k n (sym (last-at b x k h) ∙ g) in absurd (grind (arith, nat_tests))) ]

        at : (t : Bool) → in_run runs x b ≡ t → (o : Option ℕ) → slice_get last b ≡ o → IsNext (Uses b x) i (end_use t o i)
        at false e o g = λ k l w. elim w [ inl c ↦ u k l c | inr h ↦ true≢false (sym (in-run b x k h) ∙ e) ]
        at true e None g = λ k l w. elim w [ inl c ↦ u k l c | inr h ↦ (let same : Some k ≡ None = sym (last-at b x k h) ∙ g in absurd cc) ]
        at true e (Some n) g = near n e g (leb i n) refl

    use-is : (b x i : ℕ) → IsNext (Uses b x) i (or_else (next used b x i) (end_use (in_run runs x b) (slice_get last b) i))
    use-is b x i = go (next used b x i) (next-is used b x i used_sorted.ascends)
      where
        go : (o : Option ℕ) → NextIs used b x i o → IsNext (Uses b x) i (or_else o (end_use (in_run runs x b) (slice_get last b) i))
        go None u = end-is b x i u
        go (Some n) u = (u.0, inl u.1, λ k l m w. elim w [ inl c ↦ u.2 k l m c | inr h ↦ (let le : n ≤ k = used-within b x n k u.1 h in absurd (omega arith)) ])

    pub answers : (p : Point) (x : ℕ) → (is_first (or_else (next used p.block.0 x p.index) (end_use (in_run runs x p.block.0) (slice_get last p.block.0) p.index)) (next defined p.block.0 x p.index) ≡ true) ↔ IsLive f p (name x)
    answers p x = (
      λ e. lives p.func p.block.0 x p.index (first-reaches (Uses p.block.0 x) defined p.block.0 x p.index (or_else (next used p.block.0 x p.index) (end_use (in_run runs x p.block.0) (slice_get last p.block.0) p.index)) (next defined p.block.0 x p.index) (use-is p.block.0 x p.index) (next-is defined p.block.0 x p.index defined_sorted.ascends) e),
      λ l. reaches-first (Uses p.block.0 x) defined p.block.0 x p.index (or_else (next used p.block.0 x p.index) (end_use (in_run runs x p.block.0) (slice_get last p.block.0) p.index)) (next defined p.block.0 x p.index) (use-is p.block.0 x p.index) (next-is defined p.block.0 x p.index defined_sorted.ascends) (reached x l.walk p l.follows l.reads),
    )

-- the tables that are made of a function's blocks tell its live names
pub IsFlowOf-built : (f : Function) (blocks : List Block) (flow : Flow) → f.blocks ≡ Some blocks → IsBuiltFrom blocks flow → IsFlowOf f flow
unfolding live
IsFlowOf-built f blocks flow body b p x = answers f blocks body b.es flow.used flow.defined b.es_sorted b.defined_sorted b.used_sorted flow.runs flow.last b.runs_are b.last_is p x.0

pub ok-then : {T E : Type 0} {P Q : T → Type 0} (r : Result T E) → ((x : T) → P x → Q x) → IfOk r P → IfOk r Q
ok-then (Ok x) f p = f x p
ok-then (Err e) f p = p
