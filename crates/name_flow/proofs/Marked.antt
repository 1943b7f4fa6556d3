-- The marks of a function's blocks are what its steps read and define.
use Rattle.std.proofs.Common.{◌≡◌, zero, suc, ◌⊎◌, ℕ, ◌+◌, ◌-◌, ◌<◌, ◌≤◌, Bool, true, false, eqb, List, [], ◌∷◌, ◌++◌, length, flat_map, Option, Some, None, refl, sym, ap, ◌∙◌, arith, inl, inr, subst, Contains, slice_get, if◌then◌else◌, ◌==◌, ◌^◌}
use Rattle.std.specs.Option.{option_to_list}
use Rattle.std.proofs.lemmas.Bool.Decides.{nat_tests}
use Rattle.std.proofs.lemmas.List.Elements.{Contains-append_left, Contains-append_right, Contains-append_cases}
use Rattle.std.proofs.lemmas.List.Sorted.{Contains-permutation, IsPermutation-sym}
use Rattle.ir_values.specs.declared.ids.BlockId.{BlockId}
use Rattle.ir_values.specs.declared.ids.LocalId.{LocalId}
use Rattle.ir_module.specs.declared.tree.Block.{Block}
use Rattle.ir_module.specs.declared.tree.Function.{Function}
use Rattle.ir_module.specs.declared.tree.Inst.{Inst}
use Rattle.ir_module.specs.declared.tree.Operand.{Operand}
use Rattle.ir_module.specs.declared.tree.Phi.{Phi}
use Rattle.ir_module.specs.Edges.{edges}
use Rattle.ir_module.specs.Steps.{Step, PhiAt, InstAt, TermAt, NoStep, step_at}
use Rattle.ir_module.specs.Tree.{block_at}
use Rattle.name_flow.specs.code.Marks.{gather, marks, inst_used, inst_defined, phi_defined, end_index, block_used, block_defined, block_edges, entry_used_at, entry_used, entries_used, phis_used, block_phis_used}
use Rattle.name_flow.specs.code.Spread.{IsNarrow}
use Rattle.name_flow.specs.code.Triples.{Triple, holds, Sorts}
use Rattle.ir_module.specs.Operands.{step_defines}
use Rattle.name_flow.specs.Uses.{reads, inst_reads, term_reads, entries_read, phis_read, step_reads}
use Rattle.name_flow.proofs.Members.{none, here, there, cases, Contains-map, FromMap, map-cases, Gathered, gather-cases, Contains-gather}
use Rattle.name_flow.proofs.Order.{holds-contains, contains-holds}

abbrev pub name : ℕ → LocalId
name x = record { 0 = x }

abbrev pub block_id : ℕ → BlockId
block_id b = record { 0 = b }

pub some-block : (a b : Block) → Some a ≡ Some b → a ≡ b
some-block a b e = cc

-- lists by number
pub get-below : {A : Type 0} (xs : List A) (k : ℕ) (x : A) → slice_get xs k ≡ Some x → k < length xs
get-below [] k x e = cc
get-below (y ∷ ys) zero x e = omega arith
get-below (y ∷ ys) (suc k) x e = omega (arith, get-below ys k x e)

pub get-none : {A : Type 0} (xs : List A) (k : ℕ) → slice_get xs k ≡ None → length xs ≤ k
get-none [] k e = omega arith
get-none (y ∷ ys) zero e = cc
get-none (y ∷ ys) (suc k) e = omega (arith, get-none ys k e)

pub get-past : {A : Type 0} (xs : List A) (k : ℕ) → length xs ≤ k → slice_get xs k ≡ None
get-past [] k l = refl
get-past (y ∷ ys) zero l = absurd (omega arith)
get-past (y ∷ ys) (suc k) l = get-past ys k (omega arith)

-- what stands at an index
pub data At (blk : Block) (i : ℕ) : Step → Type 0 where
  at_phi : (phi : Phi) → slice_get blk.phis i ≡ Some phi → At blk i (PhiAt phi)
  at_inst : (k : ℕ) (inst : Inst) → i ≡ length blk.phis + k → slice_get blk.insts k ≡ Some inst → At blk i (InstAt inst)
  at_term : i ≡ end_index blk → At blk i (TermAt blk.term)
  at_none : end_index blk < i → At blk i NoStep

step-phi : (blk : Block) (i : ℕ) (phi : Phi) → slice_get blk.phis i ≡ Some phi → step_at blk i ≡ PhiAt phi
step-phi blk i phi e = rw e refl

step-inst : (blk : Block) (i : ℕ) (inst : Inst) → slice_get blk.phis i ≡ None → slice_get blk.insts (i - length blk.phis) ≡ Some inst → step_at blk i ≡ InstAt inst
step-inst blk i inst e f = rw (e, f) refl

step-term : (blk : Block) (i : ℕ) → slice_get blk.phis i ≡ None → slice_get blk.insts (i - length blk.phis) ≡ None → i - (length blk.phis + length blk.insts) ≡ 0 → step_at blk i ≡ TermAt blk.term
step-term blk i e f g = rw (e, f, g) refl

step-none : (blk : Block) (i n : ℕ) → slice_get blk.phis i ≡ None → slice_get blk.insts (i - length blk.phis) ≡ None → i - (length blk.phis + length blk.insts) ≡ suc n → step_at blk i ≡ NoStep
step-none blk i n e f g = rw (e, f, g) refl

pub at : (blk : Block) (i : ℕ) → At blk i (step_at blk i)
at blk i = by-phi (slice_get blk.phis i) refl
  where
    by-end : slice_get blk.phis i ≡ None → slice_get blk.insts (i - length blk.phis) ≡ None → (n : ℕ) → i - (length blk.phis + length blk.insts) ≡ n → At blk i (step_at blk i)
    by-end e f zero g = subst (At blk i) (sym (step-term blk i e f g)) (at_term (omega (arith, get-none blk.phis i e, get-none blk.insts (i - length blk.phis) f, g)))
    by-end e f (suc n) g = subst (At blk i) (sym (step-none blk i n e f g)) (at_none (omega (arith, g)))

    by-inst : slice_get blk.phis i ≡ None → (o : Option Inst) → slice_get blk.insts (i - length blk.phis) ≡ o → At blk i (step_at blk i)
    by-inst e (Some inst) f = subst (At blk i) (sym (step-inst blk i inst e f)) (at_inst (i - length blk.phis) inst (omega (arith, get-none blk.phis i e)) f)
    by-inst e None f = by-end e f (i - (length blk.phis + length blk.insts)) refl

    by-phi : (o : Option Phi) → slice_get blk.phis i ≡ o → At blk i (step_at blk i)
    by-phi (Some phi) e = subst (At blk i) (sym (step-phi blk i phi e)) (at_phi phi e)
    by-phi None e = by-inst e (slice_get blk.insts (i - length blk.phis)) refl

step-inst-at : (blk : Block) (i k : ℕ) (inst : Inst) → i ≡ length blk.phis + k → slice_get blk.insts k ≡ Some inst → step_at blk i ≡ InstAt inst
step-inst-at blk i k inst e f =
    let less : i - length blk.phis ≡ k = omega (arith, e) in
    step-inst blk i inst (get-past blk.phis i (omega (arith, e))) (ap (slice_get blk.insts) less ∙ f)

pub step-term-at : (blk : Block) (i : ℕ) → i ≡ end_index blk → step_at blk i ≡ TermAt blk.term
step-term-at blk i e =
    let less : i - length blk.phis ≡ length blk.insts = omega (arith, e) in
    step-term blk i (get-past blk.phis i (omega (arith, e))) (ap (slice_get blk.insts) less ∙ get-past blk.insts (length blk.insts) (omega arith)) (omega (arith, e))

-- marks of names
pub record Marked (b i : ℕ) (xs : List LocalId) (c x j : ℕ) : Type 0 where
  pub block : b ≡ c
  pub index : i ≡ j
  pub has : Contains xs (name x)

pub marks-cases : (b i : ℕ) (xs : List LocalId) (c x j : ℕ) → Contains (marks b i xs) (c, x, j) → Marked b i xs c x j
marks-cases b i xs c x j m = go (map-cases (λ (y : LocalId). let t : Triple = (b, y.0, i) in t) xs (c, x, j) m)
  where
    go : FromMap (λ (y : LocalId). let t : Triple = (b, y.0, i) in t) xs (c, x, j) → Marked b i xs c x j
    go r = record { block = ap (λ (t : Triple). t.0) r.is; index = ap (λ (t : Triple). t.2) r.is; has = subst (λ z. Contains xs (name z)) (ap (λ (t : Triple). t.1) r.is) r.within }

pub Contains-marks : (b i : ℕ) (xs : List LocalId) (x : ℕ) → Contains xs (name x) → Contains (marks b i xs) (b, x, i)
Contains-marks b i xs x m = Contains-map (λ (y : LocalId). let t : Triple = (b, y.0, i) in t) xs (name x) m

-- a step of a block has the name
pub record StepHas (blocks : List Block) (names : Step → List LocalId) (b x i : ℕ) : Type 0 where
  pub blk : Block
  pub at_block : slice_get blocks b ≡ Some blk
  pub has : Contains (names (step_at blk i)) (name x)

-- the instructions' marks
pub record InstHas (of : Inst → List LocalId) (n : ℕ) (insts : List Inst) (x i : ℕ) : Type 0 where
  pub number : ℕ
  pub inst : Inst
  pub at_number : slice_get insts number ≡ Some inst
  pub is : i ≡ n + number
  pub has : Contains (of inst) (name x)

insts-cases : (of : Inst → List LocalId) (b n : ℕ) (insts : List Inst) (c x i : ℕ) → Contains (gather (λ i inst. marks b i (of inst)) n insts) (c, x, i) → (b ≡ c) × InstHas of n insts x i
insts-cases of b n insts c x i m = go (gather-cases (λ i inst. marks b i (of inst)) n insts (c, x, i) m)
  where
    go : Gathered (λ i inst. marks b i (of inst)) n insts (c, x, i) → (b ≡ c) × InstHas of n insts x i
    go r = let k = marks-cases b (n + r.number) (of r.source) c x i r.within in (k.block, record { number = r.number; inst = r.source; at_number = r.at; is = sym k.index; has = k.has })

Contains-insts : (of : Inst → List LocalId) (b n : ℕ) (insts : List Inst) (k : ℕ) (inst : Inst) (x : ℕ) → slice_get insts k ≡ Some inst → Contains (of inst) (name x) → Contains (gather (λ i inst. marks b i (of inst)) n insts) (b, x, n + k)
Contains-insts of b n insts k inst x e m = Contains-gather (λ i inst. marks b i (of inst)) n insts k inst (b, x, n + k) e (Contains-marks b (n + k) (of inst) x m)

-- definitions
module _ (blocks : List Block) where
  block-defined : (b : ℕ) (blk : Block) (c x i : ℕ) → Contains (block_defined b blk) (c, x, i) → (b ≡ c) × Contains (step_defines (step_at blk i)) (name x)
  block-defined b blk c x i m = elim (Contains-append_cases (gather (phi_defined b) 0 blk.phis) (gather (inst_defined b) (length blk.phis) blk.insts) (c, x, i) m) [ inl p ↦ by-phi (gather-cases (phi_defined b) 0 blk.phis (c, x, i) p) | inr q ↦ by-inst (insts-cases (λ inst. option_to_list inst.result) b (length blk.phis) blk.insts c x i q) ]
    where
      by-inst : (b ≡ c) × InstHas (λ inst. option_to_list inst.result) (length blk.phis) blk.insts x i → (b ≡ c) × Contains (step_defines (step_at blk i)) (name x)
      by-inst r = (r.0, subst (λ s. Contains (step_defines s) (name x)) (sym (step-inst-at blk i r.1.number r.1.inst r.1.is r.1.at_number)) r.1.has)

      by-phi : Gathered (phi_defined b) 0 blk.phis (c, x, i) → (b ≡ c) × Contains (step_defines (step_at blk i)) (name x)
      by-phi r = found (cases (b, r.source.result.0, 0 + r.number) (c, x, i) [] r.within)
        where
          found : (◌≡◌ {A = Triple} (b, r.source.result.0, 0 + r.number) (c, x, i)) ⊎ Contains {X = Triple} [] (c, x, i) → (b ≡ c) × Contains (step_defines (step_at blk i)) (name x)
          found (inr n) = absurd (none (c, x, i) n)
          found (inl e) =
              let number : r.number ≡ i = omega (arith, ap (λ (t : Triple). t.2) e) in
              let step = step-phi blk i r.source (sym (ap (slice_get blk.phis) number) ∙ r.at) in
              let local : r.source.result ≡ name x = ap (λ (t : Triple). name t.1) e in
              (ap (λ (t : Triple). t.0) e, subst (λ s. Contains (step_defines s) (name x)) (sym step) (subst (λ z. Contains (r.source.result ∷ []) z) local (here r.source.result [])))

  pub defined-from : (b x i : ℕ) → Contains (gather block_defined 0 blocks) (b, x, i) → StepHas blocks step_defines b x i
  defined-from b x i m = go (gather-cases block_defined 0 blocks (b, x, i) m)
    where
      go : Gathered block_defined 0 blocks (b, x, i) → StepHas blocks step_defines b x i
      go r =
          let k = block-defined (0 + r.number) r.source b x i r.within in
          let same : r.number ≡ b = omega (arith, k.0) in
          record { blk = r.source; at_block = sym (ap (slice_get blocks) same) ∙ r.at; has = k.1 }

  in-block : (g : ℕ → Block → List Triple) (b : ℕ) (blk : Block) (t : Triple) → slice_get blocks b ≡ Some blk → Contains (g b blk) t → Contains (gather g 0 blocks) t
  in-block g b blk t e m = Contains-gather g 0 blocks b blk t e (let same : b ≡ 0 + b = omega arith in subst (λ z. Contains (g z blk) t) same m)

  pub defined-has : (b x i : ℕ) (blk : Block) → slice_get blocks b ≡ Some blk → Contains (step_defines (step_at blk i)) (name x) → Contains (gather block_defined 0 blocks) (b, x, i)
  defined-has b x i blk e m = in-block block_defined b blk (b, x, i) e (by (at blk i) m)
    where
      by : {s : Step} → At blk i s → Contains (step_defines s) (name x) → Contains (block_defined b blk) (b, x, i)
      by (at_phi phi p) n = Contains-append_left (gather (phi_defined b) 0 blk.phis) (gather (inst_defined b) (length blk.phis) blk.insts) (b, x, i) (Contains-gather (phi_defined b) 0 blk.phis i phi (b, x, i) p (phi-here (cases phi.result (name x) [] n)))
        where
          phi-here : (phi.result ≡ name x) ⊎ Contains {X = LocalId} [] (name x) → Contains (phi_defined b (0 + i) phi) (b, x, i)
          phi-here (inr z) = absurd (none (name x) z)
          phi-here (inl z) =
              let num : 0 + i ≡ i = omega arith in
              let same : ◌≡◌ {A = Triple} (b, phi.result.0, 0 + i) (b, x, i) = λ j. (b, (z j).0, num j) in
              subst (λ (t : Triple). Contains ((b, phi.result.0, 0 + i) ∷ []) t) same (here (b, phi.result.0, 0 + i) [])
      by (at_inst k inst q p) n = Contains-append_right (gather (phi_defined b) 0 blk.phis) (gather (inst_defined b) (length blk.phis) blk.insts) (b, x, i) (subst (λ j. Contains (gather (inst_defined b) (length blk.phis) blk.insts) (b, x, j)) (sym q) (Contains-insts (λ inst. option_to_list inst.result) b (length blk.phis) blk.insts k inst x p n))
      by (at_term q) n = absurd (none (name x) n)
      by (at_none q) n = absurd (none (name x) n)

  -- edges
  pub record Edge (b s : ℕ) : Type 0 where
    pub blk : Block
    pub at_block : slice_get blocks b ≡ Some blk
    pub leads : Contains (edges blk.term) (block_id s)

  module _ (es : List Triple) (sorted : Sorts (gather block_edges 0 blocks) es) where
    pub edge-from : (b s : ℕ) → holds es s 0 b ≡ true → Edge b s
    edge-from b s h = go (gather-cases block_edges 0 blocks (s, 0, b) (Contains-permutation es (gather block_edges 0 blocks) (s, 0, b) (IsPermutation-sym (gather block_edges 0 blocks) es sorted.same) (holds-contains es s 0 b sorted.ascends h)))
      where
        go : Gathered block_edges 0 blocks (s, 0, b) → Edge b s
        go r = found (map-cases (λ (d : BlockId). let t : Triple = (d.0, 0, 0 + r.number) in t) (edges r.source.term) (s, 0, b) r.within)
          where
            found : FromMap (λ (d : BlockId). let t : Triple = (d.0, 0, 0 + r.number) in t) (edges r.source.term) (s, 0, b) → Edge b s
            found k =
                let same : r.number ≡ b = omega (arith, ap (λ (t : Triple). t.2) k.is) in
                record { blk = r.source; at_block = sym (ap (slice_get blocks) same) ∙ r.at; leads = subst (λ z. Contains (edges r.source.term) (block_id z)) (ap (λ (t : Triple). t.0) k.is) k.within }

    pub edge-holds : (b s : ℕ) (blk : Block) → slice_get blocks b ≡ Some blk → Contains (edges blk.term) (block_id s) → holds es s 0 b ≡ true
    edge-holds b s blk e m = contains-holds es s 0 b sorted.ascends (Contains-permutation (gather block_edges 0 blocks) es (s, 0, b) sorted.same (in-block block_edges b blk (s, 0, b) e (Contains-map (λ (d : BlockId). let t : Triple = (d.0, 0, b) in t) (edges blk.term) (block_id s) m)))

  -- uses by phis on the edge from the block q to the block s
  pub record EdgeUse (es : List Triple) (s q x i : ℕ) (names : List LocalId) : Type 0 where
    pub from : Block
    pub at_from : slice_get blocks q ≡ Some from
    pub is : i ≡ end_index from
    pub edge : holds es s 0 q ≡ true
    pub has : Contains names (name x)

  module _ (es : List Triple) (s : ℕ) where
    more-names : (q x i : ℕ) (xs ys : List LocalId) → EdgeUse es s q x i ys → EdgeUse es s q x i (xs ++ ys)
    more-names q x i xs ys r = record { from = r.from; at_from = r.at_from; is = r.is; edge = r.edge; has = Contains-append_right xs ys (name x) r.has }

    first-names : (q x i : ℕ) (xs ys : List LocalId) → EdgeUse es s q x i xs → EdgeUse es s q x i (xs ++ ys)
    first-names q x i xs ys r = record { from = r.from; at_from = r.at_from; is = r.is; edge = r.edge; has = Contains-append_left xs ys (name x) r.has }

    entry-from : (q x i : ℕ) (e : Operand × BlockId) → Contains (entry_used blocks es s e) (q, x, i) → EdgeUse es s q x i (if e.1.0 == q then reads e.0 else [])
    entry-from q x i e m = by (slice_get blocks e.1.0) refl m
      where
        here-used : (from : Block) → slice_get blocks e.1.0 ≡ Some from → holds es s 0 e.1.0 ≡ true → Marked e.1.0 (end_index from) (reads e.0) q x i → EdgeUse es s q x i (if e.1.0 == q then reads e.0 else [])
        here-used from p h k =
            let test : eqb e.1.0 q ≡ true = let b = k.block in grind (arith, nat_tests) in
            record { from = from; at_from = sym (ap (slice_get blocks) k.block) ∙ p; is = sym k.index; edge = subst (λ z. holds es s 0 z ≡ true) k.block h; has = subst (λ r. Contains (if r then reads e.0 else []) (name x)) (sym test) k.has }

        by-edge : (from : Block) → slice_get blocks e.1.0 ≡ Some from → (r : Bool) → holds es s 0 e.1.0 ≡ r → Contains (if r then marks e.1.0 (end_index from) (reads e.0) else []) (q, x, i) → EdgeUse es s q x i (if e.1.0 == q then reads e.0 else [])
        by-edge from p true h n = here-used from p h (marks-cases e.1.0 (end_index from) (reads e.0) q x i n)
        by-edge from p false h n = absurd (none (q, x, i) n)

        by : (o : Option Block) → slice_get blocks e.1.0 ≡ o → Contains (entry_used_at o es s e) (q, x, i) → EdgeUse es s q x i (if e.1.0 == q then reads e.0 else [])
        by None p n = absurd (none (q, x, i) n)
        by (Some from) p n = by-edge from p (holds es s 0 e.1.0) refl n

    entries-from : (q x i : ℕ) (entries : List (Operand × BlockId)) → Contains (entries_used blocks es s entries) (q, x, i) → EdgeUse es s q x i (entries_read (block_id q) entries)
    entries-from q x i [] m = absurd (none (q, x, i) m)
    entries-from q x i (e ∷ rest) m = elim (Contains-append_cases (entry_used blocks es s e) (entries_used blocks es s rest) (q, x, i) m) [ inl n ↦ first-names q x i (if e.1.0 == q then reads e.0 else []) (entries_read (block_id q) rest) (entry-from q x i e n) | inr n ↦ more-names q x i (if e.1.0 == q then reads e.0 else []) (entries_read (block_id q) rest) (entries-from q x i rest n) ]

    pub phis-from : (q x i : ℕ) (phis : List Phi) → Contains (phis_used blocks es s phis) (q, x, i) → EdgeUse es s q x i (flat_map (λ phi. entries_read (block_id q) phi.entries) phis)
    phis-from q x i [] m = absurd (none (q, x, i) m)
    phis-from q x i (phi ∷ phis) m = elim (Contains-append_cases (entries_used blocks es s phi.entries) (phis_used blocks es s phis) (q, x, i) m) [ inl n ↦ first-names q x i (entries_read (block_id q) phi.entries) (flat_map (λ phi. entries_read (block_id q) phi.entries) phis) (entries-from q x i phi.entries n) | inr n ↦ more-names q x i (entries_read (block_id q) phi.entries) (flat_map (λ phi. entries_read (block_id q) phi.entries) phis) (phis-from q x i phis n) ]

    module _ (q x : ℕ) (from : Block) (p : slice_get blocks q ≡ Some from) (h : holds es s 0 q ≡ true) where
      entry-has : (e : Operand × BlockId) → Contains (if e.1.0 == q then reads e.0 else []) (name x) → Contains (entry_used blocks es s e) (q, x, end_index from)
      entry-has e m = by (eqb e.1.0 q) refl m
        where
          by : (r : Bool) → eqb e.1.0 q ≡ r → Contains (if r then reads e.0 else []) (name x) → Contains (entry_used blocks es s e) (q, x, end_index from)
          by false t n = absurd (none (name x) n)
          by true t n =
              let same : e.1.0 ≡ q = grind (arith, nat_tests) in
              rw (same, p, h) (Contains-marks q (end_index from) (reads e.0) x n)

      entries-has : (entries : List (Operand × BlockId)) → Contains (entries_read (block_id q) entries) (name x) → Contains (entries_used blocks es s entries) (q, x, end_index from)
      entries-has [] m = absurd (none (name x) m)
      entries-has (e ∷ rest) m = elim (Contains-append_cases (if e.1.0 == q then reads e.0 else []) (entries_read (block_id q) rest) (name x) m) [ inl n ↦ Contains-append_left (entry_used blocks es s e) (entries_used blocks es s rest) (q, x, end_index from) (entry-has e n) | inr n ↦ Contains-append_right (entry_used blocks es s e) (entries_used blocks es s rest) (q, x, end_index from) (entries-has rest n) ]

      pub phis-has : (phis : List Phi) → Contains (flat_map (λ phi. entries_read (block_id q) phi.entries) phis) (name x) → Contains (phis_used blocks es s phis) (q, x, end_index from)
      phis-has [] m = absurd (none (name x) m)
      phis-has (phi ∷ phis) m = elim (Contains-append_cases (entries_read (block_id q) phi.entries) (flat_map (λ phi. entries_read (block_id q) phi.entries) phis) (name x) m) [ inl n ↦ Contains-append_left (entries_used blocks es s phi.entries) (phis_used blocks es s phis) (q, x, end_index from) (entries-has phi.entries n) | inr n ↦ Contains-append_right (entries_used blocks es s phi.entries) (phis_used blocks es s phis) (q, x, end_index from) (phis-has phis n) ]

pub IsNarrow-sorted : (blocks : List Block) (es : List Triple) → length blocks < 2 ^ 64 → Sorts (gather block_edges 0 blocks) es → IsNarrow es
IsNarrow-sorted blocks es small sorted b p h = let e = edge-from blocks es sorted p b h in omega (arith, get-below blocks p e.blk e.at_block)

-- all uses
module _ (f : Function) (blocks : List Block) (body : f.blocks ≡ Some blocks) (es : List Triple) (sorted : Sorts (gather block_edges 0 blocks) es) where
  pub block-at : (b : BlockId) → block_at f b ≡ slice_get blocks b.0
  block-at b = rw body refl

  flat-from : {A B : Type 0} (g : A → List B) (xs : List A) (z : B) → Contains (flat_map g xs) z → (y : A) × Contains xs y × Contains (g y) z
  flat-from g [] z m = absurd (none z m)
  flat-from g (x ∷ xs) z m = elim (Contains-append_cases (g x) (flat_map g xs) z m) [ inl n ↦ (x, here x xs, n) | inr n ↦ (let r = flat-from g xs z n in (r.0, there x r.0 xs r.1, r.2)) ]

  flat-has : {A B : Type 0} (g : A → List B) (xs : List A) (y : A) (z : B) → Contains xs y → Contains (g y) z → Contains (flat_map g xs) z
  flat-has g [] y z m n = absurd (none y m)
  flat-has g (x ∷ xs) y z m n = elim (cases x y xs m) [ inl e ↦ Contains-append_left (g x) (flat_map g xs) z (subst (λ w. Contains (g w) z) (sym e) n) | inr k ↦ Contains-append_right (g x) (flat_map g xs) z (flat-has g xs y z k n) ]

  abbrev phis-into : ℕ → BlockId → List LocalId
  phis-into b s = phis_read (block_id b) (block_at f s)

  -- at the terminator
  term-has : (b x i : ℕ) (blk : Block) → i ≡ end_index blk → Contains (step_reads f (block_id b) (TermAt blk.term)) (name x) → Contains (step_reads f (block_id b) (step_at blk i)) (name x)
  term-has b x i blk e m = subst (λ s. Contains (step_reads f (block_id b) s) (name x)) (sym (step-term-at blk i e)) m

  block-used : (b : ℕ) (blk : Block) (c x i : ℕ) → Contains (block_used b blk) (c, x, i) → (b ≡ c) × Contains (step_reads f (block_id c) (step_at blk i)) (name x)
  block-used b blk c x i m = elim (Contains-append_cases (gather (inst_used b) (length blk.phis) blk.insts) (marks b (end_index blk) (term_reads blk.term)) (c, x, i) m) [ inl p ↦ by-inst (insts-cases (λ inst. inst_reads inst.what) b (length blk.phis) blk.insts c x i p) | inr q ↦ by-term (marks-cases b (end_index blk) (term_reads blk.term) c x i q) ]
    where
      by-inst : (b ≡ c) × InstHas (λ inst. inst_reads inst.what) (length blk.phis) blk.insts x i → (b ≡ c) × Contains (step_reads f (block_id c) (step_at blk i)) (name x)
      by-inst r = (r.0, subst (λ s. Contains (step_reads f (block_id c) s) (name x)) (sym (step-inst-at blk i r.1.number r.1.inst r.1.is r.1.at_number)) r.1.has)

      by-term : Marked b (end_index blk) (term_reads blk.term) c x i → (b ≡ c) × Contains (step_reads f (block_id c) (step_at blk i)) (name x)
      by-term k = (k.block, term-has c x i blk (sym k.index) (Contains-append_left (term_reads blk.term) (flat_map (phis-into c) (edges blk.term)) (name x) k.has))

  abbrev pub used_marks : List Triple
  used_marks = gather block_used 0 blocks ++ gather (block_phis_used blocks es) 0 blocks

  pub used-from : (b x i : ℕ) → Contains used_marks (b, x, i) → StepHas blocks (step_reads f (block_id b)) b x i
  used-from b x i m = elim (Contains-append_cases (gather block_used 0 blocks) (gather (block_phis_used blocks es) 0 blocks) (b, x, i) m) [ inl n ↦ by-block (gather-cases block_used 0 blocks (b, x, i) n) | inr n ↦ by-phis (gather-cases (block_phis_used blocks es) 0 blocks (b, x, i) n) ]
    where
      by-block : Gathered block_used 0 blocks (b, x, i) → StepHas blocks (step_reads f (block_id b)) b x i
      by-block r =
          let k = block-used (0 + r.number) r.source b x i r.within in
          let same : r.number ≡ b = omega (arith, k.0) in
          record { blk = r.source; at_block = sym (ap (slice_get blocks) same) ∙ r.at; has = k.1 }

      by-phis : Gathered (block_phis_used blocks es) 0 blocks (b, x, i) → StepHas blocks (step_reads f (block_id b)) b x i
      by-phis r =
          let u = phis-from blocks es (0 + r.number) b x i r.source.phis r.within in
          let e = edge-from blocks es sorted b (0 + r.number) u.edge in
          let num : 0 + r.number ≡ r.number = omega arith in
          let at-target : block_at f (block_id (0 + r.number)) ≡ Some r.source = block-at (block_id (0 + r.number)) ∙ (ap (slice_get blocks) num ∙ r.at) in
          let same : e.blk ≡ u.from = some-block e.blk u.from (sym e.at_block ∙ u.at_from) in
          record { blk = e.blk; at_block = e.at_block; has = term-has b x i e.blk (u.is ∙ ap end_index (sym same)) (Contains-append_right (term_reads e.blk.term) (flat_map (phis-into b) (edges e.blk.term)) (name x) (flat-has (phis-into b) (edges e.blk.term) (block_id (0 + r.number)) (name x) e.leads (subst (λ o. Contains (phis_read (block_id b) o) (name x)) (sym at-target) u.has))) }

  pub used-has : (b x i : ℕ) (blk : Block) → slice_get blocks b ≡ Some blk → Contains (step_reads f (block_id b) (step_at blk i)) (name x) → Contains used_marks (b, x, i)
  used-has b x i blk e m = by (at blk i) m
    where
      in-used : Contains (block_used b blk) (b, x, i) → Contains used_marks (b, x, i)
      in-used n = Contains-append_left (gather block_used 0 blocks) (gather (block_phis_used blocks es) 0 blocks) (b, x, i) (in-block blocks block_used b blk (b, x, i) e n)

      by-target : (s : BlockId) → Contains (edges blk.term) s → (o : Option Block) → slice_get blocks s.0 ≡ o → Contains (phis_read (block_id b) o) (name x) → i ≡ end_index blk → Contains used_marks (b, x, i)
      by-target s l None o n q = absurd (none (name x) n)
      by-target s l (Some target) o n q = Contains-append_right (gather block_used 0 blocks) (gather (block_phis_used blocks es) 0 blocks) (b, x, i) (in-block blocks (block_phis_used blocks es) s.0 target (b, x, i) o (subst (λ j. Contains (phis_used blocks es s.0 target.phis) (b, x, j)) (sym q) (phis-has blocks es s.0 b x blk e (edge-holds blocks es sorted b s.0 blk e l) target.phis n)))

      by : {s : Step} → At blk i s → Contains (step_reads f (block_id b) s) (name x) → Contains used_marks (b, x, i)
      by (at_phi phi p) n = absurd (none (name x) n)
      by (at_inst k inst q p) n = in-used (Contains-append_left (gather (inst_used b) (length blk.phis) blk.insts) (marks b (end_index blk) (term_reads blk.term)) (b, x, i) (subst (λ j. Contains (gather (inst_used b) (length blk.phis) blk.insts) (b, x, j)) (sym q) (Contains-insts (λ inst. inst_reads inst.what) b (length blk.phis) blk.insts k inst x p n)))
      by (at_term q) n = elim (Contains-append_cases (term_reads blk.term) (flat_map (phis-into b) (edges blk.term)) (name x) n) [ inl k ↦ in-used (Contains-append_right (gather (inst_used b) (length blk.phis) blk.insts) (marks b (end_index blk) (term_reads blk.term)) (b, x, i) (subst (λ j. Contains (marks b (end_index blk) (term_reads blk.term)) (b, x, j)) (sym q) (Contains-marks b (end_index blk) (term_reads blk.term) x k))) | inr k ↦ (let r = flat-from (phis-into b) (edges blk.term) (name x) k in by-target r.0 r.1 (slice_get blocks r.0.0) refl (subst (λ o. Contains (phis_read (block_id b) o) (name x)) (block-at r.0) r.2) q) ]
      by (at_none q) n = absurd (none (name x) n)
