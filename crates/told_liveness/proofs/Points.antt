-- The points of a function: all others have no step.
use Rattle.std.proofs.Common.{◌≡◌, ◌∙◌, ◌⊎◌, inl, inr, ⊎_elim, ℕ, zero, suc, ◌+◌, ◌-◌, ◌<◌, ◌≤◌, Option, None, Some, List, [], ◌∷◌, length, map, refl, sym, ap, subst, arith, Contains, slice_get}
use Rattle.std.proofs.lemmas.Bool.{cases_lt}
use Rattle.std.proofs.lemmas.Option.{none-some, slice_get_past, slice_get_within}
use Rattle.ir_values.specs.declared.ids.BlockId.{BlockId}
use Rattle.ir_values.specs.declared.ids.FuncId.{FuncId}
use Rattle.ir_module.specs.declared.places.Point.{Point}
use Rattle.ir_module.specs.declared.tree.Block.{Block}
use Rattle.ir_module.specs.declared.tree.Function.{Function}
use Rattle.ir_module.specs.declared.tree.Term.{Term}
use Rattle.ir_module.specs.Edges.{edges}
use Rattle.ir_module.specs.Steps.{Step, PhiAt, InstAt, TermAt, NoStep, from_option, at_end, step_at, step_in, step_of_point}
use Rattle.ir_module.specs.Tree.{blocks_at, blocks_or_none, blocks_of, block_at}
use Rattle.name_flow.specs.Walks.{first_point, successors}
use Rattle.name_flow.proofs.Members.{cases, here, map-cases, none}
use Rattle.told_liveness.proofs.Lists.{all_below, below-has}

-- the block of this number
abbrev numbered : ℕ → BlockId
numbered b = record { 0 = b }

-- how many steps a block has: phis, instructions and the terminator
abbrev size : Option Block → ℕ
size None = 0
size (Some b) = suc (length b.phis + length b.insts)

-- the first n points of a block
abbrev points_in : FuncId → BlockId → ℕ → List Point
points_in g b n = all_below n (λ i. record { func = g; block = b; index = i } ∷ [])

-- all points of a function of this number
abbrev pub points_of : FuncId → Function → List Point
points_of g f = all_below (length (blocks_of f)) (λ b. points_in g (numbered b) (size (block_at f (numbered b))))

-- behind the terminator stands no step
past-end : (t : Term) (n k : ℕ) → n < k → at_end t (k - n) ≡ NoStep
past-end t n k lt = by (k - n) (omega (arith, lt))
  where
    by : (d : ℕ) → 0 < d → at_end t d ≡ NoStep
    by zero h = absurd (omega (arith, h))
    by (suc d) h = refl

-- so none stands past the size of a block
past-block : (b : Block) (i : ℕ) → suc (length b.phis + length b.insts) ≤ i → step_at b i ≡ NoStep
past-block b i le =
    ap (λ o. from_option o PhiAt (from_option (slice_get b.insts (i - length b.phis)) InstAt (at_end b.term (i - (length b.phis + length b.insts))))) (slice_get_past b.phis i (omega (arith, le)))
    ∙ ap (λ o. from_option o InstAt (at_end b.term (i - (length b.phis + length b.insts)))) (slice_get_past b.insts (i - length b.phis) (omega (arith, le)))
    ∙ past-end b.term (length b.phis + length b.insts) i (omega (arith, le))

-- the number of a block is less than how many there are
block-below : (o : Option (List Block)) (b : BlockId) (block : Block) → blocks_at o b ≡ Some block → b.0 < length (blocks_or_none o)
block-below None b block e = absurd (none-some block e)
block-below (Some bs) b block e = slice_get_within bs b.0 block e

-- a point of this function is listed or has no step
pub point-listed : (f : Function) (p : Point) → Contains (points_of p.func f) p ⊎ (step_of_point f p ≡ NoStep)
point-listed f p = by (block_at f p.block) refl
  where
    by : (o : Option Block) → block_at f p.block ≡ o → Contains (points_of p.func f) p ⊎ (step_of_point f p ≡ NoStep)
    by None e = inr (ap (λ o. step_in o p.index) e)
    by (Some b) e =
        ⊎_elim (λ lt. inl (below-has (length (blocks_of f)) (λ n. points_in p.func (numbered n) (size (block_at f (numbered n)))) p.block.0 p (block-below f.blocks p.block b e) (inside lt)))
        (λ le. inr (ap (λ o. step_in o p.index) e ∙ past-block b p.index le)) (cases_lt p.index (size (Some b)))
      where
        inside : p.index < size (Some b) → Contains (points_in p.func p.block (size (block_at f p.block))) p
        inside lt =
            below-has (size (block_at f p.block)) (λ i. record { func = p.func; block = p.block; index = i } ∷ []) p.index p
            (subst (λ o. p.index < size o) (sym e) lt) (here p [])

-- the first points of blocks are of the same function
first-stays : (p q : Point) (bs : List BlockId) → Contains (map (first_point p) bs) q → q.func ≡ p.func
first-stays p q bs c = let r = map-cases (first_point p) bs q c in ap (λ (z : Point). z.func) (sym r.is)

-- and so is the next point of a block
next-stays : (p q : Point) → Contains (record p { index = p.index + 1 } ∷ []) q → q.func ≡ p.func
next-stays p q c =
    ⊎_elim (λ e. ap (λ (z : Point). z.func) (sym e)) (λ n. absurd (none q n)) (cases (record p { index = p.index + 1 }) q [] c)

-- steps lead to points of the same function
pub func-stays : (p : Point) (s : Step) (q : Point) → Contains (successors p s) q → q.func ≡ p.func
func-stays p (PhiAt phi) q c = next-stays p q c
func-stays p (InstAt i) q c = next-stays p q c
func-stays p (TermAt t) q c = first-stays p q (edges t) c
func-stays p NoStep q c = absurd (none q c)
