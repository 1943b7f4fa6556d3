-- Blocks by their numbers, the edges between them, and the entries of phis.
use Rattle.std.proofs.Common.{◌≡◌, ◌⊎◌, inl, inr, ⊎_elim, ℕ, zero, suc, ◌+◌, ◌<◌, ◌==◌, Bool, true, false, ◌||◌, cond, Option, None, Some, List, [], ◌∷◌, ◌++◌, length, map, filter, slice_get, refl, sym, ◌∙◌, subst, arith}
use Rattle.std.proofs.lemmas.Bool.{and_parts, ltb-true}
use Rattle.std.proofs.lemmas.List.Sums.{sum_by-cons}
use Rattle.std.proofs.lemmas.Option.{slice_get_cases}
use Rattle.std.specs.Cmp.{unsigned_Decides}
use Rattle.std.specs.List.{list_all, list_any}
use Rattle.std.specs.Prelude.{◌≢◌, nat_lt}
use Rattle.ir_module.specs.declared.places.Point.{Point}
use Rattle.ir_module.specs.declared.tree.Block.{Block}
use Rattle.ir_module.specs.declared.tree.Function.{Function}
use Rattle.ir_module.specs.declared.tree.Module.{Module}
use Rattle.ir_module.specs.declared.tree.Phi.{Phi}
use Rattle.ir_module.specs.Edges.{edges}
use Rattle.ir_module.specs.Steps.{PhiAt, step_of_point}
use Rattle.ir_module.specs.Tree.{block_at}
use Rattle.ir_values.specs.declared.ids.BlockId.{BlockId}
use Rattle.ir_values.specs.declared.ids.FuncId.{FuncId}
use Rattle.ir_values.specs.Int.{IntValue}
use Rattle.qir_meaning.specs.Moves.{block_in, target_of}
use Rattle.type_check.specs.Rules.{sources, times}
use Rattle.type_check.proofs.Facts.{step-here, phi-at}

-- ---- blocks

pub phi-step : (f : Function) (p : Point) (c : Block) → block_at f p.block ≡ Some c → (phi : Phi) → slice_get c.phis p.index ≡ Some phi → step_of_point f p ≡ PhiAt phi
phi-step f p c e phi s = step-here f p c e ∙ phi-at c p.index phi s

pub block-in : (m : Module) (g : FuncId) (b : BlockId) (f : Function) → slice_get m.funcs g.0 ≡ Some f → block_in m g b ≡ block_at f b
block-in m g b f e = rw e refl

module _ (f : Function) (bs : List Block) (e : f.blocks ≡ Some bs) (b : BlockId) where
  block-is : block_at f b ≡ slice_get bs b.0
  block-is = rw e refl

  pub block-of : b.0 < length bs → (c : Block) × (block_at f b ≡ Some c)
  block-of h = ⊎_elim (λ q. (q.0, block-is ∙ q.2)) (λ q. absurd (omega (arith, h, q.0))) (slice_get_cases bs b.0).1

no-block : (f : Function) → f.blocks ≡ None → (b : BlockId) → block_at f b ≡ None
no-block f e b = rw e refl

none-some : {A : Type 0} (x : A) → ◌≡◌ {A = Option A} None (Some x) → ⊥
none-some x e = cc

body-by : (f : Function) (b : BlockId) (c : Block) → block_at f b ≡ Some c → (o : Option (List Block)) → f.blocks ≡ o → (bs : List Block) × (f.blocks ≡ Some bs) × (slice_get bs b.0 ≡ Some c)
body-by f b c h None e = absurd (none-some c (sym (no-block f e b) ∙ h))
body-by f b c h (Some bs) e = (bs, e, sym (block-is f bs e b) ∙ h)

-- the body of a function that has a block
pub body-of : (f : Function) (b : BlockId) (c : Block) → block_at f b ≡ Some c → (bs : List Block) × (f.blocks ≡ Some bs) × (slice_get bs b.0 ≡ Some c)
body-of f b c h = body-by f b c h f.blocks refl

-- ---- edges

same-number : (n : ℕ) → (n == n) ≡ true
same-number n = (unsigned_Decides n n).1 refl

or-right : (a b : Bool) → b ≡ true → (a || b) ≡ true
or-right true b e = refl
or-right false b e = e

or-left : (a b : Bool) → a ≡ true → (a || b) ≡ true
or-left true b e = refl
or-left false b e = cc

or-cases : (a b : Bool) → (a || b) ≡ true → (a ≡ true) ⊎ (b ≡ true)
or-cases true b e = inl refl
or-cases false b e = inr e

-- an edge leads to the block
abbrev pub leads : BlockId → List BlockId → Bool
leads b es = list_any (λ (e : BlockId). e.0 == b.0) es

pub edge-below : (n : ℕ) (es : List BlockId) (b : BlockId) → list_all (λ (t : BlockId). nat_lt t.0 n) es ≡ true → leads b es ≡ true → b.0 < n
edge-below n [] b h e = cc
edge-below n (t ∷ es) b h e =
    let p = and_parts (nat_lt t.0 n) (list_all (λ (t : BlockId). nat_lt t.0 n) es) h in
    ⊎_elim
    (λ q. subst (λ x. x < n) ((unsigned_Decides t.0 b.0).0 q) (ltb-true t.0 n p.0))
    (λ q. edge-below n es b p.1 q)
    (or-cases (t.0 == b.0) (leads b es) e)

pub first-edge : (b : BlockId) (es : List BlockId) → leads b (b ∷ es) ≡ true
first-edge b es = or-left (b.0 == b.0) _ (same-number b.0)

pub later-edge : (b c : BlockId) (es : List BlockId) → leads b es ≡ true → leads b (c ∷ es) ≡ true
later-edge b c es h = or-right (c.0 == b.0) _ h

pub target-edge : (i : IntValue) (cases : List (IntValue × BlockId)) (default : BlockId) → leads (target_of i cases default) (map (λ (c : IntValue × BlockId). c.1) cases ++ default ∷ []) ≡ true
target-edge i [] default = first-edge default []
target-edge i (c ∷ cs) default = by-case (c.0.bits == i.bits) (target-edge i cs default)
  where
    by-case : (b : Bool) → leads (target_of i cs default) (map (λ (c : IntValue × BlockId). c.1) cs ++ default ∷ []) ≡ true → leads (cond b c.1 (target_of i cs default)) (c.1 ∷ (map (λ (c : IntValue × BlockId). c.1) cs ++ default ∷ [])) ≡ true
    by-case true h = first-edge c.1 _
    by-case false h = later-edge (target_of i cs default) c.1 _ h

-- ---- the blocks that edges come from

-- the number is among these
abbrev pub among : ℕ → List ℕ → Bool
among q ns = list_any (λ x. x == q) ns

among-left : (q : ℕ) (xs ys : List ℕ) → among q xs ≡ true → among q (xs ++ ys) ≡ true
among-left q [] ys e = cc
among-left q (x ∷ xs) ys e = ⊎_elim (λ h. or-left (x == q) _ h) (λ h. or-right (x == q) _ (among-left q xs ys h)) (or-cases (x == q) (among q xs) e)

among-right : (q : ℕ) (xs ys : List ℕ) → among q ys ≡ true → among q (xs ++ ys) ≡ true
among-right q [] ys e = e
among-right q (x ∷ xs) ys e = or-right (x == q) _ (among-right q xs ys e)

source-here : (to : BlockId) (n q : ℕ) (es : List BlockId) → leads to es ≡ true → n ≡ q → among q (map (λ (t : BlockId). n) (filter (λ (t : BlockId). t.0 == to.0) es)) ≡ true
source-here to n q [] h e = cc
source-here to n q (t ∷ es) h e = by-test (t.0 == to.0) h (λ h'. source-here to n q es h' e)
  where
    by-test : (b : Bool) → (b || leads to es) ≡ true → (leads to es ≡ true → among q (map (λ (t : BlockId). n) (filter (λ (t : BlockId). t.0 == to.0) es)) ≡ true) → among q (map (λ (t : BlockId). n) (cond b (t ∷ filter (λ (t : BlockId). t.0 == to.0) es) (filter (λ (t : BlockId). t.0 == to.0) es))) ≡ true
    by-test true h more = or-left (n == q) _ ((unsigned_Decides n q).1 e)
    by-test false h more = more h

-- a block with an edge to another is among the sources there
pub in-sources : (to : BlockId) (bs : List Block) (n i q : ℕ) (c : Block) → slice_get bs i ≡ Some c → leads to (edges c.term) ≡ true → q ≡ n + i → among q (sources to.0 n bs) ≡ true
in-sources to [] n i q c s e z = cc
in-sources to (d ∷ bs) n zero q c s e z =
    let same : c ≡ d = cc in
    let z' : n ≡ q = omega (arith, z) in
    among-left q (map (λ (t : BlockId). n) (filter (λ (t : BlockId). t.0 == to.0) (edges d.term))) (sources to.0 (suc n) bs) (source-here to n q (edges d.term) (subst (λ b. leads to (edges b.term) ≡ true) same e) z')
in-sources to (d ∷ bs) n (suc i) q c s e z =
    among-right q (map (λ (t : BlockId). n) (filter (λ (t : BlockId). t.0 == to.0) (edges d.term))) (sources to.0 (suc n) bs) (in-sources to bs (suc n) i q c s e (omega (arith, z)))

-- ---- counts

abbrev one-if : ℕ → ℕ → ℕ
one-if q n = cond (n == q) 1 0

all-among : (P : ℕ → Bool) (xs : List ℕ) (q : ℕ) → list_all P xs ≡ true → among q xs ≡ true → P q ≡ true
all-among P [] q h e = cc
all-among P (x ∷ xs) q h e =
    let a = and_parts (P x) (list_all P xs) h in
    ⊎_elim (λ s. subst (λ y. P y ≡ true) ((unsigned_Decides x q).0 s) a.0) (λ s. all-among P xs q a.1 s) (or-cases (x == q) (among q xs) e)

pub times-cons : (q x : ℕ) (xs : List ℕ) → times q (x ∷ xs) ≡ one-if q x + times q xs
times-cons q x xs = sum_by-cons (one-if q) x xs

counted : (xs : List ℕ) (q : ℕ) → among q xs ≡ true → times q xs ≢ 0
counted [] q e z = cc
counted (x ∷ xs) q e z = let s = times-cons q x xs in by-test (x == q) e (omega (arith, s, z)) (λ h. counted xs q h)
  where
    by-test : (b : Bool) → (b || among q xs) ≡ true → cond b 1 0 + times q xs ≡ 0 → (among q xs ≡ true → times q xs ≢ 0) → ⊥
    by-test true h z more = absurd (omega (arith, z))
    by-test false h z more = more h (omega (arith, z))

-- where there are as many entries as edges, each edge has an entry
pub has-entry : (from keys : List ℕ) (q : ℕ) → list_all (λ q. times q from == times q keys) (from ++ keys) ≡ true → among q from ≡ true → times q keys ≢ 0
has-entry from keys q h e z =
    let s = all-among (λ q. times q from == times q keys) (from ++ keys) q h (among-left q from keys e) in
    counted from q e ((unsigned_Decides (times q from) (times q keys)).0 s ∙ z)
