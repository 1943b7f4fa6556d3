-- The arcs of a function in order, taken block by block: those into a block come from where its edges come from.
use Rattle.std.proofs.Common.{◌≡◌, ◌⊎◌, inl, inr, ⊎_elim, ℕ, zero, suc, ◌+◌, ◌<◌, ◌≤◌, Bool, true, false, ◌&&◌, cond, List, [], ◌∷◌, ◌++◌, map, filter, refl, sym, ap, ◌∙◌, subst, arith}
use Rattle.std.proofs.lemmas.Bool.Decides.{nat_tests}
use Rattle.std.proofs.lemmas.List.Sorted.{sum_by-IsPermutation}
use Rattle.std.proofs.lemmas.List.Sums.{sum_by-cons, sum_by-append}
use Rattle.std.specs.Cmp.{unsigned_Decides}
use Rattle.std.specs.List.Sorted.{IsSorted}
use Rattle.std.specs.Ordering.{is_lt}
use Rattle.std.specs.Prelude.{◌==◌}
use Rattle.ir_values.specs.declared.ids.BlockId.{BlockId}
use Rattle.ir_module.specs.declared.tree.Block.{Block}
use Rattle.ir_module.specs.Edges.{edges}
use Rattle.type_check.specs.code.Arcs.{Arc, arcs_from, arcs, arc_cmp, SortsArcs, front, others}
use Rattle.type_check.specs.code.Phis.{Follow, arc_times, AreLeft, Ascend, arc_sources, LeadInto}
use Rattle.type_check.specs.Rules.{sources, times}
use Rattle.type_check.proofs.Ordered.{sorted-tail, times-cons, times-both}

-- ---- in order

not-before : (a b c d : ℕ) → is_lt (arc_cmp (c, d) (a, b)) ≡ false → (a < c) ⊎ ((a ≡ c) × (b ≤ d))
not-before a b c d h = by (◌==◌ a c) refl
  where
    by : (t : Bool) → (a == c) ≡ t → (a < c) ⊎ ((a ≡ c) × (b ≤ d))
    by true e = let z : a ≡ c = (unsigned_Decides a c).0 e in let l : b ≤ d = grind (arith, nat_tests) in inr (z, l)
    by false e = let l : a < c = grind (arith, nat_tests) in inl l

follow-from : (x : Arc) (xs : List Arc) → IsSorted arc_cmp (x ∷ xs) → Follow x.0 x.1 xs
follow-from x [] up = tt
follow-from x (y ∷ xs) up = (not-before x.0 x.1 y.0 y.1 (up 0 x (omega arith) (omega arith)), follow-from y xs (sorted-tail arc_cmp x (y ∷ xs) up))

sorted-follow : (xs : List Arc) → IsSorted arc_cmp xs → Follow 0 0 xs
sorted-follow [] up = tt
sorted-follow (x ∷ xs) up = (first x.0, follow-from x xs up)
  where
    first : (n : ℕ) → (0 < n) ⊎ ((0 ≡ n) × (0 ≤ x.1))
    first zero = inr (refl, omega arith)
    first (suc n) = inl (omega arith)

-- ---- how many of each there are

arc-cons : (c q : ℕ) (x : Arc) (xs : List Arc) → arc_times c q (x ∷ xs) ≡ (cond ((x.0 == c) && (x.1 == q)) 1 0) + arc_times c q xs
arc-cons c q x xs = sum_by-cons (λ (a : Arc). cond ((a.0 == c) && (a.1 == q)) 1 0) x xs

arc-both : (c q : ℕ) (xs ys : List Arc) → arc_times c q (xs ++ ys) ≡ arc_times c q xs + arc_times c q ys
arc-both c q xs ys = sum_by-append (λ (a : Arc). cond ((a.0 == c) && (a.1 == q)) 1 0) xs ys

-- an arc to another block
arc-other : (c q : ℕ) (x : Arc) (xs : List Arc) → (x.0 == c) ≡ false → arc_times c q (x ∷ xs) ≡ arc_times c q xs
arc-other c q x xs apart =
    let e : 0 + arc_times c q xs ≡ arc_times c q xs = omega arith in
    arc-cons c q x xs ∙ ap (λ b. cond {A = ℕ} (b && (x.1 == q)) 1 0 + arc_times c q xs) apart ∙ e

-- those from block n
from-is : (c q n : ℕ) (ts : List BlockId) → arc_times c q (arcs_from n ts) ≡ times q (map (λ t. n) (filter (λ t. t.0 == c) ts))
from-is c q n [] = refl
from-is c q n (t ∷ ts) = arc-cons c q (t.0, n) (arcs_from n ts) ∙ by (t.0 == c) (from-is c q n ts)
  where
    kept : List ℕ
    kept = map (λ t. n) (filter (λ t. t.0 == c) ts)

    by : (b : Bool) → arc_times c q (arcs_from n ts) ≡ times q kept → (cond (b && (n == q)) 1 0) + arc_times c q (arcs_from n ts) ≡ times q (map (λ t. n) (cond b (t ∷ filter (λ t. t.0 == c) ts) (filter (λ t. t.0 == c) ts)))
    by true h = ap (λ k. (cond (n == q) 1 0) + k) h ∙ sym (times-cons q n kept)
    by false h = let e : 0 + arc_times c q (arcs_from n ts) ≡ arc_times c q (arcs_from n ts) = omega arith in e ∙ h

arcs-are : (c q n : ℕ) (blocks : List Block) → arc_times c q (arcs n blocks) ≡ times q (sources c n blocks)
arcs-are c q n [] = refl
arcs-are c q n (block ∷ blocks) =
    let e : suc n ≡ n + 1 = omega arith in
    let here = from-is c q n (edges block.term) in
    let rest = arcs-are c q (n + 1) blocks ∙ ap (λ k. times q (sources c k blocks)) (sym e) in
    arc-both c q (arcs_from n (edges block.term)) (arcs (n + 1) blocks)
    ∙ ap (λ k. k + arc_times c q (arcs (n + 1) blocks)) here
    ∙ ap (λ k. times q (map (λ t. n) (filter (λ t. t.0 == c) (edges block.term))) + k) rest
    ∙ sym (times-both q (map (λ t. n) (filter (λ t. t.0 == c) (edges block.term))) (sources c (suc n) blocks))

-- at the beginning all are left
pub all-left : (blocks : List Block) (sorted : List Arc) → SortsArcs blocks sorted → AreLeft blocks 0 sorted
all-left blocks sorted s = record {
  follow = sorted-follow sorted s.ascends;
  same = λ c q l. sum_by-IsPermutation (λ a. cond ((a.0 == c) && (a.1 == q)) 1 0) (arcs 0 blocks) sorted s.same ∙ arcs-are c q 0 blocks;
}

-- ---- one block

-- none leads back to a block
none-back : (c q b s : ℕ) (xs : List Arc) → c < b → Follow b s xs → arc_times c q xs ≡ 0
none-back c q b s [] l f = refl
none-back c q b s (x ∷ xs) l f =
    let up : b ≤ x.0 = ⊎_elim (λ (h : b < x.0). omega (arith, h)) (λ (h : (b ≡ x.0) × (s ≤ x.1)). omega (arith, h.0)) f.0 in
    let apart : (x.0 == c) ≡ false = grind (arith, nat_tests) in
    let h = none-back c q x.0 x.1 xs (omega (arith, l, up)) f.1 in
    arc-other c q x xs apart ∙ h

module _ (b : ℕ) where
  -- from an arc into b on
  front-ascends : (s : ℕ) (xs : List Arc) → Follow b s xs → Ascend s (arc_sources (front b xs))
  front-ascends s [] f = tt
  front-ascends s (x ∷ xs) f = by (x.0 == b) refl (front-ascends x.1 xs)
    where
      by : (t : Bool) → (x.0 == b) ≡ t → (Follow b x.1 xs → Ascend x.1 (arc_sources (front b xs))) → Ascend s (arc_sources (cond t (x ∷ front b xs) []))
      by true e rest =
          let z : x.0 ≡ b = (unsigned_Decides x.0 b).0 e in
          (⊎_elim (λ (h : b < x.0). absurd (omega (arith, h, z))) (λ (h : (b ≡ x.0) × (s ≤ x.1)). h.1) f.0, rest (subst (λ n. Follow n x.1 xs) z f.1))
      by false e rest = tt

  front-same : (s q : ℕ) (xs : List Arc) → Follow b s xs → times q (arc_sources (front b xs)) ≡ arc_times b q xs
  front-same s q [] f = refl
  front-same s q (x ∷ xs) f = by (x.0 == b) refl (front-same x.1 q xs) ∙ sym (arc-cons b q x xs)
    where
      by : (t : Bool) → (x.0 == b) ≡ t → (Follow b x.1 xs → times q (arc_sources (front b xs)) ≡ arc_times b q xs) → times q (arc_sources (cond t (x ∷ front b xs) [])) ≡ (cond (t && (x.1 == q)) 1 0) + arc_times b q xs
      by true e rest =
          let z : x.0 ≡ b = (unsigned_Decides x.0 b).0 e in
          times-cons q x.1 (arc_sources (front b xs)) ∙ ap (λ k. (cond (x.1 == q) 1 0) + k) (rest (subst (λ n. Follow n x.1 xs) z f.1))
      by false e rest =
          let l : b < x.0 = ⊎_elim (λ (h : b < x.0). h) (λ (h : (b ≡ x.0) × (s ≤ x.1)). absurd (equal-not h.0 e)) f.0 in
          let h = none-back b q x.0 x.1 xs l f.1 in
          let g : 0 ≡ 0 + arc_times b q xs = omega (arith, h) in
          g
        where
          equal-not : b ≡ x.0 → (x.0 == b) ≡ false → ⊥
          equal-not z n = let y : (x.0 == b) ≡ true = (unsigned_Decides x.0 b).1 (sym z) in let w : true ≡ false = sym y ∙ n in cc

  others-follow : (s : ℕ) (xs : List Arc) → Follow b s xs → Follow (suc b) 0 (others b xs)
  others-follow s [] f = tt
  others-follow s (x ∷ xs) f = by (x.0 == b) refl (others-follow x.1 xs)
    where
      by : (t : Bool) → (x.0 == b) ≡ t → (Follow b x.1 xs → Follow (suc b) 0 (others b xs)) → Follow (suc b) 0 (cond t (others b xs) (x ∷ xs))
      by true e rest = let z : x.0 ≡ b = (unsigned_Decides x.0 b).0 e in rest (subst (λ n. Follow n x.1 xs) z f.1)
      by false e rest =
          let l : b < x.0 = ⊎_elim (λ (h : b < x.0). h) (λ (h : (b ≡ x.0) × (s ≤ x.1)). absurd (equal-not h.0 e)) f.0 in
          (later (suc b == x.0) refl l, f.1)
        where
          equal-not : b ≡ x.0 → (x.0 == b) ≡ false → ⊥
          equal-not z n = let y : (x.0 == b) ≡ true = (unsigned_Decides x.0 b).1 (sym z) in let w : true ≡ false = sym y ∙ n in cc

          later : (t : Bool) → (suc b == x.0) ≡ t → b < x.0 → (suc b < x.0) ⊎ ((suc b ≡ x.0) × (0 ≤ x.1))
          later true y l = inr ((unsigned_Decides (suc b) x.0).0 y, omega arith)
          later false y l = let m : suc b < x.0 = grind (arith, nat_tests) in inl m

  others-same : (c q : ℕ) (xs : List Arc) → b < c → arc_times c q (others b xs) ≡ arc_times c q xs
  others-same c q [] l = refl
  others-same c q (x ∷ xs) l = by (x.0 == b) refl (others-same c q xs l)
    where
      by : (t : Bool) → (x.0 == b) ≡ t → arc_times c q (others b xs) ≡ arc_times c q xs → arc_times c q (cond t (others b xs) (x ∷ xs)) ≡ arc_times c q (x ∷ xs)
      by true e h =
          let z : x.0 ≡ b = (unsigned_Decides x.0 b).0 e in
          let apart : (x.0 == c) ≡ false = grind (arith, nat_tests) in
          sym (arc-other c q x xs apart ∙ sym h)
      by false e h = refl

module _ (blocks : List Block) (b : ℕ) (arcs : List Arc) (left : AreLeft blocks b arcs) where
  pub front-leads : LeadInto blocks b (front b arcs)
  front-leads = record {
    ascend = front-ascends b 0 arcs left.follow;
    same = λ q. front-same b 0 q arcs left.follow ∙ left.same b q (omega arith);
  }

  pub others-left : (n : ℕ) → n ≡ b + 1 → AreLeft blocks n (others b arcs)
  others-left n e =
      let z : suc b ≡ n = omega (arith, e) in
      record {
        follow = subst (λ k. Follow k 0 (others b arcs)) z (others-follow b 0 arcs left.follow);
        same = λ c q l. let m : b < c = omega (arith, l, z) in let k : b ≤ c = omega (arith, m) in others-same b c q arcs m ∙ left.same c q k;
      }
