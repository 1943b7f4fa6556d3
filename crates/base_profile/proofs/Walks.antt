-- The walk as a list, and the positions of blocks on it.
use Rattle.std.proofs.Common.{◌≡◌, ◌⊎◌, inl, inr, ⊎_elim, ℕ, zero, suc, ◌+◌, ◌-◌, ◌<◌, ◌≤◌, ◌==◌, Bool, true, false, if◌then◌else◌, List, [], ◌∷◌, ◌++◌, Option, None, Some, get_or, length, replicate, slice_get, slice_set, refl, sym, ap, ◌∙◌, subst, arith}
use Rattle.std.specs.List.{find}
use Rattle.std.proofs.lemmas.Bool.{cases_lt}
use Rattle.std.proofs.lemmas.Bool.Decides.{nat_tests}
use Rattle.std.proofs.lemmas.Option.{slice_get-get_or}
use Rattle.ir_module.specs.declared.tree.Block.{Block}
use Rattle.profile_rules.specs.Calls.{passes}
use Rattle.profile_rules.specs.Walk.{block_after, branch_from, numbers_from, position_after, target_of}
use Rattle.base_profile.proofs.Lists.{get-left, get-last, get-past, length-last, get-replicate, length-replicate, get-set, get-other, length-set}
use Rattle.base_profile.specs.code.Walked.{IsWalked, Advances, first_after, ArePositionsFrom, ArePositions}

-- ---- the walk

-- after n branches
pub record IsUnderway (blocks : List Block) (n : ℕ) (walk : List ℕ) (next : Option ℕ) : Type 0 where
  pub next_is : next ≡ block_after blocks n
  pub few : length walk ≤ n
  pub goes_on : (b : ℕ) → next ≡ Some b → length walk ≡ n
  pub at : (k : ℕ) → k < n → slice_get walk k ≡ block_after blocks k

pub begun : (blocks : List Block) (walk : List ℕ) → walk ≡ [] → IsUnderway blocks 0 walk (Some 0)
begun blocks walk e = let l = ap length e in record { next_is = refl; few = omega (arith, l); goes_on = λ b q. l; at = λ k m. absurd (omega (arith, m)) }

some≢none : {A : Type 0} (x : A) → Some x ≡ None → ⊥
some≢none x e = cc

pub gone-on : (blocks : List Block) (n b : ℕ) (walk walk' : List ℕ) (next : Option ℕ)
    → IsUnderway blocks n walk (Some b) → walk' ≡ walk ++ b ∷ [] → next ≡ target_of (slice_get blocks b)
    → IsUnderway blocks (n + 1) walk' next
gone-on blocks n b walk walk' next u e t =
    let sized : length walk ≡ n = u.goes_on b refl in
    let longer : length walk' ≡ n + 1 = ap length e ∙ length-last walk b ∙ ap (λ k. k + 1) sized in
    let s : suc n ≡ n + 1 = omega arith in
    record {
      next_is = t ∙ ap (branch_from blocks) u.next_is ∙ ap (block_after blocks) s;
      few = omega (arith, longer);
      goes_on = λ c f. longer;
      at = λ k l. ap (λ w. slice_get w k) e ∙ ⊎_elim
          (λ (lt : k < n). get-left walk (b ∷ []) k (omega (arith, lt, sized)) ∙ u.at k lt)
          (λ (le : n ≤ k). let q : k ≡ n = omega (arith, l, le) in get-last walk b k (omega (arith, q, sized)) ∙ (u.next_is ∙ ap (block_after blocks) (sym q)))
          (cases_lt k n);
    }

pub stayed : (blocks : List Block) (n : ℕ) (walk : List ℕ) → IsUnderway blocks n walk None → IsUnderway blocks (n + 1) walk None
stayed blocks n walk u =
    let f = u.few in
    let s : suc n ≡ n + 1 = omega arith in
    record {
      next_is = ap (branch_from blocks) u.next_is ∙ ap (block_after blocks) s;
      few = omega (arith, f);
      goes_on = λ c f. absurd (some≢none c (sym f));
      at = λ k l. ⊎_elim (λ (lt : k < n). u.at k lt)
          (λ (le : n ≤ k). let q : k ≡ n = omega (arith, l, le) in get-past walk k (omega (arith, f, le)) ∙ (u.next_is ∙ ap (block_after blocks) (sym q)))
          (cases_lt k n);
    }

pub advanced : (blocks : List Block) (n : ℕ) (walk walk' : List ℕ) (at after : Option ℕ)
    → IsUnderway blocks n walk at → Advances blocks at walk walk' after → IsUnderway blocks (n + 1) walk' after
advanced blocks n walk walk' (Some b) after u a = gone-on blocks n b walk walk' after u a.0 a.1
advanced blocks n walk walk' None after u a = subst (λ w. IsUnderway blocks (n + 1) w after) (sym a.0) (subst (IsUnderway blocks (n + 1) walk) (sym a.1) (stayed blocks n walk u))

pub walked : (blocks : List Block) (n : ℕ) (walk : List ℕ) (next : Option ℕ) → n ≡ length blocks → IsUnderway blocks n walk next → IsWalked blocks walk
walked blocks n walk next e u = let f = u.few in record { few = omega (arith, e, f); at = λ k l. u.at k (omega (arith, e, l)) }

-- ---- positions

module _ (blocks : List Block) where
  abbrev meets : ℕ → ℕ → Bool
  meets b k = passes (block_after blocks k) (λ c. c == b)

  none-after : (b n count : ℕ) → ((k : ℕ) → n ≤ k → k < n + count → block_after blocks k ≡ None) → first_after blocks n count b ≡ None
  none-after b n zero h = refl
  none-after b n (suc count) h =
      let e : meets b n ≡ false = ap (λ o. passes o (λ c. c == b)) (h n (omega arith) (omega arith)) in
      ap (λ t. if t then Some n else find (meets b) (numbers_from (suc n) count)) e
      ∙ none-after b (suc n) count (λ k l m. h k (omega (arith, l)) (omega (arith, m)))

  pub unmet : (walk positions : List ℕ) → IsWalked blocks walk → positions ≡ replicate (length blocks) 0
      → ArePositionsFrom blocks (length walk) (length blocks - length walk) positions
  unmet walk positions w e =
      let f = w.few in
      record {
        sized = ap length e ∙ length-replicate (length blocks) 0;
        exact = λ b l. ap (λ ps. slice_get ps b) e ∙ get-replicate (length blocks) b 0 l
            ∙ sym (ap (λ o. Some (position_after o)) (none-after b (length walk) (length blocks - length walk)
            (λ k p q. sym (w.at k (omega (arith, f, q))) ∙ get-past walk k p)));
      }

  first-is : (n count b : ℕ) → first_after blocks n (suc count) b ≡ (if meets b n then Some n else first_after blocks (suc n) count b)
  first-is n count b = refl

  module _ (walk : List ℕ) (w : IsWalked blocks walk) (n : ℕ) (below : suc n ≤ length walk) (c : ℕ) (here : slice_get walk n ≡ Some c) where
    count : ℕ
    count = length blocks - suc n

    block-is : block_after blocks n ≡ Some c
    block-is = let f = w.few in sym (w.at n (omega (arith, f, below))) ∙ here

    counted : length blocks - n ≡ suc (length blocks - suc n)
    counted = let f = w.few in omega (arith, f, below)

    first-here : (b : ℕ) → c ≡ b → first_after blocks n (length blocks - n) b ≡ Some n
    first-here b e =
        let t : meets b n ≡ true = ap (λ o. passes o (λ c. c == b)) block-is ∙ (let h : (c == b) ≡ true = grind (arith, nat_tests) in h) in
        ap (λ k. first_after blocks n k b) counted ∙ ap (λ t. if t then Some n else first_after blocks (suc n) (length blocks - suc n) b) t

    first-later : (b : ℕ) → (c ≡ b → ⊥) → first_after blocks n (length blocks - n) b ≡ first_after blocks (suc n) (length blocks - suc n) b
    first-later b d =
        let t : meets b n ≡ false = ap (λ o. passes o (λ c. c == b)) block-is ∙ (let h : (c == b) ≡ false = grind (arith, nat_tests, d) in h) in
        ap (λ k. first_after blocks n k b) counted ∙ ap (λ t. if t then Some n else first_after blocks (suc n) (length blocks - suc n) b) t

    same-or-not : (b : ℕ) → (c ≡ b) ⊎ (c ≡ b → ⊥)
    same-or-not b = ⊎_elim (λ (l : c < b). inr (λ e. omega (arith, l, e))) (λ (l : b ≤ c). ⊎_elim (λ (k : b < c). inr (λ e. omega (arith, k, e))) (λ (k : c ≤ b). inl (omega (arith, l, k))) (cases_lt b c)) (cases_lt c b)

    pub met : (positions positions' : List ℕ) → ArePositionsFrom blocks (suc n) (length blocks - suc n) positions
        → positions' ≡ slice_set positions c (suc n)
        → ArePositionsFrom blocks n (length blocks - n) positions'
    met positions positions' h e =
        let s = h.sized in
        record {
          sized = ap length e ∙ length-set positions c (suc n) ∙ h.sized;
          exact = λ b m. ap (λ ps. slice_get ps b) e ∙ ⊎_elim
              (λ (q : c ≡ b). subst (λ z. slice_get (slice_set positions c (suc n)) z ≡ Some (suc n)) q (get-set positions c (suc n) (omega (arith, q, m, s))) ∙ sym (ap (λ o. Some (position_after o)) (first-here b q)))
              (λ (d : c ≡ b → ⊥). get-other positions c b (suc n) d ∙ h.exact b m ∙ sym (ap (λ o. Some (position_after o)) (first-later b d)))
              (same-or-not b);
        }

  pub placed : (walk : List ℕ) → IsWalked blocks walk → (rest : ℕ) (positions positions' : List ℕ) → 0 < rest → rest ≤ length walk
      → ArePositionsFrom blocks rest (length blocks - rest) positions
      → positions' ≡ slice_set positions (get_or walk (rest - 1) 0) rest
      → ArePositionsFrom blocks (rest - 1) (length blocks - (rest - 1)) positions'
  placed walk w zero positions positions' z l h e = absurd (omega (arith, z))
  placed walk w (suc n) positions positions' z l h e =
      let s : suc n - 1 ≡ n = omega arith in
      subst (λ k. ArePositionsFrom blocks k (length blocks - k) positions') (sym s)
      (met walk w n l (get_or walk n 0) (slice_get-get_or walk n 0 (omega (arith, l))) positions positions' h (e ∙ ap (λ k. slice_set positions (get_or walk k 0) (suc n)) s))

  pub all-met : (positions : List ℕ) → ArePositionsFrom blocks 0 (length blocks - 0) positions → ArePositions blocks positions
  all-met positions h =
      let k : length blocks - 0 ≡ length blocks = omega arith in
      record { sized = h.sized; exact = λ b l. h.exact b l ∙ ap (λ n. Some (position_after (first_after blocks 0 n b))) k }
