-- While the nodes of the last component are closed.
use Rattle.std.proofs.Common.{◌≡◌, ℕ, ◌+◌, ◌<◌, nat_le, Bool, true, false, if◌then◌else◌, List, [], ◌∷◌, ◌++◌, take, length, refl, sym, ap, ◌∙◌, subst, arith, inl, inr, slice_get, slice_set, Some, None, Option}
use Rattle.std.proofs.lemmas.Bool.Decides.{nat_tests}
use Rattle.graph_cycles.specs.declared.search.Mark.{Mark}
use Rattle.graph_cycles.specs.declared.search.Mark.TheVariants as mark
use Rattle.graph_cycles.specs.code.Search.{closed_from, AreOpened}
use Rattle.graph_cycles.proofs.Lists.{same-or, below-or, get-within, push-end, length-push, set-same, set-other, take-cases}

le-step : (n k p : ℕ) → n ≡ k + 1 → (p ≡ k → ⊥) → nat_le n p ≡ nat_le k p
le-step n k p e d = elim (below-or k p) [ inl l ↦ (let a : nat_le n p ≡ true = grind (arith, nat_tests) in let b : nat_le k p ≡ true = grind (arith, nat_tests) in a ∙ sym b) | inr l ↦ (elim (same-or p k) [ inl q ↦ absurd (d q) | inr q ↦ (elim (below-or p k) [ inl m ↦ (let a : nat_le n p ≡ false = grind (arith, nat_tests) in let b : nat_le k p ≡ false = grind (arith, nat_tests) in a ∙ sym b) | inr m ↦ absurd (q (omega (arith, l, m))) ]) ]) ]

from-step : (n k : ℕ) (c : Bool) (o : Option Mark) → n ≡ k + 1 → (o ≡ Some (mark.Open k) → ⊥) → closed_from n c o ≡ closed_from k c o
from-step n k c None e d = refl
from-step n k c (Some mark.Unseen) e d = refl
from-step n k c (Some (mark.Open p)) e d = ap (λ b. if b then Some (mark.Closed c) else Some (mark.Open p)) (le-step n k p e (λ q. d (ap (λ z. Some (mark.Open z)) q)))
from-step n k c (Some (mark.Closed b)) e d = refl

from-end : (n : ℕ) (c : Bool) (o : Option Mark) → ((p : ℕ) → o ≡ Some (mark.Open p) → p < n) → o ≡ closed_from n c o
from-end n c None h = refl
from-end n c (Some mark.Unseen) h = refl
from-end n c (Some (mark.Open p)) h = let l = h p refl in let e : nat_le n p ≡ false = grind (arith, nat_tests) in ap (λ b. if b then Some (mark.Closed c) else Some (mark.Open p)) (sym e)
from-end n c (Some (mark.Closed b)) h = refl

module _ (marks : List Mark) (opens : List ℕ) (c : Bool) (a : AreOpened marks opens) where
  pub closing-start : (w : ℕ) → slice_get marks w ≡ closed_from (length opens) c (slice_get marks w)
  closing-start w = from-end (length opens) c (slice_get marks w) (λ p e. get-within opens p w (a.opened w p e))

  module _ (now : List Mark) (zs ys : List ℕ) (v : ℕ) (first : zs ≡ take (length zs) opens) (e : zs ≡ ys ++ v ∷ []) (sized : length now ≡ length marks) (is : (w : ℕ) → slice_get now w ≡ closed_from (length zs) c (slice_get marks w)) where
    at-end : slice_get zs (length ys) ≡ Some v
    at-end = ap (λ l. slice_get l (length ys)) e ∙ push-end ys v

    v-at : slice_get opens (length ys) ≡ Some v
    v-at = (take-cases (length zs) opens (length ys) v (ap (λ l. slice_get l (length ys)) (sym first) ∙ at-end)).1

    v-mark : slice_get marks v ≡ Some (mark.Open (length ys))
    v-mark = a.marked v (length ys) v-at

    pub closing-within : v < length now
    closing-within = let h = get-within marks v (mark.Open (length ys)) v-mark in omega (arith, h, sized)

    pub closing-more : (w : ℕ) → slice_get (slice_set now v (mark.Closed c)) w ≡ closed_from (length ys) c (slice_get marks w)
    closing-more w = elim (same-or v w) [ inl q ↦ subst (λ z. slice_get (slice_set now v (mark.Closed c)) z ≡ closed_from (length ys) c (slice_get marks z)) q at-v | inr n ↦ (set-other now v w (mark.Closed c) n ∙ (is w ∙ from-step (length zs) (length ys) c (slice_get marks w) longer (λ o. n (let g = a.opened w (length ys) o in let z : Some v ≡ Some w = sym v-at ∙ g in cc)))) ]
      where
        longer : length zs ≡ length ys + 1
        longer = ap length e ∙ length-push ys v

        at-v : slice_get (slice_set now v (mark.Closed c)) v ≡ closed_from (length ys) c (slice_get marks v)
        at-v =
            let t : nat_le (length ys) (length ys) ≡ true = grind (arith, nat_tests) in
            set-same now v (mark.Closed c) closing-within
            ∙ (ap (λ b. if b then Some (mark.Closed c) else Some (mark.Open (length ys))) (sym t)
            ∙ ap (closed_from (length ys) c) (sym v-mark))
