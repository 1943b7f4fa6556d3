-- The verdict, from the paths found by a visit.
use Rattle.std.proofs.Common.{◌≡◌, ℕ, zero, suc, ◌<◌, ◌≤◌, List, [], ◌∷◌, ◌++◌, length, Some, refl, sym, ap, ◌∙◌, subst, arith}
use Rattle.std.specs.Prelude.{slice_get, Contains}
use Rattle.std.proofs.lemmas.Option.{same_Some}
use Rattle.std.proofs.lemmas.List.Elements.{Contains-push_cases}
use mathlib.Core.Logic.{◌⊎◌, inl, inr}
use Rattle.path_search.specs.Paths.{Turn, Next, Bad, Search, successors, onward, IsEnd, IsBefore, IsSimple}
use Rattle.path_search.specs.Openings.{IsLast, Opening}
use Rattle.path_search.specs.Verdict.{IsOver, IsBack, Forbids, over, bad, back, Candidate, Accepts, Refuses}
use Rattle.path_search.specs.declared.reason.Reason.{Reason}
use Rattle.path_search.specs.declared.reason.Reason.TheVariants.{OverBudget, BadNode, LeadsBack}
use Rattle.path_search.proofs.Order.{trans, before_more, Order, lower, same, higher, order, less, equal, more, numbers}
use Rattle.path_search.proofs.Walks.{one_end}
use Rattle.path_search.specs.code.Frontier.{Frontier, Checked}
use Rattle.path_search.proofs.Frontier.{finds, opens, ends_all, place, get_within}
use Rattle.path_search.proofs.Count.{no_more}
use Rattle.path_search.proofs.Back.{none_back}

length_push : {A : Type 0} (xs : List A) (x : A) → length (xs ++ x ∷ []) ≡ suc (length xs)
length_push [] x = refl
length_push (y ∷ xs) x = ap suc (length_push xs x)

get_last : {A : Type 0} (xs : List A) (x : A) → slice_get (xs ++ x ∷ []) (length xs) ≡ Some x
get_last [] x = refl
get_last (y ∷ xs) x = get_last xs x

module _ {N K : Type 0} (s : Search N K) where
  pub checks_none : Checked s []
  checks_none = record { budget = omega arith; good = λ p g k c e f. omega (arith, c.1); straight = λ p g c e f. omega (arith, c.1) }

  pub checks_more : (ps : List (List ℕ)) (w : List ℕ) (h : N) → Checked s ps → IsEnd s w h → length ps < s.budget → ((k : K) → s.turn h ≡ Bad k → ⊥) → (IsBack s w h → ⊥) → Checked s (ps ++ w ∷ [])
  checks_more ps w h c e r g b = record {
    budget = omega (arith, length_push ps w);
    good = λ p m k d f t. good p m k (Contains-push_cases ps w p d) f t;
    straight = λ p m d f t. straight p m (Contains-push_cases ps w p d) f t;
  }
    where
      is_h : (p : List ℕ) (m : N) → w ≡ p → IsEnd s p m → m ≡ h
      is_h p m d f = one_end s s.start m h p f (subst (λ x. IsEnd s x h) d e)

      good : (p : List ℕ) (m : N) (k : K) → Contains ps p ⊎ (w ≡ p) → IsEnd s p m → s.turn m ≡ Bad k → ⊥
      good p m k (inl d) f t = c.good p m k d f t
      good p m k (inr d) f t = g k (subst (λ x. s.turn x ≡ Bad k) (is_h p m d f) t)

      straight : (p : List ℕ) (m : N) → Contains ps p ⊎ (w ≡ p) → IsEnd s p m → IsBack s p m → ⊥
      straight p m (inl d) f t = c.straight p m d f t
      straight p m (inr d) f t = b (subst (λ x. IsBack s x h) (sym d) (subst (IsBack s p) (is_h p m d f) t))

  -- the ends of an opening whose last path is before a position are found
  within : (pos : List ℕ) (ps qs : List (List ℕ)) (p : List ℕ) → Frontier s pos ps → Opening s qs → IsLast qs p → IsBefore p pos → length qs ≤ length ps
  within pos ps qs p f o l b = no_more s ps qs o (λ q g c e. f.covers q g (simple q g c e) (upto q (place qs q c)))
    where
      simple : (q : List ℕ) (g : N) → Contains qs q → IsEnd s q g → IsSimple s q g
      simple q g c e = let t = o.simple q c in subst (IsSimple s q) (one_end s s.start t.0 g q t.1.ends e) t.1

      last_at : slice_get qs (length l.0) ≡ Some p
      last_at = subst (λ x. slice_get x (length l.0) ≡ Some p) (sym l.1) (get_last l.0 p)

      size : length qs ≡ suc (length l.0)
      size = ap length l.1 ∙ length_push l.0 p

      upto : (q : List ℕ) → (i : ℕ) × (slice_get qs i ≡ Some q) → IsBefore q pos
      upto q t = elim (numbers t.0 (length l.0)) [
        | less h ↦ trans q p pos (o.ordered t.0 (length l.0) q p h t.1 last_at) b
        | equal h ↦ subst (λ x. IsBefore x pos) (same_Some p q (sym last_at ∙ ap (slice_get qs) (sym h) ∙ t.1)) b
        | more h ↦ absurd (omega (arith, h, size, get_within qs t.0 q t.1))
      ]

  no_successor : (t : Turn N K) (k : K) (h : N) → t ≡ Bad k → Contains (onward t) h → ⊥
  no_successor (Next ns) k h e c = cc
  no_successor (Bad j) k h e c = omega (arith, c.1)

  module _ (decide : (a b : N) → (a ≡ b) ⊎ (a ≡ b → ⊥)) where
    pub clear : (pos : List ℕ) (ps : List (List ℕ)) → Frontier s pos ps → Checked s ps → (q : List ℕ) (g : N) (k : Reason K) → Candidate s q g k → IsBefore q pos → ⊥
    clear pos ps f c q g k h b = why k h.reason
      where
        why : (j : Reason K) → Forbids s q g j → ⊥
        why j (over o) = omega (arith, c.budget, o.number, within pos ps o.paths q f o.opening o.last b)
        why j (bad {k = k} e) = let t = f.covers q g h.simple b in c.good t.path g k t.listed t.ends e
        why j (back o) = none_back s decide pos ps f c.straight o.closed q g h.simple b o

    module _ (w : List ℕ) (ps : List (List ℕ)) (h : N) (f : Frontier s w ps) (c : Checked s ps) (hw : IsSimple s w h) (new : (p : List ℕ) → Contains ps p → IsEnd s p h → ⊥) where
      pub refuses_over : length ps ≡ s.budget → Refuses s h OverBudget
      refuses_over e = record {
        path = w;
        candidate = record { simple = hw; reason = over (record { paths = ps ++ w ∷ []; opening = opens s (w ++ zero ∷ []) (ps ++ w ∷ []) (finds s w ps h f hw new); number = length_push ps w ∙ ap suc e; last = (ps, refl) }) };
        least = λ p g k d b. clear w ps f c p g k d b;
        first = λ o. refl;
      }

      not_over : length ps < s.budget → IsOver s w → ⊥
      not_over l o = omega (arith, l, o.number, length_push ps w, within (w ++ zero ∷ []) (ps ++ w ∷ []) o.paths w (finds s w ps h f hw new) o.opening o.last (before_more w zero []))

      pub refuses_bad : (k : K) → length ps < s.budget → s.turn h ≡ Bad k → Refuses s h (BadNode k)
      refuses_bad k l e = record {
        path = w;
        candidate = record { simple = hw; reason = bad e };
        least = λ p g j d b. clear w ps f c p g j d b;
        first = λ o. absurd (not_over l o);
      }

      pub refuses_back : length ps < s.budget → IsBack s w h → Refuses s h LeadsBack
      refuses_back l e = record {
        path = w;
        candidate = record { simple = hw; reason = back e };
        least = λ p g j d b. clear w ps f c p g j d b;
        first = λ o. absurd (not_over l o);
      }

    pub accepts : (k : ℕ) (ps : List (List ℕ)) → Frontier s (k ∷ []) ps → Checked s ps → length (successors s s.start) ≤ k → Accepts s
    accepts k ps f c l p g j d = clear (k ∷ []) ps f c p g j d (ends_all s k l p g d.simple)

  -- what is found at the end is the longest opening
  pub longest : (k : ℕ) (ps : List (List ℕ)) → Frontier s (k ∷ []) ps → length (successors s s.start) ≤ k → (qs : List (List ℕ)) → Opening s qs → length qs ≤ length ps
  longest k ps f l qs o = no_more s ps qs o (λ q g c d. let t = o.simple q c in f.covers q g (subst (IsSimple s q) (one_end s s.start t.0 g q t.1.ends d) t.1) (ends_all s k l q t.0 t.1))

  -- the verdict is one
  one_reason : (p : List ℕ) (g : N) (k j : Reason K) → Forbids s p g k → Forbids s p g j → (IsOver s p → k ≡ OverBudget) → (IsOver s p → j ≡ OverBudget) → k ≡ j
  one_reason p g k j (over o) b u v = sym (v o)
  one_reason p g k j (bad e) (over o) u v = u o
  one_reason p g k j (bad {k = a} e) (bad {k = b} f) u v = same_bad a b e f
    where
      same_bad : (a b : K) → s.turn g ≡ Bad a → s.turn g ≡ Bad b → BadNode a ≡ BadNode b
      same_bad a b e f = let h : a ≡ b = cc in ap BadNode h
  one_reason p g k j (bad {k = a} e) (back o) u v = absurd (no_successor (s.turn g) a o.to e o.edge)
  one_reason p g k j (back o) (over o') u v = u o'
  one_reason p g k j (back o) (bad {k = a} e) u v = absurd (no_successor (s.turn g) a o.to e o.edge)
  one_reason p g k j (back o) (back o') u v = refl

  pub one_verdict : (g h : N) (k j : Reason K) → Refuses s g k → Refuses s h j → (g ≡ h) × (k ≡ j)
  one_verdict g h k j a b = at (order a.path b.path)
    where
      at : Order a.path b.path → (g ≡ h) × (k ≡ j)
      at (lower l) = absurd (b.least a.path g k a.candidate l)
      at (higher l) = absurd (a.least b.path h j b.candidate l)
      at (same e) =
          let n : g ≡ h = one_end s s.start g h b.path (subst (λ x. IsEnd s x g) e a.candidate.simple.ends) b.candidate.simple.ends in
          (n, one_reason b.path h k j (subst (λ x. Forbids s x h k) e (subst (λ x. Forbids s a.path x k) n a.candidate.reason)) b.candidate.reason (subst (λ x. IsOver s x → k ≡ OverBudget) e a.first) b.first)

  pub not_both : (g : N) (k : Reason K) → Accepts s → Refuses s g k → ⊥
  not_both g k a r = a r.path g k r.candidate
