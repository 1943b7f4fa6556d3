-- Searches whose nodes have places below the budget, one node a place.
use Rattle.std.proofs.Common.{◌≡◌, ℕ, zero, suc, ◌+◌, ◌<◌, ◌≤◌, List, [], ◌∷◌, ◌++◌, length, Some, refl, sym, ap, ◌∙◌, subst, arith}
use Rattle.std.proofs.lemmas.Option.{same_Some}
use Rattle.std.specs.Prelude.{false, slice_get}
use Rattle.path_search.specs.declared.reason.Reason.{Reason}
use Rattle.path_search.specs.Openings.{Opening}
use Rattle.path_search.specs.Paths.{Bad, IsEnd, Search, end_from, successors}
use Rattle.path_search.specs.Verdict.{Accepts, Forbids, back, bad, over}
use Rattle.path_search.proofs.Count.{holes}
use Rattle.path_search.proofs.Frontier.{get_some, listed, place}
use Rattle.path_search.proofs.Order.{Numbers, equal, irrefl, less, more, numbers}
use Rattle.path_search.proofs.Walks.{end_cons, end_front, end_none, end_push, one_end}

-- the nodes of a kind go on to nodes of that kind, none is bad, each has a place below the budget, no two have one place, and without
-- loops none leads back to itself
pub record Settles {N K : Type 0} (s : Search N K) (Settled : N → Type 0) (at : N → ℕ) : Type 0 where
  pub start : Settled s.start
  pub permitted : (g : N) (k : K) → Settled g → s.turn g ≡ Bad k → ⊥
  pub leads : (g h : N) (i : ℕ) → Settled g → slice_get (successors s g) i ≡ Some h → Settled h
  pub within : (g : N) → Settled g → at g < s.budget
  pub one : (g h : N) → Settled g → Settled h → at g ≡ at h → g ≡ h
  pub onward : s.loops ≡ false → (g h : N) (i : ℕ) (q : List ℕ) → Settled h → end_from s h q ≡ Some g → slice_get (successors s g) i ≡ Some h → ⊥

-- the last index of a list that is one longer than a number
index-below : (a b c : ℕ) → a < b → c ≡ b → a < c
index-below a b c h e = omega (arith, h, e)

too-many : (n : ℕ) → suc n ≤ n → ⊥
too-many n h = omega (arith, h)

module _ {N K : Type 0} (s : Search N K) (Settled : N → Type 0) (at : N → ℕ) (settles : Settles s Settled at) where
  -- what a walk leads to from a node of the kind is of the kind
  pub reached : (p : List ℕ) (a g : N) → Settled a → end_from s a p ≡ Some g → Settled g
  reached [] a g h e = subst Settled (one_end s a a g [] (end_none s a) e) h
  reached (i ∷ p) a g h e = let b = end_cons s a g i p e in reached p b.by g (settles.leads a b.by i h b.is) b.gives

  -- path number i of an opening ends at the place j
  record EndsAt (qs : List (List ℕ)) (i j : ℕ) : Type 0 where
    path : List ℕ
    node : N
    is : slice_get qs i ≡ Some path
    ends : IsEnd s path node
    settled : Settled node
    place : at node ≡ j

  module _ (qs : List (List ℕ)) (o : Opening s qs) where
    give : (i : ℕ) → i < length qs → (j : ℕ) × (j < s.budget) × EndsAt qs i j
    give i h =
        let q = get_some qs i h in
        let t = o.simple q.0 (listed qs i q.0 q.1) in
        let w = reached q.0 s.start t.0 settles.start t.1.ends in
        (at t.0, settles.within t.0 w, record { path = q.0; node = t.0; is = q.1; ends = t.1.ends; settled = w; place = refl })

    one-index : (a b : ℕ) (q : List ℕ) → slice_get qs a ≡ Some q → slice_get qs b ≡ Some q → Numbers a b → a ≡ b
    one-index a b q u v (less h) = absurd (irrefl q (o.ordered a b q q h u v))
    one-index a b q u v (equal e) = e
    one-index a b q u v (more h) = absurd (irrefl q (o.ordered b a q q h v u))

    own : (a b j : ℕ) → EndsAt qs a j → EndsAt qs b j → a ≡ b
    own a b j u v =
        let n : u.node ≡ v.node = settles.one u.node v.node u.settled v.settled (u.place ∙ sym v.place) in
        let d : u.path ≡ v.path = o.distinct u.path v.path v.node (listed qs a u.path u.is) (listed qs b v.path v.is) (subst (IsEnd s u.path) n u.ends) v.ends in
        one-index a b v.path (u.is ∙ ap Some d) v.is (numbers a b)

    -- no opening is longer than the budget
    few : length qs ≤ s.budget
    few = holes s.budget (length qs) (EndsAt qs) give (λ a b j h k u v. own a b j u v)

  forbids-none : (p : List ℕ) (g : N) (r : Reason K) → IsEnd s p g → Forbids s p g r → ⊥
  forbids-none p g r e (over h) = too-many s.budget (let f = few h.paths h.opening in let n = h.number in omega (arith, f, n))
  forbids-none p g r e (bad {k} h) = settles.permitted g k (reached p s.start g settles.start e) h
  forbids-none p g r e (back h) =
      let on = h.on in
      let rest = end_front s s.start g on.path on.prefix.rest (ap (λ w. end_from s s.start w) (sym on.prefix.whole) ∙ e) in
      let same : rest.by ≡ h.to = same_Some rest.by h.to (sym rest.is ∙ on.ends) in
      let i = place (successors s g) h.to h.edge in
      settles.onward h.closed g h.to i.0 on.prefix.rest (reached on.path s.start h.to settles.start on.ends)
      (subst (λ b. end_from s b on.prefix.rest ≡ Some g) same rest.gives) i.1

  pub settled-accepts : Accepts s
  settled-accepts p g r c = forbids-none p g r c.simple.ends c.reason

-- ---- searches in which each node has one successor, at the next place

-- a path of first choices
abbrev pub first_choices : ℕ → List ℕ
first_choices zero = []
first_choices (suc n) = 0 ∷ first_choices n

first-more : (n : ℕ) → first_choices n ++ 0 ∷ [] ≡ first_choices (suc n)
first-more zero = refl
first-more (suc n) = ap (λ l. 0 ∷ l) (first-more n)

-- from places to places, one at a time
pub record GoesStraight {N K : Type 0} (s : Search N K) (Fits : N → Type 0) (at : N → ℕ) : Type 0 where
  pub start : Fits s.start
  pub first : at s.start ≡ 0
  pub permitted : (g : N) (k : K) → Fits g → s.turn g ≡ Bad k → ⊥
  pub leads : (g h : N) (i : ℕ) → Fits g → slice_get (successors s g) i ≡ Some h → (i ≡ 0) × Fits h × (at h ≡ suc (at g))

module _ {N K : Type 0} (s : Search N K) (Fits : N → Type 0) (at : N → ℕ) (goes : GoesStraight s Fits at) where
  record IsReached (g : N) : Type 0 where
    fits : Fits g
    ends : IsEnd s (first_choices (at g)) g

  fits-on : (q : List ℕ) (h g : N) → Fits h → end_from s h q ≡ Some g → Fits g
  fits-on [] h g f e = subst Fits (one_end s h h g [] (end_none s h) e) f
  fits-on (i ∷ q) h g f e = let b = end_cons s h g i q e in fits-on q b.by g (goes.leads h b.by i f b.is).1 b.gives

  -- along a walk places rise
  rises : (q : List ℕ) (h g : N) → Fits h → end_from s h q ≡ Some g → at h ≤ at g
  rises [] h g f e = subst (λ x. at h ≤ at x) (one_end s h h g [] (end_none s h) e) (omega arith)
  rises (i ∷ q) h g f e =
      let b = end_cons s h g i q e in
      let n = goes.leads h b.by i f b.is in
      let r = rises q b.by g n.1 b.gives in
      let z = n.2 in
      omega (arith, r, z)

  settles : ((g : N) → Fits g → at g < s.budget) → Settles s IsReached at
  settles within = record {
    start = record { fits = goes.start; ends = subst (λ n. IsEnd s (first_choices n) s.start) (sym goes.first) (end_none s s.start) };
    permitted = λ g k h e. goes.permitted g k h.fits e;
    leads = λ g h i f e.
        let n = goes.leads g h i f.fits e in record {
          fits = n.1;
          ends =
              subst (λ p. IsEnd s p h) (first-more (at g) ∙ ap first_choices (sym n.2))
              (end_push s (first_choices (at g)) g h 0 f.ends (subst (λ k. slice_get (successors s g) k ≡ Some h) n.0 e));
        };
    within = λ g f. within g f.fits;
    one = λ g h u v e. one_end s s.start g h (first_choices (at h)) (subst (λ n. IsEnd s (first_choices n) g) e u.ends) v.ends;
    onward = λ c g h i q u e l.
        let r = rises q h g u.fits e in
        let n = (goes.leads g h i (fits-on q h g u.fits e) l).2 in
        too-many (at g) (omega (arith, r, n));
  }

  pub straight-accepts : ((g : N) → Fits g → at g < s.budget) → Accepts s
  straight-accepts within = settled-accepts s IsReached at (settles within)

  -- a path is one of first choices, as long as the place that it leads to
  record IsStraight (p : List ℕ) (a g : N) : Type 0 where
    fits : Fits g
    first : p ≡ first_choices (length p)
    place : at g ≡ at a + length p

  straight-path : (p : List ℕ) (a g : N) → Fits a → end_from s a p ≡ Some g → IsStraight p a g
  straight-path [] a g f e =
      let same = one_end s a g a [] e (end_none s a) in record {
        fits = subst Fits (sym same) f;
        first = refl;
        place = ap at same ∙ (let z : at a ≡ at a + 0 = omega arith in z);
      }
  straight-path (i ∷ p) a g f e =
      let b = end_cons s a g i p e in
      let n = goes.leads a b.by i f b.is in
      let t = straight-path p b.by g n.1 b.gives in
      let u = n.2 in
      let v = t.place in
      record { fits = t.fits; first = ap (λ k. k ∷ p) n.0 ∙ ap (λ q. 0 ∷ q) t.first; place = omega (arith, u, v) }

  -- what is reached is of the kind, and there is one node at a place
  pub reached-fits : (p : List ℕ) (g : N) → IsEnd s p g → Fits g
  reached-fits p g e = (straight-path p s.start g goes.start e).fits

  pub reached-one : (p q : List ℕ) (g h : N) → IsEnd s p g → IsEnd s q h → at g ≡ at h → g ≡ h
  reached-one p q g h e f z =
      let t = straight-path p s.start g goes.start e in
      let u = straight-path q s.start h goes.start f in
      let a = t.place in
      let b = u.place in
      let long : length p ≡ length q = omega (arith, a, b, z) in
      one_end s s.start g h q (subst (λ w. IsEnd s w g) (t.first ∙ ap first_choices long ∙ sym u.first) e) f
