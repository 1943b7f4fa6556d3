-- The search after a component of a new node begins, and where a target is done.
use Rattle.std.proofs.Common.{◌≡◌, ◌⊎◌, ℕ, ◌+◌, ◌-◌, ◌<◌, ◌≤◌, true, List, [], ◌∷◌, ◌++◌, length, sym, ap, ◌∙◌, subst, arith, inl, inr, Contains, slice_get, slice_set, Some}
use Rattle.graph_cycles.specs.declared.search.Mark.{Mark}
use Rattle.graph_cycles.specs.declared.search.Mark.TheVariants as mark
use Rattle.graph_cycles.specs.declared.search.Start.{Start}
use Rattle.graph_cycles.specs.Cycles.{Graph, successors, Reaches, LeadsTo}
use Rattle.graph_cycles.specs.code.Search.{is_done, IsMet, done, inside, waits, IsComponent, AreComponents, IsSearch, fresh}
use Rattle.graph_cycles.proofs.Lists.{same-or, contains-get, get-contains, get-within, get-left, get-right, get-cases, push-cases, push-end, length-push, length-both, set-same, set-other, length-set}
use Rattle.graph_cycles.proofs.Walks.{stays, then-edge, reaches-of}
use Rattle.graph_cycles.proofs.Components.{first-member-push, join, refit-last, change, all-ahead}

pub mark-same : (p q : ℕ) → Some (mark.Open p) ≡ Some (mark.Open q) → p ≡ q
mark-same p q e = cc

module _ (g : Graph) (marks : List Mark) (opens targets : List ℕ) (v : ℕ) (ss : List Start) (fits : (before : List Start) (last : Start) → ss ≡ before ++ last ∷ [] → last.targets ≤ length targets) (s : IsSearch g marks opens (targets ++ v ∷ []) ss) where
  abbrev wait : List ℕ
  wait = targets ++ v ∷ []

  pub refitted : AreComponents g marks opens wait (length opens) (length targets) ss
  refitted = refit-last g marks opens wait (length opens) (length wait) (length targets) ss fits s.components

  pub led : (j u : ℕ) → j < length opens → slice_get opens j ≡ Some u → LeadsTo g u v
  led = all-ahead g marks opens targets v (length wait) ss s.first s.components fits

  -- the target was not met
  module _ (unseen : slice_get marks v ≡ Some mark.Unseen) where
    abbrev M : List Mark
    M = slice_set marks v (mark.Open (length opens))

    abbrev O : List ℕ
    O = opens ++ v ∷ []

    abbrev T : List ℕ
    T = targets ++ successors g v

    at-v : slice_get M v ≡ Some (mark.Open (length opens))
    at-v = set-same marks v (mark.Open (length opens)) (get-within marks v mark.Unseen unseen)

    at-other : (w : ℕ) → (slice_get marks w ≡ Some mark.Unseen → ⊥) → slice_get M w ≡ slice_get marks w
    at-other w n = set-other marks v w (mark.Open (length opens)) (λ e. n (subst (λ z. slice_get marks z ≡ Some mark.Unseen) e unseen))

    at-any : (w : ℕ) → (v ≡ w) ⊎ (slice_get M w ≡ slice_get marks w)
    at-any w = elim (same-or v w) [ inl e ↦ inl e | inr n ↦ inr (set-other marks v w (mark.Open (length opens)) n) ]

    done-still : (w : ℕ) → is_done (slice_get marks w) ≡ true → is_done (slice_get M w) ≡ true
    done-still w d = ap is_done (at-other w (λ e. cc)) ∙ d

    done-before : (w : ℕ) → is_done (slice_get M w) ≡ true → is_done (slice_get marks w) ≡ true
    done-before w d = elim (at-any w) [ inl e ↦ absurd (let h : slice_get M w ≡ Some (mark.Open (length opens)) = subst (λ z. slice_get M z ≡ Some (mark.Open (length opens))) e at-v in cc) | inr h ↦ ap is_done (sym h) ∙ d ]

    open-still : (w p : ℕ) → slice_get marks w ≡ Some (mark.Open p) → slice_get M w ≡ Some (mark.Open p)
    open-still w p e = at-other w (λ u. cc) ∙ e

    old-open : (j u : ℕ) → j < length opens → slice_get O j ≡ Some u → slice_get opens j ≡ Some u
    old-open j u l e = sym (get-left opens (v ∷ []) j l) ∙ e

    v-is : (w : ℕ) → v ≡ w → slice_get M w ≡ Some (mark.Open (length opens))
    v-is w e = subst (λ z. slice_get M z ≡ Some (mark.Open (length opens))) e at-v

    reach : (j u : ℕ) → slice_get O j ≡ Some u → Reaches g u v
    reach j u e = elim (push-cases opens v j u e) [ inl h ↦ reaches-of g u v (led j u h.0 h.1) | inr h ↦ stays g u v (sym h.1) ]

    met-still : (x : Start) (w : ℕ) → x.members < length opens → IsMet marks wait x w → IsMet M T x w
    met-still x w l (done d) = done (done-still w d)
    met-still x w l (inside p e m h) = inside p (open-still w p e) m h
    met-still x w l (waits q le e) = elim (push-cases targets v q w e) [ inl h ↦ waits q le (get-left targets (successors g v) q h.0 ∙ h.1) | inr h ↦ inside (length opens) (v-is w h.1) (omega (arith, l)) (inr l) ]

    waiting : (x : Start) (u w : ℕ) → x.targets ≤ length targets → v ≡ u → Contains (successors g u) w → IsMet M T x w
    waiting x u w le e c =
        let k = contains-get (successors g v) w (subst (λ z. Contains (successors g z) w) (sym e) c) in
        waits (length targets + k.0) (omega (arith, le)) (get-right targets (successors g v) k.0 ∙ k.1)

    ahead-new : (q j u t : ℕ) → length targets ≤ q → slice_get O j ≡ Some u → slice_get (successors g v) (q - length targets) ≡ Some t → LeadsTo g u t
    ahead-new q j u t l e f = then-edge g u v t (reach j u e) (get-contains (successors g v) (q - length targets) t f)

    still : (x : Start) (a b : ℕ) → a ≤ length opens → b ≤ length targets → IsComponent g marks opens wait x a b → IsComponent g M O T x a b
    still x a b la lb c =
        let ne = c.nonempty in
        let fi = c.fits in
        record {
          nonempty = c.nonempty;
          fits = c.fits;
          back = λ j r u mj ja er eu. c.back j r u mj ja (old-open x.members r (omega (arith, ne, la)) er) (old-open j u (omega (arith, ja, la)) eu);
          cyclic = λ f j u mj ja eu. c.cyclic f j u mj ja (old-open j u (omega (arith, ja, la)) eu);
          single = c.single;
          ahead = λ q j u t lq ja eu et. elim (get-cases targets (successors g v) q t et) [ inl h ↦ c.ahead q j u t lq ja (old-open j u (omega (arith, ja, la)) eu) (get-left targets (v ∷ []) q h.0 ∙ h.1) | inr h ↦ ahead-new q j u t h.0 eu h.1 ];
          met = λ j u w mj eu cw. elim (push-cases opens v j u eu) [ inl h ↦ met-still x w (omega (arith, ne, la)) (c.met j u w mj h.1 cw) | inr h ↦ waiting x u w (omega (arith, fi, lb)) h.1 cw ];
        }

    abbrev new : Start
    new = fresh (length opens) (length targets)

    last-is : (j u : ℕ) → length opens ≤ j → slice_get O j ≡ Some u → v ≡ u
    last-is j u l e = elim (push-cases opens v j u e) [ inl h ↦ absurd (omega (arith, l, h.0)) | inr h ↦ h.1 ]

    begun : IsComponent g M O T new (length O) (length T)
    begun =
        let lo = length-push opens v in
        let lt = length-both targets (successors g v) in
        record {
          nonempty = omega (arith, lo);
          fits = omega (arith, lt);
          back = λ j r u mj ja er eu. stays g u r (sym (last-is j u mj eu) ∙ last-is (length opens) r (omega arith) er);
          cyclic = λ f j u mj ja eu. cc;
          single = λ f. lo;
          ahead = λ q j u t lq ja eu et. elim (get-cases targets (successors g v) q t et) [ inl h ↦ absurd (omega (arith, lq, h.0)) | inr h ↦ ahead-new q j u t h.0 eu h.1 ];
          met = λ j u w mj eu cw. waiting new u w (omega arith) (last-is j u mj eu) cw;
        }

    opened-new : (w p : ℕ) → slice_get M w ≡ Some (mark.Open p) → slice_get O p ≡ Some w
    opened-new w p e = elim (at-any w) [ inl q ↦ (let n : length opens ≡ p = mark-same (length opens) p (sym (v-is w q) ∙ e) in subst (λ z. slice_get O z ≡ Some w) n (push-end opens v ∙ ap Some q)) | inr h ↦ (let o = s.numbered.opened w p (sym h ∙ e) in get-left opens (v ∷ []) p (get-within opens p w o) ∙ o) ]

    marked-new : (w p : ℕ) → slice_get O p ≡ Some w → slice_get M w ≡ Some (mark.Open p)
    marked-new w p e = elim (push-cases opens v p w e) [ inl h ↦ open-still w p (s.numbered.marked w p h.1) | inr h ↦ v-is w h.1 ∙ ap (λ z. Some (mark.Open z)) (sym h.0) ]

    pub IsSearch-begun : IsSearch g M O T (ss ++ new ∷ [])
    IsSearch-begun = record {
      sized = length-set marks v (mark.Open (length opens)) ∙ s.sized;
      numbered = record { opened = opened-new; marked = marked-new };
      ahead = λ i j u w ij eu ew. elim (push-cases opens v j w ew) [ inl h ↦ s.ahead i j u w ij (old-open i u (omega (arith, ij, h.0)) eu) h.1 | inr h ↦ subst (λ z. Reaches g u z) h.1 (reach i u eu) ];
      closed = λ x w d c. done-still w (s.closed x w (done-before x d) c);
      right = λ x b e. elim (at-any x) [ inl q ↦ absurd (let h = v-is x q in cc) | inr h ↦ s.right x b (sym h ∙ e) ];
      components = join g M O T (length O) (length T) ss new (change g marks opens wait M O T (length opens) (length targets) still ss refitted) begun;
      first = first-member-push (length O) ss new ∙ s.first;
    }

  -- the target is done
  module _ (is : is_done (slice_get marks v) ≡ true) where
    met-done : (x : Start) (w : ℕ) → IsMet marks wait x w → IsMet marks targets x w
    met-done x w (done d) = done d
    met-done x w (inside p e m h) = inside p e m h
    met-done x w (waits q le e) = elim (push-cases targets v q w e) [ inl h ↦ waits q le h.1 | inr h ↦ done (subst (λ z. is_done (slice_get marks z) ≡ true) h.1 is) ]

    rest : (x : Start) (a b : ℕ) → a ≤ length opens → b ≤ length targets → IsComponent g marks opens wait x a b → IsComponent g marks opens targets x a b
    rest x a b la lb c = record {
      nonempty = c.nonempty;
      fits = c.fits;
      back = c.back;
      cyclic = c.cyclic;
      single = c.single;
      ahead = λ q j u t lq ja eu et. c.ahead q j u t lq ja eu (get-left targets (v ∷ []) q (get-within targets q t et) ∙ et);
      met = λ j u w mj eu cw. met-done x w (c.met j u w mj eu cw);
    }

    pub IsSearch-done : IsSearch g marks opens targets ss
    IsSearch-done = record {
      sized = s.sized;
      numbered = s.numbered;
      ahead = s.ahead;
      closed = s.closed;
      right = s.right;
      components = change g marks opens wait marks opens targets (length opens) (length targets) rest ss refitted;
      first = s.first;
    }
