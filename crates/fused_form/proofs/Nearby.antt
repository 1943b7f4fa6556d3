-- The first successor of a listed node is listed at most one place behind it.
use Rattle.std.proofs.Common.{◌≡◌, ⊎_elim, ℕ, zero, suc, ◌<◌, ◌≤◌, Some, List, [], ◌∷◌, ◌++◌, length, refl, sym, ap, ◌∙◌, subst, arith}
use Rattle.std.specs.Prelude.{slice_get}
use Rattle.std.proofs.lemmas.Option.{same_Some}
use Rattle.path_search.specs.Openings.{IsLast, ListsAll}
use Rattle.path_search.specs.Paths.{IsBefore, IsEnd, IsSimple, LiesOn, Search, successors}
use Rattle.path_search.proofs.Frontier.{get_some, get_within, listed}
use Rattle.path_search.proofs.Lists.{get_last, length_push}
use Rattle.path_search.proofs.Order.{before_first, equal, irrefl, less, more, numbers, trans}
use Rattle.path_search.proofs.Walks.{one_end, prefix_before, simple_prefix, simple_push}

-- the last element of a list that isn't empty
last-of : {A : Type 0} (xs : List A) → 0 < length xs → (front : List A) × (last : A) × (xs ≡ front ++ last ∷ [])
last-of [] lt = absurd (omega (arith, lt))
last-of (x ∷ []) lt = ([], x, refl)
last-of (x ∷ y ∷ xs) lt = let t = last-of (y ∷ xs) (omega arith) in (x ∷ t.0, t.1, ap (λ z. x ∷ z) t.2)

module _ {N K : Type 0} (s : Search N K) (nodes : List N) (all : ListsAll s nodes) where
  -- what is behind the last path is behind each
  behind-each : (i : ℕ) (p last x : List ℕ) → slice_get all.paths i ≡ Some p → IsLast all.paths last → IsBefore last x → IsBefore p x
  behind-each i p last x at l after =
      let end : slice_get all.paths (length l.0) ≡ Some last = ap (λ ps. slice_get ps (length l.0)) l.1 ∙ get_last l.0 [] last in
      let size : length all.paths ≡ suc (length l.0) = ap length l.1 ∙ length_push l.0 last in
      elim (numbers i (length l.0)) [
        | less h ↦ trans p last x (all.opening.ordered i (length l.0) p last h at end) after
        | equal h ↦ subst (λ z. IsBefore z x) (same_Some last p (sym end ∙ ap (slice_get all.paths) (sym h) ∙ at)) after
        | more h ↦ absurd (omega (arith, h, size, get_within all.paths i p at))
      ]

  module _ (a n : ℕ) (g h : N) (at : slice_get nodes a ≡ Some g) (first : slice_get (successors s g) 0 ≡ Some h) (there : slice_get nodes n ≡ Some h)
      (far : suc a < n) where
    -- the paths to g, to the node that is listed behind it, and to h
    own : (p : List ℕ) × (slice_get all.paths a ≡ Some p)
    own = get_some all.paths a (omega (arith, all.number, get_within nodes a g at))

    to : (p : List ℕ) × (slice_get all.paths n ≡ Some p)
    to = get_some all.paths n (omega (arith, all.number, get_within nodes n h there))

    next : (p : List ℕ) × (slice_get all.paths (suc a) ≡ Some p)
    next = get_some all.paths (suc a) (omega (arith, far, get_within all.paths n to.0 to.1))

    last : (front : List (List ℕ)) × (last : List ℕ) × (all.paths ≡ front ++ last ∷ [])
    last = last-of all.paths (omega (arith, get_within all.paths n to.0 to.1))

    own-next : IsBefore own.0 next.0
    own-next = all.opening.ordered a (suc a) own.0 next.0 (omega arith) own.1 next.1

    next-to : IsBefore next.0 to.0
    next-to = all.opening.ordered (suc a) n next.0 to.0 far next.1 to.1

    own-to : IsBefore own.0 to.0
    own-to = trans own.0 next.0 to.0 own-next next-to

    own-ends : IsEnd s own.0 g
    own-ends = all.ends a own.0 g own.1 at

    own-simple : IsSimple s own.0 g
    own-simple =
        let w = all.opening.simple own.0 (listed all.paths a own.0 own.1) in
        subst (IsSimple s own.0) (one_end s s.start w.0 g own.0 w.1.ends own-ends) w.1

    -- a simple path to h that is not behind the last is the listed one, or behind it
    found : (x : List ℕ) → IsSimple s x h → (IsBefore last.1 x → ⊥) → (IsBefore x to.0 → ⊥) × ((to.0 ≡ x → ⊥) → IsBefore to.0 x)
    found x simple in-front =
        let f = all.opening.covers last.1 x h (last.0, last.2) simple in-front in
        let same : f.path ≡ to.0 = all.opening.distinct f.path to.0 h f.listed (listed all.paths n to.0 to.1) f.ends (all.ends n to.0 h to.1 there) in (
          λ b. ⊎_elim (λ e. irrefl to.0 (subst (λ z. IsBefore z to.0) (sym e ∙ same) b)) (λ u. irrefl x (trans x to.0 x b (subst (λ z. IsBefore z x) same u))) f.upto,
          λ other. ⊎_elim (λ e. absurd (other (sym same ∙ e))) (λ u. subst (λ z. IsBefore z x) same u) f.upto,
        )

    not-on : LiesOn s own.0 h → ⊥
    not-on o =
        let b : IsBefore o.path to.0 = prefix_before o.path own.0 to.0 o.prefix own-to in
        (found o.path (simple_prefix s o.path own.0 g h o.prefix own-simple o.ends)
        (λ after. irrefl to.0 (trans to.0 o.path to.0 (behind-each n to.0 last.1 o.path to.1 (last.0, last.2) after) b))).0 b

    -- nothing that is behind the path to g is before the one that goes on from it first
    abbrev onward : List ℕ
    onward = own.0 ++ zero ∷ []

    not-between : (x : List ℕ) → IsBefore own.0 x → IsBefore x onward → ⊥
    not-between x b c =
        ⊎_elim (λ d. irrefl x (trans x own.0 x d b)) (λ e. irrefl own.0 (subst (IsBefore own.0) e b)) (before_first own.0 x c)

    pub not-far : ⊥
    not-far =
        let simple : IsSimple s onward h = simple_push s own.0 g h 0 own-simple first not-on in
        let f = found onward simple (λ after. not-between next.0 own-next (behind-each (suc a) next.0 last.1 onward next.1 (last.0, last.2) after)) in
        not-between to.0 own-to (f.1 (λ e. not-between next.0 own-next (subst (IsBefore next.0) e next-to)))

  pub first-near : (a n : ℕ) (g h : N) → slice_get nodes a ≡ Some g → slice_get (successors s g) 0 ≡ Some h → slice_get nodes n ≡ Some h → n ≤ suc a
  first-near a n g h at first there = elim (numbers n (suc a)) [
    | less l ↦ omega (arith, l)
    | equal e ↦ omega (arith, e)
    | more l ↦ absurd (not-far a n g h at first there l)
  ]
