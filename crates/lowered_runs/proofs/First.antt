-- The first of all configurations is the start, and no edge leads back to it.
use Rattle.std.proofs.Common.{◌≡◌, inl, ℕ, zero, suc, ◌<◌, Some, List, [], ◌∷◌, ◌++◌, length, map, Contains, ⊎_elim, refl, sym, ap, ◌∙◌, subst, arith}
use Rattle.std.specs.Prelude.{slice_get}
use Rattle.path_search.specs.declared.node.Visited.{Visited}
use Rattle.path_search.specs.Explored.{Explored, node}
use Rattle.path_search.specs.Openings.{IsFound, IsLast, ListsAll, Opening}
use Rattle.path_search.specs.Paths.{IsBefore, IsEnd, IsPrefix, IsSimple, Search, end_from}
use Rattle.lowered_runs.proofs.Lookups.{get-map, is-there, look-there, same-some, within}

module _ {N K : Type 0} (s : Search N K) where
  -- the empty path is simple
  empty-prefix : (a : List ℕ) → IsPrefix a [] → a ≡ []
  empty-prefix [] p = refl
  empty-prefix (i ∷ a) p = let w = p.whole in cc

  starts-here : IsEnd s [] s.start
  unfolding end_from
  starts-here = refl

  empty-simple : IsSimple s [] s.start
  empty-simple = record {
    ends = starts-here;
    once = λ a b h p q e f. empty-prefix a p ∙ sym (empty-prefix b q);
  }

  not-before-empty : (p : List ℕ) → IsBefore p [] → ⊥
  unfolding IsBefore
  not-before-empty [] h = h
  not-before-empty (i ∷ p) h = h

  abbrev one-path : List (List ℕ)
  one-path = [] ∷ []

  in-one : (p : List ℕ) → Contains one-path p → p ≡ []
  in-one p (zero, lt, e) = sym e
  in-one p (suc k, lt, e) = absurd (omega (arith, lt))

  last-one : (p : List ℕ) → IsLast one-path p → p ≡ []
  last-one p (front, e) = by-front front e
    where
      by-front : (front : List (List ℕ)) → [] ∷ [] ≡ front ++ p ∷ [] → p ≡ []
      by-front [] e = first (get-first ([] ∷ []) (p ∷ []) e)
        where
          get-first : (xs ys : List (List ℕ)) → xs ≡ ys → slice_get xs 0 ≡ slice_get ys 0
          get-first xs ys e = ap (λ z. slice_get z 0) e

          first : Some [] ≡ Some p → p ≡ []
          first h = sym (same-some [] p h)
      by-front (q ∷ front) e = absurd (too-long front (ap length e))
        where
          too-long : (front : List (List ℕ)) → 1 ≡ suc (length (front ++ p ∷ [])) → ⊥
          too-long [] h = absurd (omega (arith, h))
          too-long (r ∷ front) h = absurd (omega (arith, h))

  not-behind-empty : (q : List ℕ) → (IsBefore [] q → ⊥) → q ≡ []
  unfolding IsBefore
  not-behind-empty [] h = refl
  not-behind-empty (i ∷ q) h = absurd (h tt)

  -- so there is an opening of length one
  first-opening : Opening s one-path
  first-opening = record {
    simple = λ p c. (s.start, subst (λ z. IsSimple s z s.start) (sym (in-one p c)) empty-simple);
    ordered = λ i j p q lt e f. absurd (past i j lt (within one-path j q f));
    distinct = λ p q g c d e f. in-one p c ∙ sym (in-one q d);
    covers = λ last q g l simple h.
        let is-empty : q ≡ [] = not-behind-empty q (λ b. h (subst (λ z. IsBefore z q) (sym (last-one last l)) b)) in
        record {
          path = [];
          listed = (0, omega arith, refl);
          ends = subst (λ z. IsEnd s z g) is-empty simple.ends;
          upto = inl (sym is-empty);
        };
  }
    where
      past : (i j : ℕ) → i < j → j < 1 → ⊥
      past i j a b = absurd (omega (arith, a, b))

  last-there : (ps : List (List ℕ)) → 0 < length ps → (p : List ℕ) × IsLast ps p
  last-there [] lt = absurd (omega (arith, lt))
  last-there (p ∷ []) lt = (p, ([], refl))
  last-there (p ∷ q ∷ ps) lt = let r = last-there (q ∷ ps) (omega arith) in (r.0, (p ∷ r.1.0, ap (λ z. p ∷ z) r.1.1))

  -- the first of all nodes is the start
  module _ (nodes : List N) (lists : ListsAll s nodes) where
    some-path : 0 < length lists.paths
    some-path = let h = lists.longest one-path first-opening in omega (arith, h)

    found : IsFound s lists.paths [] s.start
    found =
        let l = last-there lists.paths some-path in
        lists.opening.covers l.0 [] s.start l.1 empty-simple (not-before-empty l.0)

    found-empty : found.path ≡ []
    found-empty = ⊎_elim (λ e. e) (λ b. absurd (not-before-empty found.path b)) found.upto

    at-first : slice_get lists.paths 0 ≡ Some []
    at-first =
        let c = subst (Contains lists.paths) found-empty found.listed in
        by-index c.0 (look-there lists.paths c.0 [] c.1 ∙ ap Some c.2)
      where
        by-index : (k : ℕ) → slice_get lists.paths k ≡ Some [] → slice_get lists.paths 0 ≡ Some []
        by-index zero e = e
        by-index (suc k) e =
            let f = is-there lists.paths 0 some-path in
            absurd (not-before-empty f.0 (lists.opening.ordered 0 (suc k) f.0 [] (omega arith) f.1 e))

    pub first-node : slice_get nodes 0 ≡ Some s.start
    unfolding end_from
    first-node =
        let f = is-there nodes 0 (let a = lists.number in let b = some-path in omega (arith, a, b)) in
        f.1 ∙ by-end f.0 (lists.ends 0 [] f.0 at-first f.1)
      where
        by-end : (g : N) → IsEnd s [] g → Some g ≡ Some s.start
        by-end g e = sym e

  pub first-visited : {D E : Type 0} (C : N → D → List E → Type 0) (nodes : List (Visited N D E)) → Explored s C nodes → (x : Visited N D E) × (slice_get nodes 0 ≡ Some x) × (x.node ≡ s.start)
  first-visited C nodes explored = get-map node nodes 0 s.start (first-node (map node nodes) explored.lists)
