-- Every listed node but the first is a successor of one that is listed before it.
use Rattle.std.proofs.Common.{◌≡◌, ◌∙◌, ℕ, suc, ◌≤◌, Some, List, [], ◌∷◌, ◌++◌, length, refl, sym, ap, subst, arith}
use Rattle.std.specs.Prelude.{slice_get}
use Rattle.std.proofs.lemmas.Option.{same_Some}
use mathlib.Core.Logic.{inl, inr}
use Rattle.path_search.specs.Openings.{IsLast, ListsAll}
use Rattle.path_search.specs.Paths.{IsBefore, IsSimple, Search, successors}
use Rattle.path_search.proofs.Frontier.{get_some, get_within, listed, place}
use Rattle.path_search.proofs.Lists.{get_last}
use Rattle.path_search.proofs.Order.{Numbers, before_more, equal, irrefl, less, more, numbers, trans}
use Rattle.path_search.proofs.Walks.{end_front, end_one, one_end, prefix_more, simple_prefix}
use Rattle.search_verdicts.proofs.Searching.{length-push}

-- a list that isn't empty, and its last element
last-of : {A : Type 0} (x : A) (xs : List A) → (front : List A) × (last : A) × (x ∷ xs ≡ front ++ last ∷ [])
last-of x [] = ([], x, refl)
last-of x (y ∷ xs) = let t = last-of y xs in (x ∷ t.0, t.1, ap (λ z. x ∷ z) t.2)

none-before-first : (p : List ℕ) → IsBefore p [] → ⊥
unfolding IsBefore
none-before-first [] b = b
none-before-first (i ∷ p) b = b

module _ {N K : Type 0} (s : Search N K) (nodes : List N) (all : ListsAll s nodes) where
  -- a node that leads to h, among the first i and the next
  pub record IsParent (i : ℕ) (h : N) : Type 0 where
    pub at : ℕ
    pub before : at ≤ i
    pub parent : N
    pub is : slice_get nodes at ≡ Some parent
    pub choice : ℕ
    pub leads : slice_get (successors s parent) choice ≡ Some h

  -- a path before another one that is listed is before the last one
  not-after : (i : ℕ) (p q last : List ℕ) → slice_get all.paths i ≡ Some p → IsBefore q p → IsLast all.paths last → IsBefore last q → ⊥
  not-after i p q last at b l after =
      let end : slice_get all.paths (length l.0) ≡ Some last = ap (λ ps. slice_get ps (length l.0)) l.1 ∙ get_last l.0 [] last in
      let size : length all.paths ≡ suc (length l.0) = ap length l.1 ∙ length-push l.0 last in
      let up : IsBefore last p = trans last q p after b in
      elim (numbers i (length l.0)) [
        | less h ↦ irrefl last (trans last p last up (all.opening.ordered i (length l.0) p last h at end))
        | equal h ↦ irrefl p (subst (λ x. IsBefore x p) (sym (same_Some p last (sym at ∙ ap (slice_get all.paths) h ∙ end))) up)
        | more h ↦ absurd (omega (arith, h, size, get_within all.paths i p at))
      ]

  by-front : (i : ℕ) (h : N) (front : List ℕ) (choice : ℕ) → slice_get all.paths (suc i) ≡ Some (front ++ choice ∷ []) → IsSimple s (front ++ choice ∷ []) h → IsParent i h
  by-front i h front choice at simple =
      let g = end_front s s.start h front (choice ∷ []) simple.ends in
      let own : IsSimple s front g.by = simple_prefix s front (front ++ choice ∷ []) h g.by (prefix_more front (choice ∷ [])) simple g.is in
      let b : IsBefore front (front ++ choice ∷ []) = before_more front choice [] in
      let found = all.opening.covers (last-path.1) front g.by (last-path.0, last-path.2) own (not-after (suc i) (front ++ choice ∷ []) front last-path.1 at b (last-path.0, last-path.2)) in
      let k = place all.paths found.path found.listed in
      let node = get_some nodes k.0 (omega (arith, all.number, get_within all.paths k.0 found.path k.1)) in
      let same : node.0 ≡ g.by = one_end s s.start node.0 g.by found.path (all.ends k.0 found.path node.0 k.1 node.1) found.ends in
      let lower : IsBefore found.path (front ++ choice ∷ []) = elim found.upto [
        | inl e ↦ subst (λ x. IsBefore x (front ++ choice ∷ [])) (sym e) b
        | inr f ↦ trans found.path front (front ++ choice ∷ []) f b
      ] in
      record {
        at = k.0;
        before = earlier k.0 found.path k.1 lower (numbers k.0 (suc i));
        parent = node.0;
        is = node.1;
        choice = choice;
        leads = ap (λ x. slice_get (successors s x) choice) same ∙ sym (end_one s g.by choice) ∙ g.gives;
      }
    where
      last-path : (f : List (List ℕ)) × (last : List ℕ) × (all.paths ≡ f ++ last ∷ [])
      last-path = by all.paths refl
        where
          by : (ps : List (List ℕ)) → all.paths ≡ ps → (f : List (List ℕ)) × (last : List ℕ) × (all.paths ≡ f ++ last ∷ [])
          by [] e = absurd (omega (arith, ap length e, get_within all.paths (suc i) (front ++ choice ∷ []) at))
          by (q ∷ ps) e = let t = last-of q ps in (t.0, t.1, e ∙ t.2)

      earlier : (k : ℕ) (q : List ℕ) → slice_get all.paths k ≡ Some q → IsBefore q (front ++ choice ∷ []) → Numbers k (suc i) → k ≤ i
      earlier k q there lower (less l) = omega (arith, l)
      earlier k q there lower (equal e) =
          absurd (irrefl q (subst (IsBefore q) (sym (same_Some q (front ++ choice ∷ []) (sym there ∙ ap (slice_get all.paths) e ∙ at))) lower))
      earlier k q there lower (more l) =
          absurd (irrefl q (trans q (front ++ choice ∷ []) q lower (all.opening.ordered (suc i) k (front ++ choice ∷ []) q l at there)))

  pub parent-of : (i : ℕ) (h : N) → slice_get nodes (suc i) ≡ Some h → IsParent i h
  parent-of i h e = by p.0 p.1
    where
      p : (p : List ℕ) × (slice_get all.paths (suc i) ≡ Some p)
      p = get_some all.paths (suc i) (omega (arith, all.number, get_within nodes (suc i) h e))

      by : (q : List ℕ) → slice_get all.paths (suc i) ≡ Some q → IsParent i h
      by [] at =
          let first = get_some all.paths 0 (omega (arith, get_within all.paths (suc i) [] at)) in
          absurd (none-before-first first.0 (all.opening.ordered 0 (suc i) first.0 [] (omega arith) first.1 at))
      by (j ∷ q) at =
          let t = last-of j q in
          let w = all.opening.simple (j ∷ q) (listed all.paths (suc i) (j ∷ q) at) in
          let simple : IsSimple s (j ∷ q) h = subst (IsSimple s (j ∷ q)) (one_end s s.start w.0 h (j ∷ q) w.1.ends (all.ends (suc i) (j ∷ q) h at e)) w.1 in
          by-front i h t.0 t.1 (subst (λ x. slice_get all.paths (suc i) ≡ Some x) t.2 at) (subst (λ x. IsSimple s x h) t.2 simple)
