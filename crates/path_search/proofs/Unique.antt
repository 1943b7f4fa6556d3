-- There is at most one opening of each length.
use Rattle.std.proofs.Common.{◌≡◌, ℕ, zero, suc, ◌<◌, ◌≤◌, List, [], ◌∷◌, ◌++◌, length, Option, Some, None, refl, sym, ap, ◌∙◌, subst, arith}
use Rattle.std.specs.Prelude.{slice_get, Contains}
use Rattle.std.proofs.lemmas.Option.{none-some, same_Some}
use mathlib.Core.Logic.{◌⊎◌, inl, inr}
use Rattle.path_search.specs.Paths.{Search, IsEnd, IsBefore, IsSimple}
use Rattle.path_search.specs.Openings.{IsFound, IsLast, Opening}
use Rattle.path_search.proofs.Order.{trans, irrefl, Order, lower, same, higher, order, Numbers, less, equal, more, numbers}
use Rattle.path_search.proofs.Frontier.{get_within, get_some, listed, place}
use Rattle.path_search.proofs.Lists.{get_last, length_push}

-- lists with the same elements at the same places are one
same_lists : {A : Type 0} (xs ys : List A) → length xs ≡ length ys → ((i : ℕ) (x y : A) → slice_get xs i ≡ Some x → slice_get ys i ≡ Some y → x ≡ y) → xs ≡ ys
same_lists [] [] e h = refl
same_lists [] (y ∷ ys) e h = absurd (omega arith)
same_lists (x ∷ xs) [] e h = absurd (omega arith)
same_lists (x ∷ xs) (y ∷ ys) e h = let a : x ≡ y = h 0 x y refl refl in let b : xs ≡ ys = same_lists xs ys (omega arith) (λ i u v c d. h (suc i) u v c d) in cc

-- a list that is not empty has a last element
last_of : {A : Type 0} (xs : List A) (i : ℕ) → i < length xs → (front : List A) × (x : A) × (xs ≡ front ++ x ∷ [])
last_of [] i h = absurd (omega arith)
last_of (x ∷ []) i h = ([], x, refl)
last_of (x ∷ y ∷ xs) i h = let t = last_of (y ∷ xs) 0 (omega arith) in (x ∷ t.0, t.1, ap (λ z. x ∷ z) t.2)

module _ {N K : Type 0} (s : Search N K) where
  -- two openings that agree below i do not differ at i, since the lower path would be found by the other opening
  not_lower : (ps qs : List (List ℕ)) (i : ℕ) (p q : List ℕ) → Opening s ps → Opening s qs
      → ((j : ℕ) (x y : List ℕ) → j < i → slice_get ps j ≡ Some x → slice_get qs j ≡ Some y → x ≡ y)
      → slice_get ps i ≡ Some p → slice_get qs i ≡ Some q → IsBefore p q → ⊥
  not_lower ps qs i p q o u below at_p at_q h = go (u.covers last.1 p g.0 (last.0, last.2) g.1 (not_after (numbers i (length last.0))))
    where
      g : (g : N) × IsSimple s p g
      g = o.simple p (listed ps i p at_p)

      last : (front : List (List ℕ)) × (x : List ℕ) × (qs ≡ front ++ x ∷ [])
      last = last_of qs i (get_within qs i q at_q)

      last_at : slice_get qs (length last.0) ≡ Some last.1
      last_at = subst (λ x. slice_get x (length last.0) ≡ Some last.1) (sym last.2) (get_last last.0 [] last.1)

      not_after : Numbers i (length last.0) → IsBefore last.1 p → ⊥
      not_after (less l) b = irrefl p (trans p last.1 p (trans p q last.1 h (u.ordered i (length last.0) q last.1 l at_q last_at)) b)
      not_after (equal e) b = irrefl p (trans p q p h (subst (λ x. IsBefore x p) (same_Some last.1 q (sym last_at ∙ ap (slice_get qs) (sym e) ∙ at_q)) b))
      not_after (more l) b = absurd (omega (arith, l, get_within qs i q at_q, ap length last.2, length_push last.0 last.1))

      go : IsFound s qs p g.0 → ⊥
      go f = at (place qs f.path f.listed)
        where
          lower_path : (f.path ≡ p) ⊎ IsBefore f.path p → IsBefore f.path q
          lower_path (inl e) = subst (λ x. IsBefore x q) (sym e) h
          lower_path (inr b) = trans f.path p q b h

          at : (j : ℕ) × (slice_get qs j ≡ Some f.path) → ⊥
          at t = which (numbers t.0 i)
            where
              mine : (x : List ℕ) → slice_get ps t.0 ≡ Some x → t.0 < i → ⊥
              mine x e l =
                  let same : x ≡ f.path = below t.0 x f.path l e t.1 in
                  let one : x ≡ p = o.distinct x p g.0 (listed ps t.0 x e) (listed ps i p at_p) (subst (λ y. IsEnd s y g.0) (sym same) f.ends) g.1.ends in
                  irrefl p (subst (λ y. IsBefore y p) one (o.ordered t.0 i x p l e at_p))

              which : Numbers t.0 i → ⊥
              which (less l) = let x = get_some ps t.0 (omega (arith, l, get_within ps i p at_p)) in mine x.0 x.1 l
              which (equal e) = irrefl q (subst (λ x. IsBefore x q) (same_Some f.path q (sym t.1 ∙ ap (slice_get qs) e ∙ at_q)) (lower_path f.upto))
              which (more l) = irrefl q (trans q f.path q (u.ordered i t.0 q f.path l at_q t.1) (lower_path f.upto))

  agree : (ps qs : List (List ℕ)) → Opening s ps → Opening s qs → (n i : ℕ) → i < n → (p q : List ℕ) → slice_get ps i ≡ Some p → slice_get qs i ≡ Some q → p ≡ q
  agree ps qs o u zero i l p q a b = absurd (omega arith)
  agree ps qs o u (suc n) i l p q a b = elim (order p q) [
    | lower h ↦ absurd (not_lower ps qs i p q o u (λ j x y k c d. agree ps qs o u n j (omega arith) x y c d) a b h)
    | same e ↦ e
    | higher h ↦ absurd (not_lower qs ps i q p u o (λ j x y k c d. sym (agree ps qs o u n j (omega arith) y x d c)) b a h)
  ]

  pub one_opening : (ps qs : List (List ℕ)) → Opening s ps → Opening s qs → length ps ≡ length qs → ps ≡ qs
  one_opening ps qs o u e = same_lists ps qs e (λ i p q a b. agree ps qs o u (suc i) i (omega arith) p q a b)
