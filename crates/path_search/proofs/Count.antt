-- Two lists of paths, of which the first has the ends of the second among its own.
use Rattle.std.proofs.Common.{◌≡◌, ℕ, zero, suc, ◌<◌, ◌≤◌, List, length, Some, refl, sym, ap, ◌∙◌, subst, arith}
use Rattle.std.specs.Prelude.{slice_get, Contains}
use Rattle.std.proofs.lemmas.Option.{same_Some}
use mathlib.Core.Logic.{◌⊎◌, inl, inr}
use Rattle.path_search.specs.Paths.{Search, IsEnd}
use Rattle.path_search.specs.Openings.{IsFound, Opening}
use Rattle.path_search.proofs.Order.{irrefl, Numbers, less, equal, more, numbers}
use Rattle.path_search.proofs.Frontier.{listed, place, get_within, get_some}
use Rattle.path_search.proofs.Walks.{one_end}

-- a relation that gives each number below m one below n of its own
pub holes : (n m : ℕ) (R : ℕ → ℕ → Type 0) → ((i : ℕ) → i < m → (j : ℕ) × (j < n) × R i j) → ((a b j : ℕ) → a < m → b < m → R a j → R b j → a ≡ b) → m ≤ n
holes n zero R f own = omega arith
holes zero (suc m) R f own = absurd (omega (arith, (f 0 (omega arith)).1))
holes (suc n) (suc m) R f own =
    let last = f m (omega arith) in
    let j0 : ℕ = last.0 in
    let S = λ (i j : ℕ). R i j ⊎ (R i n × (j ≡ j0)) in
    let step : m ≤ n = holes n m S (λ i h. give i h (f i (omega arith))) (λ a b j h k u v. own' a b j h k u v) in
    omega arith
  where
    last : (j : ℕ) × (j < suc n) × R m j
    last = f m (omega arith)

    give : (i : ℕ) → i < m → (j : ℕ) × (j < suc n) × R i j → (j : ℕ) × (j < n) × (R i j ⊎ (R i n × (j ≡ last.0)))
    give i h t = at (numbers t.0 n)
      where
        back : t.0 ≡ n → (j : ℕ) × (j < n) × (R i j ⊎ (R i n × (j ≡ last.0)))
        back e = elim (numbers last.0 n) [
          | less a ↦ (last.0, a, inr (subst (R i) e t.2, refl))
          | equal a ↦ absurd (omega (arith, own i m n (omega arith) (omega arith) (subst (R i) e t.2) (subst (R m) a last.2)))
          | more a ↦ absurd (omega (arith, last.1))
        ]

        at : Numbers t.0 n → (j : ℕ) × (j < n) × (R i j ⊎ (R i n × (j ≡ last.0)))
        at (less a) = (t.0, a, inl t.2)
        at (equal e) = back e
        at (more a) = absurd (omega (arith, t.1))

    own' : (a b j : ℕ) → a < m → b < m → R a j ⊎ (R a n × (j ≡ last.0)) → R b j ⊎ (R b n × (j ≡ last.0)) → a ≡ b
    own' a b j h k (inl u) (inl v) = own a b j (omega arith) (omega arith) u v
    own' a b j h k (inl u) (inr v) = absurd (omega (arith, own a m j (omega arith) (omega arith) u (subst (R m) (sym v.1) last.2)))
    own' a b j h k (inr u) (inl v) = absurd (omega (arith, own b m j (omega arith) (omega arith) v (subst (R m) (sym u.1) last.2)))
    own' a b j h k (inr u) (inr v) = own a b n (omega arith) (omega arith) u.0 v.0

module _ {N K : Type 0} (s : Search N K) where
  record Ends (ps qs : List (List ℕ)) (i j : ℕ) : Type 0 where
    q : List ℕ
    p : List ℕ
    node : N
    q_at : slice_get qs i ≡ Some q
    p_at : slice_get ps j ≡ Some p
    q_end : IsEnd s q node
    p_end : IsEnd s p node

  pub no_more : (ps qs : List (List ℕ)) → Opening s qs → ((q : List ℕ) (g : N) → Contains qs q → IsEnd s q g → IsFound s ps q g) → length qs ≤ length ps
  no_more ps qs o f = holes (length ps) (length qs) (Ends ps qs) give own
    where
      give : (i : ℕ) → i < length qs → (j : ℕ) × (j < length ps) × Ends ps qs i j
      give i h =
          let q = get_some qs i h in
          let in_qs = listed qs i q.0 q.1 in
          let t = o.simple q.0 in_qs in
          let d = f q.0 t.0 in_qs t.1.ends in
          let p = place ps d.path d.listed in
          (p.0, get_within ps p.0 d.path p.1, record { q = q.0; p = d.path; node = t.0; q_at = q.1; p_at = p.1; q_end = t.1.ends; p_end = d.ends })

      differ : (a b : ℕ) (q : List ℕ) → slice_get qs a ≡ Some q → slice_get qs b ≡ Some q → Numbers a b → a ≡ b
      differ a b q u v (less h) = absurd (irrefl q (o.ordered a b q q h u v))
      differ a b q u v (equal e) = e
      differ a b q u v (more h) = absurd (irrefl q (o.ordered b a q q h v u))

      own : (a b j : ℕ) → a < length qs → b < length qs → Ends ps qs a j → Ends ps qs b j → a ≡ b
      own a b j h k u v =
          let e : u.p ≡ v.p = same_Some u.p v.p (sym u.p_at ∙ v.p_at) in
          let n : u.node ≡ v.node = one_end s s.start u.node v.node v.p (subst (λ x. IsEnd s x u.node) e u.p_end) v.p_end in
          let d : u.q ≡ v.q = o.distinct u.q v.q u.node (listed qs a u.q u.q_at) (listed qs b v.q v.q_at) u.q_end (subst (IsEnd s v.q) (sym n) v.q_end) in
          differ a b v.q (u.q_at ∙ ap Some d) v.q_at (numbers a b)
