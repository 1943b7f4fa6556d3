-- Path order.
use Rattle.std.proofs.Common.{◌≡◌, ℕ, zero, suc, ◌<◌, List, [], ◌∷◌, ◌++◌, refl, sym, ap, ◌∙◌, arith}
use mathlib.Core.Logic.{◌⊎◌, inl, inr}
use Rattle.path_search.specs.Paths.{IsBefore}

pub trans : (p q r : List ℕ) → IsBefore p q → IsBefore q r → IsBefore p r
unfolding IsBefore
trans p [] r h k = absurd (none p h)
  where
    none : (p : List ℕ) → IsBefore p [] → ⊥
    none [] h = h
    none (i ∷ p) h = h
trans p (j ∷ q) [] h k = absurd k
trans [] (j ∷ q) (l ∷ r) h k = tt
trans (i ∷ p) (j ∷ q) (l ∷ r) (inl a) (inl b) = inl (omega arith)
trans (i ∷ p) (j ∷ q) (l ∷ r) (inl a) (inr b) = inl (omega (arith, b.0))
trans (i ∷ p) (j ∷ q) (l ∷ r) (inr a) (inl b) = inl (omega (arith, a.0))
trans (i ∷ p) (j ∷ q) (l ∷ r) (inr a) (inr b) = inr (a.0 ∙ b.0, trans p q r a.1 b.1)

pub irrefl : (p : List ℕ) → IsBefore p p → ⊥
unfolding IsBefore
irrefl [] h = h
irrefl (i ∷ p) (inl a) = omega arith
irrefl (i ∷ p) (inr a) = irrefl p a.1

pub data Order (p q : List ℕ) : Type 0 where
  lower : IsBefore p q → Order p q
  same : p ≡ q → Order p q
  higher : IsBefore q p → Order p q

pub data Numbers (i j : ℕ) : Type 0 where
  less : i < j → Numbers i j
  equal : i ≡ j → Numbers i j
  more : j < i → Numbers i j

pub numbers : (i j : ℕ) → Numbers i j
numbers zero zero = equal refl
numbers zero (suc j) = less (omega arith)
numbers (suc i) zero = more (omega arith)
numbers (suc i) (suc j) = elim (numbers i j) [ less h ↦ less (omega arith) | equal e ↦ equal (ap suc e) | more h ↦ more (omega arith) ]

pub order : (p q : List ℕ) → Order p q
unfolding IsBefore
order [] [] = same refl
order [] (j ∷ q) = lower tt
order (i ∷ p) [] = higher tt
order (i ∷ p) (j ∷ q) = heads (numbers i j) (order p q)
  where
    heads : Numbers i j → Order p q → Order (i ∷ p) (j ∷ q)
    heads (less h) o = lower (inl h)
    heads (more h) o = higher (inl h)
    heads (equal e) (lower h) = lower (inr (e, h))
    heads (equal e) (same f) = same (cc)
    heads (equal e) (higher h) = higher (inr (sym e, h))

pub before_more : (p : List ℕ) (k : ℕ) (r : List ℕ) → IsBefore p (p ++ k ∷ r)
unfolding IsBefore
before_more [] k r = tt
before_more (i ∷ p) k r = inr (refl, before_more p k r)

pub before_next : (p : List ℕ) (i j : ℕ) (a b : List ℕ) → i < j → IsBefore (p ++ i ∷ a) (p ++ j ∷ b)
unfolding IsBefore
before_next [] i j a b h = inl h
before_next (k ∷ p) i j a b h = inr (refl, before_next p i j a b h)

-- what is before the next choice is before this one, or goes on from it
pub before_step : (p q : List ℕ) (k : ℕ) → IsBefore q (p ++ suc k ∷ []) → IsBefore q (p ++ k ∷ []) ⊎ ((r : List ℕ) × (q ≡ p ++ k ∷ r))
unfolding IsBefore
before_step [] [] k h = inl tt
before_step [] (i ∷ q) k (inl h) = elim (numbers i k) [ less a ↦ inl (inl a) | equal e ↦ inr (q, ap (λ x. x ∷ q) e) | more a ↦ absurd (omega arith) ]
before_step [] (i ∷ []) k (inr h) = absurd h.1
before_step [] (i ∷ j ∷ q) k (inr h) = absurd h.1
before_step (j ∷ p) [] k h = inl tt
before_step (j ∷ p) (i ∷ q) k (inl h) = inl (inl h)
before_step (j ∷ p) (i ∷ q) k (inr h) = elim (before_step p q k h.1) [ inl a ↦ inl (inr (h.0, a)) | inr a ↦ inr (a.0, cc (h.0, a.1)) ]

-- what is before the first extension of p is before p, or is p
pub before_first : (p q : List ℕ) → IsBefore q (p ++ zero ∷ []) → IsBefore q p ⊎ (q ≡ p)
unfolding IsBefore
before_first [] [] h = inr refl
before_first [] (i ∷ q) (inl h) = absurd (omega arith)
before_first [] (i ∷ []) (inr h) = absurd h.1
before_first [] (i ∷ j ∷ q) (inr h) = absurd h.1
before_first (j ∷ p) [] h = inl tt
before_first (j ∷ p) (i ∷ q) (inl h) = inl (inl h)
before_first (j ∷ p) (i ∷ q) (inr h) = elim (before_first p q h.1) [ inl a ↦ inl (inr (h.0, a)) | inr a ↦ inr (cc (h.0, a)) ]

-- what goes on from p is before q wherever p is, or p is a prefix of q
pub data Parts (p q : List ℕ) : Type 0 where
  prefix : (r : List ℕ) → q ≡ p ++ r → Parts p q
  apart : ((r : List ℕ) → IsBefore (p ++ r) q) → Parts p q

pub parts : (p q : List ℕ) → IsBefore p q → Parts p q
unfolding IsBefore
parts [] q h = prefix q refl
parts (i ∷ p) [] h = absurd h
parts (i ∷ p) (j ∷ q) (inl h) = apart (λ r. inl h)
parts (i ∷ p) (j ∷ q) (inr h) = elim (parts p q h.1) [ prefix r e ↦ prefix r (cc (h.0, e)) | apart f ↦ apart (λ r. inr (h.0, f r)) ]

-- what lies between p and an extension of p extends p
pub between : (p x r : List ℕ) → IsBefore p x → IsBefore x (p ++ r) → (t : List ℕ) × (x ≡ p ++ t)
unfolding IsBefore
between [] x r h k = (x, refl)
between (i ∷ p) [] r h k = absurd h
between (i ∷ p) (j ∷ x) r (inl h) (inl k) = absurd (omega arith)
between (i ∷ p) (j ∷ x) r (inl h) (inr k) = absurd (omega (arith, k.0))
between (i ∷ p) (j ∷ x) r (inr h) (inl k) = absurd (omega (arith, h.0))
between (i ∷ p) (j ∷ x) r (inr h) (inr k) = let t = between p x r h.1 k.1 in (t.0, cc (h.0, t.1))

pub decides : (p q : List ℕ) → (IsBefore p q → ⊥) → (IsBefore q p → ⊥) → p ≡ q
decides p q n m = elim (order p q) [ lower h ↦ absurd (n h) | same e ↦ e | higher h ↦ absurd (m h) ]
