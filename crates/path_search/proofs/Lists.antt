-- Lists with one more element at the end, or one that is set.
use Rattle.std.proofs.Common.{◌≡◌, ℕ, zero, suc, ◌+◌, ◌-◌, ◌<◌, ◌≤◌, List, [], ◌∷◌, ◌++◌, length, set, Option, Some, None, refl, sym, ap, ◌∙◌, subst, arith, append_assoc}
use Rattle.std.specs.Prelude.{slice_get, map}
use Rattle.std.proofs.lemmas.Option.{none-some, same_Some, slice_get_read}
use Rattle.path_search.proofs.Order.{less, equal, more, numbers}
use mathlib.Core.Logic.{◌⊎◌, inl, inr}
use Rattle.path_search.specs.Paths.{IsPrefix}
use Rattle.path_search.proofs.Walks.{prefix_none, prefix_cons, Heads, along}

pub length_push : {A : Type 0} (xs : List A) (x : A) → length (xs ++ x ∷ []) ≡ suc (length xs)
length_push [] x = refl
length_push (y ∷ xs) x = ap suc (length_push xs x)

pub get_last : {A : Type 0} (xs ys : List A) (x : A) → slice_get (xs ++ x ∷ ys) (length xs) ≡ Some x
get_last [] ys x = refl
get_last (y ∷ xs) ys x = get_last xs ys x

pub get_left : {A : Type 0} (xs ys : List A) (i : ℕ) (x : A) → slice_get xs i ≡ Some x → slice_get (xs ++ ys) i ≡ Some x
get_left [] ys i x e = absurd (none-some x e)
get_left (y ∷ xs) ys zero x e = e
get_left (y ∷ xs) ys (suc i) x e = get_left xs ys i x e

pub record Cut {A : Type 0} (xs : List A) (x : A) : Type 0 where
  pub lower : List A
  pub upper : List A
  pub whole : xs ≡ lower ++ x ∷ upper

pub cut_at : {A : Type 0} (xs : List A) (i : ℕ) (x : A) → slice_get xs i ≡ Some x → Cut xs x
cut_at [] i x e = absurd (none-some x e)
cut_at (y ∷ xs) zero x e = record { lower = []; upper = xs; whole = ap (λ z. z ∷ xs) (same_Some y x e) }
cut_at (y ∷ xs) (suc i) x e = let t = cut_at xs i x e in record { lower = y ∷ t.lower; upper = t.upper; whole = ap (λ z. y ∷ z) t.whole }

-- where an element stands in a list with one more
pub data Where {A : Type 0} (xs : List A) (x : A) (lower upper : List A) (y : A) : Type 0 where
  last : xs ≡ lower → x ≡ y → upper ≡ [] → Where xs x lower upper y
  before : (u : List A) → xs ≡ lower ++ y ∷ u → upper ≡ u ++ x ∷ [] → Where xs x lower upper y

pub whereabouts : {A : Type 0} (xs : List A) (x : A) (lower upper : List A) (y : A) → xs ++ x ∷ [] ≡ lower ++ y ∷ upper → Where xs x lower upper y
whereabouts [] x [] upper y e = last refl (cc) (cc)
whereabouts [] x (z ∷ []) upper y e = absurd (cc)
whereabouts [] x (z ∷ w ∷ lower) upper y e = absurd (cc)
whereabouts (z ∷ xs) x [] upper y e = before xs (cc) (cc)
whereabouts (z ∷ xs) x (w ∷ lower) upper y e =
    let h : z ≡ w = cc in let t : xs ++ x ∷ [] ≡ lower ++ y ∷ upper = cc in
    elim (whereabouts xs x lower upper y t) [ last a b c ↦ last (cc) b c | before u a b ↦ before u (cc) b ]

pub set_get : {A : Type 0} (xs : List A) (n : ℕ) (y x : A) (i : ℕ) → slice_get (set xs n y) i ≡ Some x → ((i ≡ n) × (y ≡ x)) ⊎ ((i ≡ n → ⊥) × (slice_get xs i ≡ Some x))
set_get [] n y x i e = absurd (none-some x e)
set_get (z ∷ xs) zero y x zero e = inl (refl, same_Some y x e)
set_get (z ∷ xs) zero y x (suc i) e = inr (λ h. omega (arith, h), e)
set_get (z ∷ xs) (suc n) y x zero e = inr (λ h. omega (arith, h), e)
set_get (z ∷ xs) (suc n) y x (suc i) e = elim (set_get xs n y x i e) [ inl t ↦ inl (ap suc t.0, t.1) | inr t ↦ inr (λ h. t.0 (omega (arith, h)), t.1) ]

pub map_push : {A B : Type 0} (f : A → B) (xs ys : List A) → map f (xs ++ ys) ≡ map f xs ++ map f ys
map_push f [] ys = refl
map_push f (x ∷ xs) ys = ap (λ z. f x ∷ z) (map_push f xs ys)

pub record Part {A : Type 0} (f : A → ℕ) (xs : List A) (a : List ℕ) : Type 0 where
  pub lower : List A
  pub upper : List A
  pub at : A
  pub whole : xs ≡ lower ++ at ∷ upper
  pub is : a ≡ map f lower

pub map_prefix : {A : Type 0} (f : A → ℕ) (xs : List A) (a : List ℕ) → IsPrefix a (map f xs) → (a ≡ map f xs) ⊎ Part f xs a
map_prefix f [] a p = inl (prefix_none a p)
map_prefix f (x ∷ xs) a p = go (λ b q. map_prefix f xs b q) a (prefix_cons (f x) (map f xs) a p)
  where
    more : (b : List ℕ) → (b ≡ map f xs) ⊎ Part f xs b → (f x ∷ b ≡ f x ∷ map f xs) ⊎ Part f (x ∷ xs) (f x ∷ b)
    more b (inl e) = inl (ap (λ z. f x ∷ z) e)
    more b (inr t) = inr (record { lower = x ∷ t.lower; upper = t.upper; at = t.at; whole = ap (λ z. x ∷ z) t.whole; is = ap (λ z. f x ∷ z) t.is })

    go : ((b : List ℕ) → IsPrefix b (map f xs) → (b ≡ map f xs) ⊎ Part f xs b) → (a : List ℕ) → Heads (f x) (map f xs) a → (a ≡ f x ∷ map f xs) ⊎ Part f (x ∷ xs) a
    go r [] h = inr (record { lower = []; upper = xs; at = x; whole = refl; is = refl })
    go r (i ∷ b) (along q) = more b (r b q)

-- one more element for which a fact fails
pub none_more : {A : Type 0} (xs : List A) (i : ℕ) (x : A) (P : A → Type 0) → i < length xs → x ≡ Rattle.std.proofs.Common.get_or xs i x → ((k : ℕ) (y : A) → k < i → slice_get xs k ≡ Some y → P y → ⊥) → (P x → ⊥)
    → (k : ℕ) (y : A) → k < i + 1 → slice_get xs k ≡ Some y → P y → ⊥
none_more xs i x P h e old new k y l f p = elim (numbers k i) [
  | less a ↦ old k y a f p
  | equal a ↦ new (subst P (same_Some y x (sym f ∙ ap (slice_get xs) a ∙ slice_get_read xs (length xs) i x refl h e)) p)
  | more a ↦ omega (arith, a, l)
]

pub read_at : {A : Type 0} (xs : List A) (i n len : ℕ) (x : A) → n ≡ i → len ≡ length xs → n < len → x ≡ Rattle.std.proofs.Common.get_or xs n x → slice_get xs i ≡ Some x
read_at xs i n len x e f h d = ap (slice_get xs) (sym e) ∙ slice_get_read xs len n x f h d

pub get_set_same : {A : Type 0} (xs : List A) (n : ℕ) (y : A) → n < length xs → slice_get (set xs n y) n ≡ Some y
get_set_same [] n y h = absurd (omega arith)
get_set_same (x ∷ xs) zero y h = refl
get_set_same (x ∷ xs) (suc n) y h = get_set_same xs n y (omega arith)

pub get_set_other : {A : Type 0} (xs : List A) (n : ℕ) (y : A) (i : ℕ) → (i ≡ n → ⊥) → slice_get (set xs n y) i ≡ slice_get xs i
get_set_other [] n y i h = refl
get_set_other (x ∷ xs) zero y zero h = absurd (h refl)
get_set_other (x ∷ xs) zero y (suc i) h = refl
get_set_other (x ∷ xs) (suc n) y zero h = refl
get_set_other (x ∷ xs) (suc n) y (suc i) h = get_set_other xs n y i (λ e. h (ap suc e))
