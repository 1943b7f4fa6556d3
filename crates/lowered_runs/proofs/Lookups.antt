-- Lists of values by number.
use Rattle.std.proofs.Common.{◌≡◌, ℕ, zero, suc, ◌+◌, ◌<◌, Some, List, [], ◌∷◌, ◌++◌, length, map, refl, ap, ◌∙◌, arith}
use Rattle.std.specs.Prelude.{slice_get, slice_index_or}
use Rattle.ir_values.specs.declared.int.Width.{Width}
use Rattle.ir_values.specs.declared.int.Width.TheVariants.{W1}
use Rattle.ir_values.specs.Int.{IntValue}
use Rattle.kept_items.specs.declared.val.Dyn.{Dyn}
use Rattle.fused_parts.specs.Parts.{dyn, in_row, with_widths}

abbrev pub nothing : IntValue
nothing = record { width = W1; bits = 0 }

module _ {A : Type 0} where
  pub look-at : (xs : List A) (i : ℕ) (x d : A) → slice_get xs i ≡ Some x → slice_index_or xs i d ≡ x
  look-at [] i x d h = cc
  look-at (y ∷ xs) zero x d h = cc
  look-at (y ∷ xs) (suc i) x d h = look-at xs i x d h

  pub look-there : (xs : List A) (i : ℕ) (d : A) → i < length xs → slice_get xs i ≡ Some (slice_index_or xs i d)
  look-there [] i d lt = absurd (omega (arith, lt))
  look-there (x ∷ xs) zero d lt = refl
  look-there (x ∷ xs) (suc i) d lt = look-there xs i d (omega (arith, lt))

  pub look-front : (xs ys : List A) (i : ℕ) (d : A) → i < length xs → slice_index_or (xs ++ ys) i d ≡ slice_index_or xs i d
  look-front [] ys i d lt = absurd (omega (arith, lt))
  look-front (x ∷ xs) ys zero d lt = refl
  look-front (x ∷ xs) ys (suc i) d lt = look-front xs ys i d (omega (arith, lt))

  pub look-end : (xs : List A) (y : A) (i : ℕ) (d : A) → i ≡ length xs → slice_index_or (xs ++ y ∷ []) i d ≡ y
  look-end [] y zero d e = refl
  look-end [] y (suc i) d e = absurd (omega (arith, e))
  look-end (x ∷ xs) y zero d e = absurd (omega (arith, e))
  look-end (x ∷ xs) y (suc i) d e = look-end xs y i d (omega (arith, e))

  pub length-end : (xs : List A) (y : A) → length (xs ++ y ∷ []) ≡ suc (length xs)
  length-end [] y = refl
  length-end (x ∷ xs) y = ap suc (length-end xs y)

  pub length-map : {B : Type 0} (f : A → B) (xs : List A) → length (map f xs) ≡ length xs
  length-map f [] = refl
  length-map f (x ∷ xs) = ap suc (length-map f xs)

  pub look-map : {B : Type 0} (f : A → B) (xs : List A) (i : ℕ) (d : A) (e : B) → i < length xs → slice_index_or (map f xs) i e ≡ f (slice_index_or xs i d)
  look-map f [] i d e lt = absurd (omega (arith, lt))
  look-map f (x ∷ xs) zero d e lt = refl
  look-map f (x ∷ xs) (suc i) d e lt = look-map f xs i d e (omega (arith, lt))

  pub get-map : {B : Type 0} (f : A → B) (xs : List A) (i : ℕ) (y : B) → slice_get (map f xs) i ≡ Some y → (x : A) × (slice_get xs i ≡ Some x) × (f x ≡ y)
  get-map f [] i y h = cc
  get-map f (x ∷ xs) zero y h = let s : f x ≡ y = cc in (x, refl, s)
  get-map f (x ∷ xs) (suc i) y h = get-map f xs i y h

  pub map-get : {B : Type 0} (f : A → B) (xs : List A) (i : ℕ) (x : A) → slice_get xs i ≡ Some x → slice_get (map f xs) i ≡ Some (f x)
  map-get f [] i x h = cc
  map-get f (y ∷ xs) zero x h = let s : y ≡ x = cc in ap (λ z. Some (f z)) s
  map-get f (y ∷ xs) (suc i) x h = map-get f xs i x h

  pub within : (xs : List A) (i : ℕ) (x : A) → slice_get xs i ≡ Some x → i < length xs
  within [] i x h = cc
  within (y ∷ xs) zero x h = omega arith
  within (y ∷ xs) (suc i) x h = let r = within xs i x h in omega (arith, r)

  pub is-there : (xs : List A) (i : ℕ) → i < length xs → (x : A) × (slice_get xs i ≡ Some x)
  is-there [] i lt = absurd (omega (arith, lt))
  is-there (x ∷ xs) zero lt = (x, refl)
  is-there (x ∷ xs) (suc i) lt = is-there xs i (omega (arith, lt))

  pub same-some : (a b : A) → Some a ≡ Some b → a ≡ b
  same-some a b e = cc

-- ---- a list with one value more, and one whose values begin at a number

abbrev pub put_at : ℕ → IntValue → List IntValue → List IntValue
put_at zero w [] = w ∷ []
put_at zero w (x ∷ rs) = w ∷ rs
put_at (suc n) w [] = nothing ∷ put_at n w []
put_at (suc n) w (x ∷ rs) = x ∷ put_at n w rs

pub put-here : (n : ℕ) (w : IntValue) (rs : List IntValue) → slice_index_or (put_at n w rs) n nothing ≡ w
put-here zero w [] = refl
put-here zero w (x ∷ rs) = refl
put-here (suc n) w [] = put-here n w []
put-here (suc n) w (x ∷ rs) = put-here n w rs

pub put-elsewhere : (n : ℕ) (w : IntValue) (rs : List IntValue) (k : ℕ) → (k ≡ n → ⊥) → slice_index_or (put_at n w rs) k nothing ≡ slice_index_or rs k nothing
put-elsewhere zero w [] zero h = absurd (h refl)
put-elsewhere zero w [] (suc k) h = refl
put-elsewhere zero w (x ∷ rs) zero h = absurd (h refl)
put-elsewhere zero w (x ∷ rs) (suc k) h = refl
put-elsewhere (suc n) w [] zero h = refl
put-elsewhere (suc n) w [] (suc k) h = put-elsewhere n w [] k (λ e. h (ap suc e))
put-elsewhere (suc n) w (x ∷ rs) zero h = refl
put-elsewhere (suc n) w (x ∷ rs) (suc k) h = put-elsewhere n w rs k (λ e. h (ap suc e))

abbrev pub values_from : ℕ → List IntValue → List IntValue
values_from zero vs = vs
values_from (suc n) vs = nothing ∷ values_from n vs

pub value-from : (n : ℕ) (vs : List IntValue) (k : ℕ) → slice_index_or (values_from n vs) (n + k) nothing ≡ slice_index_or vs k nothing
value-from zero vs k = ap (λ j. slice_index_or vs j nothing) (let z : 0 + k ≡ k = omega arith in z)
value-from (suc n) vs k = ap (λ j. slice_index_or (nothing ∷ values_from n vs) j nothing) (let z : suc n + k ≡ suc (n + k) = omega arith in z) ∙ value-from n vs k

-- ---- numbers in a row

pub row-length : (n k : ℕ) → length (in_row n k) ≡ k
row-length n zero = refl
row-length n (suc k) = ap suc (row-length (suc n) k)

pub row-at : (n c k : ℕ) → k < c → slice_index_or (in_row n c) k (dyn 0) ≡ dyn (n + k)
row-at n zero k lt = absurd (omega (arith, lt))
row-at n (suc c) zero lt = ap dyn (let z : n ≡ n + 0 = omega arith in z)
row-at n (suc c) (suc k) lt = row-at (suc n) c k (omega (arith, lt)) ∙ ap dyn (let z : suc n + k ≡ n + suc k = omega arith in z)

-- the i-th of numbers with widths
pub widths-at : (ds : List Dyn) (ws : List Width) (i : ℕ) (d : Dyn × Width) → slice_get (with_widths ds ws) i ≡ Some d → slice_get ds i ≡ Some d.0
widths-at [] ws i d h = cc
widths-at (e ∷ ds) [] i d h = cc
widths-at (e ∷ ds) (w ∷ ws) zero d h = let s : (e, w) ≡ d = cc in ap (λ x. Some x.0) s
widths-at (e ∷ ds) (w ∷ ws) (suc i) d h = widths-at ds ws i d h
