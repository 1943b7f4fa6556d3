-- Values that are given in a row, each with the next number, and where their widths are found.
use Rattle.std.proofs.Common.{◌≡◌, ℕ, suc, ◌+◌, ◌<◌, ◌≤◌, Bool, true, false, Some, List, [], ◌∷◌, ◌++◌, length, map, refl, ap, subst, arith}
use Rattle.std.proofs.lemmas.Bool.{and_from, or_from}
use Rattle.std.specs.Cmp.{unsigned_Decides}
use Rattle.std.specs.List.{list_any}
use Rattle.std.specs.Prelude.{◌==◌, ⊤, if◌then◌else◌, not}
use Rattle.ir_values.specs.declared.int.Width.{Width}
use Rattle.kept_items.specs.declared.val.Dyn.{Dyn}
use Rattle.residue.specs.Scopes.{width_in}
use Rattle.residue.specs.Valid.{all_differ}
use Rattle.fused_parts.specs.Parts.{in_row, with_widths}

-- the numbers are n, n + 1 and so on
abbrev pub IsRow : ℕ → List (ℕ × Width) → Type 0
IsRow n [] = ⊤
IsRow n (x ∷ xs) = (x.0 ≡ n) × IsRow (suc n) xs

pub same-number : (n : ℕ) → (n == n) ≡ true
same-number n = (unsigned_Decides n n).1 refl

-- a row goes on where it ends
pub row-append : (n : ℕ) (xs ys : List (ℕ × Width)) → IsRow n xs → IsRow (n + length xs) ys → IsRow n (xs ++ ys)
row-append n [] ys h k = subst (λ z. IsRow z ys) (let e : n + 0 ≡ n = omega arith in e) k
row-append n (x ∷ xs) ys h k =
    (h.0, row-append (suc n) xs ys h.1 (subst (λ z. IsRow z ys) (let e : n + suc (length xs) ≡ suc n + length xs = omega arith in e) k))

-- what is found in a row is not below where it begins
row-above : (n : ℕ) (xs : List (ℕ × Width)) (d : ℕ) (w : Width) → IsRow n xs → width_in xs d ≡ Some w → n ≤ d
row-above n [] d w h e = cc
row-above n (x ∷ xs) d w h e = by-test (x.0 == d) refl (row-above (suc n) xs d w h.1) e
  where
    by-test : (b : Bool) → (x.0 == d) ≡ b → (width_in xs d ≡ Some w → suc n ≤ d) → (if b then Some x.1 else width_in xs d) ≡ Some w → n ≤ d
    by-test true t ih e = let s : x.0 ≡ d = (unsigned_Decides x.0 d).0 t in let f = h.0 in omega (arith, s, f)
    by-test false t ih e = let r = ih e in omega (arith, r)

-- a width is found again where more is given behind
pub in-front : (xs ys : List (ℕ × Width)) (d : ℕ) (w : Width) → width_in xs d ≡ Some w → width_in (xs ++ ys) d ≡ Some w
in-front [] ys d w e = cc
in-front (x ∷ xs) ys d w e = by-test (x.0 == d) (in-front xs ys d w) e
  where
    by-test : (b : Bool) → (width_in xs d ≡ Some w → width_in (xs ++ ys) d ≡ Some w) → (if b then Some x.1 else width_in xs d) ≡ Some w
        → (if b then Some x.1 else width_in (xs ++ ys) d) ≡ Some w
    by-test true ih e = e
    by-test false ih e = ih e

-- and where more is given before, in one row
pub behind-others : (n : ℕ) (xs ys : List (ℕ × Width)) (d : ℕ) (w : Width) → IsRow n (xs ++ ys) → width_in ys d ≡ Some w → width_in (xs ++ ys) d ≡ Some w
behind-others n [] ys d w h e = e
behind-others n (x ∷ xs) ys d w h e = by-test (x.0 == d) refl (behind-others (suc n) xs ys d w h.1 e)
  where
    by-test : (b : Bool) → (x.0 == d) ≡ b → width_in (xs ++ ys) d ≡ Some w → (if b then Some x.1 else width_in (xs ++ ys) d) ≡ Some w
    by-test true t ih =
        let s : x.0 ≡ d = (unsigned_Decides x.0 d).0 t in
        let f = h.0 in
        let a = row-above (suc n) (xs ++ ys) d w h.1 ih in
        absurd (omega (arith, s, f, a))
    by-test false t ih = ih

none-again : (m n : ℕ) (xs : List (ℕ × Width)) → m < n → IsRow n xs → list_any (λ (y : ℕ × Width). y.0 == m) xs ≡ false
none-again m n [] lt h = refl
none-again m n (x ∷ xs) lt h = or_from (x.0 == m) (list_any (λ (y : ℕ × Width). y.0 == m) xs) (other (x.0 == m) refl) (none-again m (suc n) xs (omega (arith, lt)) h.1)
  where
    other : (b : Bool) → (x.0 == m) ≡ b → (x.0 == m) ≡ false
    other true t = let s : x.0 ≡ m = (unsigned_Decides x.0 m).0 t in let f = h.0 in absurd (omega (arith, s, f, lt))
    other false t = t

-- no number of a row comes twice
pub row-differs : (n : ℕ) (xs : List (ℕ × Width)) → IsRow n xs → all_differ (λ (x y : ℕ × Width). x.0 == y.0) xs ≡ true
row-differs n [] h = refl
row-differs n (x ∷ xs) h =
    and_from (not (list_any (λ (y : ℕ × Width). y.0 == x.0) xs)) (all_differ (λ (x y : ℕ × Width). x.0 == y.0) xs)
    (ap not (none-again x.0 (suc n) xs (let f = h.0 in omega (arith, f)) h.1)) (row-differs (suc n) xs h.1)

-- ---- new values of these widths

abbrev pub row_of : ℕ → List Width → List (ℕ × Width)
row_of n [] = []
row_of n (w ∷ ws) = (n, w) ∷ row_of (suc n) ws

pub row-of-is : (n : ℕ) (ws : List Width) → IsRow n (row_of n ws)
row-of-is n [] = tt
row-of-is n (w ∷ ws) = (refl, row-of-is (suc n) ws)

pub row-of-length : (n : ℕ) (ws : List Width) → length (row_of n ws) ≡ length ws
row-of-length n [] = refl
row-of-length n (w ∷ ws) = ap suc (row-of-length (suc n) ws)

abbrev pub numbered_width : Dyn × Width → ℕ × Width
numbered_width x = (x.0.0, x.1)

-- those that parameters of these widths are
pub row-of-params : (n : ℕ) (ws : List Width) → map numbered_width (with_widths (in_row n (length ws)) ws) ≡ row_of n ws
row-of-params n [] = refl
row-of-params n (w ∷ ws) = ap (λ l. (n, w) ∷ l) (row-of-params (suc n) ws)
