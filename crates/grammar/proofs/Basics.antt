-- Lists, and tests of kinds.
use Rattle.std.specs.Prelude.{nat_eq}
use Rattle.std.proofs.Common.{◌≡◌, Bool, true, false, ◌||◌, ◌&&◌, List, [], ◌∷◌, ◌++◌, ◌⊎◌, inl, inr, refl, sym, ap, ◌∙◌, arith}
use Rattle.grammar.specs.Grammar.{Alphabet, has, begins_with}
use Rattle.grammar.specs.LookAhead.{apart, within}

-- lists and tests

pub no_parts : {A : Type 0} (us vs : List A) → [] ≡ us ++ vs → (us ≡ []) × (vs ≡ [])
no_parts [] vs e = (refl, sym e)
no_parts (u ∷ us) vs e = absurd (cc)

pub or_true : (b : Bool) → (b || true) ≡ true
or_true true = refl
or_true false = refl

pub or_cases : (a b : Bool) → (a || b) ≡ true → (a ≡ true) ⊎ (b ≡ true)
or_cases true b e = inl refl
or_cases false b e = inr e

pub and_cases : (a b : Bool) → (a && b) ≡ true → (a ≡ true) × (b ≡ true)
and_cases true b e = (refl, e)
and_cases false b e = absurd (cc)

pub has-append : (L : Alphabet) (xs ys : List L.Kind) (k : L.Kind) → has L (xs ++ ys) k ≡ (has L xs k || has L ys k)
has-append L [] ys k = refl
has-append L (x ∷ xs) ys k = step (nat_eq (L.code x) (L.code k)) (has-append L xs ys k)
  where
    step : (b : Bool) → has L (xs ++ ys) k ≡ (has L xs k || has L ys k) → (b || has L (xs ++ ys) k) ≡ ((b || has L xs k) || has L ys k)
    step true e = refl
    step false e = e

pub begins-append : (L : Alphabet) (xs ys : List L.Kind) (ts : List L.Token) → begins_with L (xs ++ ys) ts ≡ (begins_with L xs ts || begins_with L ys ts)
begins-append L xs ys [] = refl
begins-append L xs ys (t ∷ ts) = has-append L xs ys (L.kind t)

-- one kind of a code is in the list as another is
pub has_same : (L : Alphabet) (ys : List L.Kind) (j k : L.Kind) → L.code j ≡ L.code k → has L ys j ≡ has L ys k
has_same L [] j k e = refl
has_same L (y ∷ ys) j k e = rw (e, has_same L ys j k e) refl

pub apart_one : (L : Alphabet) (xs ys : List L.Kind) (k : L.Kind) → apart L xs ys ≡ true → has L ys k ≡ true → has L xs k ≡ false
apart_one L [] ys k e h = refl
apart_one L (x ∷ xs) ys k e h = grind (arith, apart_one L xs ys k, has_same L ys x k)

pub within_one : (L : Alphabet) (xs ys : List L.Kind) (k : L.Kind) → within L xs ys ≡ true → has L ys k ≡ false → has L xs k ≡ false
within_one L [] ys k e h = refl
within_one L (x ∷ xs) ys k e h = grind (arith, within_one L xs ys k, has_same L ys x k)

pub or_false : (a b : Bool) → (a || b) ≡ false → (a ≡ false) × (b ≡ false)
or_false true b e = absurd (cc)
or_false false b e = (refl, e)

pub append_none : {A : Type 0} (us : List A) → us ++ [] ≡ us
append_none [] = refl
append_none (u ∷ us) = ap (λ l. u ∷ l) (append_none us)

pub ends_none : {A : Type 0} (us vs : List A) → vs ≡ [] → us ++ vs ≡ us
ends_none us vs e = ap (λ l. us ++ l) e ∙ append_none us

pub true_false : (b : Bool) → b ≡ true → b ≡ false → ⊥
true_false b e f = cc

pub or_right : (a b : Bool) → b ≡ true → (a || b) ≡ true
or_right true b e = refl
or_right false b e = e

pub or_left : (a b : Bool) → a ≡ true → (a || b) ≡ true
or_left true b e = refl
or_left false b e = absurd (cc)
