-- A table holds the number of the first definition of each name.
use Rattle.std.proofs.Common.{◌≡◌, ℕ, ◌+◌, Bool, true, false, cond, Option, None, Some, if◌then◌else◌, List, [], ◌∷◌, ◌++◌, length, refl, sym, subst, ◌∙◌, arith, IsTrue, is_some, true≢false}
use Rattle.std.specs.Cmp.{IsEquivalence}
use Rattle.std.specs.List.{position_from}
use Rattle.std.specs.Option.{option_or}
use Rattle.ir_names.specs.Sense.{number_of}

module _ {K : Type 0} (test : K → Bool) (k : K) where
  step : (n : ℕ) (x : K) (xs : List K) (b : Bool) → test x ≡ b
      → position_from test (n + 1) (xs ++ k ∷ []) ≡ option_or (position_from test (n + 1) xs) (if test k then Some (n + 1 + length xs) else None)
      → position_from test n (x ∷ (xs ++ k ∷ [])) ≡ option_or (position_from test n (x ∷ xs)) (if test k then Some (n + length (x ∷ xs)) else None)
  step n x xs true t more = rw t refl
  step n x xs false t more = let e : n + 1 + length xs ≡ n + length (x ∷ xs) = omega arith in rw (t, sym e) more

  appended : (n : ℕ) (xs : List K) → position_from test n (xs ++ k ∷ []) ≡ option_or (position_from test n xs) (if test k then Some (n + length xs) else None)
  appended n [] = let e : n + 0 ≡ n = omega arith in rw e refl
  appended n (x ∷ xs) = step n x xs (test x) refl (appended (n + 1) xs)

-- the names with one more
pub added : {K : Type 0} (eq : K → K → Bool) (f g : K → Option ℕ) (name : K) (count : ℕ) (names : List K)
    → ((k : K) → g k ≡ option_or (f k) (if eq k name then Some count else None)) → count ≡ length names → ((k : K) → f k ≡ number_of eq names k)
    → (k : K) → g k ≡ number_of eq (names ++ name ∷ []) k
added eq f g name count names h c e k =
    let a = appended (eq k) name 0 names in
    let z : 0 + length names ≡ count = omega (arith, c) in
    h k ∙ sym (rw (a, z, sym (e k)) refl)

module _ {K : Type 0} (eq : K → K → Bool) (law : IsEquivalence eq) (exact : (x y : K) → IsTrue (eq x y) → x ≡ y) where
  none : (o : Option ℕ) → is_some o ≡ false → o ≡ None
  none None e = refl
  none (Some x) e = absurd (true≢false e)

  new : (f : Option ℕ) (n : ℕ) (b : Bool) → (b ≡ true → f ≡ None) → cond b (Some n) f ≡ option_or f (if b then Some n else None)
  new f n true h = rw (h refl) refl
  new None n false h = refl
  new (Some x) n false h = refl

  old : (f : Option ℕ) (n : ℕ) (b : Bool) → (b ≡ true → is_some f ≡ true) → f ≡ option_or f (if b then Some n else None)
  old None n true h = absurd (true≢false (sym (h refl)))
  old None n false h = refl
  old (Some x) n b h = refl

  same : (name k : K) → eq k name ≡ true → name ≡ k
  same name k e = sym (exact k name e)

  -- a name that had no number
  pub by_new : (f g : K → Option ℕ) (name : K) (n : ℕ) → is_some (f name) ≡ false → ((k : K) → g k ≡ cond (eq name k) (Some n) (f k)) → (k : K) → g k ≡ option_or (f k) (if eq k name then Some n else None)
  by_new f g name n a h k = h k ∙ (rw (law.symm name k) (new (f k) n (eq k name) (λ e. none (f k) (subst (λ q. is_some (f q) ≡ false) (same name k e) a))))

  -- one that had
  pub by_old : (f : K → Option ℕ) (name : K) (n : ℕ) → is_some (f name) ≡ true → (k : K) → f k ≡ option_or (f k) (if eq k name then Some n else None)
  by_old f name n a k = old (f k) n (eq k name) (λ e. subst (λ q. is_some (f q) ≡ true) (same name k e) a)

pub one_more : {K : Type 0} (k : K) (ks : List K) (n : ℕ) → n ≡ length ks → n + 1 ≡ length (ks ++ k ∷ [])
one_more k [] n e = omega (arith, e)
one_more k (x ∷ xs) n e = let m : length xs + 1 ≡ length (xs ++ k ∷ []) = one_more k xs (length xs) refl in omega (arith, e, m)
