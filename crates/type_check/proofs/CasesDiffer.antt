-- Cases that differ from those before them are distinct.
use Rattle.std.proofs.Common.{◌≡◌, ℕ, Bool, true, false, ◌&&◌, ◌||◌, not, List, [], ◌∷◌, ◌++◌, refl, ap, ◌∙◌}
use Rattle.std.specs.List.{list_any, list_all}
use Rattle.ir_values.specs.declared.ids.BlockId.{BlockId}
use Rattle.ir_values.specs.Int.{IntValue}
use Rattle.type_check.specs.code.Cases.{key, same_key, differ_from}
use Rattle.ir_values.specs.Values.{same_int}
use Rattle.type_check.specs.Rules.{are_distinct}

abbrev Case : Type 0
Case = IntValue × BlockId

any-push : {A : Type 0} (p : A → Bool) (xs : List A) (y : A) → list_any p (xs ++ y ∷ []) ≡ (list_any p xs || p y)
any-push p [] y = or-false (p y)
  where
    or-false : (b : Bool) → (b || false) ≡ b
    or-false true = refl
    or-false false = refl
any-push p (x ∷ xs) y = ap (λ b. p x || b) (any-push p xs y) ∙ or-or (p x) (list_any p xs) (p y)
  where
    or-or : (a b c : Bool) → (a || (b || c)) ≡ ((a || b) || c)
    or-or true b c = refl
    or-or false b c = refl

-- each differs from the keys
abbrev apart : List (ℕ × ℕ) → List Case → Bool
apart keys cs = list_all (λ c. not (list_any (same_key (key c.0)) keys)) cs

apart-push : (keys : List (ℕ × ℕ)) (c : Case) (cs : List Case) → apart (keys ++ key c.0 ∷ []) cs ≡ (apart keys cs && not (list_any (λ d. same_int d.0 c.0) cs))
apart-push keys c [] = refl
apart-push keys c (d ∷ cs) =
    ap (λ b. not b && apart (keys ++ key c.0 ∷ []) cs) (any-push (same_key (key d.0)) keys (key c.0))
    ∙ ap (λ b. not (list_any (same_key (key d.0)) keys || same_int d.0 c.0) && b) (apart-push keys c cs)
    ∙ mix (list_any (same_key (key d.0)) keys) (same_int d.0 c.0) (apart keys cs) (list_any (λ d. same_int d.0 c.0) cs)
  where
    mix : (a s p n : Bool) → (not (a || s) && (p && not n)) ≡ ((not a && p) && not (s || n))
    mix true s p n = refl
    mix false true true n = refl
    mix false true false n = refl
    mix false false p n = refl

differ-is : (keys : List (ℕ × ℕ)) (cs : List Case) → differ_from keys cs ≡ (apart keys cs && are_distinct cs)
differ-is keys [] = refl
differ-is keys (c ∷ cs) =
    ap (λ b. not (list_any (same_key (key c.0)) keys) && b) (differ-is (keys ++ key c.0 ∷ []) cs ∙ ap (λ b. b && are_distinct cs) (apart-push keys c cs))
    ∙ mix (not (list_any (same_key (key c.0)) keys)) (apart keys cs) (not (list_any (λ d. same_int d.0 c.0) cs)) (are_distinct cs)
  where
    mix : (a p n d : Bool) → (a && ((p && n) && d)) ≡ ((a && p) && (n && d))
    mix true true n d = refl
    mix true false n d = refl
    mix false p n d = refl

apart-none : (cs : List Case) → apart [] cs ≡ true
apart-none [] = refl
apart-none (c ∷ cs) = apart-none cs

pub distinct : (cs : List Case) → differ_from [] cs ≡ are_distinct cs
distinct cs = differ-is [] cs ∙ ap (λ b. b && are_distinct cs) (apart-none cs)
