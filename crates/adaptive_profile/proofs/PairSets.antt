-- Sets of pairs.
use Rattle.std.proofs.Common.{◌≡◌, ℕ, zero, suc, Bool, true, false, ◌||◌, if◌then◌else◌, List, [], ◌∷◌, ◌++◌, Contains, refl, sym, ap, ◌∙◌, subst, arith}
use Rattle.std.proofs.lemmas.Bool.Decides.{nat_tests}
use Rattle.std.proofs.lemmas.List.Folds.{list_any-append}
use Rattle.std.proofs.lemmas.Map.Views.{Contains-from_any}
use Rattle.adaptive_profile.specs.code.Pairs.{same_pair, holds, with_pair}

same-exact : (p q : ℕ × ℕ) → same_pair p q ≡ true → p ≡ q
same-exact p q e = let x : p.0 ≡ q.0 = grind (arith, nat_tests) in let y : p.1 ≡ q.1 = grind (arith, nat_tests) in (λ i. (x i, y i))

same-self : (p : ℕ × ℕ) → same_pair p p ≡ true
same-self p = grind (arith, nat_tests)

pub holds-contains : (xs : List (ℕ × ℕ)) (p : ℕ × ℕ) → holds xs p ≡ true → Contains xs p
holds-contains xs p e = Contains-from_any same-exact p xs e

pub contains-holds : (xs : List (ℕ × ℕ)) (p : ℕ × ℕ) → Contains xs p → holds xs p ≡ true
contains-holds [] p c = absurd (let l = c.1 in omega (arith, l))
contains-holds (x ∷ xs) p (zero, l, e) = ap (λ b. b || holds xs p) (subst (λ z. same_pair p z ≡ true) (sym e) (same-self p))
contains-holds (x ∷ xs) p (suc k, l, e) = ap (λ b. same_pair p x || b) (contains-holds xs p (k, omega (arith, l), e)) ∙ or-true (same_pair p x)
  where
    or-true : (b : Bool) → (b || true) ≡ true
    or-true true = refl
    or-true false = refl

or-false : (b : Bool) → (b || false) ≡ b
or-false true = refl
or-false false = refl

or-assoc : (a b c : Bool) → ((a || b) || c) ≡ (a || (b || c))
or-assoc true b c = refl
or-assoc false b c = refl

or-known : (a b : Bool) → (b ≡ true → a ≡ true) → (a || b) ≡ a
or-known true b h = refl
or-known false true h = sym (h refl)
or-known false false h = refl

-- what a set holds after a pair was added
pub held : (xs : List (ℕ × ℕ)) (p q : ℕ × ℕ) → holds (with_pair xs p) q ≡ (holds xs q || same_pair q p)
held xs p q = at (holds xs p) refl
  where
    at : (b : Bool) → holds xs p ≡ b → holds (if b then xs else xs ++ p ∷ []) q ≡ (holds xs q || same_pair q p)
    at true e = sym (or-known (holds xs q) (same_pair q p) (λ s. subst (λ z. holds xs z ≡ true) (sym (same-exact q p s)) e))
    at false e = list_any-append (same_pair q) xs (p ∷ []) ∙ ap (λ b. holds xs q || b) (or-false (same_pair q p))

pub one-more : (xs xs' rest whole : List (ℕ × ℕ)) (p : ℕ × ℕ) → xs' ≡ with_pair xs p → ((q : ℕ × ℕ) → (holds xs q || holds (p ∷ rest) q) ≡ holds whole q)
    → (q : ℕ × ℕ) → (holds xs' q || holds rest q) ≡ holds whole q
one-more xs xs' rest whole p e h q =
    ap (λ l. holds l q || holds rest q) e ∙ ap (λ b. b || holds rest q) (held xs p q) ∙ or-assoc (holds xs q) (same_pair q p) (holds rest q) ∙ h q

pub all-held : (xs whole : List (ℕ × ℕ)) → ((q : ℕ × ℕ) → (holds xs q || holds [] q) ≡ holds whole q) → (q : ℕ × ℕ) → holds xs q ≡ holds whole q
all-held xs whole h q = sym (or-false (holds xs q)) ∙ h q
