-- Two lists that hold exactly the violations of one profile, in order, are one list.
use Rattle.std.proofs.Common.{◌≡◌, ◌⊎◌, inl, inr, ℕ, ◌<◌, List, [], ◌∷◌, refl, sym, ap, ◌∙◌, subst, arith, Contains}
use Rattle.ir_module.specs.declared.places.Spot.{Spot}
use Rattle.ir_module.specs.Places.{rank, IsBefore}
use Rattle.profile_rules.specs.declared.finding.Finding.{Finding}
use Rattle.profile_rules.specs.Findings.{AreFindings, Ascend, AscendFrom, Precedes}
use Rattle.profile_rules.proofs.Positions.{here, there, cases, none}

-- ---- the order of spots

before-itself : (a : Spot) → IsBefore a a → ⊥
before-itself a h = omega (arith, h)

never-both : (a b : Spot) → IsBefore a b → IsBefore b a → ⊥
never-both a b h k = omega (arith, h, k)

one-level : {R S T : Type 0} (a b c : ℕ) → (R → S → T) → (a < b) ⊎ ((a ≡ b) × R) → (b < c) ⊎ ((b ≡ c) × S) → (a < c) ⊎ ((a ≡ c) × T)
one-level a b c f (inl x) (inl y) = inl (omega arith)
one-level a b c f (inl x) (inr y) = inl (omega arith)
one-level a b c f (inr x) (inl y) = inl (omega arith)
one-level a b c f (inr x) (inr y) = inr (omega arith, f x.1 y.1)

before-then : (a b c : Spot) → IsBefore a b → IsBefore b c → IsBefore a c
before-then a b c =
    let x = rank a in let y = rank b in let z = rank c in
    one-level x.0 y.0 z.0 (one-level x.1 y.1 z.1 (one-level x.2 y.2 z.2 (λ (p : x.3 < y.3) (q : y.3 < z.3). omega arith)))

-- ---- the order of findings

precedes-itself : (x : Finding) → Precedes x x → ⊥
precedes-itself x (inl h) = before-itself x.spot h
precedes-itself x (inr h) = let l = h.1 in absurd (omega (arith, l))

precedes-back : (x y : Finding) → Precedes x y → Precedes y x → ⊥
precedes-back x y (inl h) (inl k) = never-both x.spot y.spot h k
precedes-back x y (inl h) (inr k) = before-itself x.spot (subst (λ s. IsBefore x.spot s) k.0 h)
precedes-back x y (inr h) (inl k) = before-itself x.spot (subst (λ s. IsBefore s x.spot) (sym h.0) k)
precedes-back x y (inr h) (inr k) = let l = h.1 in let m = k.1 in absurd (omega (arith, l, m))

precedes-then : (x y z : Finding) → Precedes x y → Precedes y z → Precedes x z
precedes-then x y z (inl h) (inl k) = inl (before-then x.spot y.spot z.spot h k)
precedes-then x y z (inl h) (inr k) = inl (subst (λ s. IsBefore x.spot s) k.0 h)
precedes-then x y z (inr h) (inl k) = inl (subst (λ s. IsBefore s z.spot) (sym h.0) k)
precedes-then x y z (inr h) (inr k) = let l = h.1 in let m = k.1 in inr (h.0 ∙ k.0, omega (arith, l, m))

-- the first precedes all behind it
precedes-all : (x : Finding) (ys : List Finding) → AscendFrom x ys → (z : Finding) → Contains ys z → Precedes x z
precedes-all x [] h z c = absurd (none z c)
precedes-all x (y ∷ ys) h z c = elim (cases y z ys c) [ inl e ↦ subst (Precedes x) e h.0 | inr m ↦ precedes-then x y z h.0 (precedes-all y ys h.1 z m) ]

ascend-behind : (x : Finding) (ys : List Finding) → AscendFrom x ys → Ascend ys
ascend-behind x [] h = tt
ascend-behind x (y ∷ ys) h = h.1

-- ---- two such lists

abbrev Within : List Finding → List Finding → Type 0
Within xs ys = (z : Finding) → Contains xs z → Contains ys z

same-first : (x y : Finding) (xs ys : List Finding) → AscendFrom x xs → AscendFrom y ys → Within (x ∷ xs) (y ∷ ys) → Within (y ∷ ys) (x ∷ xs) → x ≡ y
same-first x y xs ys a b f g = elim (cases y x ys (f x (here x xs))) [ inl e ↦ sym e | inr m ↦ (elim (cases x y xs (g y (here y ys))) [ inl e ↦ e | inr k ↦ absurd (precedes-back x y (precedes-all x xs a y k) (precedes-all y ys b x m)) ]) ]

within-behind : (x y : Finding) (xs ys : List Finding) → x ≡ y → AscendFrom x xs → Within (x ∷ xs) (y ∷ ys) → Within xs ys
within-behind x y xs ys e a f z c = elim (cases y z ys (f z (there x z xs c))) [ inl q ↦ absurd (precedes-itself x (subst (Precedes x) (sym (e ∙ q)) (precedes-all x xs a z c))) | inr m ↦ m ]

same-list : (xs ys : List Finding) → Ascend xs → Ascend ys → Within xs ys → Within ys xs → xs ≡ ys
same-list [] [] a b f g = refl
same-list [] (y ∷ ys) a b f g = absurd (none y (g y (here y ys)))
same-list (x ∷ xs) [] a b f g = absurd (none x (f x (here x xs)))
same-list (x ∷ xs) (y ∷ ys) a b f g =
    let e : x ≡ y = same-first x y xs ys a b f g in
    ap (λ z. z ∷ xs) e
    ∙ ap (λ zs. y ∷ zs) (same-list xs ys (ascend-behind x xs a) (ascend-behind y ys b) (within-behind x y xs ys e a f) (within-behind y x ys xs (sym e) b g))

pub findings-one : (V : Spot → ℕ → Type 0) (xs ys : List Finding) → AreFindings V xs → AreFindings V ys → xs ≡ ys
findings-one V xs ys a b =
    same-list xs ys a.ordered b.ordered (λ z c. (b.exact z.spot z.rule).1 ((a.exact z.spot z.rule).0 c)) (λ z c. (a.exact z.spot z.rule).1 ((b.exact z.spot z.rule).0 c))
