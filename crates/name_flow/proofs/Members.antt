-- What stands in lists that are put together.
use Rattle.std.proofs.Common.{◌≡◌, zero, suc, ◌⊎◌, ℕ, ◌+◌, List, [], ◌∷◌, ◌++◌, take, map, Some, refl, sym, ap, arith, add-one, inl, inr, Contains, slice_get, subst}
use Rattle.std.proofs.lemmas.List.Elements.{Contains-append_left, Contains-append_right, Contains-append_cases}
use Rattle.name_flow.specs.code.Marks.{gather}

pub here : {A : Type 0} (y : A) (ys : List A) → Contains (y ∷ ys) y
here y ys = (zero, omega arith, refl)

pub there : {A : Type 0} (y x : A) (ys : List A) → Contains ys x → Contains (y ∷ ys) x
there y x ys h = (suc h.0, omega (arith, h.1), h.2)

pub cases : {A : Type 0} (y x : A) (ys : List A) → Contains (y ∷ ys) x → (y ≡ x) ⊎ Contains ys x
cases y x ys (zero, l, e) = inl e
cases y x ys (suc k, l, e) = inr (k, omega arith, e)

pub none : {A : Type 0} (x : A) → Contains [] x → ⊥
none x h = absurd (omega (arith, h.1))

-- an element with its number
pub record Holds {A : Type 0} (xs : List A) (x : A) : Type 0 where
  pub number : ℕ
  pub is : slice_get xs number ≡ Some x

pub Holds-here : {A : Type 0} (y x : A) (ys : List A) → y ≡ x → Holds (y ∷ ys) x
Holds-here y x ys e = record { number = zero; is = ap Some e }

pub Holds-there : {A : Type 0} (y x : A) (ys : List A) → Holds ys x → Holds (y ∷ ys) x
Holds-there y x ys h = record { number = suc h.number; is = h.is }

-- what map gives
pub Contains-map : {A B : Type 0} (f : A → B) (xs : List A) (x : A) → Contains xs x → Contains (map f xs) (f x)
Contains-map f [] x h = absurd (none x h)
Contains-map f (y ∷ ys) x h = elim (cases y x ys h) [ inl e ↦ subst (λ z. Contains (map f (y ∷ ys)) (f z)) e (here (f y) (map f ys)) | inr m ↦ there (f y) (f x) (map f ys) (Contains-map f ys x m) ]

pub record FromMap {A B : Type 0} (f : A → B) (xs : List A) (z : B) : Type 0 where
  pub source : A
  pub within : Contains xs source
  pub is : f source ≡ z

pub map-cases : {A B : Type 0} (f : A → B) (xs : List A) (z : B) → Contains (map f xs) z → FromMap f xs z
map-cases f [] z h = absurd (none z h)
map-cases f (y ∷ ys) z h = elim (cases (f y) z (map f ys) h) [ inl e ↦ record { source = y; within = here y ys; is = e } | inr m ↦ more (map-cases f ys z m) ]
  where
    more : FromMap f ys z → FromMap f (y ∷ ys) z
    more r = record { source = r.source; within = there y r.source ys r.within; is = r.is }

-- what gather gives: some element's list has it
pub record Gathered {A B : Type 0} (g : ℕ → A → List B) (n : ℕ) (xs : List A) (z : B) : Type 0 where
  pub number : ℕ
  pub source : A
  pub at : slice_get xs number ≡ Some source
  pub within : Contains (g (n + number) source) z

pub gather-cases : {A B : Type 0} (g : ℕ → A → List B) (n : ℕ) (xs : List A) (z : B) → Contains (gather g n xs) z → Gathered g n xs z
gather-cases g n [] z h = absurd (none z h)
gather-cases g n (y ∷ ys) z h = elim (Contains-append_cases (g n y) (gather g (n + 1) ys) z h) [ inl m ↦ record { number = zero; source = y; at = refl; within = let e : n + 0 ≡ n = omega arith in rw e m } | inr m ↦ more (gather-cases g (n + 1) ys z m) ]
  where
    more : Gathered g (n + 1) ys z → Gathered g n (y ∷ ys) z
    more r = record { number = suc r.number; source = r.source; at = r.at; within = let e : n + suc r.number ≡ (n + 1) + r.number = omega arith in rw e r.within }

pub Contains-gather : {A B : Type 0} (g : ℕ → A → List B) (n : ℕ) (xs : List A) (k : ℕ) (x : A) (z : B) → slice_get xs k ≡ Some x → Contains (g (n + k) x) z → Contains (gather g n xs) z
Contains-gather g n [] k x z e m = cc
Contains-gather g n (y ∷ ys) zero x z e m =
    let same : y ≡ x = cc in
    let num : n + 0 ≡ n = omega arith in
    Contains-append_left (g n y) (gather g (n + 1) ys) z (let m' = rw num at m in subst (λ w. Contains (g n w) z) (sym same) m')
Contains-gather g n (y ∷ ys) (suc k) x z e m =
    let num : n + suc k ≡ (n + 1) + k = omega arith in
    Contains-append_right (g n y) (gather g (n + 1) ys) z (Contains-gather g (n + 1) ys k x z e (rw num at m))

take-more : {A B : Type 0} (f : A → B) (xs : List A) (i : ℕ) (x : A) → slice_get xs i ≡ Some x → map f (take (suc i) xs) ≡ map f (take i xs) ++ f x ∷ []
take-more f [] i x e = cc
take-more f (y ∷ ys) zero x e = let same : y ≡ x = cc in ap (λ w. f w ∷ []) same
take-more f (y ∷ ys) (suc i) x e = ap (λ w. f y ∷ w) (take-more f ys i x e)

pub map-take-more : {A B : Type 0} (f : A → B) (xs : List A) (i : ℕ) (x : A) → slice_get xs i ≡ Some x → map f (take (i + 1) xs) ≡ map f (take i xs) ++ f x ∷ []
map-take-more f xs i x e = rw add-one (take-more f xs i x e)
