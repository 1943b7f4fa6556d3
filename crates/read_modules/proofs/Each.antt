-- Lists of which each element has a property, and lists of faults that are empty.
use Rattle.std.proofs.Common.{◌≡◌, Bool, true, false, ◌&&◌, List, [], ◌∷◌, ◌++◌, map, Option, None, Some, refl}
use Rattle.std.specs.List.{list_all, flat_map, filter_map, cons_option}

-- each element has it
abbrev pub Each : {A : Type 0} → (A → Type 0) → List A → Type 0
Each P [] = Unit
Each P (x ∷ xs) = P x × Each P xs

-- the value, where there is one, has it
abbrev pub Any : {A : Type 0} → (A → Type 0) → Option A → Type 0
Any P None = Unit
Any P (Some x) = P x

pub Each-append : {A : Type 0} (P : A → Type 0) (xs ys : List A) → Each P xs → Each P ys → Each P (xs ++ ys)
Each-append P [] ys h k = k
Each-append P (x ∷ xs) ys h k = (h.0, Each-append P xs ys h.1 k)

pub Each-left : {A : Type 0} (P : A → Type 0) (xs ys : List A) → Each P (xs ++ ys) → Each P xs
Each-left P [] ys h = tt
Each-left P (x ∷ xs) ys h = (h.0, Each-left P xs ys h.1)

pub Each-right : {A : Type 0} (P : A → Type 0) (xs ys : List A) → Each P (xs ++ ys) → Each P ys
Each-right P [] ys h = h
Each-right P (x ∷ xs) ys h = Each-right P xs ys h.1

pub Each-weaker : {A : Type 0} (P Q : A → Type 0) → ((x : A) → P x → Q x) → (xs : List A) → Each P xs → Each Q xs
Each-weaker P Q f [] h = tt
Each-weaker P Q f (x ∷ xs) h = (f x h.0, Each-weaker P Q f xs h.1)

pub Each-both : {A : Type 0} (P Q R : A → Type 0) → ((x : A) → P x → Q x → R x) → (xs : List A) → Each P xs → Each Q xs → Each R xs
Each-both P Q R f [] h k = tt
Each-both P Q R f (x ∷ xs) h k = (f x h.0 k.0, Each-both P Q R f xs h.1 k.1)

pub Each-always : {A : Type 0} (P : A → Type 0) → ((x : A) → P x) → (xs : List A) → Each P xs
Each-always P f [] = tt
Each-always P f (x ∷ xs) = (f x, Each-always P f xs)

pub Each-map : {A B : Type 0} (P : B → Type 0) (f : A → B) (xs : List A) → Each (λ x. P (f x)) xs → Each P (map f xs)
Each-map P f [] h = tt
Each-map P f (x ∷ xs) h = (h.0, Each-map P f xs h.1)

pub Each-unmap : {A B : Type 0} (P : B → Type 0) (f : A → B) (xs : List A) → Each P (map f xs) → Each (λ x. P (f x)) xs
Each-unmap P f [] h = tt
Each-unmap P f (x ∷ xs) h = (h.0, Each-unmap P f xs h.1)

pub Each-flat : {A B : Type 0} (P : B → Type 0) (f : A → List B) (xs : List A) → Each (λ x. Each P (f x)) xs → Each P (flat_map f xs)
Each-flat P f [] h = tt
Each-flat P f (x ∷ xs) h = Each-append P (f x) (flat_map f xs) h.0 (Each-flat P f xs h.1)

consed : {A : Type 0} (P : A → Type 0) (o : Option A) (xs : List A) → Any P o → Each P xs → Each P (cons_option o xs)
consed P None xs h k = k
consed P (Some x) xs h k = (h, k)

pub Each-filter : {A B : Type 0} (P : B → Type 0) (f : A → Option B) (xs : List A) → Each (λ x. Any P (f x)) xs → Each P (filter_map f xs)
Each-filter P f [] h = tt
Each-filter P f (x ∷ xs) h = consed P (f x) (filter_map f xs) h.0 (Each-filter P f xs h.1)

both_true : (a b : Bool) → a ≡ true → b ≡ true → (a && b) ≡ true
both_true true b e f = f
both_true false b e f = absurd (cc)

-- a test that each element passes
pub list_all-each : {A : Type 0} (test : A → Bool) (xs : List A) → Each (λ x. test x ≡ true) xs → list_all test xs ≡ true
list_all-each test [] h = refl
list_all-each test (x ∷ xs) h = both_true (test x) (list_all test xs) h.0 (list_all-each test xs h.1)

both_parts : (a b : Bool) → (a && b) ≡ true → (a ≡ true) × (b ≡ true)
both_parts true b e = (refl, e)
both_parts false b e = absurd (cc)

pub each_of : {A : Type 0} (test : A → Bool) (xs : List A) → list_all test xs ≡ true → Each (λ x. test x ≡ true) xs
each_of test [] h = tt
each_of test (x ∷ xs) h = let p = both_parts (test x) (list_all test xs) h in (p.0, each_of test xs p.1)

-- Faults: a list that is empty has empty parts.

pub none_left : {A : Type 0} (xs ys : List A) → xs ++ ys ≡ [] → xs ≡ []
none_left [] ys e = refl
none_left (x ∷ xs) ys e = absurd (cc)

pub none_right : {A : Type 0} (xs ys : List A) → xs ++ ys ≡ [] → ys ≡ []
none_right [] ys e = e
none_right (x ∷ xs) ys e = absurd (cc)

pub none_each : {A B : Type 0} (f : A → List B) (xs : List A) → flat_map f xs ≡ [] → Each (λ x. f x ≡ []) xs
none_each f [] e = tt
none_each f (x ∷ xs) e = (none_left (f x) (flat_map f xs) e, none_each f xs (none_right (f x) (flat_map f xs) e))
