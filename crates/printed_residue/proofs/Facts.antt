-- Lists that are cut at an element, and tests of all elements.
use Rattle.std.proofs.Common.{◌≡◌, ℕ, zero, suc, Bool, true, Some, List, [], ◌∷◌, ◌++◌, length, take, refl, sym, ap, ◌∙◌, subst}
use Rattle.std.proofs.lemmas.Bool.{and_parts}
use Rattle.std.proofs.lemmas.Grind.{flat_map-append}
use Rattle.std.proofs.lemmas.List.Folds.{list_all-append}
use Rattle.std.specs.List.{list_all}
use Rattle.std.specs.Prelude.{flat_map, slice_get}

module _ {A : Type 0} where
  pub cut : (xs : List A) (i : ℕ) (x : A) → slice_get xs i ≡ Some x → (rest : List A) × (xs ≡ take i xs ++ (x ∷ rest))
  cut [] i x h = cc
  cut (y ∷ xs) zero x h = let s : y ≡ x = cc in (xs, ap (λ z. z ∷ xs) s)
  cut (y ∷ xs) (suc i) x h = let r = cut xs i x h in (r.0, ap (λ z. y ∷ z) r.1)

  take-none : (xs : List A) → take 0 xs ≡ []
  take-none [] = refl
  take-none (x ∷ xs) = refl

  pub take-one-more : (xs : List A) (i : ℕ) (x : A) → slice_get xs i ≡ Some x → take (suc i) xs ≡ take i xs ++ x ∷ []
  take-one-more [] i x h = cc
  take-one-more (y ∷ xs) zero x h = let s : y ≡ x = cc in ap (λ zs. y ∷ zs) (take-none xs) ∙ ap (λ z. z ∷ []) s
  take-one-more (y ∷ xs) (suc i) x h = ap (λ z. y ∷ z) (take-one-more xs i x h)

  pub take-all : (xs : List A) → take (length xs) xs ≡ xs
  take-all [] = refl
  take-all (x ∷ xs) = ap (λ z. x ∷ z) (take-all xs)

  pub passes-mid : (p : A → Bool) (a : List A) (x : A) (b : List A) → list_all p (a ++ (x ∷ b)) ≡ true → p x ≡ true
  passes-mid p a x b h =
      let s = and_parts (list_all p a) (list_all p (x ∷ b)) (sym (list_all-append p a (x ∷ b)) ∙ h) in
      (and_parts (p x) (list_all p b) s.1).0

  pub passes-here : (p : A → Bool) (xs : List A) (i : ℕ) (x : A) → list_all p xs ≡ true → slice_get xs i ≡ Some x → p x ≡ true
  passes-here p xs i x h g = let c = cut xs i x g in passes-mid p (take i xs) x c.0 (subst (λ ys. list_all p ys ≡ true) c.1 h)

-- the pieces of a list that is made from pieces
pub passes-piece : {A B : Type 0} (p : A → Bool) (f : B → List A) (ys : List B) (i : ℕ) (y : B) → list_all p (flat_map f ys) ≡ true → slice_get ys i ≡ Some y → list_all p (f y) ≡ true
passes-piece p f ys i y h g =
    let c = cut ys i y g in
    let e : flat_map f ys ≡ flat_map f (take i ys) ++ (f y ++ flat_map f c.0) = ap (flat_map f) c.1 ∙ flat_map-append f (take i ys) (y ∷ c.0) in
    let s = and_parts (list_all p (flat_map f (take i ys))) (list_all p (f y ++ flat_map f c.0)) (sym (list_all-append p (flat_map f (take i ys)) (f y ++ flat_map f c.0)) ∙ ap (list_all p) (sym e) ∙ h) in
    (and_parts (list_all p (f y)) (list_all p (flat_map f c.0)) (sym (list_all-append p (f y) (flat_map f c.0)) ∙ s.1)).0
