-- What is in a table after an insertion.
use Rattle.std.proofs.Common.{◌≡◌, List, [], ◌∷◌, ◌++◌, Bool, true, false, refl, sym, ap, ◌∙◌, subst}
use Rattle.std.specs.Prelude.{Contains, if◌then◌else◌}
use Rattle.std.specs.List.{list_any}
use Rattle.std.specs.Cmp.{IsEquivalence}
use Rattle.std.proofs.lemmas.Map.Views.{list_any-from_Contains, Contains-from_any}
use mathlib.Core.Logic.{◌⊎◌, inl, inr}
use Rattle.path_search.specs.code.Visit.{IsWith}

module _ {A : Type 0} (eq : A → A → Bool) (laws : IsEquivalence eq) (exact : (x y : A) → eq x y ≡ true → x ≡ y) where
  pub added : (keys xs : List A) (h : A) (new : List A) → xs ≡ keys → new ≡ (if list_any (eq h) keys then keys else keys ++ h ∷ []) → IsWith xs h new
  added keys xs h new e d = go (list_any (eq h) keys) refl
    where
      go : (b : Bool) → list_any (eq h) keys ≡ b → IsWith xs h new
      go true f = inl (subst (λ k. Contains k h) (sym e) (Contains-from_any exact h keys f), d ∙ ap (λ b. if b then keys else keys ++ h ∷ []) f ∙ sym e)
      go false f = inr (
        λ c. let t : list_any (eq h) keys ≡ true = list_any-from_Contains laws h keys (subst (λ k. Contains k h) e c) in cc,
        d ∙ ap (λ b. if b then keys else keys ++ h ∷ []) f ∙ ap (λ k. k ++ h ∷ []) (sym e),
      )
