-- What can be told of a search whose nodes are told apart.
use Rattle.std.proofs.Common.{◌≡◌, ◌∙◌, ℕ, zero, suc, Bool, true, false, List, [], ◌∷◌, Some, refl, sym, subst}
use Rattle.std.specs.Prelude.{Option, None, slice_get, Contains}
use Rattle.std.proofs.lemmas.Option.{none-some, same_Some}
use mathlib.Core.Logic.{◌⊎◌, inl, inr}
use Rattle.path_search.specs.Paths.{Search, successors, end_from, IsEnd, LiesOn}
use Rattle.path_search.specs.Verdict.{IsBack}
use Rattle.path_search.proofs.Frontier.{listed, place}
use Rattle.path_search.proofs.Walks.{decide_on}

-- an element of the list with the property
pub record Has {A : Type 0} (P : A → Type 0) (xs : List A) : Type 0 where
  pub at : ℕ
  pub element : A
  pub there : slice_get xs at ≡ Some element
  pub holds : P element

-- a property that can be told of each element can be told of a list
pub tell-has : {A : Type 0} (P : A → Type 0) → ((x : A) → P x ⊎ (P x → ⊥)) → (xs : List A) → Has P xs ⊎ (Has P xs → ⊥)
tell-has {A} P tell [] = inr (λ h. none-some h.element h.there)
tell-has {A} P tell (x ∷ xs) = first (tell x) (tell-has P tell xs)
  where
    neither : (P x → ⊥) → (Has P xs → ⊥) → (at : ℕ) (y : A) → slice_get (x ∷ xs) at ≡ Some y → P y → ⊥
    neither not none zero y e h = not (subst P (sym (same_Some x y e)) h)
    neither not none (suc i) y e h = none (record { at = i; element = y; there = e; holds = h })

    first : P x ⊎ (P x → ⊥) → Has P xs ⊎ (Has P xs → ⊥) → Has P (x ∷ xs) ⊎ (Has P (x ∷ xs) → ⊥)
    first (inl h) rest = inl (record { at = 0; element = x; there = refl; holds = h })
    first (inr not) (inl h) = inl (record { at = suc h.at; element = h.element; there = h.there; holds = h.holds })
    first (inr not) (inr none) = inr (λ h. neither not none h.at h.element h.there h.holds)

module _ {N K : Type 0} (s : Search N K) (same : (a b : N) → (a ≡ b) ⊎ (a ≡ b → ⊥)) where
  tell-end : (h : N) (p : List ℕ) → IsEnd s p h ⊎ (IsEnd s p h → ⊥)
  tell-end h p = by (end_from s s.start p) refl
    where
      by : (o : Option N) → end_from s s.start p ≡ o → IsEnd s p h ⊎ (IsEnd s p h → ⊥)
      by None e = inr (λ f. none-some h (sym e ∙ f))
      by (Some b) e = elim (same b h) [
        | inl i ↦ inl (subst (λ x. end_from s s.start p ≡ Some x) i e)
        | inr not ↦ inr (λ f. not (same_Some b h (sym e ∙ f)))
      ]

  -- a path of the list that leads to h
  pub record Leads (ps : List (List ℕ)) (h : N) : Type 0 where
    pub path : List ℕ
    pub listed : Contains ps path
    pub ends : IsEnd s path h

  pub tell-leads : (ps : List (List ℕ)) (h : N) → Leads ps h ⊎ ((p : List ℕ) → Contains ps p → IsEnd s p h → ⊥)
  tell-leads ps h = elim (tell-has (λ p. IsEnd s p h) (tell-end h) ps) [
    | inl t ↦ inl (record { path = t.element; listed = listed ps t.at t.element t.there; ends = t.holds })
    | inr none ↦ inr (λ p c e. let t = place ps p c in none (record { at = t.0; element = p; there = t.1; holds = e }))
  ]

  pub tell-back : (w : List ℕ) (h : N) → IsBack s w h ⊎ (IsBack s w h → ⊥)
  tell-back w h = by s.loops refl
    where
      by : (loops : Bool) → s.loops ≡ loops → IsBack s w h ⊎ (IsBack s w h → ⊥)
      by true e = inr (λ b. let f : true ≡ false = sym e ∙ b.closed in cc)
      by false e = elim (tell-has (LiesOn s w) (decide_on s same w) (successors s h)) [
        | inl t ↦ inl (record { closed = e; to = t.element; edge = listed (successors s h) t.at t.element t.there; on = t.holds })
        | inr none ↦ inr (λ b. let t = place (successors s h) b.to b.edge in none (record { at = t.0; element = b.to; there = t.1; holds = b.on }))
      ]
