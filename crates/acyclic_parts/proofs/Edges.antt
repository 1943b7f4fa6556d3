-- Edges of a graph whose nodes are given by a list.
use Rattle.std.proofs.Common.{◌≡◌, ℕ, Option, None, Some, List, map, refl, sym, ap, ◌∙◌, subst, option_map, Contains}
use Rattle.std.proofs.lemmas.Option.{slice_get-map}
use Rattle.std.specs.Prelude.{slice_get}
use Rattle.graph_cycles.specs.Cycles.{list_or_none, successors}
use Rattle.graph_cycles.proofs.Lists.{contains-get, none}

-- an element of a list whose image is y
pub record Given {A B : Type 0} (f : A → B) (xs : List A) (y : B) : Type 0 where
  pub place : ℕ
  pub of : A
  pub is : slice_get xs place ≡ Some of
  pub gives : f of ≡ y

pub given-by : {A B : Type 0} (f : A → B) (xs : List A) (y : B) → Contains (map f xs) y → Given f xs y
given-by f xs y h =
    let c = contains-get (map f xs) y h in
    by c.0 (slice_get xs c.0) refl (sym (slice_get-map f xs c.0) ∙ c.1)
  where
    by : (i : ℕ) (o : Option _) → slice_get xs i ≡ o → option_map f o ≡ Some y → Given f xs y
    by i None e h = cc
    by i (Some x) e h = record { place = i; of = x; is = e; gives = (let z : f x ≡ y = cc in z) }

-- the successors of a node that stands in the list
pub successors-of : {A : Type 0} (f : A → List ℕ) (xs : List A) (u : ℕ) (x : A) → slice_get xs u ≡ Some x → successors (map f xs) u ≡ f x
successors-of f xs u x e = ap list_or_none (slice_get-map f xs u ∙ ap (option_map f) e)

pub record Edge {A : Type 0} (f : A → List ℕ) (xs : List A) (u w : ℕ) : Type 0 where
  pub from : A
  pub is : slice_get xs u ≡ Some from
  pub among : Contains (f from) w

-- only nodes of the list have successors
pub edge-of : {A : Type 0} (f : A → List ℕ) (xs : List A) (u w : ℕ) → Contains (successors (map f xs) u) w → Edge f xs u w
edge-of f xs u w h = by (slice_get xs u) refl
  where
    by : (o : Option _) → slice_get xs u ≡ o → Edge f xs u w
    by None e = absurd (none w (subst (λ l. Contains l w) (ap list_or_none (slice_get-map f xs u ∙ ap (option_map f) e)) h))
    by (Some x) e = record { from = x; is = e; among = subst (λ l. Contains l w) (successors-of f xs u x e) h }
