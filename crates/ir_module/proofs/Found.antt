-- A table from spots to places holds the list of the pairs that were added.
use Rattle.std.proofs.Common.{◌≡◌, Bool, true, false, List, [], ◌∷◌, ◌++◌, refl, ap, ◌∙◌, arith}
use Rattle.std.proofs.lemmas.Bool.Decides.{nat_tests}
use Rattle.std.proofs.lemmas.List.Elements.{All-head, All-tail}
use Rattle.std.specs.Map.{lookup}
use Rattle.indexmap.specs.IndexMap.{insert_entry}
use Rattle.ir_module.specs.contracts.places.SpotPartialEq.TheImpl.{eq-value}
use Rattle.ir_module.specs.declared.places.Place.{Place}
use Rattle.ir_module.specs.declared.places.Spot.{Spot}
use Rattle.ir_module.specs.declared.places.Spot.TheVariants as spot
use Rattle.ir_module.specs.Places.{same_spot, place_of, IsBefore, ComesAfter}

-- the test of the table's keys
abbrev eq : Spot → Spot → Bool
eq = eq-value.it

agrees : (a b : Spot) → eq a b ≡ same_spot b a
agrees spot.Module spot.Module = refl
agrees spot.Module (spot.Func g) = refl
agrees spot.Module (spot.At q) = refl
agrees (spot.Func f) spot.Module = refl
agrees (spot.Func f) (spot.Func g) = grind (arith, nat_tests)
agrees (spot.Func f) (spot.At q) = refl
agrees (spot.At p) spot.Module = refl
agrees (spot.At p) (spot.Func g) = refl
agrees (spot.At p) (spot.At q) = grind (arith, nat_tests)

before_is_other : (a b : Spot) → IsBefore a b → same_spot a b ≡ false
before_is_other spot.Module spot.Module h = absurd (omega arith)
before_is_other spot.Module (spot.Func g) h = refl
before_is_other spot.Module (spot.At q) h = refl
before_is_other (spot.Func f) spot.Module h = refl
before_is_other (spot.Func f) (spot.Func g) h = grind (arith, nat_tests)
before_is_other (spot.Func f) (spot.At q) h = refl
before_is_other (spot.At p) spot.Module h = refl
before_is_other (spot.At p) (spot.Func g) h = refl
before_is_other (spot.At p) (spot.At q) h = grind (arith, nat_tests)

module _ (s : Spot) where
  found_step : (p : Spot × Place) (ps : List (Spot × Place)) (b : Bool) → same_spot p.0 s ≡ b → place_of ps s ≡ lookup (eq s) ps → place_of (p ∷ ps) s ≡ lookup (eq s) (p ∷ ps)
  found_step p ps true e more = rw (e, agrees s p.0 ∙ e) refl
  found_step p ps false e more = rw (e, agrees s p.0 ∙ e) more

  pub found : (ps : List (Spot × Place)) → place_of ps s ≡ lookup (eq s) ps
  found [] = refl
  found (p ∷ ps) = found_step p ps (same_spot p.0 s) refl (found ps)

  pub added : (ps : List (Spot × Place)) (at : Place) → ComesAfter ps s → insert_entry eq ps s at ≡ ps ++ (s, at) ∷ []
  added [] at h = refl
  added (p ∷ ps) at h =
      let other = before_is_other p.0 s (All-head (λ (q : Spot × Place). IsBefore q.0 s) p ps h) in
      rw (agrees s p.0 ∙ other) (ap (λ l. p ∷ l) (added ps at (All-tail (λ (q : Spot × Place). IsBefore q.0 s) p ps h)))
