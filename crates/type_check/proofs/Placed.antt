-- The spot of a fault has a place wherever the spots of the module have one.
use Rattle.std.proofs.Common.{◌≡◌, inl, inr, ℕ, Bool, true, false, cond, Option, None, Some, List, [], ◌∷◌, map, refl, sym, subst, ap, ◌∙◌}
use Rattle.std.specs.Cmp.{unsigned_Decides}
use Rattle.std.specs.Prelude.{IsSome, MatchOption, ⊤, ◌==◌}
use Rattle.ir_module.specs.declared.places.Place.{Place}
use Rattle.ir_module.specs.declared.places.Spot.{Spot}
use Rattle.ir_module.specs.declared.places.Spot.TheVariants as spot
use Rattle.ir_module.specs.declared.tree.Module.{Module}
use Rattle.ir_module.specs.Places.{place_of, same_spot}
use Rattle.ir_module.specs.Spots.{spots}
use Rattle.type_check.specs.declared.code.TypeCode.{TypeCode}
use Rattle.type_check.specs.Faults.{Typed, IsFirstFault}
use Rattle.type_check.specs.Told.{HasPlace}
use Rattle.type_check.proofs.First.{fault-breaks}
use Rattle.type_check.proofs.Spots.{Among, covers}

itself : (n : ℕ) → (n == n) ≡ true
itself n = (unsigned_Decides n n).1 refl

same-itself : (s : Spot) → same_spot s s ≡ true
same-itself spot.Module = refl
same-itself (spot.Func g) = itself g.0
same-itself (spot.At p) = rw (itself p.func.0, itself p.block.0) (itself p.index)

found : (s : Spot) (ps : List (Spot × Place)) → Among (map (λ p. p.0) ps) s → IsSome (place_of ps s)
found s [] h = absurd h
found s (p ∷ ps) (inl e) = let q : same_spot p.0 s ≡ true = ap (λ x. same_spot x s) (sym e) ∙ same-itself s in rw q refl
found s (p ∷ ps) (inr h) = by (same_spot p.0 s) (found s ps h)
  where
    by : (b : Bool) → IsSome (place_of ps s) → IsSome (cond b (Some p.1) (place_of ps s))
    by true r = refl
    by false r = r

has-place : (m : Module) (s : Spot) → Among (spots m) s → HasPlace m s
has-place m s h ps e = found s ps (subst (λ ss. Among ss s) (sym e) h)

pub placed : (m : Module) (limit : ℕ) (s : Spot) (c : TypeCode) → IsFirstFault m limit s c → HasPlace m s
placed m limit s c f = has-place m s (covers m limit s c (fault-breaks m limit s c f.fault))

pub placed_told : (m : Module) (limit : ℕ) (o : Option (Spot × TypeCode)) → MatchOption o (Typed m limit) (λ x. IsFirstFault m limit x.0 x.1) → MatchOption o ⊤ (λ x. HasPlace m x.0)
placed_told m limit None h = tt
placed_told m limit (Some x) h = placed m limit x.0 x.1 h
