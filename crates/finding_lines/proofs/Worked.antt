-- The text of findings, worked out.
use Rattle.std.proofs.Common.{◌≡◌, List, [], ◌∷◌, refl}
use Rattle.std.specs.Fmt.{digits}
use Rattle.std.specs.Prelude.{codes}
use Rattle.ir_module.specs.declared.places.Place.{Place}
use Rattle.ir_module.specs.declared.places.Spot.{Spot}
use Rattle.ir_module.specs.declared.places.Spot.TheVariants as spot
use Rattle.ir_module.specs.Spots.{point_at}
use Rattle.finding_lines.specs.Lines.{findings_text}

abbrev places : List (Spot × Place)
places =
    (spot.Module, record { line = 1; column = 1 })
    ∷ (spot.Func (record { 0 = 0 }), record { line = 1; column = 12 })
    ∷ (spot.At (point_at 0 1 3), record { line = 8; column = 3 })
    ∷ []

-- A is 65
a_module_a_function_and_a_terminator :
    findings_text 65 places (record { spot = spot.Module; rule = 4 } ∷ record { spot = spot.Func (record { 0 = 0 }); rule = 1 } ∷ record { spot = spot.At (point_at 0 1 3); rule = 16 } ∷ [])
    ≡ codes "FINDING\t1\t1\tA4\nFINDING\t1\t12\tA1\nFINDING\t8\t3\tA16\n"
unfolding digits
a_module_a_function_and_a_terminator = refl

nothing_found : findings_text 66 places [] ≡ codes "OK\n"
nothing_found = refl
