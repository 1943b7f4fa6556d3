-- Admission and lowering as the code sees them.
use Rattle.std.specs.Prelude.{ℕ, IsSome, Result, Ok, Err, List}
use Rattle.admission.specs.declared.stop.AdmitStop.{AdmitStop}
use Rattle.admission.specs.declared.stop.AdmitStop.TheVariants as admit
use Rattle.ir_module.specs.declared.places.Place.{Place}
use Rattle.ir_module.specs.declared.places.Spot.{Spot}
use Rattle.ir_module.specs.declared.places.Spot.TheVariants as spot
use Rattle.ir_module.specs.declared.tree.Module.{Module}
use Rattle.ir_module.specs.Places.{place_of}
use Rattle.ir_reader.specs.declared.parsed.Parsed.{Parsed}
use Rattle.qir_cli.specs.Admission.{Admits, or_start}
use Rattle.qir_cli.specs.declared.admitted.Admitted.{Admitted}
use Rattle.qir_cli.specs.declared.refusal.Fault.TheVariants as fault
use Rattle.qir_cli.specs.declared.refusal.Refusal.{Refusal}
use Rattle.qir_cli.specs.declared.refusal.Stop.{Stop}
use Rattle.qir_cli.specs.declared.refusal.Stop.TheVariants as stop
use Rattle.qir_cli.specs.Reading.{Reads}
use Rattle.qir_cli.specs.Stages.{Then}
use Rattle.unroller.specs.declared.exploration.LowerStop.{LowerStop}
use Rattle.unroller.specs.declared.exploration.LowerStop.TheVariants as lower

-- an admitted module as the specification sees it
abbrev pub parsed_as : Module → List (Spot × Place) → Parsed
parsed_as m places = record { «module» = m; places = places }

abbrev pub parsed_of : Admitted → Parsed
parsed_of a = parsed_as a.checked.tree a.places

abbrev pub given_of : Result Admitted Stop → Result Parsed Stop
given_of (Ok a) = Ok (parsed_of a)
given_of (Err why) = Err why

-- the first two stages of a text within the limit
abbrev pub AdmitsText : List ℕ → Result Parsed Refusal → Type 0
AdmitsText text = Then (Reads text) Admits

-- the fault has its place among these
abbrev pub IsPlaced : List (Spot × Place) → AdmitStop → Type 0
IsPlaced places (admit.Refused code spot back) = IsSome (place_of places spot)
IsPlaced places (admit.Memory back) = Unit {0}

abbrev pub admit_stop : List (Spot × Place) → AdmitStop → Stop
admit_stop places (admit.Refused code spot back) = stop.Refused (record { fault = fault.Rule code; place = or_start (place_of places spot) })
admit_stop places (admit.Memory back) = stop.Memory

-- the instruction that decides against lowering has its place among these
abbrev pub HasItsPlace : List (Spot × Place) → LowerStop → Type 0
HasItsPlace places (lower.Refused at kind) = IsSome (place_of places (spot.At at))
HasItsPlace places lower.Memory = Unit {0}

abbrev pub lower_stop : List (Spot × Place) → LowerStop → Stop
lower_stop places (lower.Refused at kind) = stop.Refused (record { fault = fault.Lower kind; place = or_start (place_of places (spot.At at)) })
lower_stop places lower.Memory = stop.Memory
