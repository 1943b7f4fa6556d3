-- The stage of admission: what it says of a module that was read.
use Rattle.std.specs.Prelude.{◌≡◌, Option, None, Some, Result, Ok, Err}
use Rattle.admission.specs.Admitted.{greatest_required}
use Rattle.ir_module.specs.declared.places.Place.{Place}
use Rattle.ir_module.specs.declared.places.Spot.{Spot}
use Rattle.ir_module.specs.Places.{place_of}
use Rattle.ir_reader.specs.declared.parsed.Parsed.{Parsed}
use Rattle.type_check.specs.declared.code.TypeCode.{TypeCode}
use Rattle.type_check.specs.Faults.{Typed, IsFirstFault}
use Rattle.qir_cli.specs.declared.refusal.Fault.TheVariants as fault
use Rattle.qir_cli.specs.declared.refusal.Refusal.{Refusal}
use Rattle.qir_cli.specs.Refusals.{start}

abbrev pub or_start : Option Place → Place
or_start None = start
or_start (Some place) = place

-- the place of a spot
abbrev pub place_at : Parsed → Spot → Place
place_at parsed s = or_start (place_of parsed.places s)

-- it keeps every rule, and is given on
pub record KeepsRules (parsed given : Parsed) : Type 0 where
  pub same : given ≡ parsed
  pub typed : Typed parsed.module greatest_required

-- this is the first rule that it breaks, and the place of that
pub record BreaksRule (parsed : Parsed) (why : Refusal) : Type 0 where
  pub spot : Spot
  pub code : TypeCode
  pub first : IsFirstFault parsed.module greatest_required spot code
  pub told : why ≡ record { fault = fault.Rule code; place = place_at parsed spot }

abbrev pub Admits : Parsed → Result Parsed Refusal → Type 0
Admits parsed (Ok given) = KeepsRules parsed given
Admits parsed (Err why) = BreaksRule parsed why
