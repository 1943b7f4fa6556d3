-- Why a module isn't admitted. It is handed back.
use Rattle.std.specs.Prelude.{◌≡◌}
use Rattle.ir_module.specs.declared.places.Spot.{Spot}
use Rattle.ir_module.specs.declared.tree.Module.{Module}
use Rattle.type_check.specs.declared.code.TypeCode.{TypeCode}
use Rattle.type_check.specs.Faults.{IsFirstFault}
use Rattle.type_check.specs.Told.{HasPlace}
use Rattle.admission.specs.declared.stop.AdmitStop.{AdmitStop}
use Rattle.admission.specs.declared.stop.AdmitStop.TheVariants as stop
use Rattle.admission.specs.Admitted.{greatest_required}

-- the first fault of the module, at a spot that has a place in its text
pub record IsToldFault (m : Module) (s : Spot) (c : TypeCode) : Type 0 where
  pub first : IsFirstFault m greatest_required s c
  pub placed : HasPlace m s

-- it has this first fault, or memory was wanting
abbrev pub StopsAt : Module → AdmitStop → Type 0
StopsAt m (stop.Refused code spot back) = (back ≡ m) × IsToldFault m spot code
StopsAt m (stop.Memory back) = back ≡ m
