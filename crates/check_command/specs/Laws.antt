-- Laws of reports.
use Rattle.std.specs.Prelude.{◌≡◌, List}
use Rattle.ir_module.specs.declared.places.Place.{Place}
use Rattle.ir_module.specs.declared.places.Spot.{Spot}
use Rattle.ir_module.specs.declared.tree.Module.{Module}
use Rattle.profile_checks.specs.declared.report.Report.{Report}
use Rattle.check_command.specs.declared.profile.Profile.{Profile}
use Rattle.check_command.specs.Reporting.{Reports}

-- a module with its places has at most one report
abbrev pub ReportsAreOne : Type 0
ReportsAreOne =
    (by : Profile) (m : Module) (places : List (Spot × Place)) (x y : Report)
    → Reports by m places x → Reports by m places y → x ≡ y

-- it has a report
abbrev pub ReportsExist : Type 0
ReportsExist = (by : Profile) (m : Module) (places : List (Spot × Place)) → (x : Report) × Reports by m places x
