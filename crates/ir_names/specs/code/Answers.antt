-- What every function of this crate answers.
use Rattle.std.specs.Prelude.{◌≡◌, Result, Ok, Err, List, []}
use Rattle.ir_names.specs.declared.fault.Fault.{Fault}
use Rattle.ir_names.specs.Faults.{IsFirst}
use Rattle.ir_names.specs.declared.fault.Stop.{Stop}
use Rattle.ir_names.specs.declared.fault.Stop.TheVariants.{Memory, At}

-- the first of these faults is told, unless memory ran out
abbrev pub Fails : List Fault → Stop → Type 0
Fails fs Memory = Unit
Fails fs (At f) = IsFirst fs f

-- It gives x where there is no fault, and otherwise tells the first.
abbrev pub Gives : {A : Type 0} → List Fault → A → Result A Stop → Type 0
Gives fs x (Ok y) = (fs ≡ []) × (y ≡ x)
Gives fs x (Err e) = Fails fs e
