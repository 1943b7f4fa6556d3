-- What the code finds of a module before it takes it.
use Rattle.ir_module.specs.declared.tree.Module.{Module}
use Rattle.admission.specs.declared.judging.Verdict.{Verdict}
use Rattle.admission.specs.declared.judging.Verdict.TheVariants as verdict
use Rattle.admission.specs.code.Tables.{AreTablesOf}
use Rattle.admission.specs.Admitted.{IsAdmitted}
use Rattle.admission.specs.Stops.{IsToldFault}

abbrev pub Judges : Module → Verdict → Type 0
Judges m (verdict.Typed tables) = IsAdmitted m × AreTablesOf m tables
Judges m (verdict.Faulty spot code) = IsToldFault m spot code
