use Rattle.printable_steps.proofs.Whole.{keeps-printable}
use Rattle.printable_steps.proofs.laws.steps_keep_printable.Goals as goal

pub returns : goal.returns
returns c = keeps-printable
