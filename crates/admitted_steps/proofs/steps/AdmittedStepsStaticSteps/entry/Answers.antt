use Rattle.admitted_steps.proofs.Admitted.{starts}
use Rattle.admitted_steps.proofs.steps.AdmittedStepsStaticSteps.entry.Goals as goal

pub returns-clause-starts : goal.returns-clause-starts
returns-clause-starts c =
    starts c.args.self.now.checked.now c.args.self.now.target c.entry.result c.admitted_modules_start.ensures c.module-module.ensures.admitted c.entry.ensures.entry
