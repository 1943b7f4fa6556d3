use Rattle.admitted_steps.specs.Programs.{program_of}
use Rattle.unroller.specs.Programs.{Carries, search_of}
use Rattle.qubit_lowering.proofs.Budget.{within_budget}
use Rattle.qubit_lowering.proofs.lowering.reachable.Goals as goal

pub returns-in-Ok-clause-within : goal.returns-in-Ok-clause-within
returns-in-Ok-clause-within c =
    let p = program_of c.args.checked.now c.args.target in
    within_budget (search_of p c.args.budget) (Carries p) c.in-Ok.nodes c.in-Ok.ensures.accepted
