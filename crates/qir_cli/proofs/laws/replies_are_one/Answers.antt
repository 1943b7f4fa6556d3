use Rattle.qir_cli.proofs.laws.replies_are_one.Goals as goal
use Rattle.qir_cli.proofs.Replying.{replies-one}

pub returns : goal.returns
returns c =
    replies-one c.one_answer.ensures c.modules_have_one_first_fault.ensures c.reports_are_one.ensures c.lowering_has_one_answer.ensures
    c.read_modules_are_printable.ensures.printable c.runs_are_one.ensures c.traces_are_one.ensures c.summaries_are_one.ensures
