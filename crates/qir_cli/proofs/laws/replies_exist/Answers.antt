use Rattle.qir_cli.proofs.laws.replies_exist.Goals as goal
use Rattle.qir_cli.proofs.Replying.{replies-some}

pub returns : goal.returns
returns c =
    replies-some c.one_answer.ensures c.modules_are_typed_or_faulty.ensures c.reports_exist.ensures c.lowering_has_an_answer.ensures
    c.read_modules_are_printable.ensures.printable c.runs_exist.ensures c.traces_exist.ensures c.summaries_exist.ensures
