use Rattle.std.proofs.Common.{subst, sym}
use Rattle.ir_syntax.specs.Texts.{HasTree}
use Rattle.ir_reader.specs.Answers.{MayStopWith}
use Rattle.ir_reader.proofs.Answers.{stops-from, syntax-stops}
use Rattle.ir_reader.proofs.reading.read_text.Goals as goal

pub returns-in-Ok-clause-refused : goal.returns-in-Ok-clause-refused
returns-in-Ok-clause-refused c =
    stops-from c.args.text.now c.as_slice.result.now (subst (HasTree c.args.text.now) (sym c.as_slice.ensures) c.in-Ok.ensures) c.named.result c.named.ensures.stopped

pub returns-in-Err-clause-refused : goal.returns-in-Err-clause-refused
returns-in-Err-clause-refused c =
    subst (MayStopWith c.args.text.now) (sym c.syntax_stop.ensures) (syntax-stops c.args.text.now c.in-Err.stop c.in-Err.ensures)
