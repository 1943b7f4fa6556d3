use Rattle.ir_reader.proofs.OneAnswer.{one-answer}
use Rattle.ir_reader.proofs.laws.one_answer.Goals as goal

pub returns : goal.returns
returns c = λ text. one-answer text (c.each_text_has_one_answer.ensures text)
