use Rattle.ir_syntax.proofs.OneAnswer.{one_answer}
use Rattle.ir_syntax.proofs.laws.each_text_has_one_answer.Goals as goal

pub returns : goal.returns
returns c =
    let tokens = c.scanned_tokens_are_one.ensures in
    one_answer tokens.whole tokens.broken c.one_tree_or_fault.ensures
