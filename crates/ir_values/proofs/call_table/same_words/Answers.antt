use Rattle.std.proofs.Common.{◌∙◌, rules}
use Rattle.ir_values.specs.Equal.{equal_decides}
use Rattle.ir_values.proofs.WordLemmas.{same_words_is}
use Rattle.ir_values.proofs.call_table.same_words.Goals as goal

pub returns : goal.returns
returns c = c.eq.ensures ∙ same_words_is _ (λ a b. (search (rules, equal_decides), search (rules, equal_decides))) c.args.words.now c.args.others.now
