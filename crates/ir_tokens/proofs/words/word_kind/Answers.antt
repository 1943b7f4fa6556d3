use Rattle.std.proofs.Common.{ap, ◌∙◌}
use Rattle.ir_tokens.specs.Words.{words, look_up, word_kind}
use Rattle.ir_tokens.proofs.words.word_kind.Goals as goal

pub returns : goal.returns
unfolding word_kind
returns c = c.look_up.ensures ∙ ap (λ k. look_up words k c.args.word.now) c.other_kind.ensures
