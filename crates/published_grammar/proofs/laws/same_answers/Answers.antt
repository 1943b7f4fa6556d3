use Rattle.ir_grammar.specs.Module as factored
use Rattle.published_grammar.specs.Module as published
use Rattle.published_grammar.proofs.Algebra as algebra
use Rattle.published_grammar.proofs.Module.{module_same}
use Rattle.published_grammar.proofs.laws.same_answers.Goals as goal

pub returns : goal.returns
returns c = algebra.same_answers published.module_text factored.module_text module_same
