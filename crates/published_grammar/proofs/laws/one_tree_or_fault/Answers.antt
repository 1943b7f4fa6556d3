use Rattle.ir_grammar.specs.Module as factored
use Rattle.published_grammar.specs.Module as published
use Rattle.published_grammar.proofs.Algebra.{once_kept}
use Rattle.published_grammar.proofs.Module.{module_same}
use Rattle.published_grammar.proofs.laws.one_tree_or_fault.Goals as goal

pub returns : goal.returns
returns c = once_kept published.module_text factored.module_text module_same c.one_tree_or_fault.ensures
