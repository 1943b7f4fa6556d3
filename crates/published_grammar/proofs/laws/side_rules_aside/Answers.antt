use Rattle.ir_grammar.specs.Module as factored
use Rattle.published_grammar.specs.Module as published
use Rattle.published_grammar.proofs.Aside.{aside_kept}
use Rattle.published_grammar.proofs.Module.{module_same}
use Rattle.published_grammar.proofs.laws.side_rules_aside.Goals as goal

pub returns : goal.returns
returns c = aside_kept published.module_text factored.module_text module_same c.side_rules_aside.ensures
