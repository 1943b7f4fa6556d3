use Rattle.ir_grammar.specs.Module as factored
use Rattle.published_grammar.specs.Module as published
use Rattle.published_grammar.proofs.Algebra.{closed_kept}
use Rattle.published_grammar.proofs.Module.{module_same}
use Rattle.published_grammar.proofs.laws.prefixes_begin_sentences.Goals as goal

pub returns : goal.returns
returns c = closed_kept published.module_text factored.module_text module_same c.prefixes_begin_sentences.ensures
