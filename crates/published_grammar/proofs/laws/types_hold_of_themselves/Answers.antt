use Rattle.published_grammar.specs.Types.{type_at, type_by, or_void, parameters}
use Rattle.published_grammar.proofs.Algebra as algebra
use Rattle.published_grammar.proofs.Types.{type_holds}
use Rattle.published_grammar.proofs.laws.types_hold_of_themselves.Goals as goal

pub returns-clause-sentences : goal.returns-clause-sentences
returns-clause-sentences c = λ left. algebra.same_sentences (type_at left) (type_by (or_void (type_at left)) (parameters left)) (type_holds left)

pub returns-clause-prefixes : goal.returns-clause-prefixes
returns-clause-prefixes c = λ left. algebra.same_prefixes (type_at left) (type_by (or_void (type_at left)) (parameters left)) (type_holds left)
