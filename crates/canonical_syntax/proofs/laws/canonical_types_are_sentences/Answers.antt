use Rattle.canonical_syntax.proofs.Types.{value_builds, return_builds}
use Rattle.canonical_syntax.proofs.laws.canonical_types_are_sentences.Goals as goal

pub returns-clause-values : goal.returns-clause-values
returns-clause-values c = λ spelling t h. value_builds t h

pub returns-clause-returned : goal.returns-clause-returned
returns-clause-returned c = λ spelling t h. return_builds t h
