use Rattle.type_check.proofs.First.{typed-or-faulty}
use Rattle.type_check.proofs.laws.modules_are_typed_or_faulty.Goals as goal

pub returns : goal.returns
returns c m limit = typed-or-faulty m limit
