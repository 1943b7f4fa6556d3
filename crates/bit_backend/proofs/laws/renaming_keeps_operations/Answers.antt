use Rattle.bit_backend.proofs.Renaming.{keeps-operations}
use Rattle.bit_backend.proofs.laws.renaming_keeps_operations.Goals as goal

pub returns : goal.returns
returns c = keeps-operations
