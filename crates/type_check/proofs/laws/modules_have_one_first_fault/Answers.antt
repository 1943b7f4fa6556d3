use Rattle.type_check.proofs.Unique.{one-first}
use Rattle.type_check.proofs.laws.modules_have_one_first_fault.Goals as goal

pub returns : goal.returns
returns c m limit s t x y h i = one-first m limit s t x y h i
