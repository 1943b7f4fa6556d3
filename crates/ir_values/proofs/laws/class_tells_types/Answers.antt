use Rattle.ir_values.proofs.ClassLemmas.{class-tells}
use Rattle.ir_values.specs.ClassTypes.{ClassTellsTypes}
use Rattle.ir_values.proofs.laws.class_tells_types.Goals as goal

pub returns : goal.returns
unfolding ClassTellsTypes
returns c name ret params k i is e = class-tells ret params i is name k e
