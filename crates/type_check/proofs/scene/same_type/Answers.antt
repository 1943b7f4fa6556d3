use Rattle.type_check.proofs.SameTypes.{type-test}
use Rattle.type_check.proofs.scene.same_type.Goals as goal

pub returns : goal.returns
returns c = type-test c.same.result c.args.a.now c.args.b.now c.same.ensures
