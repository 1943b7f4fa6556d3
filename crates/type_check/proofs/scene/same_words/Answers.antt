use Rattle.type_check.proofs.SameTypes.{words-test}
use Rattle.type_check.proofs.scene.same_words.Goals as goal

pub returns : goal.returns
returns c = words-test c.same.result c.args.a.now c.args.b.now c.same.ensures
