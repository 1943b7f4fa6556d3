use Rattle.type_check.proofs.StepBreaks.{inst_keeps}
use Rattle.type_check.proofs.scene.Scene.inst_kept.Goals as goal

pub returns : goal.returns
returns c = λ b. inst_keeps c.args.self.now.tree.now c.args.self.now.function.now b c.args.inst.now c.inst_types-types.result c.inst_types-types.ensures
