use Rattle.type_check.proofs.StepBreaks.{term_keeps}
use Rattle.type_check.proofs.scene.Scene.term_kept.Goals as goal

pub returns : goal.returns
returns c = λ b.
    term_keeps c.args.self.now.tree.now c.args.self.now.function.now b c.args.term.now c.term_types-types.result c.keeps_first.result c.in_ok-cases.cases c.term_types-types.ensures c.keeps_first.ensures c.in_ok-cases.ensures
