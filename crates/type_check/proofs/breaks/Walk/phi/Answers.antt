use Rattle.std.proofs.Common.{◌∙◌}
use Rattle.ir_module.specs.Steps.{PhiAt}
use Rattle.type_check.proofs.StepBreaks.{breaks_by}
use Rattle.type_check.proofs.breaks.Walk.phi.Goals as goal

pub returns : goal.returns
returns c =
    let w = c.args.self.now in
    c.broken_by.ensures ∙ breaks_by w.scene.tree.now w.scene.function.now w.required c.args.b (PhiAt c.args.phi.now) c.in_ok-kept.kept c.phi-seen.result c.in_ok-kept.ensures c.phi-seen.ensures
