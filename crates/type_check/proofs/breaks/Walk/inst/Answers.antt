use Rattle.std.proofs.Common.{◌∙◌}
use Rattle.ir_module.specs.Steps.{InstAt}
use Rattle.type_check.proofs.StepBreaks.{breaks_by}
use Rattle.type_check.proofs.breaks.Walk.inst.Goals as goal

pub returns : goal.returns
returns c =
    let w = c.args.self.now in
    c.broken_by.ensures ∙ breaks_by w.scene.tree.now w.scene.function.now w.required c.args.b (InstAt c.args.inst.now) c.inst_kept-kept.result c.inst-seen.result (c.inst_kept-kept.ensures c.args.b) c.inst-seen.ensures
