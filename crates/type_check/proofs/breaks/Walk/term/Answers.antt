use Rattle.std.proofs.Common.{◌∙◌}
use Rattle.ir_module.specs.Steps.{TermAt}
use Rattle.type_check.proofs.StepBreaks.{breaks_by}
use Rattle.type_check.proofs.breaks.Walk.term.Goals as goal

pub returns : goal.returns
returns c =
    let w = c.args.self.now in
    c.broken_by.ensures ∙ breaks_by w.scene.tree.now w.scene.function.now w.required c.args.b (TermAt c.args.term.now) c.in_ok-kept.kept c.term-seen.result (c.in_ok-kept.ensures c.args.b) c.term-seen.ensures
