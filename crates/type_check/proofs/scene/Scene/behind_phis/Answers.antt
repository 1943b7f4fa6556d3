use Rattle.std.proofs.Common.{ap, ◌∙◌}
use Rattle.ir_module.specs.declared.tree.Inst.{Inst}
use Rattle.ir_module.specs.Steps.{InstAt}
use Rattle.type_check.specs.declared.seen.Seen.{Seen}
use Rattle.type_check.specs.code.Operands.{both, collected, seen_at}
use Rattle.type_check.proofs.scene.Scene.behind_phis.Goals as goal

pub returns : goal.returns
returns c =
    let h : Inst → Seen = λ i. seen_at c.args.self.now.tree.now c.args.self.now.function.now (InstAt i) in
    c.and.ensures ∙ ap (λ s. both s c.term.result) (c.insts.ensures ∙ ap (collected h) c.as_slice.ensures) ∙ ap (both (collected h c.args.block.now.insts)) c.term.ensures
