use Rattle.std.proofs.Common.{ap, ◌∙◌}
use Rattle.ir_module.specs.declared.tree.Phi.{Phi}
use Rattle.ir_module.specs.Steps.{PhiAt}
use Rattle.type_check.specs.declared.seen.Seen.{Seen}
use Rattle.type_check.specs.code.Operands.{both, collected, seen_at}
use Rattle.type_check.proofs.SeenLemmas.{block_collected}
use Rattle.type_check.proofs.scene.Scene.block.Goals as goal

pub returns : goal.returns
returns c =
    let m = c.args.self.now.tree.now in
    let f = c.args.self.now.function.now in
    let h : Phi → Seen = λ p. seen_at m f (PhiAt p) in
    c.and.ensures ∙ ap (λ s. both s c.behind_phis.result) (c.phis.ensures ∙ ap (collected h) c.as_slice.ensures) ∙ ap (both (collected h c.args.block.now.phis)) c.behind_phis.ensures ∙ block_collected (seen_at m f) c.args.block.now
