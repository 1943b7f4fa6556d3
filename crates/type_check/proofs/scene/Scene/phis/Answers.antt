use Rattle.std.proofs.Common.{ap, ◌∙◌, arith}
use Rattle.ir_module.specs.declared.tree.Phi.{Phi}
use Rattle.ir_module.specs.Steps.{PhiAt}
use Rattle.type_check.specs.code.Operands.{both, collected, seen_at}
use Rattle.type_check.specs.declared.seen.Seen.{Seen}
use Rattle.type_check.proofs.SeenLemmas.{nothing_both, collected-more, collected-end}
use Rattle.type_check.proofs.scene.Scene.phis.Goals as goal

pub loop-phis-init : goal.loop-phis-init
loop-phis-init c =
    let h : Phi → Seen = λ p. seen_at c.args.self.now.tree.now c.args.self.now.function.now (PhiAt p) in
    ap (λ s. both s (collected h c.args.phis.now)) c.nothing-seen.ensures ∙ nothing_both (collected h c.args.phis.now)

pub loop-phis-preserved : goal.loop-phis-preserved
loop-phis-preserved c =
    let h : Phi → Seen = λ p. seen_at c.args.self.now.tree.now c.args.self.now.function.now (PhiAt p) in
    collected-more h c.phi-item.result c.loop-phis.phis.now c.loop-phis.seen c.and-seen.result (collected h c.args.phis.now) c.in-len1-up.len_at_least (c.and-seen.ensures ∙ ap (both c.loop-phis.seen) (c.phi.ensures ∙ ap h c.phi-item.is)) c.loop-phis.invariant

pub returns : goal.returns
returns c =
    let h : Phi → Seen = λ p. seen_at c.args.self.now.tree.now c.args.self.now.function.now (PhiAt p) in
    collected-end h c.loop-phis.phis.now c.loop-phis.seen (collected h c.args.phis.now) (omega arith) c.loop-phis.invariant
