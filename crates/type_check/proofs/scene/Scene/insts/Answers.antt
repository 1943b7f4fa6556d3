use Rattle.std.proofs.Common.{ap, ◌∙◌, arith}
use Rattle.ir_module.specs.declared.tree.Inst.{Inst}
use Rattle.ir_module.specs.Steps.{InstAt}
use Rattle.type_check.specs.code.Operands.{both, collected, seen_at}
use Rattle.type_check.specs.declared.seen.Seen.{Seen}
use Rattle.type_check.proofs.SeenLemmas.{nothing_both, collected-more, collected-end}
use Rattle.type_check.proofs.scene.Scene.insts.Goals as goal

pub loop-insts-init : goal.loop-insts-init
loop-insts-init c =
    let h : Inst → Seen = λ i. seen_at c.args.self.now.tree.now c.args.self.now.function.now (InstAt i) in
    ap (λ s. both s (collected h c.args.insts.now)) c.nothing-seen.ensures ∙ nothing_both (collected h c.args.insts.now)

pub loop-insts-preserved : goal.loop-insts-preserved
loop-insts-preserved c =
    let h : Inst → Seen = λ i. seen_at c.args.self.now.tree.now c.args.self.now.function.now (InstAt i) in
    collected-more h c.inst-item.result c.loop-insts.insts.now c.loop-insts.seen c.and-seen.result (collected h c.args.insts.now) c.in-len1-up.len_at_least (c.and-seen.ensures ∙ ap (both c.loop-insts.seen) (c.inst.ensures ∙ ap h c.inst-item.is)) c.loop-insts.invariant

pub returns : goal.returns
returns c =
    let h : Inst → Seen = λ i. seen_at c.args.self.now.tree.now c.args.self.now.function.now (InstAt i) in
    collected-end h c.loop-insts.insts.now c.loop-insts.seen (collected h c.args.insts.now) (omega arith) c.loop-insts.invariant
