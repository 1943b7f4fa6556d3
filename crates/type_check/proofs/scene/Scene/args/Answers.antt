use Rattle.std.proofs.Common.{ap, ◌∙◌, arith}
use Rattle.type_check.specs.code.Operands.{both, collected, seen_one}
use Rattle.type_check.proofs.SeenLemmas.{nothing_both, collected-more, collected-end}
use Rattle.type_check.proofs.scene.Scene.args.Goals as goal

pub loop-args-init : goal.loop-args-init
loop-args-init c =
    let whole = collected (seen_one c.args.self.now.tree.now c.args.self.now.function.now) c.args.args.now in
    ap (λ s. both s whole) c.nothing-seen.ensures ∙ nothing_both whole

pub loop-args-preserved : goal.loop-args-preserved
loop-args-preserved c =
    let h = seen_one c.args.self.now.tree.now c.args.self.now.function.now in
    collected-more h c.arg-item.result c.loop-args.args.now c.loop-args.seen c.and-seen.result (collected h c.args.args.now) c.in-len1-up.len_at_least (c.and-seen.ensures ∙ ap (both c.loop-args.seen) (c.arg.ensures ∙ ap h c.arg-item.is)) c.loop-args.invariant

pub returns : goal.returns
returns c =
    let h = seen_one c.args.self.now.tree.now c.args.self.now.function.now in
    collected-end h c.loop-args.args.now c.loop-args.seen (collected h c.args.args.now) (omega arith) c.loop-args.invariant
