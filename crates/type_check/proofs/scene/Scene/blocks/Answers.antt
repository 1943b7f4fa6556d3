use Rattle.std.proofs.Common.{ap, ◌∙◌, arith}
use Rattle.ir_module.specs.declared.tree.Block.{Block}
use Rattle.ir_module.specs.Steps.{steps_of_block}
use Rattle.type_check.specs.code.Operands.{both, collected, seen_at}
use Rattle.type_check.specs.declared.seen.Seen.{Seen}
use Rattle.type_check.proofs.SeenLemmas.{nothing_both, collected-more, collected-end}
use Rattle.type_check.proofs.scene.Scene.blocks.Goals as goal

pub loop-blocks-init : goal.loop-blocks-init
loop-blocks-init c =
    let h : Block → Seen = λ b. collected (seen_at c.args.self.now.tree.now c.args.self.now.function.now) (steps_of_block b) in
    ap (λ s. both s (collected h c.args.blocks.now)) c.nothing-seen.ensures ∙ nothing_both (collected h c.args.blocks.now)

pub loop-blocks-preserved : goal.loop-blocks-preserved
loop-blocks-preserved c =
    let h : Block → Seen = λ b. collected (seen_at c.args.self.now.tree.now c.args.self.now.function.now) (steps_of_block b) in
    collected-more h c.block-item.result c.loop-blocks.blocks.now c.loop-blocks.seen c.and-seen.result (collected h c.args.blocks.now) c.in-len1-up.len_at_least (c.and-seen.ensures ∙ ap (both c.loop-blocks.seen) (c.block.ensures ∙ ap h c.block-item.is)) c.loop-blocks.invariant

pub returns : goal.returns
returns c =
    let h : Block → Seen = λ b. collected (seen_at c.args.self.now.tree.now c.args.self.now.function.now) (steps_of_block b) in
    collected-end h c.loop-blocks.blocks.now c.loop-blocks.seen (collected h c.args.blocks.now) (omega arith) c.loop-blocks.invariant
