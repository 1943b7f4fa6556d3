use Rattle.std.proofs.Common.{sym, ap, ◌∙◌, arith}
use Rattle.ir_module.specs.declared.tree.Operand.{Operand}
use Rattle.ir_values.specs.declared.ids.BlockId.{BlockId}
use Rattle.type_check.specs.code.Operands.{both, collected, seen_one}
use Rattle.type_check.specs.declared.seen.Seen.{Seen}
use Rattle.type_check.proofs.SeenLemmas.{nothing_both, collected-more, collected-end, collected-map}
use Rattle.type_check.proofs.scene.Scene.entries.Goals as goal

pub loop-entries-init : goal.loop-entries-init
loop-entries-init c =
    let whole = collected (λ (e : Operand × BlockId). seen_one c.args.self.now.tree.now c.args.self.now.function.now (c.args.t.now, e.0)) c.args.entries.now in
    ap (λ s. both s whole) c.nothing-seen.ensures ∙ nothing_both whole

pub loop-entries-preserved : goal.loop-entries-preserved
loop-entries-preserved c =
    let h : Operand × BlockId → Seen = λ e. seen_one c.args.self.now.tree.now c.args.self.now.function.now (c.args.t.now, e.0) in
    collected-more h c.entry-item.result c.loop-entries.entries.now c.loop-entries.seen c.and-seen.result (collected h c.args.entries.now) c.in-len1-up.len_at_least (c.and-seen.ensures ∙ ap (both c.loop-entries.seen) (c.entry.ensures ∙ ap h c.entry-item.is)) c.loop-entries.invariant

pub returns : goal.returns
returns c =
    let h : Operand × BlockId → Seen = λ e. seen_one c.args.self.now.tree.now c.args.self.now.function.now (c.args.t.now, e.0) in
    collected-end h c.loop-entries.entries.now c.loop-entries.seen (collected h c.args.entries.now) (omega arith) c.loop-entries.invariant
    ∙ sym (collected-map (seen_one c.args.self.now.tree.now c.args.self.now.function.now) (λ (e : Operand × BlockId). (c.args.t.now, e.0)) c.args.entries.now)
