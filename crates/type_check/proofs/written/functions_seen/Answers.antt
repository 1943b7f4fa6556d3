use Rattle.std.proofs.Common.{ap, ◌∙◌, arith}
use Rattle.ir_module.specs.declared.tree.Function.{Function}
use Rattle.type_check.specs.code.Operands.{both, collected, seen_in}
use Rattle.type_check.specs.declared.seen.Seen.{Seen}
use Rattle.type_check.proofs.SeenLemmas.{nothing_both, collected-more, collected-end}
use Rattle.type_check.proofs.written.functions_seen.Goals as goal

pub loop-funcs-init : goal.loop-funcs-init
loop-funcs-init c =
    let h : Function → Seen = seen_in c.args.tree.now in
    ap (λ s. both s (collected h c.args.funcs.now)) c.nothing-seen.ensures ∙ nothing_both (collected h c.args.funcs.now)

pub loop-funcs-preserved : goal.loop-funcs-preserved
loop-funcs-preserved c =
    let h : Function → Seen = seen_in c.args.tree.now in
    collected-more h c.function-item.result c.loop-funcs.funcs.now c.loop-funcs.seen c.and-seen.result (collected h c.args.funcs.now) c.in-len1-up.len_at_least (c.and-seen.ensures ∙ ap (both c.loop-funcs.seen) (c.function_seen.ensures ∙ ap h c.function-item.is)) c.loop-funcs.invariant

pub returns : goal.returns
returns c =
    let h : Function → Seen = seen_in c.args.tree.now in
    collected-end h c.loop-funcs.funcs.now c.loop-funcs.seen (collected h c.args.funcs.now) (omega arith) c.loop-funcs.invariant
