use Rattle.std.proofs.Common.{sym, ◌∙◌}
use Rattle.grammar.proofs.Forms.{begun}
use Rattle.grammar.proofs.Turns.{repeat_smaller, repeat_kept}
use Rattle.grammar.proofs.part.repeat_after.Goals as goal

pub loop-alloc-smaller : goal.loop-alloc-smaller
loop-alloc-smaller g c =
    let p = c.args.part.now in
    repeat_smaller (g.P.Part.grammar p) (g.P.Part.starts p).decided c.loop-alloc.cursor.marked c.loop-alloc.cursor.rest.now _ _ _ (begun (g.P.Part.starts c.args.part.now) _ ∙ (sym c.begins.ensures ∙ c.loop-alloc-test.true)) c.in_ok-item.ensures

pub loop-alloc-preserved : goal.loop-alloc-preserved
loop-alloc-preserved g c =
    let p = c.args.part.now in
    repeat_kept (g.P.Part.grammar p) (g.P.Part.starts p).decided c.loop-alloc.cursor.marked c.loop-alloc.cursor.rest.now c.loop-alloc.all c.push.new.self c.in_ok-item.item _ _ _ (begun (g.P.Part.starts c.args.part.now) _ ∙ (sym c.begins.ensures ∙ c.loop-alloc-test.true)) c.in_ok-item.ensures c.in_ok-push.ensures.ok c.loop-alloc.invariant
