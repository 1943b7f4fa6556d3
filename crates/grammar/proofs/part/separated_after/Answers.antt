use Rattle.std.proofs.lemmas.Result.{err_from_is_err_and}
use Rattle.grammar.proofs.Turns.{more_smaller, more_kept, more_ends, more_fails}
use Rattle.grammar.proofs.part.separated_after.Goals as goal

pub loop-alloc-smaller : goal.loop-alloc-smaller
loop-alloc-smaller g c =
    let p = c.args.part.now in
    more_smaller g.P.Listed.separator (g.P.Part.grammar p) (g.P.Part.starts p).decided c.loop-alloc.cursor.marked c.loop-alloc.cursor.rest.now c.separates.result c.separates.ensures _ _ _ c.loop-alloc-test.true c.in_ok-item.ensures

pub loop-alloc-preserved : goal.loop-alloc-preserved
loop-alloc-preserved g c =
    let p = c.args.part.now in
    more_kept g.P.Listed.separator (g.P.Part.grammar p) (g.P.Part.starts p).decided c.loop-alloc.cursor.marked c.loop-alloc.cursor.rest.now c.separates.result c.separates.ensures c.loop-alloc.all c.push.new.self c.in_ok-item.item _ _ _ c.loop-alloc-test.true c.in_ok-item.ensures c.in_ok-push.ensures.ok c.loop-alloc.invariant

pub returns : goal.returns
returns g c =
    let p = c.args.part.now in
    more_ends g.P.Listed.separator (g.P.Part.grammar p) (g.P.Part.starts p).decided c.loop-alloc.cursor.marked c.loop-alloc.cursor.rest.now c.separates.result c.separates.ensures c.loop-alloc.all _ c.loop-alloc-test.false c.loop-alloc.invariant

pub returns-in_err-item : goal.returns-in_err-item
returns-in_err-item g c =
    let p = c.args.part.now in
    let e = err_from_is_err_and c.from_residual.result c.from_residual.ensures.1 in
    rw (e.1, e.2) (more_fails g.P.Listed.separator (g.P.Part.grammar p) (g.P.Part.starts p).decided c.loop-alloc.cursor.marked c.loop-alloc.cursor.rest.now c.separates.result c.separates.ensures c.loop-alloc.all _ c.in_err-item.field-0.0 c.loop-alloc-test.true c.in_err-item.ensures c.loop-alloc.invariant)
