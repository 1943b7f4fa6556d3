use Rattle.std.proofs.Common.{sym, ◌∙◌}
use Rattle.grammar.proofs.Turns.{grow_smaller, grow_kept}
use Rattle.grammar.proofs.growth.grow.Goals as goal

pub loop-alloc-smaller : goal.loop-alloc-smaller
loop-alloc-smaller g c = grow_smaller g.G.Growth.extensions (g.G.Growth.grows c.args.growth.now) (g.G.Growth.decided c.args.growth.now) c.loop-alloc.item c.loop-alloc.cursor.marked c.loop-alloc.cursor.rest.now _ _ _ (sym c.begins.ensures ∙ c.loop-alloc-test.true) c.in_ok-item.ensures

pub loop-alloc-preserved : goal.loop-alloc-preserved
loop-alloc-preserved g c = grow_kept g.G.Growth.extensions (g.G.Growth.grows c.args.growth.now) (g.G.Growth.decided c.args.growth.now) c.loop-alloc.item c.loop-alloc.cursor.marked c.loop-alloc.cursor.rest.now _ _ _ _ (sym c.begins.ensures ∙ c.loop-alloc-test.true) c.in_ok-item.ensures c.loop-alloc.invariant
