use Rattle.std.proofs.Common.{map, refl, arith}
use Rattle.name_flow.specs.code.Runs.{name_first}
use Rattle.name_flow.proofs.Spreading.{IsSpread-start, AreEntered-none, IsSpread-more, AreEntered-more, AreEnds-done}
use Rattle.name_flow.proofs.spread.ends.Goals as goal

pub loop-done-init : goal.loop-done-init
loop-done-init c = record {
  spread = IsSpread-start (map name_first c.args.uses.now) c.args.defined.now c.args.edges.now (map name_first c.args.uses.now) c.new.result c.seed.new.starts c.new-2.result refl c.new.ensures c.new-2.ensures c.in_ok-seed.ensures;
  entered = AreEntered-none (map name_first c.args.uses.now) c.args.defined.now c.args.edges.now c.seed.new.starts c.new-2.result;
}

pub loop-done-preserved : goal.loop-done-preserved
loop-done-preserved c = record {
  spread = IsSpread-more (map name_first c.args.uses.now) c.args.defined.now c.args.edges.now c.loop-done.spread.starts c.loop-done.spread.ends c.enter.new.self.starts c.enter.new.self.ends c.loop-done.done c.at-b.result.0 c.at-b.result.1 c.loop-done.invariant.spread c.loop-done.invariant.entered c.at-b.ensures c.in_ok-enter.ensures;
  entered = AreEntered-more (map name_first c.args.uses.now) c.args.defined.now c.args.edges.now c.loop-done.spread.starts c.loop-done.spread.ends c.enter.new.self.starts c.enter.new.self.ends c.loop-done.done c.at-b.result.0 c.at-b.result.1 c.loop-done.invariant.spread c.loop-done.invariant.entered c.at-b.ensures c.in_ok-enter.ensures;
}

pub returns : goal.returns
returns c = AreEnds-done (map name_first c.args.uses.now) c.args.defined.now c.args.edges.now c.loop-done.spread.starts c.loop-done.spread.ends c.loop-done.done (omega arith) c.loop-done.invariant.spread c.loop-done.invariant.entered
