use Rattle.std.proofs.Common.{◌+◌, length, map, [], refl}
use Rattle.residue.specs.Printed.{edges_of}
use Rattle.residue_module.specs.code.Scenes.{args_small, at}
use Rattle.residue_module.proofs.Entering.{part-enters, parts-done}
use Rattle.residue_module.proofs.Printing.{part-count, rest-pass}
use Rattle.residue_module.proofs.printer.Printer.entries.Goals as goal

pub loop-part-preserved : goal.loop-part-preserved
loop-part-preserved c = record {
  count = part-count c.loop-part.parts.now c.in-Some.rest.now c.in-Some.part.now c.in-Some.ensures.cases.0 c.loop-part.from (length c.args.parts.now) c.loop-part.invariant.count;
  small = rest-pass (args_small (at c.args.self.now)) c.loop-part.parts.now c.in-Some.rest.now c.in-Some.part.now c.in-Some.ensures.cases.0 c.loop-part.invariant.small;
  edges = part-enters (at c.args.self.now) (edges_of 0 c.args.parts.now) (map (λ p. map (λ x. []) p.params) c.args.parts.now) c.loop-part.rows c.enter_tail.new.rows c.loop-part.from (c.loop-part.from + 1) c.loop-part.parts.now c.in-Some.rest.now c.in-Some.part.now c.in-Some.ensures.cases.0 refl c.in_ok-enter_tail.ensures c.loop-part.invariant.edges;
}

pub returns : goal.returns
returns c = parts-done (at c.args.self.now) (edges_of 0 c.args.parts.now) c.loop-part.from c.loop-part.parts.now c.args.parts.now c.loop-part.rows c.in_default.ensures.cases c.loop-part.invariant.edges
