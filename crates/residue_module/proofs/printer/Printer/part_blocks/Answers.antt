use Rattle.std.proofs.Common.{◌+◌, length, refl, ap, ◌∙◌}
use Rattle.std.specs.Vec.Iter.{into_iter_items}
use Rattle.residue.specs.Printed.{edges_of, names_of}
use Rattle.residue_module.specs.code.Blocks.{part_blocks}
use Rattle.residue_module.specs.code.Edges.{leading_to}
use Rattle.residue_module.specs.code.Scenes.{at, items_small, tail_small}
use Rattle.residue_module.proofs.Entering.{row-long}
use Rattle.residue_module.proofs.Printing.{part-count, part-next, part-printed, part-row, part-rows, rest-pass}
use Rattle.residue_module.proofs.printer.Printer.part_blocks.Goals as goal

pub part-requires-clause-entries : goal.part-requires-clause-entries
part-requires-clause-entries c =
    ap length (part-row c.loop-part.parts.now c.in-Some.rest.now c.in-Some.part.now c.in-Some.ensures.cases.0 (at c.args.self.now) (edges_of 0 c.args.parts.now) c.loop-part.number
    c.next_row.result (into_iter_items c.next_row.new.rows) (into_iter_items c.loop-part.rows) c.next_row.ensures c.loop-part.invariant.entries)
    ∙ row-long (at c.args.self.now) (leading_to c.loop-part.number (edges_of 0 c.args.parts.now)) 0 c.in-Some.part.now.params

pub loop-part-preserved : goal.loop-part-preserved
loop-part-preserved c = record {
  whole = part-printed c.loop-part.parts.now c.in-Some.rest.now c.in-Some.part.now c.in-Some.ensures.cases.0 (at c.args.self.now) (edges_of 0 c.args.parts.now) c.loop-part.number
      c.next_row.result (into_iter_items c.next_row.new.rows) (into_iter_items c.loop-part.rows) c.next_row.ensures c.loop-part.invariant.entries
      c.loop-part.blocks c.push.new.self (part_blocks (at c.args.self.now) (edges_of 0 c.args.parts.now) 0 0 c.args.parts.now) c.in_ok-block.block c.loop-part.first c.in_ok-block.next (c.loop-part.number + 1)
      c.in_ok-block.ensures.block refl c.in_ok-block.ensures.next c.in_ok-push.ensures.ok c.loop-part.invariant.whole;
  entries = part-rows c.loop-part.parts.now c.in-Some.rest.now c.in-Some.part.now c.in-Some.ensures.cases.0 (at c.args.self.now) (edges_of 0 c.args.parts.now) c.loop-part.number
      c.next_row.result (into_iter_items c.next_row.new.rows) (into_iter_items c.loop-part.rows) c.next_row.ensures c.loop-part.invariant.entries (c.loop-part.number + 1) refl;
  count = part-count c.loop-part.parts.now c.in-Some.rest.now c.in-Some.part.now c.in-Some.ensures.cases.0 c.loop-part.number (length c.args.parts.now) c.loop-part.invariant.count;
  room = part-next c.loop-part.parts.now c.in-Some.rest.now c.in-Some.part.now c.in-Some.ensures.cases.0 c.loop-part.first c.in_ok-block.next (length (names_of c.args.parts.now)) c.in_ok-block.ensures.next c.loop-part.invariant.room;
  items = rest-pass (items_small (at c.args.self.now)) c.loop-part.parts.now c.in-Some.rest.now c.in-Some.part.now c.in-Some.ensures.cases.0 c.loop-part.invariant.items;
  tails = rest-pass (tail_small (at c.args.self.now)) c.loop-part.parts.now c.in-Some.rest.now c.in-Some.part.now c.in-Some.ensures.cases.0 c.loop-part.invariant.tails;
}
