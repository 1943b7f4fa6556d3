use Rattle.std.proofs.Common.{◌≡◌, ◌++◌, length}
use Rattle.std.specs.Vec.Iter.{into_iter_items, into_iter_len}
use Rattle.path_search.specs.code.Assembly.{AreFrom, AreInSlots}
use Rattle.path_search.proofs.assembly.assembled.Given as goal

abbrev pub invariant-loop-entered : goal.invariant-loop-entered
invariant-loop-entered g l = record {
  whole : l.yielded ++ into_iter_items l.entered-iterator ≡ into_iter_items l.initial.entered-iterator;
  size : into_iter_len l.entered-iterator ≡ length (into_iter_items l.entered-iterator);
  made : AreFrom l.fn.visit.table l.fn.visit.marks l.yielded l.nodes.items;
  slots : AreInSlots l.fn.visit.table l.fn.visit.found l.slots.items (length l.yielded);
}
