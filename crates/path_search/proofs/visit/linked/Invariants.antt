use Rattle.std.proofs.Common.{◌≡◌, ◌++◌, length}
use Rattle.std.specs.Vec.Iter.{into_iter_items, into_iter_len}
use Rattle.path_search.specs.code.Visit.{Grows, AreLinks}
use Rattle.path_search.proofs.visit.linked.Given as goal

abbrev pub invariant-loop-edge : goal.invariant-loop-edge
invariant-loop-edge g l = record {
  whole : l.yielded ++ into_iter_items l.edge-iterator ≡ into_iter_items l.initial.edge-iterator;
  size : into_iter_len l.edge-iterator ≡ length (into_iter_items l.edge-iterator);
  grows : Grows l.fn.table l.table l.fn.marks l.marks;
  links : AreLinks l.fn.table l.table l.yielded l.links.items;
}
