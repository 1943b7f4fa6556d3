use Rattle.std.proofs.Common.{◌≡◌, ◌++◌, length}
use Rattle.std.specs.Vec.Iter.{into_iter_items, into_iter_len}
use Rattle.path_search.specs.code.Assembly.{Renumbers}
use Rattle.path_search.proofs.assembly.renumbered.Given as goal

abbrev pub invariant-loop-link : goal.invariant-loop-link
invariant-loop-link g l = record {
  whole : l.yielded ++ into_iter_items l.link-iterator ≡ into_iter_items l.initial.link-iterator;
  size : into_iter_len l.link-iterator ≡ length (into_iter_items l.link-iterator);
  links : Renumbers l.marks l.yielded l.out.items;
}
