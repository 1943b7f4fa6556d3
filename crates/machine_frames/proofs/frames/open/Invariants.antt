use Rattle.std.proofs.Common.{◌≡◌, ◌++◌, length, map, replicate, Some, None}
use Rattle.std.specs.Vec.Iter.{into_iter_items, into_iter_len}
use Rattle.machine_frames.proofs.frames.open.Given as goal

abbrev pub invariant-loop-value : goal.invariant-loop-value
invariant-loop-value l = record {
  whole : l.env ++ map Some (into_iter_items l.value-iterator) ≡ map Some l.fn.values;
  size : into_iter_len l.value-iterator ≡ length (into_iter_items l.value-iterator);
}

abbrev pub invariant-loop-other : goal.invariant-loop-other
invariant-loop-other l = l.env ≡ map Some l.fn.values ++ replicate l._other None
