use Rattle.std.proofs.Common.{◌≡◌, length}
use Rattle.std.specs.Vec.Iter.{into_iter_items, into_iter_len}
use Rattle.machine_frames.specs.code.Lists.{put_all}
use Rattle.machine_frames.proofs.edges.put_values.Given as goal

-- what is put and what is to come are the whole
abbrev pub invariant-loop-value : goal.invariant-loop-value
invariant-loop-value l = record {
  whole : put_all l.phis (into_iter_items l.value-iterator) l.env ≡ put_all l.fn.phis l.fn.values l.fn.env;
  size : into_iter_len l.value-iterator ≡ length (into_iter_items l.value-iterator);
}
