use Rattle.std.proofs.Common.{◌≡◌, ◌+◌, ◌++◌, length}
use Rattle.std.specs.Vec.Iter.{into_iter_items, into_iter_len}
use Rattle.residue_module.specs.code.Edges.{phis_from}
use Rattle.residue_module.proofs.rows.Row.into_phis.Given as goal

abbrev pub invariant-loop-entries : goal.invariant-loop-entries
invariant-loop-entries l = record {
  whole : l.phis ++ phis_from l.number (into_iter_items l.lists) ≡ phis_from l.first l.fn.self;
  room : l.number + length (into_iter_items l.lists) ≡ l.first + length l.fn.self;
}

abbrev pub decreases-loop-entries : goal.decreases-loop-entries
decreases-loop-entries l = into_iter_len l.lists
