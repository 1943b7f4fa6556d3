use Rattle.std.proofs.Common.{◌≡◌, ◌++◌, Some}
use Rattle.std.specs.Prelude.{map}
use Rattle.path_search.proofs.table.Table.into_nodes.Given as goal

abbrev pub invariant-loop-node : goal.invariant-loop-node
invariant-loop-node g l = l.slots.items ++ map Some l.node-iterator ≡ map Some l.fn.self
