use Rattle.std.proofs.Common.{length, ◌≡◌, ◌++◌, List, map}
use Rattle.ir_names.specs.declared.numbers.Written.{Written}
use Rattle.ir_names.specs.Module.{node_in}
use Rattle.ir_names.specs.code.Names.{same_written}
use Rattle.ir_names.specs.code.Tables.{Numbers}
use Rattle.ir_names.proofs.globals.nodes.Given as goal

abbrev pub invariant-loop-items : goal.invariant-loop-items
invariant-loop-items l =
    (done : List Written) × Numbers same_written l.table done × (map node_in l.fn.items ≡ done ++ map node_in l.items)

abbrev pub decreases-loop-items : goal.decreases-loop-items
decreases-loop-items l = length l.items
