use Rattle.std.proofs.Common.{length, ◌≡◌, ◌++◌, List, map}
use Rattle.ir_values.specs.declared.name.Name.{Name}
use Rattle.ir_names.specs.Functions.{label_name}
use Rattle.ir_tokens.specs.Spelled.{name_at}
use Rattle.ir_names.specs.code.Names.{same_name}
use Rattle.ir_names.specs.code.Tables.{Numbers}
use Rattle.ir_names.proofs.collect.labels.Given as goal

abbrev pub invariant-loop-blocks : goal.invariant-loop-blocks
invariant-loop-blocks l =
    (done : List Name) × Numbers same_name l.table done × (map (label_name (name_at l.text) l.unnamed) l.fn.blocks ≡ done ++ map (label_name (name_at l.text) l.unnamed) l.blocks)

abbrev pub decreases-loop-blocks : goal.decreases-loop-blocks
decreases-loop-blocks l = length l.blocks
