use Rattle.std.proofs.Common.{length, ◌≡◌, ◌++◌, List}
use Rattle.std.specs.List.{filter_map}
use Rattle.ir_values.specs.declared.name.Name.{Name}
use Rattle.ir_names.specs.Items.{function_name_in}
use Rattle.ir_tokens.specs.Spelled.{name_at}
use Rattle.ir_names.specs.code.Names.{same_name}
use Rattle.ir_names.specs.code.Tables.{Numbers}
use Rattle.ir_names.proofs.globals.functions.Given as goal

abbrev pub invariant-loop-items : goal.invariant-loop-items
invariant-loop-items l =
    (done : List Name) × Numbers same_name l.table done × (filter_map (function_name_in (name_at l.text)) l.fn.items ≡ done ++ filter_map (function_name_in (name_at l.text)) l.items)

abbrev pub decreases-loop-items : goal.decreases-loop-items
decreases-loop-items l = length l.items
