use Rattle.called_functions.proofs.Parts.{table-whole}
use Rattle.called_functions.proofs.table.table_of.Goals as goal

pub returns : goal.returns
returns c = table-whole c.args.residue.now c.as_slice.result.now c.in_ok-irreversible.irreversible.keys c.as_slice-2.result.now c.new-table.result c.declare_initialize.new.table c.declare_parts.new.table c.as_slice.ensures c.as_slice-2.ensures c.in_ok-irreversible.ensures c.new-table.ensures c.in_ok-declare_initialize.ensures c.in_ok-declare_parts.ensures
