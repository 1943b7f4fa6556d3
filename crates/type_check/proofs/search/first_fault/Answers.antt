use Rattle.type_check.proofs.Placed.{placed_told}
use Rattle.type_check.proofs.Walks.{first-told}
use Rattle.type_check.proofs.search.first_fault.Goals as goal

pub returns-clause-first : goal.returns-clause-first
returns-clause-first c =
    first-told c.args.m.now c.args.limit c.entry_fault-entry.result c.in_ok-other.other c.or.result c.required-bounds.result c.entry_fault-entry.ensures c.required-bounds.ensures c.in_ok-other.ensures c.or.ensures

pub returns-clause-placed : goal.returns-clause-placed
returns-clause-placed c =
    placed_told c.args.m.now c.args.limit c.or.result
    (first-told c.args.m.now c.args.limit c.entry_fault-entry.result c.in_ok-other.other c.or.result c.required-bounds.result c.entry_fault-entry.ensures c.required-bounds.ensures c.in_ok-other.ensures c.or.ensures)
