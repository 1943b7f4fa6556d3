use Rattle.std.proofs.Common.{ap, ◌∙◌}
use Rattle.type_check.specs.code.Entries.{entries_fault}
use Rattle.type_check.proofs.EntryFaults.{told, entry_fault_is}
use Rattle.type_check.proofs.entries.entry_fault.Goals as goal

pub returns-in-Some : goal.returns-in-Some
returns-in-Some c =
    let m = c.args.m.now in
    let limit = c.args.limit in
    c.entries_fault.ensures ∙ ap (entries_fault limit c.in-Some.e.0 0) c.as_slice.ensures ∙ ap (told m limit) c.in-Some.ensures ∙ entry_fault_is m limit

pub returns-in-None : goal.returns-in-None
returns-in-None c = ap (told c.args.m.now c.args.limit) c.in-None.ensures ∙ entry_fault_is c.args.m.now c.args.limit
