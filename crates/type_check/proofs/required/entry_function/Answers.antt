use Rattle.std.proofs.Common.{ap, ◌∙◌}
use Rattle.std.specs.List.{find}
use Rattle.ir_module.specs.Entry.{is_entry}
use Rattle.type_check.proofs.EntryFaults.{entry_is}
use Rattle.type_check.proofs.required.entry_function.Goals as goal

pub returns : goal.returns
returns c = c.first_entry.ensures ∙ ap (find is_entry) c.as_slice.ensures ∙ entry_is c.args.m.now
