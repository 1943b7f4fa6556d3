use Rattle.std.proofs.Common.{sym}
use Rattle.admission.proofs.Entries.{entry_is, none_is}
use Rattle.admission.proofs.tables.entry.Goals as goal

pub unreachable-requires : goal.unreachable-requires
unreachable-requires c = none_is c.args.m.now c.requires c.entry.result c.in-None.is c.entry.ensures

pub returns : goal.returns
returns c = entry_is c.args.m.now c.in-Some.g (sym c.in-Some.ensures)
