use Rattle.std.proofs.Common.{rules, append_assoc}
use Rattle.std.proofs.lemmas.List.Concat.{flat_map-append}
use Rattle.ir_printer.proofs.writer.Writer.address.Goals as goal

pub returns : goal.returns
returns c = search (rules, append_assoc, flat_map-append)
