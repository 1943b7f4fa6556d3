use Rattle.kept_items.specs.declared.target.Target.TheVariants.{Adaptive}
use Rattle.printed_residue.proofs.Ends.{entry-is, entry_is, part, part-is, starts-run}
use Rattle.printed_residue.proofs.laws.starts_run.Goals as goal

pub returns : goal.returns
returns c r caps answers good = (entry_is r caps good answers, part r caps good answers, entry-is r (Adaptive caps), part-is r caps good answers, starts-run r caps good answers)
