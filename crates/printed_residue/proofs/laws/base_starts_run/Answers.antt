use Rattle.kept_items.specs.declared.target.Target.TheVariants.{Base}
use Rattle.printed_residue.proofs.BaseLines.{base-starts, entry_is, whole-part}
use Rattle.printed_residue.proofs.Ends.{entry-is}
use Rattle.printed_residue.proofs.laws.base_starts_run.Goals as goal

pub returns : goal.returns
returns c r answers good = let s = base-starts r good answers in (entry_is r good answers, (whole-part r good).0, entry-is r Base, (whole-part r good).1, s.0, s.1, s.2)
