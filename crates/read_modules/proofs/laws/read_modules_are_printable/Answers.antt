use Rattle.read_modules.proofs.ReadModules.{numbered, printable}
use Rattle.read_modules.proofs.laws.read_modules_are_printable.Goals as goal

pub returns : goal.returns
returns c = record {
  numbered = λ text tokens items read. numbered text tokens items c.scanned_tokens_are_one.ensures.spelled read;
  printable = λ text tokens items read. printable text tokens items c.scanned_tokens_are_one.ensures.spelled read;
}
