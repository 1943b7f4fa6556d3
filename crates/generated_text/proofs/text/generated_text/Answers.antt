use Rattle.std.proofs.Common.{◌<◌, length, subst, sym}
use Rattle.generated_text.proofs.Short.{short}
use Rattle.generated_text.proofs.text.generated_text.Goals as goal

pub returns-clause-short : goal.returns-clause-short
returns-clause-short c = subst (λ text. length text < 2000) (sym c.in_ok-text.ensures) (short c.args.turns c.ranges.turns.fits)
