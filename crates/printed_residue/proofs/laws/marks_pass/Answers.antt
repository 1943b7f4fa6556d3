use Rattle.std.proofs.Common.{⊎_elim}
use Rattle.residue.specs.declared.parts.Line.TheVariants as line
use Rattle.printed_residue.proofs.Ends.{mark-passes}
use Rattle.printed_residue.proofs.Scoped.{items-same}
use Rattle.printed_residue.proofs.laws.marks_pass.Goals as goal

pub returns : goal.returns
returns c r n p q j ds st v m at = ⊎_elim (λ h. mark-passes r n p q ds st v (items-same p.lines q (line.Made j) tt h) at) (λ h. mark-passes r n p q ds st v (items-same p.lines q (line.Freed j) tt h) at) m
