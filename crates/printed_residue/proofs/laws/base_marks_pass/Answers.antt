use Rattle.std.proofs.Common.{⊎_elim}
use Rattle.residue.specs.declared.parts.Line.TheVariants as line
use Rattle.printed_residue.proofs.BaseLines.{base-mark-passes}
use Rattle.printed_residue.proofs.Scoped.{items-same}
use Rattle.printed_residue.proofs.laws.base_marks_pass.Goals as goal

pub returns : goal.returns
returns c r p q j st v m at = ⊎_elim (λ h. base-mark-passes r p q st v (items-same p.lines q (line.Made j) tt h) at) (λ h. base-mark-passes r p q st v (items-same p.lines q (line.Freed j) tt h) at) m
