use Rattle.finding_lines.proofs.Placed.{base-placed}
use Rattle.finding_lines.proofs.laws.base_findings_have_places.Goals as goal

pub returns : goal.returns
returns c shape m e places fs = base-placed shape m e places fs
