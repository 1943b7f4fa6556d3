use Rattle.finding_lines.proofs.Placed.{adaptive-placed}
use Rattle.finding_lines.proofs.laws.adaptive_findings_have_places.Goals as goal

pub returns : goal.returns
returns c m e places fs = adaptive-placed m e places fs
