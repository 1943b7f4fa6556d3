use Rattle.std.proofs.Common.{sym, subst}
use Rattle.finding_lines.specs.Lines.{HavePlaces}
use Rattle.profile_tests.proofs.given.adaptive_text.Goals as goal

pub findings_text-requires : goal.findings_text-requires
findings_text-requires c =
    subst (HavePlaces c.args.parsed.now.places) (sym c.as_slice.ensures)
    (c.adaptive_findings_have_places.ensures c.args.parsed.now.module c.args.entry.0 c.args.parsed.now.places c.in_ok-found.found c.requires.places c.in_ok-found.ensures)
