use Rattle.std.proofs.Common.{map}
use Rattle.output_lines.specs.RecordLines.{last_lines}
use Rattle.output_lines.specs.TraceLines.{event_line}
use Rattle.output_lines.proofs.Writing.{writes-follow}
use Rattle.output_lines.proofs.shot.write_trace.Goals as goal

pub returns-clause-writes : goal.returns-clause-writes
returns-clause-writes g c =
    writes-follow (map event_line c.args.events.now) (last_lines c.args.last.now) _ _ _ _ _ _ c.write_last.result c.in_ok-write_lines.ensures.writes c.write_lines.ensures.later c.write_last.ensures.writes
