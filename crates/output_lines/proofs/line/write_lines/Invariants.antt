use Rattle.std.proofs.Common.{length, map}
use Rattle.output_lines.proofs.Writing.{Along}
use Rattle.output_lines.proofs.line.write_lines.Given as goal

abbrev pub invariant-loop-item : goal.invariant-loop-item
invariant-loop-item g l =
    Along (map (g.T.Line.line_of l.context) l.fn.items) (map (g.T.Line.line_of l.context) l.items) (g.K.Sink.taken l.fn.k) (g.K.Sink.taken l.k) (g.K.Sink.faults l.fn.k) (g.K.Sink.faults l.k)

abbrev pub decreases-loop-item : goal.decreases-loop-item
decreases-loop-item g l = length l.items
