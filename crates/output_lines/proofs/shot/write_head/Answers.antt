use Rattle.std.proofs.Common.{◌+◌, ◌<◌, ◌++◌, [], length, take, sym, subst}
use Rattle.qir_ports.specs.Known.{Takes}
use Rattle.output_lines.specs.RecordLines.{schema_line, version_line}
use Rattle.output_lines.proofs.Writing.{part-of-first, part-of-second, two-lines}
use Rattle.output_lines.proofs.shot.write_head.Goals as goal

pub returns-in-Ok-write_all-clause-ok : goal.returns-in-Ok-write_all-clause-ok
returns-in-Ok-write_all-clause-ok g c =
    two-lines (schema_line c.args.schema) version_line _ _ _
    (subst (λ x. Takes (g.K.Sink.taken c.args.k.now) x (g.K.Sink.taken c.write_all.new.k)) c.schema_line-id.ensures c.in-Ok.ensures.ok) c.in-Ok-write_all.ensures.ok

pub returns-in-Err-write_all-clause-written : goal.returns-in-Err-write_all-clause-written
returns-in-Err-write_all-clause-written g c =
    subst (λ x. Takes (g.K.Sink.taken c.args.k.now) (take (length x + c.in-Err-write_all.stop.written) (schema_line c.args.schema ++ (version_line ++ []))) (g.K.Sink.taken c.write_all-in-Ok.new.k)) (sym c.schema_line-id.ensures)
    (part-of-second (schema_line c.args.schema) version_line _ _ _ c.in-Err-write_all.stop.written
    (subst (λ x. Takes (g.K.Sink.taken c.args.k.now) x (g.K.Sink.taken c.write_all.new.k)) c.schema_line-id.ensures c.in-Ok.ensures.ok) c.in-Err-write_all.ensures.written)

pub returns-in-Err-clause-written : goal.returns-in-Err-clause-written
returns-in-Err-clause-written g c =
    part-of-first (schema_line c.args.schema) version_line _ _ c.in-Err.stop.written
    (subst (λ x. c.in-Err.stop.written < length x) c.schema_line-id.ensures c.in-Err.ensures.not_all)
    (subst (λ x. Takes (g.K.Sink.taken c.args.k.now) (take c.in-Err.stop.written x) (g.K.Sink.taken c.write_all.new.k)) c.schema_line-id.ensures c.in-Err.ensures.written)
