use Rattle.std.proofs.Common.{◌∙◌, ◌∷◌, [], ◌++◌, map, codes, Err, sym, ap, subst}
use Rattle.std.proofs.lemmas.Result.{err_from_is_err_and}
use Rattle.output_lines.specs.RecordLines.{last_lines, metadata_line, output_line, shot_lines}
use Rattle.output_lines.specs.Writing.{Writes}
use Rattle.output_lines.proofs.Writing.{writes-follow, writes-stays}
use Rattle.output_lines.proofs.shot.write_run.Goals as goal

pub returns-in_err-write_line-clause-writes : goal.returns-in_err-write_line-clause-writes
returns-in_err-write_line-clause-writes g c =
    let p = err_from_is_err_and c.from_residual.result c.from_residual.ensures.1 in
    subst (Writes (shot_lines c.args.schema c.args.m.now c.args.entry.now c.args.records.now c.args.last.now) (g.K.Sink.taken c.args.k.now) (g.K.Sink.taken c.write_line.new.k) (g.K.Sink.faults c.args.k.now) (g.K.Sink.faults c.write_line.new.k)) (sym (p.1 ∙ ap Err p.2))
    (writes-stays (codes "START\n" ∷ []) (map metadata_line c.args.entry.now.attrs ++ (map (output_line c.args.schema c.args.m.now.globals) c.args.records.now ++ last_lines c.args.last.now)) _ _ _ _ c.in_err-write_line.field-0.0 c.in_err-write_line.ensures.writes)

pub returns-in_err-write_attributes-clause-writes : goal.returns-in_err-write_attributes-clause-writes
returns-in_err-write_attributes-clause-writes g c =
    let more = map (output_line c.args.schema c.args.m.now.globals) c.args.records.now ++ last_lines c.args.last.now in
    let p = err_from_is_err_and c.from_residual-in_err-write_attributes.result c.from_residual-in_err-write_attributes.ensures.1 in
    subst (Writes (shot_lines c.args.schema c.args.m.now c.args.entry.now c.args.records.now c.args.last.now) (g.K.Sink.taken c.args.k.now) (g.K.Sink.taken c.write_attributes.new.k) (g.K.Sink.faults c.args.k.now) (g.K.Sink.faults c.write_attributes.new.k)) (sym (p.1 ∙ ap Err p.2))
    (writes-follow {A = Unit {0}} (codes "START\n" ∷ []) (map metadata_line c.args.entry.now.attrs ++ more) _ _ _ _ _ _ (Err c.in_err-write_attributes.field-0.0) c.in_ok-write_line.ensures.writes c.write_line.ensures.later
    (writes-stays (map metadata_line c.args.entry.now.attrs) more _ _ _ _ c.in_err-write_attributes.field-0.0 c.in_err-write_attributes.ensures.writes))

pub returns-in_err-write_records-clause-writes : goal.returns-in_err-write_records-clause-writes
returns-in_err-write_records-clause-writes g c =
    let attrs = map metadata_line c.args.entry.now.attrs in
    let records = map (output_line c.args.schema c.args.m.now.globals) c.args.records.now in
    let last = last_lines c.args.last.now in
    let p = err_from_is_err_and c.from_residual-in_err-write_records.result c.from_residual-in_err-write_records.ensures.1 in
    subst (Writes (shot_lines c.args.schema c.args.m.now c.args.entry.now c.args.records.now c.args.last.now) (g.K.Sink.taken c.args.k.now) (g.K.Sink.taken c.write_records.new.k) (g.K.Sink.faults c.args.k.now) (g.K.Sink.faults c.write_records.new.k)) (sym (p.1 ∙ ap Err p.2))
    (writes-follow {A = Unit {0}} (codes "START\n" ∷ []) (attrs ++ (records ++ last)) _ _ _ _ _ _ (Err c.in_err-write_records.field-0.0) c.in_ok-write_line.ensures.writes c.write_line.ensures.later
    (writes-follow {A = Unit {0}} attrs (records ++ last) _ _ _ _ _ _ (Err c.in_err-write_records.field-0.0) c.in_ok-write_attributes.ensures.writes c.write_attributes.ensures.later
    (writes-stays records last _ _ _ _ c.in_err-write_records.field-0.0 c.in_err-write_records.ensures.writes)))

pub returns-clause-writes : goal.returns-clause-writes
returns-clause-writes g c =
    let attrs = map metadata_line c.args.entry.now.attrs in
    let records = map (output_line c.args.schema c.args.m.now.globals) c.args.records.now in
    let last = last_lines c.args.last.now in
    writes-follow (codes "START\n" ∷ []) (attrs ++ (records ++ last)) _ _ _ _ _ _ c.write_last.result c.in_ok-write_line.ensures.writes c.write_line.ensures.later
    (writes-follow attrs (records ++ last) _ _ _ _ _ _ c.write_last.result c.in_ok-write_attributes.ensures.writes c.write_attributes.ensures.later
    (writes-follow records last _ _ _ _ _ _ c.write_last.result c.in_ok-write_records.ensures.writes c.write_records.ensures.later c.write_last.ensures.writes))
