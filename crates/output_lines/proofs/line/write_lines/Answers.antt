use Rattle.std.proofs.Common.{◌∙◌, ◌∷◌, [], map, Err, sym, ap, subst}
use Rattle.std.proofs.lemmas.Result.{err_from_is_err_and}
use Rattle.output_lines.specs.Writing.{Writes, text_of}
use Rattle.qir_ports.specs.Known.{Takes}
use Rattle.output_lines.proofs.Writing.{Along, along-fails, along-memory, along-step}
use Rattle.output_lines.proofs.line.write_lines.Goals as goal

pub returns-in_err-text-clause-writes : goal.returns-in_err-text-clause-writes
returns-in_err-text-clause-writes g c =
    let p = err_from_is_err_and c.from_residual.result c.from_residual.ensures.1 in
    subst (Writes (map (g.T.Line.line_of c.args.context.now) c.args.items.now) (g.K.Sink.taken c.args.k.now) (g.K.Sink.taken c.loop-item.k) (g.K.Sink.faults c.args.k.now) (g.K.Sink.faults c.loop-item.k)) (sym (p.1 ∙ ap Err p.2))
    (along-memory _ _ _ _ _ _ (g.K.Sink.faults c.loop-item.k) c.loop-item.invariant)

pub returns-in_err-write_line-clause-writes : goal.returns-in_err-write_line-clause-writes
returns-in_err-write_line-clause-writes g c =
    let lines = map (g.T.Line.line_of c.args.context.now) c.args.items.now in
    let a = subst (λ l. Along lines (map (g.T.Line.line_of c.args.context.now) l) (g.K.Sink.taken c.args.k.now) (g.K.Sink.taken c.loop-item.k) (g.K.Sink.faults c.args.k.now) (g.K.Sink.faults c.loop-item.k)) c.in-Some.ensures.cases.0 c.loop-item.invariant in
    let p = err_from_is_err_and c.from_residual-in_err-write_line.result c.from_residual-in_err-write_line.ensures.1 in
    subst (Writes lines (g.K.Sink.taken c.args.k.now) (g.K.Sink.taken c.write_line.new.k) (g.K.Sink.faults c.args.k.now) (g.K.Sink.faults c.write_line.new.k)) (sym (p.1 ∙ ap Err p.2))
    (along-fails lines (g.T.Line.line_of c.args.context.now c.in-Some.item.now) (map (g.T.Line.line_of c.args.context.now) c.in-Some.rest.now) _ _ _ _ _ _ c.in_err-write_line.field-0.0 a
    (subst (λ l. Writes {A = Unit {0}} (l ∷ []) (g.K.Sink.taken c.loop-item.k) (g.K.Sink.taken c.write_line.new.k) (g.K.Sink.faults c.loop-item.k) (g.K.Sink.faults c.write_line.new.k) (Err c.in_err-write_line.field-0.0)) (c.as_slice.ensures ∙ c.in_ok-text.ensures) c.in_err-write_line.ensures.writes))

pub loop-item-preserved : goal.loop-item-preserved
loop-item-preserved g c =
    let lines = map (g.T.Line.line_of c.args.context.now) c.args.items.now in
    let a = subst (λ l. Along lines (map (g.T.Line.line_of c.args.context.now) l) (g.K.Sink.taken c.args.k.now) (g.K.Sink.taken c.loop-item.k) (g.K.Sink.faults c.args.k.now) (g.K.Sink.faults c.loop-item.k)) c.in-Some.ensures.cases.0 c.loop-item.invariant in
    let w = c.in_ok-write_line.ensures.writes in
    along-step lines (g.T.Line.line_of c.args.context.now c.in-Some.item.now) (map (g.T.Line.line_of c.args.context.now) c.in-Some.rest.now) _ _ _ _ _ _ a (subst (λ l. Takes (g.K.Sink.taken c.loop-item.k) (text_of (l ∷ [])) (g.K.Sink.taken c.write_line.new.k)) (c.as_slice.ensures ∙ c.in_ok-text.ensures) w) c.write_line.ensures.later
