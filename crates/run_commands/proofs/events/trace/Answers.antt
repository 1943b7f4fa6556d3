use Rattle.std.proofs.Common.{[], ◌∷◌, sym, subst}
use Rattle.std.specs.Prelude.{Err}
use Rattle.std.specs.List.{flat_map}
use Rattle.std.proofs.lemmas.Result.{err_from_is_err_and}
use Rattle.admission.specs.Admitted.{greatest_required}
use Rattle.ir_module.specs.declared.tree.Module.{Module}
use Rattle.output_lines.specs.TraceLines.{trace_lines}
use Rattle.output_lines.specs.Writing.{Writes, text_of}
use Rattle.qir_ports.specs.Known.{Takes}
use Rattle.run_commands.specs.code.Ran.{shot_of}
use Rattle.run_commands.specs.Shots.{TellsShots, told_trace}
use Rattle.run_commands.proofs.Told.{each-has, has-meaning, no-memory, shot-stopped, shot-told}
use Rattle.run_commands.proofs.events.trace.Goals as goal
use Rattle.shots.specs.Shots.{IsShot}

pub run_shot-requires : goal.run_shot-requires
run_shot-requires g c = has-meaning c.args.c.now.tree c.module.result.now c.module.ensures.module c.module.ensures.admitted

pub returns-in_err-ran-clause-told : goal.returns-in_err-ran-clause-told
returns-in_err-ran-clause-told g c =
    let m = c.args.c.now.tree in
    let before = g.K.Sink.taken c.args.out.now in
    let f = g.K.Sink.faults c.args.out.now in
    let p = err_from_is_err_and c.from_residual.result c.from_residual.ensures.1 in
    let has = each-has m c.args.steps c.shots_exist.ensures (record { numbered = c.module.ensures.admitted.numbered; limit = greatest_required; typed = c.module.ensures.admitted.typed }) in
    subst (TellsShots (c.args.backend.now ∷ []) m c.args.steps (flat_map told_trace) before before f f) (sym p.1)
    (no-memory m c.args.steps told_trace has c.args.backend.now before f f p.0 p.2)

pub returns-in_err-write_trace-clause-told : goal.returns-in_err-write_trace-clause-told
returns-in_err-write_trace-clause-told g c =
    let m = c.args.c.now.tree in
    let ran = c.in_ok-ran.ran in
    let before = g.K.Sink.taken c.args.out.now in
    let now = g.K.Sink.taken c.write_trace.new.k in
    let f = g.K.Sink.faults c.args.out.now in
    let h = g.K.Sink.faults c.write_trace.new.k in
    let p = err_from_is_err_and c.from_residual-in_err-write_trace.result c.from_residual-in_err-write_trace.ensures.1 in
    let e = c.in_err-write_trace.field-0.0 in
    let is = subst (λ (n : Module). IsShot c.args.backend.now n c.args.steps (shot_of ran)) c.module.ensures.module c.in_ok-ran.ensures in
    subst (TellsShots (c.args.backend.now ∷ []) m c.args.steps (flat_map told_trace) before now f h) (sym p.1)
    (shot-stopped m c.args.steps told_trace c.args.backend.now (shot_of ran) before now f h e p.0 is
    (subst (λ es. Writes {A = Unit {0}} (trace_lines es ran.last) before now f h (Err e)) c.events.ensures c.in_err-write_trace.ensures.writes) p.2)

pub returns-clause-told : goal.returns-clause-told
returns-clause-told g c =
    let m = c.args.c.now.tree in
    let ran = c.in_ok-ran.ran in
    let before = g.K.Sink.taken c.args.out.now in
    let now = g.K.Sink.taken c.write_trace.new.k in
    let is = subst (λ (n : Module). IsShot c.args.backend.now n c.args.steps (shot_of ran)) c.module.ensures.module c.in_ok-ran.ensures in
    shot-told m c.args.steps told_trace c.args.backend.now (shot_of ran) before now (g.K.Sink.faults c.args.out.now) (g.K.Sink.faults c.write_trace.new.k) c.has_returned.result is
    (subst (λ es. Takes before (text_of (trace_lines es ran.last)) now) c.events.ensures c.in_ok-write_trace.ensures.writes) c.has_returned.ensures
