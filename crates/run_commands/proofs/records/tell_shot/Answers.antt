use Rattle.std.proofs.Common.{[], ◌∷◌, sym, subst}
use Rattle.std.specs.Prelude.{Err, Ok, slice_get}
use Rattle.std.specs.List.{flat_map}
use Rattle.std.proofs.lemmas.Result.{err_from_is_err_and}
use Rattle.ir_module.specs.declared.tree.Function.{Function}
use Rattle.output_lines.specs.RecordLines.{shot_lines}
use Rattle.output_lines.specs.Writing.{Writes}
use Rattle.run_commands.specs.code.Ran.{shot_of}
use Rattle.run_commands.specs.Shots.{TellsShots, told_shot}
use Rattle.run_commands.proofs.Told.{at-some, each-has, no-memory, shot-stopped, shot-told}
use Rattle.run_commands.proofs.records.tell_shot.Goals as goal

pub returns-in_err-ran-clause-told : goal.returns-in_err-ran-clause-told
returns-in_err-ran-clause-told g c fn q =
    let m = c.args.m.now in
    let before = g.K.Sink.taken c.args.out.now in
    let f = g.K.Sink.faults c.args.out.now in
    let p = err_from_is_err_and c.from_residual.result c.from_residual.ensures.1 in
    subst (TellsShots (c.args.backend.now ∷ []) m c.args.steps (flat_map (told_shot c.args.schema m fn)) before before f f) (sym p.1)
    (no-memory m c.args.steps (told_shot c.args.schema m fn) (each-has m c.args.steps c.shots_exist.ensures c.requires.meaning) c.args.backend.now before f f p.0 p.2)

pub returns-in_err-write_shot-clause-told : goal.returns-in_err-write_shot-clause-told
returns-in_err-write_shot-clause-told g c fn q =
    let m = c.args.m.now in
    let ran = c.in_ok-ran.ran in
    let before = g.K.Sink.taken c.args.out.now in
    let now = g.K.Sink.taken c.write_shot.new.k in
    let f = g.K.Sink.faults c.args.out.now in
    let h = g.K.Sink.faults c.write_shot.new.k in
    let e = c.in_err-write_shot.field-0.0 in
    let p = err_from_is_err_and c.from_residual-in_err-write_shot.result c.from_residual-in_err-write_shot.ensures.1 in
    subst (TellsShots (c.args.backend.now ∷ []) m c.args.steps (flat_map (told_shot c.args.schema m fn)) before now f h) (sym p.1)
    (shot-stopped m c.args.steps (told_shot c.args.schema m fn) c.args.backend.now (shot_of ran) before now f h e p.0 c.in_ok-ran.ensures
    (at-some (slice_get m.funcs c.args.entry.0) (λ (z : Function). Writes {A = Unit {0}} (shot_lines c.args.schema m z ran.records ran.last) before now f h (Err e)) fn q c.in_err-write_shot.ensures.writes) p.2)

pub returns-clause-told : goal.returns-clause-told
returns-clause-told g c fn q =
    let m = c.args.m.now in
    let ran = c.in_ok-ran.ran in
    let before = g.K.Sink.taken c.args.out.now in
    let now = g.K.Sink.taken c.write_shot.new.k in
    let f = g.K.Sink.faults c.args.out.now in
    let h = g.K.Sink.faults c.write_shot.new.k in
    shot-told m c.args.steps (told_shot c.args.schema m fn) c.args.backend.now (shot_of ran) before now f h c.has_returned.result c.in_ok-ran.ensures
    (at-some (slice_get m.funcs c.args.entry.0) (λ (z : Function). Writes {A = Unit {0}} (shot_lines c.args.schema m z ran.records ran.last) before now f h (Ok c.in_ok-write_shot.field-0)) fn q c.in_ok-write_shot.ensures.writes) c.has_returned.ensures
