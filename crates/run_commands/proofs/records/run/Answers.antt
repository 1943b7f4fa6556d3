use Rattle.std.proofs.Common.{◌≡◌, ◌<◌, length, subst, sym}
use Rattle.std.specs.Prelude.{Some, slice_get}
use Rattle.std.specs.List.{flat_map}
use Rattle.std.proofs.lemmas.Result.{err_from_is_err_and}
use Rattle.admission.specs.Admitted.{greatest_required}
use Rattle.ir_module.specs.declared.tree.Module.{Module}
use Rattle.output_lines.specs.RecordLines.{head_lines}
use Rattle.run_commands.specs.Shots.{TellsRecords, TellsShots, told_shot}
use Rattle.run_commands.proofs.Told.{behind-head, each-has, entry-in-range, entry-there, has-meaning, head-stopped}
use Rattle.run_commands.proofs.records.run.Goals as goal

pub returns-in_err-write_head-clause-told : goal.returns-in_err-write_head-clause-told
returns-in_err-write_head-clause-told g c =
    let m = c.args.c.now.tree in
    let n = c.args.steps in
    let e = entry-there m c.entry-entry.result c.entry-entry.ensures.entry in
    let before = g.K.Sink.taken c.args.out.now in
    let now = g.K.Sink.taken c.write_head.new.k in
    let f = g.K.Sink.faults c.args.out.now in
    let h = g.K.Sink.faults c.write_head.new.k in
    let p = err_from_is_err_and c.from_residual.result c.from_residual.ensures.1 in
    let has = each-has m n c.shots_exist.ensures (record { numbered = c.module-m.ensures.admitted.numbered; limit = greatest_required; typed = c.module-m.ensures.admitted.typed }) in
    let w = c.in_err-write_head.ensures in
    subst (TellsRecords c.args.schema c.args.backends.now m n before now f h) (sym p.1)
    (record {
      entry = e.0;
      is_entry = e.1;
      tells = head-stopped m n (told_shot c.args.schema m e.0.function) has (head_lines c.args.schema) c.args.backends.now before now f h p.0
          (record { count = c.in_err-write_head.field-0.0.written; not_all = w.not_all; written = w.written }) w.failed p.2;
    })

pub tell_shots-requires-clause-meaning : goal.tell_shots-requires-clause-meaning
tell_shots-requires-clause-meaning g c = has-meaning c.args.c.now.tree c.module-m.result.now c.module-m.ensures.module c.module-m.ensures.admitted

pub tell_shots-requires-clause-entry : goal.tell_shots-requires-clause-entry
tell_shots-requires-clause-entry g c =
    subst (λ (m : Module). c.entry-entry.result.0 < length m.funcs) (sym c.module-m.ensures.module) (entry-in-range c.args.c.now.tree c.entry-entry.result c.entry-entry.ensures.entry)

pub returns-clause-told : goal.returns-clause-told
returns-clause-told g c =
    let m = c.args.c.now.tree in
    let n = c.args.steps in
    let e = entry-there m c.entry-entry.result c.entry-entry.ensures.entry in
    let before = g.K.Sink.taken c.args.out.now in
    let between = g.K.Sink.taken c.write_head.new.k in
    let now = g.K.Sink.taken c.tell_shots.new.out in
    let f = g.K.Sink.faults c.args.out.now in
    let h = g.K.Sink.faults c.write_head.new.k in
    let k = g.K.Sink.faults c.tell_shots.new.out in
    let told = subst (λ (z : Module). (fn : _) → slice_get z.funcs c.entry-entry.result.0 ≡ Some fn
    → TellsShots c.args.backends.now z n (flat_map (told_shot c.args.schema z fn)) between now h k c.tell_shots.result) c.module-m.ensures.module c.tell_shots.ensures.told in
    record {
      entry = e.0;
      is_entry = e.1;
      tells = behind-head m n (told_shot c.args.schema m e.0.function) (head_lines c.args.schema) c.args.backends.now before between now f h k c.tell_shots.result c.in_ok-write_head.ensures.ok c.write_head.ensures.later
          (told e.0.function e.2);
    }
