use Rattle.std.proofs.Common.{◌∙◌, ◌-◌, ◌&&◌, ap, arith, drop, length, subst, sym, take}
use Rattle.std.specs.List.{flat_map}
use Rattle.std.proofs.lemmas.Result.{err_from_is_err_and}
use Rattle.run_commands.specs.Shots.{TellsShots, told_shot}
use Rattle.run_commands.proofs.Told.{Sofar, each-has, first-and-rest, nothing-left, sofar-end, sofar-start, sofar-step, sofar-stop}
use Rattle.run_commands.proofs.records.tell_shots.Goals as goal

pub loop-backends-init : goal.loop-backends-init
loop-backends-init g c = record {
  later = omega arith;
  told = λ fn q. sofar-start c.args.m.now c.args.steps (told_shot c.args.schema c.args.m.now fn) c.args.backends.now (g.K.Sink.taken c.args.out.now) (g.K.Sink.faults c.args.out.now);
}

pub returns-in_err-returned-clause-told : goal.returns-in_err-returned-clause-told
returns-in_err-returned-clause-told g c fn q =
    let m = c.args.m.now in
    let n = c.args.steps in
    let tell = told_shot c.args.schema m fn in
    let l = c.loop-backends in
    let rest = take (length l.backends.now - 1) (drop 1 l.backends.now) in
    let e = first-and-rest c.backend-item.result l.backends.now c.in-len1-up.len_at_least c.backend-item.is in
    let before = g.K.Sink.taken c.args.out.now in
    let between = g.K.Sink.taken l.out in
    let now = g.K.Sink.taken c.tell_shot.new.out in
    let f = g.K.Sink.faults c.args.out.now in
    let h = g.K.Sink.faults l.out in
    let k = g.K.Sink.faults c.tell_shot.new.out in
    let s = subst (λ bs. Sofar m n tell c.args.backends.now bs before between f h l.all) e (l.invariant.told fn q) in
    let p = err_from_is_err_and c.from_residual.result c.from_residual.ensures.1 in
    subst (TellsShots c.args.backends.now m n (flat_map tell) before now f k) (sym p.1)
    (sofar-stop m n tell c.args.backends.now c.backend-item.result rest before between now f h k l.all s (each-has m n c.shots_exist.ensures c.requires.meaning) c.in_err-returned.field-0.0 p.0
    (c.in_err-returned.ensures.told fn q) p.2)

pub loop-backends-preserved-then-all : goal.loop-backends-preserved-then-all
loop-backends-preserved-then-all g c = record {
  later = let a = c.loop-backends.invariant.later in let b = c.tell_shot.ensures.later in omega (arith, a, b);
  told = λ fn q.
      let m = c.args.m.now in
      let n = c.args.steps in
      let tell = told_shot c.args.schema m fn in
      let l = c.loop-backends in
      let rest = take (length l.backends.now - 1) (drop 1 l.backends.now) in
      let e = first-and-rest c.backend-item.result l.backends.now c.in-len1-up.len_at_least c.backend-item.is in
      let before = g.K.Sink.taken c.args.out.now in
      let between = g.K.Sink.taken l.out in
      let now = g.K.Sink.taken c.tell_shot.new.out in
      let f = g.K.Sink.faults c.args.out.now in
      let h = g.K.Sink.faults l.out in
      let k = g.K.Sink.faults c.tell_shot.new.out in
      let s = subst (λ bs. Sofar m n tell c.args.backends.now bs before between f h l.all) e (l.invariant.told fn q) in
      sofar-step m n tell c.args.backends.now c.backend-item.result rest before between now f h k l.all s c.in_ok-returned.returned (c.in_ok-returned.ensures.told fn q) c.tell_shot.ensures.later
      c.in_ok-returned.returned (sym (ap (λ z. z && c.in_ok-returned.returned) c.if-all.true));
}

pub loop-backends-preserved : goal.loop-backends-preserved
loop-backends-preserved g c = record {
  later = let a = c.loop-backends.invariant.later in let b = c.tell_shot.ensures.later in omega (arith, a, b);
  told = λ fn q.
      let m = c.args.m.now in
      let n = c.args.steps in
      let tell = told_shot c.args.schema m fn in
      let l = c.loop-backends in
      let rest = take (length l.backends.now - 1) (drop 1 l.backends.now) in
      let e = first-and-rest c.backend-item.result l.backends.now c.in-len1-up.len_at_least c.backend-item.is in
      let before = g.K.Sink.taken c.args.out.now in
      let between = g.K.Sink.taken l.out in
      let now = g.K.Sink.taken c.tell_shot.new.out in
      let f = g.K.Sink.faults c.args.out.now in
      let h = g.K.Sink.faults l.out in
      let k = g.K.Sink.faults c.tell_shot.new.out in
      let s = subst (λ bs. Sofar m n tell c.args.backends.now bs before between f h l.all) e (l.invariant.told fn q) in
      sofar-step m n tell c.args.backends.now c.backend-item.result rest before between now f h k l.all s c.in_ok-returned.returned (c.in_ok-returned.ensures.told fn q) c.tell_shot.ensures.later
      l.all (c.if-all.false ∙ sym (ap (λ z. z && c.in_ok-returned.returned) c.if-all.false));
}

pub returns-clause-told : goal.returns-clause-told
returns-clause-told g c fn q =
    let m = c.args.m.now in
    let n = c.args.steps in
    let tell = told_shot c.args.schema m fn in
    let l = c.loop-backends in
    let before = g.K.Sink.taken c.args.out.now in
    let now = g.K.Sink.taken l.out in
    let f = g.K.Sink.faults c.args.out.now in
    let h = g.K.Sink.faults l.out in
    let e = nothing-left l.backends.now c.in_default.len_below in
    sofar-end m n tell c.args.backends.now before now f h l.all (subst (λ bs. Sofar m n tell c.args.backends.now bs before now f h l.all) e (l.invariant.told fn q))
