use Rattle.std.proofs.Common.{sym, subst}
use Rattle.run_commands.specs.code.Ran.{shot_of}
use Rattle.run_commands.specs.declared.shot.Machine.TheVariants as machine
use Rattle.run_commands.proofs.Played.{script-shot, shot-is}
use Rattle.run_commands.proofs.shot.run_shot.Goals as goal
use Rattle.shots.specs.declared.backend.Backend.TheVariants as backend
use Rattle.shots.specs.Shots.{IsShot}

pub returns-in_ok-ended-in-Script : goal.returns-in_ok-ended-in-Script
returns-in_ok-ended-in-Script c =
    let m = c.args.m.now in
    let script = c.in_ok-script-in-Script.script in
    let ended = c.in_ok-ended-in-Script.ended in
    let now = c.run_on.new.backend in
    let bits = c.as_slice.result.now in
    let e = c.ended_shot.ensures in
    subst (λ b. IsShot b m c.args.steps (shot_of c.ended_shot.result)) (sym c.in-Script.is)
    (subst (λ bs. IsShot (backend.Script bs) m c.args.steps (shot_of c.ended_shot.result)) c.as_slice.ensures
    (shot-is (backend.Script bits) m c.args.steps c.ended_shot.result (machine.Script now) ended e.machine e.records e.last
    (script-shot bits script now c.in_ok-script-in-Script.ensures.events c.in_ok-script-in-Script.ensures.left m c.args.steps ended c.in_ok-ended-in-Script.ensures.ran)))
