use Rattle.std.proofs.Common.{◌∙◌, [], sym, ap}
use Rattle.machine_frames.specs.declared.frames.Waiting.{Waiting}
use Rattle.machine_frames.specs.Frames.{stacked}
use Rattle.machine_frames.proofs.Stacks.{enter-push}
use Rattle.machine_frames.proofs.frames.Frames.enter.Goals as goal
use Rattle.qir_meaning.specs.Moves.{first_point}
use Rattle.qir_meaning.specs.State.{frame, next}
use Rattle.qir_meaning.specs.code.Steps.{Waiting as Waits, Whole, On}

pub returns : goal.returns
returns c st =
    let f = c.args.self.now in
    let q = first_point c.args.number in
    let env = frame c.args.f.now c.args.values in
    let ws = c.push.new.self in
    let w : Waiting = record { at = next f.at; env = c.replace-env.result; result = c.args.x } in
    enter-push f q env c.args.x st ws w c.in_ok-push.ensures.ok (ap (λ e. let u : Waits = record { at = next f.at; env = e; result = c.args.x } in u) c.replace-env.ensures.value)
    ∙ ap (λ e. let u : Whole = record { at = q; env = e; waits = stacked ws []; state = st } in On u) (sym (c.replace-env.ensures.after ∙ c.in_ok-opened.ensures))
    ∙ ap (λ p. let u : Whole = record { at = p; env = c.replace-env.new.dest; waits = stacked ws []; state = st } in On u) (sym c.first_of-self.ensures)
