use Rattle.machine_frames.specs.declared.frames.Frames.{Frames}
use Rattle.machine_frames.proofs.Stacks.{none-back, pop-back}
use Rattle.machine_frames.proofs.frames.Frames.give_back.Goals as goal

pub returns-in-Some : goal.returns-in-Some
returns-in-Some c st =
    pop-back c.args.self.now.waiting c.pop.new.self c.in-Some.waiting c.args.value st c.bind_given.new.env c.in-Some.ensures c.bind_given.ensures

pub returns-in-None : goal.returns-in-None
returns-in-None c st =
    let f : Frames = record { at = c.args.self.now.at; env = c.args.self.now.env; waiting = c.pop.new.self } in
    none-back f c.args.self.now.waiting c.args.value st c.ended.result c.in-None.ensures.0 (c.ended.ensures st)
