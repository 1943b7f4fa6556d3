use Rattle.std.proofs.Common.{◌∙◌, sym, ap}
use Rattle.qir_meaning.specs.code.Steps.{tick_of}
use Rattle.machine_frames.specs.Frames.{whole}
use Rattle.machine_frames.proofs.Jumps.{jump-goes, jump-stuck}
use Rattle.machine_frames.proofs.frames.Frames.jump.Goals as goal

pub returns-in_default-2 : goal.returns-in_default-2
returns-in_default-2 c st =
    let f = c.args.self.now in
    ap (tick_of (whole f st)) (jump-stuck c.args.m.now f.at f.env st c.args.to c.in-Some.block.now (sym c.in-Some.ensures) c.as_slice-phis.result.now c.as_slice-phis.ensures
    (sym c.in_ok-values.ensures ∙ c.in_default-2.is))

pub returns : goal.returns
returns c st =
    let f = c.args.self.now in
    ap (tick_of (whole f st)) (jump-goes c.args.m.now f.at f.env st c.args.to c.in-Some.block.now (sym c.in-Some.ensures) c.as_slice-phis.result.now c.as_slice-phis.ensures
    c.in-Some-2.values c.put_values.new.env (sym c.in_ok-values.ensures ∙ c.in-Some-2.is) c.put_values.ensures)
