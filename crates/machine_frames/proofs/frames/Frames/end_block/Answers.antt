use Rattle.std.proofs.Common.{sym, subst}
use Rattle.std.specs.Prelude.{IfOk}
use Rattle.ir_values.specs.declared.ty.Ty.TheVariants as ty
use Rattle.machine_frames.specs.Frames.{Moves}
use Rattle.machine_frames.proofs.Operands.{if-ok}
use Rattle.machine_frames.proofs.frames.Frames.end_block.Goals as goal
use Rattle.qir_meaning.specs.Moves.{ends}

pub returns-in-Ret : goal.returns-in-Ret
returns-in-Ret c =
    let f = c.args.self.now in
    subst (λ t. IfOk c.return_value.result (λ flow. Moves f c.return_value.new.self flow (λ st. ends c.args.m.now f.at f.env st t))) (sym c.in-Ret.is)
    (if-ok c.return_value.result _ _ (λ flow h. h c.args.m.now ty.Void) c.return_value.ensures)

pub returns-in-Switch : goal.returns-in-Switch
returns-in-Switch c =
    let f = c.args.self.now in
    subst (λ t. IfOk c.switch.result (λ flow. Moves f c.switch.new.self flow (λ st. ends c.args.m.now f.at f.env st t))) (sym c.in-Switch.is)
    (if-ok c.switch.result _ _ (λ flow h. h ty.Void) c.switch.ensures)
