use Rattle.std.proofs.Common.{sym, subst}
use Rattle.machine_frames.proofs.Operands.{if-ok}
use Rattle.qir_machine.specs.code.Machines.{Acts}
use Rattle.qir_machine.proofs.machine.Machine.record.Goals as goal
use Rattle.qir_meaning.specs.Effects.{recorded}

pub returns-in-Label-clause-acts : goal.returns-in-Label-clause-acts
returns-in-Label-clause-acts c =
    let s = c.args.self.now in
    if-ok c.push_record.result _ _ (λ fl h x. subst (λ l. Acts s c.push_record.new.self fl (λ st. recorded s.frames.at s.frames.env x st l c.args.shown)) (sym c.in-Label.is) (h x)) c.push_record.ensures.acts

pub returns-in-NoLabel-clause-acts : goal.returns-in-NoLabel-clause-acts
returns-in-NoLabel-clause-acts c =
    let s = c.args.self.now in
    if-ok c.push_record-in-NoLabel.result _ _ (λ fl h x. subst (λ l. Acts s c.push_record-in-NoLabel.new.self fl (λ st. recorded s.frames.at s.frames.env x st l c.args.shown)) (sym c.in-NoLabel.is) (h x)) c.push_record-in-NoLabel.ensures.acts
