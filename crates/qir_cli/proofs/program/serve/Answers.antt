use Rattle.std.proofs.Common.{◌∙◌, ap, refl, subst, sym}
use Rattle.std.specs.Prelude.{Err}
use Rattle.qir_cli.specs.code.Stops.{ByLines, IsReplyOf, LooksAt, RepliesWell, replies, not_read, no_room}
use Rattle.qir_cli.specs.declared.refusal.Stop.TheVariants as stop
use Rattle.qir_cli.specs.Replies.{refused}
use Rattle.qir_cli.proofs.Becoming.{becomes-map}
use Rattle.qir_cli.proofs.Replying.{too-long-replies}
use Rattle.qir_cli.proofs.program.serve.Goals as goal

pub returns-in-Ok-clause-served : goal.returns-in-Ok-clause-served
returns-in-Ok-clause-served g c =
    replies c.as_slice.result.now c.answer.result
    (subst (LooksAt c.args.command.now (g.S.Source.left c.args.input.now)) (sym c.as_slice.ensures) c.in-Ok.ensures.looks) c.answer.ensures

pub returns-in-Err-TooLong-clause-served : goal.returns-in-Err-TooLong-clause-served
returns-in-Err-TooLong-clause-served g c =
    let command = c.args.command.now in
    let long = c.in-Err-TooLong.ensures.too_long (ap Err c.in-Err-TooLong.field-0-is) in
    replies long.0 c.send.result long.1
    (becomes-map ⊥ (ByLines command) (IsReplyOf (Err (stop.Refused c.at_start.result))) (RepliesWell command long.0) g.K.Sink.taken g.K.Sink.faults c.args.out.now c.send.new.out c.send.result (λ l. absurd l)
    (λ r e. too-long-replies command long.0 long.2 r (e ∙ ap refused c.at_start.ensures)) c.send.ensures)

pub returns-in-Err-Failed-clause-served : goal.returns-in-Err-Failed-clause-served
returns-in-Err-Failed-clause-served g c = not_read (c.in-Err-Failed.ensures.failed (ap Err c.in-Err-Failed.field-0-is)) refl

pub returns-in-Err-Memory-clause-served : goal.returns-in-Err-Memory-clause-served
returns-in-Err-Memory-clause-served g c = no_room refl
