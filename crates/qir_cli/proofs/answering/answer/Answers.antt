use Rattle.qir_cli.specs.code.AdmittedCode.{parsed_of}
use Rattle.qir_cli.specs.code.Stops.{ByLines, DoesWell, IsReplyOf, RepliesWell}
use Rattle.std.specs.Prelude.{Err}
use Rattle.qir_cli.proofs.Becoming.{becomes-map}
use Rattle.qir_cli.proofs.Replying.{does-replies, stopped-replies}
use Rattle.qir_cli.proofs.answering.answer.Goals as goal

pub returns-in-Ok : goal.returns-in-Ok
returns-in-Ok g c =
    let command = c.args.command.now in
    let text = c.args.text.now in
    let given = parsed_of c.in-Ok.a in
    becomes-map (ByLines command) (ByLines command) (DoesWell command given) (RepliesWell command text) g.K.Sink.taken g.K.Sink.faults c.args.out.now c.answer_for.new.out c.answer_for.result
    (λ l. l) (does-replies command text c.requires.short given c.in-Ok.ensures.meets) c.answer_for.ensures

pub returns-in-Err : goal.returns-in-Err
returns-in-Err g c =
    let command = c.args.command.now in
    let text = c.args.text.now in
    becomes-map ⊥ (ByLines command) (IsReplyOf (Err c.in-Err.why)) (RepliesWell command text) g.K.Sink.taken g.K.Sink.faults c.args.out.now c.send.new.out c.send.result
    (λ l. absurd l) (stopped-replies command text c.requires.short c.in-Err.why c.in-Err.ensures.meets) c.send.ensures
