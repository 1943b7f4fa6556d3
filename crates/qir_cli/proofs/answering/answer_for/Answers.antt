use Rattle.std.proofs.Common.{sym, subst}
use Rattle.std.specs.Prelude.{Ok}
use Rattle.ir_module.specs.declared.tree.Module.{Module}
use Rattle.run_commands.specs.Shots.{TellsRecords}
use Rattle.qir_cli.specs.code.AdmittedCode.{parsed_of}
use Rattle.qir_cli.specs.code.Stops.{Becomes, ByLines, DoesWell, Meets}
use Rattle.qir_cli.specs.declared.command.Command.TheVariants.{Print, Check, Lower, Run, Trace, Gen}
use Rattle.qir_cli.specs.Replies.{printed}
use Rattle.qir_cli.specs.Stages.{Is}
use Rattle.qir_cli.proofs.Becoming.{no-promise, send-does}
use Rattle.qir_cli.proofs.Running.{run-becomes, trace-becomes}
use Rattle.qir_cli.proofs.answering.answer_for.Goals as goal

pub returns-in-Print : goal.returns-in-Print
returns-in-Print g c =
    let parsed = parsed_of c.args.a.now in
    let m = subst (λ (m : Module). Meets (Is (Ok (printed m))) c.print_module.result) c.module.ensures.module c.print_module.ensures in
    subst (λ command. Becomes (ByLines command) (DoesWell command parsed) g.K.Sink.taken g.K.Sink.faults c.args.out.now c.send.new.out c.send.result) (sym c.in-Print.is)
    (send-does Print parsed g.K.Sink.taken g.K.Sink.faults c.args.out.now c.send.new.out c.print_module.result c.send.result m (no-promise parsed.module c.print_module.result) c.send.ensures)

pub returns-in-Check : goal.returns-in-Check
returns-in-Check g c =
    let parsed = parsed_of c.args.a.now in
    subst (λ command. Becomes (ByLines command) (DoesWell command parsed) g.K.Sink.taken g.K.Sink.faults c.args.out.now c.send-in-Check.new.out c.send-in-Check.result) (sym c.in-Check.is)
    (send-does (Check c.in-Check.profile) parsed g.K.Sink.taken g.K.Sink.faults c.args.out.now c.send-in-Check.new.out c.check_module.result c.send-in-Check.result c.check_module.ensures
    (no-promise parsed.module c.check_module.result) c.send-in-Check.ensures)

pub returns-in-Lower : goal.returns-in-Lower
returns-in-Lower g c =
    let parsed = parsed_of c.args.a.now in
    subst (λ command. Becomes (ByLines command) (DoesWell command parsed) g.K.Sink.taken g.K.Sink.faults c.args.out.now c.send-in-Lower.new.out c.send-in-Lower.result) (sym c.in-Lower.is)
    (send-does (Lower c.in-Lower.target c.in-Lower.budget) parsed g.K.Sink.taken g.K.Sink.faults c.args.out.now c.send-in-Lower.new.out c.lower_module.result c.send-in-Lower.result
    c.lower_module.ensures.meets c.lower_module.ensures.kept c.send-in-Lower.ensures)

pub returns-in-Run : goal.returns-in-Run
returns-in-Run g c =
    let parsed = parsed_of c.args.a.now in
    subst (λ command. Becomes (ByLines command) (DoesWell command parsed) g.K.Sink.taken g.K.Sink.faults c.args.out.now c.run.new.out c.status_of.result) (sym c.in-Run.is)
    (subst (λ s. Becomes (⊥ → ⊥) (DoesWell (Run c.in-Run.schema c.in-Run.steps c.in-Run.backends) parsed) g.K.Sink.taken g.K.Sink.faults c.args.out.now c.run.new.out s) (sym c.status_of.ensures)
    (run-becomes g.K.Sink.taken g.K.Sink.faults c.args.out.now c.run.new.out c.in-Run.schema c.in-Run.steps c.in-Run.backends parsed c.run.result
    (subst (λ bs. TellsRecords c.in-Run.schema bs parsed.module c.in-Run.steps (g.K.Sink.taken c.args.out.now) (g.K.Sink.taken c.run.new.out) (g.K.Sink.faults c.args.out.now) (g.K.Sink.faults c.run.new.out) c.run.result)
    c.as_slice.ensures c.run.ensures.told)))

pub returns-in-Trace : goal.returns-in-Trace
returns-in-Trace g c =
    let parsed = parsed_of c.args.a.now in
    subst (λ command. Becomes (ByLines command) (DoesWell command parsed) g.K.Sink.taken g.K.Sink.faults c.args.out.now c.trace.new.out c.status_of-in-Trace.result) (sym c.in-Trace.is)
    (subst (λ s. Becomes (⊥ → ⊥) (DoesWell (Trace c.in-Trace.steps c.in-Trace.backend) parsed) g.K.Sink.taken g.K.Sink.faults c.args.out.now c.trace.new.out s) (sym c.status_of-in-Trace.ensures)
    (trace-becomes g.K.Sink.taken g.K.Sink.faults c.args.out.now c.trace.new.out c.in-Trace.steps c.in-Trace.backend parsed c.trace.result c.trace.ensures.told))

pub returns-in-Gen : goal.returns-in-Gen
returns-in-Gen g c =
    let parsed = parsed_of c.args.a.now in
    subst (λ command. Becomes (ByLines command) (DoesWell command parsed) g.K.Sink.taken g.K.Sink.faults c.args.out.now c.send-in-Gen.new.out c.send-in-Gen.result) (sym c.in-Gen.is)
    (send-does (Gen c.in-Gen.turns) parsed g.K.Sink.taken g.K.Sink.faults c.args.out.now c.send-in-Gen.new.out c.summarize_module.result c.send-in-Gen.result
    c.summarize_module.ensures.meets c.summarize_module.ensures.kept c.send-in-Gen.ensures)
