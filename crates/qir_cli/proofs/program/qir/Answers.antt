use Rattle.std.proofs.Common.{◌≡◌, ◌∙◌, ap, sym, subst}
use Rattle.std.specs.Prelude.{Some}
use Rattle.ir_values.specs.Counts.{Rose}
use Rattle.qir_cli.specs.Commands.{command_of, texts_of}
use Rattle.qir_cli.specs.Outcomes.{LeavesInput}
use Rattle.qir_cli.proofs.Becoming.{served}
use Rattle.qir_cli.proofs.program.qir.Goals as goal

pub returns-clause-bad_words : goal.returns-clause-bad_words
returns-clause-bad_words g c =
    let words = texts_of c.args.words.now.items in
    let is : command_of words ≡ Some c.in-Some.command = ap (λ ws. command_of (texts_of ws)) (sym c.as_slice.ensures.value) ∙ sym c.in-Ok.ensures.is ∙ c.in-Some.is in
    let told = served words c.in-Some.command is (g.S.Source.left c.args.input.now) (Rose (g.S.Source.faults c.args.input.now) (g.S.Source.faults c.serve.new.input)) g.K.Sink.taken g.K.Sink.faults
    c.args.out.now c.serve.new.out c.serve.result c.serve.ensures.served in
    ((λ e. absurd (told.no_bad_words e)), (λ none. cc))

pub returns-clause-unwritten : goal.returns-clause-unwritten
returns-clause-unwritten g c =
    let words = texts_of c.args.words.now.items in
    let is : command_of words ≡ Some c.in-Some.command = ap (λ ws. command_of (texts_of ws)) (sym c.as_slice.ensures.value) ∙ sym c.in-Ok.ensures.is ∙ c.in-Some.is in
    let told = served words c.in-Some.command is (g.S.Source.left c.args.input.now) (Rose (g.S.Source.faults c.args.input.now) (g.S.Source.faults c.serve.new.input)) g.K.Sink.taken g.K.Sink.faults
    c.args.out.now c.serve.new.out c.serve.result c.serve.ensures.served in
    told.unwritten

pub returns-clause-read_fault : goal.returns-clause-read_fault
returns-clause-read_fault g c =
    let words = texts_of c.args.words.now.items in
    let is : command_of words ≡ Some c.in-Some.command = ap (λ ws. command_of (texts_of ws)) (sym c.as_slice.ensures.value) ∙ sym c.in-Ok.ensures.is ∙ c.in-Some.is in
    let told = served words c.in-Some.command is (g.S.Source.left c.args.input.now) (Rose (g.S.Source.faults c.args.input.now) (g.S.Source.faults c.serve.new.input)) g.K.Sink.taken g.K.Sink.faults
    c.args.out.now c.serve.new.out c.serve.result c.serve.ensures.served in
    told.failed

pub returns-clause-write_fault : goal.returns-clause-write_fault
returns-clause-write_fault g c =
    let words = texts_of c.args.words.now.items in
    let is : command_of words ≡ Some c.in-Some.command = ap (λ ws. command_of (texts_of ws)) (sym c.as_slice.ensures.value) ∙ sym c.in-Ok.ensures.is ∙ c.in-Some.is in
    let told = served words c.in-Some.command is (g.S.Source.left c.args.input.now) (Rose (g.S.Source.faults c.args.input.now) (g.S.Source.faults c.serve.new.input)) g.K.Sink.taken g.K.Sink.faults
    c.args.out.now c.serve.new.out c.serve.result c.serve.ensures.served in
    told.counted

pub returns-clause-answered : goal.returns-clause-answered
returns-clause-answered g c =
    let words = texts_of c.args.words.now.items in
    let is : command_of words ≡ Some c.in-Some.command = ap (λ ws. command_of (texts_of ws)) (sym c.as_slice.ensures.value) ∙ sym c.in-Ok.ensures.is ∙ c.in-Some.is in
    let told = served words c.in-Some.command is (g.S.Source.left c.args.input.now) (Rose (g.S.Source.faults c.args.input.now) (g.S.Source.faults c.serve.new.input)) g.K.Sink.taken g.K.Sink.faults
    c.args.out.now c.serve.new.out c.serve.result c.serve.ensures.served in
    told.answered

pub returns-clause-partly_answered : goal.returns-clause-partly_answered
returns-clause-partly_answered g c =
    let words = texts_of c.args.words.now.items in
    let is : command_of words ≡ Some c.in-Some.command = ap (λ ws. command_of (texts_of ws)) (sym c.as_slice.ensures.value) ∙ sym c.in-Ok.ensures.is ∙ c.in-Some.is in
    let told = served words c.in-Some.command is (g.S.Source.left c.args.input.now) (Rose (g.S.Source.faults c.args.input.now) (g.S.Source.faults c.serve.new.input)) g.K.Sink.taken g.K.Sink.faults
    c.args.out.now c.serve.new.out c.serve.result c.serve.ensures.served in
    told.partly

pub returns-clause-whole_lines : goal.returns-clause-whole_lines
returns-clause-whole_lines g c =
    let words = texts_of c.args.words.now.items in
    let is : command_of words ≡ Some c.in-Some.command = ap (λ ws. command_of (texts_of ws)) (sym c.as_slice.ensures.value) ∙ sym c.in-Ok.ensures.is ∙ c.in-Some.is in
    let told = served words c.in-Some.command is (g.S.Source.left c.args.input.now) (Rose (g.S.Source.faults c.args.input.now) (g.S.Source.faults c.serve.new.input)) g.K.Sink.taken g.K.Sink.faults
    c.args.out.now c.serve.new.out c.serve.result c.serve.ensures.served in
    told.lines

pub returns-clause-kept : goal.returns-clause-kept
returns-clause-kept g c =
    let words = texts_of c.args.words.now.items in
    let is : command_of words ≡ Some c.in-Some.command = ap (λ ws. command_of (texts_of ws)) (sym c.as_slice.ensures.value) ∙ sym c.in-Ok.ensures.is ∙ c.in-Some.is in
    let told = served words c.in-Some.command is (g.S.Source.left c.args.input.now) (Rose (g.S.Source.faults c.args.input.now) (g.S.Source.faults c.serve.new.input)) g.K.Sink.taken g.K.Sink.faults
    c.args.out.now c.serve.new.out c.serve.result c.serve.ensures.served in
    told.kept

pub returns-clause-unread : goal.returns-clause-unread
returns-clause-unread g c =
    let words = texts_of c.args.words.now.items in
    let is : command_of words ≡ Some c.in-Some.command = ap (λ ws. command_of (texts_of ws)) (sym c.as_slice.ensures.value) ∙ sym c.in-Ok.ensures.is ∙ c.in-Some.is in
    λ leaves. c.serve.ensures.unread (subst LeavesInput is leaves)
