use Rattle.std.proofs.Common.{◌∙◌, sym}
use Rattle.qir_cli.proofs.Inputs.{gives-read, looks-at-generated, looks-at-long, looks-at-read}
use Rattle.qir_cli.proofs.looking.text_for.Goals as goal

pub returns-in_ok-generated_text-in-Some-clause-looks : goal.returns-in_ok-generated_text-in-Some-clause-looks
returns-in_ok-generated_text-in-Some-clause-looks g c =
    looks-at-generated c.args.command.now (g.S.Source.left c.args.input.now) c.in-Some.turns c.in_ok-generated_text-in-Some.field-0
    (sym c.turns.ensures ∙ c.in-Some.is) c.in_ok-generated_text-in-Some.ensures.text

pub returns-in-None-clause-looks : goal.returns-in-None-clause-looks
returns-in-None-clause-looks g c =
    looks-at-read c.args.command.now (g.S.Source.left c.args.input.now) (g.S.Source.left c.read_all.new.s) c.read_all.result
    (sym c.turns.ensures ∙ c.in-None.is) c.read_all.ensures.ok

pub returns-in-None-clause-too_long : goal.returns-in-None-clause-too_long
returns-in-None-clause-too_long g c =
    λ e. looks-at-long c.args.command.now (g.S.Source.left c.args.input.now) (sym c.turns.ensures ∙ c.in-None.is) (c.read_all.ensures.too_long e).more

pub returns-in-None-clause-read : goal.returns-in-None-clause-read
returns-in-None-clause-read g c =
    gives-read (g.S.Source.left c.args.input.now) (g.S.Source.left c.read_all.new.s) c.read_all.result c.read_all.ensures.ok c.read_all.ensures.within
    c.read_all.ensures.too_long c.read_all.ensures.until_failed c.read_all.ensures.until_memory
