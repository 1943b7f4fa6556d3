use Rattle.std.proofs.Common.{◌∙◌, sym, ap}
use Rattle.ir_values.specs.Equal.{equal_decides}
use Rattle.residue.specs.Functions as spec
use Rattle.called_functions.proofs.Names.{declared-again, declared-new}
use Rattle.called_functions.proofs.table.Table.declare.Goals as goal

pub returns-then-has_name : goal.returns-then-has_name
returns-then-has_name c = λ irr cs marks lists. declared-again irr cs c.args.self.now (spec.called c.args.name c.args.ret c.args.params.now) lists (sym c.has_name.ensures ∙ c.if-has_name.true)

pub returns : goal.returns
returns c = λ irr cs marks lists.
    declared-new _ (equal_decides _) irr cs c.args.self.now _ (spec.called c.args.name c.args.ret c.args.params.now) _ lists (sym c.has_name.ensures ∙ c.if-has_name.false) c.in_ok-insert.ensures.keys
    (c.in_ok-function.ensures irr (ap (spec.is_named irr) c.in_ok-copy.ensures ∙ sym (marks c.args.name) ∙ sym c.has_name-marked.ensures) ∙ ap (λ n. spec.declaration irr (spec.called n c.args.ret c.args.params.now)) c.in_ok-copy.ensures)
    c.in_ok-push.ensures.ok
