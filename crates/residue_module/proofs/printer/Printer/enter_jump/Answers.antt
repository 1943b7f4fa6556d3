use Rattle.std.proofs.Common.{arith, refl, ap, ◌∙◌}
use Rattle.std.proofs.lemmas.Option.{get_or_from_slice_get}
use Rattle.std.proofs.lemmas.Result.{on_ok_weaker}
use Rattle.std.specs.Prelude.{slice_get, slice_set}
use Rattle.residue.specs.Instructions.{block_number}
use Rattle.residue_module.specs.code.Edges.{entered}
use Rattle.residue_module.specs.code.Scenes.{at}
use Rattle.residue_module.proofs.Entering.{jump-entered, jump-missed}
use Rattle.residue_module.proofs.printer.Printer.enter_jump.Goals as goal

pub returns-then-to-len : goal.returns-then-to-len
returns-then-to-len c = on_ok_weaker c.enter.result (λ e.
    jump-entered (at c.args.self.now) c.args.from c.args.jump.now c.args.rows.now (slice_set c.rows.inside.rows.items c.args.jump.now.to c.enter.new.row) c.args.jump.now.to refl
    (λ row s.
    ap (λ l. slice_set l c.args.jump.now.to c.enter.new.row) c.rows.view_is
    ∙ ap (slice_set c.args.rows.now c.args.jump.now.to) (e ∙ ap (entered (at c.args.self.now) (block_number c.args.from) c.args.jump.now.args 0) (
    c.index_mut.ensures.value ∙ get_or_from_slice_get c.rows.inside.rows.items c.args.jump.now.to row c.index_mut.result.now (ap (λ l. slice_get l c.args.jump.now.to) c.rows.view_is ∙ s))))
    (let t = c.if-to-len.true in let n = c.len.ensures in omega (arith, t, n))) c.enter.ensures

pub returns-else-to-len : goal.returns-else-to-len
returns-else-to-len c = jump-missed (at c.args.self.now) c.args.from c.args.jump.now c.args.rows.now c.args.jump.now.to refl (let t = c.if-to-len.false in let n = c.len.ensures in omega (arith, t, n))
