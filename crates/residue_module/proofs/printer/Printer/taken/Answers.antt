use Rattle.std.proofs.Common.{◌≡◌, ap, sym, ◌∙◌}
use Rattle.std.proofs.lemmas.Option.{get_or_from_slice_get}
use Rattle.std.proofs.lemmas.Result.{IfOk-weaker}
use Rattle.ir_values.specs.declared.value.Value.TheVariants as value
use Rattle.kept_items.specs.declared.val.Val.TheVariants.{Known}
use Rattle.printed_residue.proofs.Facts.{passes-here}
use Rattle.residue.specs.Instructions.{operand_of}
use Rattle.residue_module.specs.code.Edges.{argument_at}
use Rattle.residue_module.specs.code.Scenes.{at, is_small}
use Rattle.residue_module.proofs.printer.Printer.taken.Goals as goal

pub operand-requires : goal.operand-requires
operand-requires c = passes-here (is_small (at c.args.self.now)) c.args.args.now c.args.index c.at.result.now c.requires c.at.ensures

pub returns-then-index-len : goal.returns-then-index-len
returns-then-index-len c =
    IfOk-weaker c.operand.result (λ o. o ≡ operand_of (at c.args.self.now) c.at.result.now) (λ o. o ≡ operand_of (at c.args.self.now) (argument_at c.args.args.now c.args.index))
    (λ o e. e ∙ ap (operand_of (at c.args.self.now)) (sym (get_or_from_slice_get c.args.args.now c.args.index c.at.result.now (Known value.NoLabel) c.at.ensures))) c.operand.ensures
