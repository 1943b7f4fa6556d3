use Rattle.std.proofs.Common.{[], ◌∷◌, Some}
use Rattle.std.proofs.lemmas.Result.{on_ok_weaker}
use Rattle.ir_values.specs.declared.int.Width.TheVariants.{W1}
use Rattle.ir_values.specs.declared.ty.Ty.TheVariants as ty
use Rattle.residue.specs.Instructions.{names_of_reading}
use Rattle.residue_module.proofs.Named.{adds-three}
use Rattle.residue_module.proofs.names.LocalNames.add_equal.Goals as goal

pub returns : goal.returns
returns c = on_ok_weaker c.add_value.result (λ e.
    adds-three (names_of_reading c.args.left.now) (names_of_reading c.args.right.now) ((Some c.args.value.0, ty.Int W1) ∷ [])
    c.args.self.now c.add_reading.new.self c.add_reading-2.new.self c.add_value.new.self c.in_ok-add_reading.ensures c.in_ok-add_reading-2.ensures e) c.add_value.ensures
