use Rattle.std.proofs.Common.{refl}
use Rattle.std.proofs.lemmas.Result.{on_ok_weaker}
use Rattle.ir_values.specs.declared.int.Width.TheVariants.{W1}
use Rattle.ir_values.specs.declared.ty.Ty.TheVariants as ty
use Rattle.residue_module.proofs.Named.{bit-added}
use Rattle.residue_module.proofs.names.LocalNames.add_bit.Goals as goal

pub returns : goal.returns
returns c = on_ok_weaker c.push.result (λ e. bit-added c.args.self.now (record { locals = c.push.new.self; firsts = c.args.self.now.firsts }) (ty.Int W1) c.in_ok-name.name c.len.result c.len.ensures c.in_ok-name.ensures e refl) c.push.ensures.ok
