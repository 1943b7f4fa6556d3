use Rattle.std.proofs.lemmas.Result.{on_ok_weaker}
use Rattle.ir_values.specs.declared.ty.Ty.TheVariants as ty
use Rattle.residue_module.proofs.Named.{value-added}
use Rattle.residue_module.proofs.names.LocalNames.add_value.Goals as goal

pub returns : goal.returns
returns c = on_ok_weaker c.push.result (λ e.
    value-added c.args.self.now (record { locals = c.push.new.self; firsts = c.note.new.firsts }) c.args.value.0 (ty.Int c.args.width) c.in_ok-name.name c.len-number.result
    c.len-number.ensures c.in_ok-name.ensures e c.in_ok-note.ensures) c.push.ensures.ok
