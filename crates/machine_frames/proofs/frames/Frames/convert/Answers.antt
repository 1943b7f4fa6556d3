use Rattle.std.proofs.Common.{◌≡◌, ◌∙◌, Some, sym, ap, subst}
use Rattle.ir_module.specs.declared.tree.InstKind.TheVariants as kind
use Rattle.ir_values.specs.declared.ty.Ty.TheVariants as ty
use Rattle.ir_values.specs.declared.value.Value.TheVariants as value
use Rattle.machine_frames.specs.Frames.{Leads, whole}
use Rattle.machine_frames.specs.code.Apt.{does_apt, performs_apt}
use Rattle.machine_frames.proofs.Operands.{one-value}
use Rattle.machine_frames.proofs.frames.Frames.convert.Goals as goal
use Rattle.qir_meaning.specs.code.Steps.{tick_of}
use Rattle.qir_meaning.specs.Moves.{with_values}
use Rattle.qir_meaning.specs.State.{value_of}

pub returns-in-Int-Int : goal.returns-in-Int-Int
returns-in-Int-Int c m t st =
    let f = c.args.self.now in
    let a = c.args.a.now in
    let ha : value_of f.env a ≡ Some (value.Int c.in-Int-Int.i) = sym c.in-Some.ensures ∙ ap Some c.in-Int-Int.is-0 in
    subst (λ to. Leads c.convert_int.new.self st c.convert_int.result (tick_of (whole f st) (does_apt m f.at f.env st c.args.x (kind.Convert c.args.conv t a to)))) (sym c.in-Int-Int.is-1)
    (subst (λ o. Leads c.convert_int.new.self st c.convert_int.result (tick_of (whole f st) (with_values o st (performs_apt m f.at f.env st c.args.x (kind.Convert c.args.conv t a (ty.Int c.in-Int-Int.width)))))) (sym (one-value f.env a _ ha))
    (c.convert_int.ensures m t a st))
