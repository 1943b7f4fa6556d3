use Rattle.std.proofs.Common.{◌≡◌, ◌∙◌, Some, sym, ap, subst}
use Rattle.ir_module.specs.declared.tree.InstKind.TheVariants as kind
use Rattle.ir_values.specs.declared.value.Value.TheVariants as value
use Rattle.machine_frames.specs.Frames.{Leads, whole}
use Rattle.machine_frames.specs.code.Apt.{performs_apt}
use Rattle.machine_frames.proofs.Operands.{two-values}
use Rattle.machine_frames.proofs.frames.Frames.binary.Goals as goal
use Rattle.qir_meaning.specs.code.Steps.{tick_of}
use Rattle.qir_meaning.specs.Moves.{with_values}
use Rattle.qir_meaning.specs.State.{value_of}

pub returns-in-Int-Int : goal.returns-in-Int-Int
returns-in-Int-Int c m t st =
    let f = c.args.self.now in
    let a = c.args.a.now in
    let b = c.args.b.now in
    let ha : value_of f.env a ≡ Some (value.Int c.in-Int-Int.i) = sym c.in-Some.ensures ∙ ap Some c.in-Int-Int.is-0 in
    let hb : value_of f.env b ≡ Some (value.Int c.in-Int-Int.j) = sym c.in-Some-value_of.ensures ∙ ap Some c.in-Int-Int.is-1 in
    subst (λ o. Leads c.binary_ints.new.self st c.binary_ints.result (tick_of (whole f st) (with_values o st (performs_apt m f.at f.env st c.args.x (kind.Binary c.args.op c.args.flags t a b))))) (sym (two-values f.env a b _ _ ha hb))
    (c.binary_ints.ensures m t a b st)
