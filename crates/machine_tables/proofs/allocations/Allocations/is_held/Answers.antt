use Rattle.std.proofs.Common.{◌≡◌, ◌∙◌, length, None, Some, refl, sym, ap}
use Rattle.std.specs.Prelude.{slice_get}
use Rattle.std.proofs.lemmas.Option.{slice_get_past, slice_get_read}
use Rattle.machine_tables.proofs.Numbers.{is-marked}
use Rattle.machine_tables.proofs.allocations.Allocations.is_held.Goals as goal

pub returns-in-Some : goal.returns-in-Some
returns-in-Some c =
    let marks = c.as_slice.result.now in
    let at : slice_get marks c.args.number ≡ Some c.in-Some.held.now = slice_get_read marks (length marks) c.args.number c.in-Some.held.now refl c.in-Some.ensures.lookup.3.0 c.in-Some.ensures.lookup.1 in
    is-marked c.self.inside.held c.args.self.now c.args.number (Some c.in-Some.held.now) c.self.view_is (sym (ap (λ l. slice_get l c.args.number) c.as_slice.ensures) ∙ at)

pub returns-in-None : goal.returns-in-None
returns-in-None c =
    is-marked c.self.inside.held c.args.self.now c.args.number None c.self.view_is (sym (ap (λ l. slice_get l c.args.number) c.as_slice.ensures) ∙ slice_get_past c.as_slice.result.now c.args.number c.in-None.ensures.lookup.3)
