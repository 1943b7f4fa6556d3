use Rattle.std.proofs.Common.{ap, ◌∙◌, ◌&&◌, ◌==◌, not}
use Rattle.findings.specs.code.Shown.{shown}
use Rattle.profile_rules.specs.Base.{is_strict}
use Rattle.profile_rules.specs.Calls.{called_class, calls_irreversible}
use Rattle.base_profile.specs.code.Order.{fits_class}
use Rattle.base_profile.proofs.Verdicts.{order}
use Rattle.base_profile.proofs.tables.Tables.is_out_of_order.Goals as goal

pub returns : goal.returns
returns c =
    let t = c.args.self.now in
    let m = t.callees.tree.now in
    let call = shown c.args.call in
    c.is_out_of_place.ensures
    ∙ ap (λ n. not (fits_class n (called_class m call.callee) (calls_irreversible m call)) && ((c.args.at.func.0 == t.entry.0) && is_strict t.form)) c.number_at-position.ensures
    ∙ order m t.entry.0 t.function.now c.args.f.now c.args.at call (is_strict t.form) t.positions.now c.requires.ready.entry c.requires.within c.requires.ready.positions
