use Rattle.std.proofs.Common.{ap, ◌∙◌, ◌&&◌, ◌++◌, not}
use Rattle.std.proofs.lemmas.Result.{on_ok_weaker}
use Rattle.ir_module.specs.declared.places.Spot.TheVariants as spot
use Rattle.findings.specs.code.Shown.{shown}
use Rattle.profile_rules.specs.Base.{is_base_class}
use Rattle.profile_rules.specs.Calls.{is_init, passes}
use Rattle.profile_rules.specs.code.Listed.{findings_at}
use Rattle.profile_rules.specs.Shared.{is_first_of_entry}
use Rattle.base_profile.proofs.Verdicts.{call}
use Rattle.base_profile.proofs.tables.Tables.on_call.Goals as goal

pub returns : goal.returns
returns c =
    let t = c.args.self.now in
    on_ok_weaker c.tell.result
    (λ e. e ∙ ap (λ rs. c.args.found.now ++ findings_at (spot.At c.args.at) rs)
    (call t.form t.callees.tree.now t.entry.0 t.function.now c.args.f.now c.args.at c.args.inst.now (shown c.args.call)
    (not c.is_base.result) c.has_computed.result c.is_out_of_order.result c.is_late_init.result c.requires.call
    (ap not (c.is_base.ensures ∙ ap (λ o. passes o is_base_class) c.class-class.ensures))
    c.has_computed.ensures c.is_out_of_order.ensures
    (c.is_late_init.ensures ∙ ap (λ o. passes o is_init && not (is_first_of_entry t.entry.0 c.args.at)) c.class-class.ensures)))
    c.tell.ensures
