use Rattle.std.proofs.Common.{ap, ◌∙◌, ◌&&◌, ◌||◌, ◌++◌, not}
use Rattle.std.specs.List.{list_any}
use Rattle.std.proofs.lemmas.Result.{on_ok_weaker}
use Rattle.ir_values.specs.declared.ty.Ty.{Ty}
use Rattle.ir_module.specs.declared.places.Spot.TheVariants as spot
use Rattle.ir_module.specs.declared.tree.Operand.{Operand}
use Rattle.findings.specs.code.Shown.{shown}
use Rattle.profile_rules.specs.Adaptive as spec
use Rattle.profile_rules.specs.Calls.{called_class, calls_body, has_count, is_init, is_int_record, passes}
use Rattle.profile_rules.specs.code.Listed.{findings_at}
use Rattle.profile_rules.specs.Shared.{is_first_of_entry}
use Rattle.adaptive_profile.specs.code.Ready.{cyclic}
use Rattle.adaptive_profile.proofs.Verdicts.{call}
use Rattle.adaptive_profile.proofs.tables.Tables.on_call.Goals as goal

pub returns : goal.returns
returns c =
    let t = c.args.self.now in
    let m = t.callees.tree.now in
    let f = c.args.f.now in
    let p = c.args.at in
    let args = c.args.call.args.now in
    let integers = t.capabilities.integers in
    on_ok_weaker c.tell.result
    (λ e. e ∙ ap (λ rs. c.args.found.now ++ findings_at (spot.At p) rs)
    (call (cyclic t) t.returning.now m t.entry.0 f p c.args.inst.now (shown c.args.call) integers
    c.is_known-known.result c.unless.result c.has_bad_handle.result c.has_bad_label.result c.is_late_init.result c.leads_back.result
    c.requires.call c.requires.ready.on.integers
    (c.is_known-known.ensures ∙ ap (λ o. calls_body m (shown c.args.call) || passes o spec.is_adaptive_class) c.class-class.ensures)
    (c.unless.ensures ∙ ap (λ b. b && not integers) (c.is_int_record.ensures ∙ ap (λ o. passes o is_int_record) c.class-class.ensures))
    (c.has_bad_handle.ensures ∙ ap (λ b. list_any (λ (a : Ty × Operand). spec.is_function_type a.0 || (spec.is_handle a.0 && not (spec.is_fixed b f a.1))) args) c.is_entry-entry.ensures)
    (c.has_bad_label.ensures
    ∙ ap (λ o. list_any (λ (a : Ty × Operand). spec.is_label_or_double a.0 && not (spec.is_fixed c.is_entry-entry.result f a.1)) args || (passes o has_count && list_any (λ (a : Ty × Operand). not (spec.is_fixed c.is_entry-entry.result f a.1)) (spec.first_of args))) c.class-class.ensures
    ∙ ap (λ b. list_any (λ (a : Ty × Operand). spec.is_label_or_double a.0 && not (spec.is_fixed b f a.1)) args || (passes (called_class m c.args.call.callee) has_count && list_any (λ (a : Ty × Operand). not (spec.is_fixed b f a.1)) (spec.first_of args))) c.is_entry-entry.ensures)
    (c.is_late_init.ensures ∙ ap (λ o. passes o is_init && not (is_first_of_entry t.entry.0 p)) c.class-class.ensures)
    c.leads_back.ensures))
    c.tell.ensures
