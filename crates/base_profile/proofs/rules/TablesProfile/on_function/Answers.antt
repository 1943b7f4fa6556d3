use Rattle.std.proofs.Common.{ap, ◌∙◌, ◌&&◌, ◌==◌, ◌++◌}
use Rattle.std.proofs.lemmas.Result.{on_ok_weaker}
use Rattle.ir_module.specs.declared.places.Spot.TheVariants as spot
use Rattle.profile_rules.specs.code.Listed.{findings_at}
use Rattle.base_profile.proofs.Verdicts.{function}
use Rattle.base_profile.proofs.rules.TablesProfile.on_function.Goals as goal

pub returns : goal.returns
returns c =
    let t = c.args.self.now in
    let g = c.args.number.0 in
    on_ok_weaker c.tell.result
    (λ e. e ∙ ap (λ rs. c.args.found.now ++ findings_at (spot.Func c.args.number) rs)
    (function t.form t.callees.tree.now t.entry.0 t.function.now g c.args.f.now
    c.of_entry-other_profile.result c.of_entry-no_schema.result c.of_entry-no_number.result c.is_other_body.result c.is_other_shape.result c.returns_no_code.result c.is_strict_unmarked.result
    (c.of_entry-other_profile.ensures ∙ ap (λ b. (g == t.entry.0) && b) c.names_other_profile.ensures)
    (c.of_entry-no_schema.ensures ∙ ap (λ b. (g == t.entry.0) && b) c.lacks_labeling_schema.ensures)
    (c.of_entry-no_number.ensures ∙ ap (λ b. (g == t.entry.0) && b) c.lacks_required_number.ensures)
    c.is_other_body.ensures c.is_other_shape.ensures c.returns_no_code.ensures c.is_strict_unmarked.ensures))
    c.tell.ensures
