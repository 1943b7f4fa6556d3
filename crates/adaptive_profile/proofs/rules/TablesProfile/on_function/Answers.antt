use Rattle.std.proofs.Common.{ap, ◌∙◌, ◌&&◌, ◌==◌, ◌++◌, not}
use Rattle.std.proofs.lemmas.Result.{on_ok_weaker}
use Rattle.ir_module.specs.declared.places.Spot.TheVariants as spot
use Rattle.profile_rules.specs.code.Listed.{findings_at}
use Rattle.adaptive_profile.specs.code.Ready.{cyclic}
use Rattle.adaptive_profile.proofs.Verdicts.{function}
use Rattle.adaptive_profile.proofs.rules.TablesProfile.on_function.Goals as goal

pub returns : goal.returns
returns c =
    let t = c.args.self.now in
    let g = c.args.number.0 in
    let functions = t.capabilities.functions in
    on_ok_weaker c.tell.result
    (λ e. e ∙ ap (λ rs. c.args.found.now ++ findings_at (spot.Func c.args.number) rs)
    (function (cyclic t) t.returning.now t.callees.tree.now t.entry.0 g c.args.f.now functions
    c.of_entry-other_profile.result c.of_entry-no_schema.result c.of_entry-no_number.result c.unless-other_body.result c.requires.ready.on.functions
    (c.of_entry-other_profile.ensures ∙ ap (λ b. (g == t.entry.0) && b) c.names_other_profile.ensures)
    (c.of_entry-no_schema.ensures ∙ ap (λ b. (g == t.entry.0) && b) c.lacks_labeling_schema.ensures)
    (c.of_entry-no_number.ensures ∙ ap (λ b. (g == t.entry.0) && b) c.lacks_required_number.ensures)
    (c.unless-other_body.ensures ∙ ap (λ b. b && not functions) c.is_other_body.ensures)))
    c.tell.ensures
