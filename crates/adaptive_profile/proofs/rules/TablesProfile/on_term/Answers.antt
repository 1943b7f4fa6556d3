use Rattle.std.proofs.Common.{ap, ◌∙◌, ◌&&◌, ◌++◌, not}
use Rattle.std.proofs.lemmas.Result.{on_ok_weaker}
use Rattle.ir_module.specs.declared.places.Spot.TheVariants as spot
use Rattle.profile_rules.specs.code.Listed.{findings_at}
use Rattle.adaptive_profile.specs.code.Ready.{cyclic}
use Rattle.adaptive_profile.proofs.Verdicts.{term}
use Rattle.adaptive_profile.proofs.rules.TablesProfile.on_term.Goals as goal

pub returns : goal.returns
returns c =
    let t = c.args.self.now in
    let on = t.capabilities in
    on_ok_weaker c.tell.result
    (λ e. e ∙ ap (λ rs. c.args.found.now ++ findings_at (spot.At c.args.at) rs)
    (term (cyclic t) t.returning.now t.callees.tree.now t.entry.0 c.args.f.now c.args.at c.args.term.now on.backwards on.switches on.returns c.unless-cyclic.result c.unless-switch.result c.unless-unlifted.result
    c.requires.ready.on.backwards c.requires.ready.on.switches c.requires.ready.on.returns
    (c.unless-cyclic.ensures ∙ ap (λ b. b && not on.backwards) c.is_cyclic.ensures)
    (c.unless-switch.ensures ∙ ap (λ b. b && not on.switches) c.is_switch.ensures)
    (c.unless-unlifted.ensures ∙ ap (λ b. b && not on.returns) c.is_later_return-later.ensures)))
    c.tell.ensures
