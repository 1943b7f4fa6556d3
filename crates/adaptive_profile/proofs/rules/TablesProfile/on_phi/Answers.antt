use Rattle.std.proofs.Common.{ap, ◌∙◌, ◌&&◌, ◌++◌, not}
use Rattle.std.proofs.lemmas.Result.{on_ok_weaker}
use Rattle.ir_module.specs.declared.places.Spot.TheVariants as spot
use Rattle.profile_rules.specs.code.Listed.{findings_at}
use Rattle.adaptive_profile.specs.code.Ready.{cyclic}
use Rattle.adaptive_profile.proofs.Verdicts.{phi}
use Rattle.adaptive_profile.proofs.rules.TablesProfile.on_phi.Goals as goal

pub returns : goal.returns
returns c =
    let t = c.args.self.now in
    let integers = t.capabilities.integers in
    on_ok_weaker c.tell.result
    (λ e. e ∙ ap (λ rs. c.args.found.now ++ findings_at (spot.At c.args.at) rs)
    (phi (cyclic t) t.returning.now t.callees.tree.now t.entry.0 c.args.f.now c.args.at c.args.phi.now integers c.unless-wide.result c.is_other_local.result c.requires.ready.on.integers
    (c.unless-wide.ensures ∙ ap (λ b. b && not integers) c.is_wide_local.ensures) c.is_other_local.ensures))
    c.tell.ensures
