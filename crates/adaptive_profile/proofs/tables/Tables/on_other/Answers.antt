use Rattle.std.proofs.Common.{ap, ◌∙◌, ◌&&◌, ◌++◌, not}
use Rattle.std.proofs.lemmas.Result.{on_ok_weaker}
use Rattle.ir_module.specs.declared.places.Spot.TheVariants as spot
use Rattle.profile_rules.specs.code.Listed.{findings_at}
use Rattle.adaptive_profile.specs.code.Ready.{cyclic}
use Rattle.adaptive_profile.proofs.Verdicts.{other}
use Rattle.adaptive_profile.proofs.tables.Tables.on_other.Goals as goal

pub returns : goal.returns
returns c =
    let t = c.args.self.now in
    let integers = t.capabilities.integers in
    on_ok_weaker c.tell.result
    (λ e. e ∙ ap (λ rs. c.args.found.now ++ findings_at (spot.At c.args.at) rs)
    (other (cyclic t) t.returning.now t.callees.tree.now t.entry.0 c.args.f.now c.args.at c.args.inst.now integers c.unless.result c.selects_other.result c.requires.call c.requires.ready.on.integers
    (c.unless.ensures ∙ ap (λ b. b && not integers) c.computes.ensures) c.selects_other.ensures))
    c.tell.ensures
