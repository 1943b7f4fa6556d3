use Rattle.std.proofs.Common.{ap, ◌∙◌, ◌++◌, ◌^◌}
use Rattle.ir_module.specs.declared.places.Spot.TheVariants as spot
use Rattle.ir_module.specs.Steps.{PhiAt}
use Rattle.profile_rules.specs.code.Listed.{findings_at}
use Rattle.profile_rules.specs.Findings.{broken_by_step}
use Rattle.findings.proofs.Parts.{step-more, rest-fits}
use Rattle.findings.proofs.pass.Pass.phis.Goals as goal

pub loop-phis-preserved : goal.loop-phis-preserved
loop-phis-preserved g c =
    let rules = g.P.Profile.rules c.args.self.now.profile.now in
    let f = c.args.self.now.function.now in
    let p = c.point.result in
    record {
      sum = step-more rules (λ x. PhiAt x) c.args.self.now.number.0 f c.args.block.0 c.loop-phis.index c.phi-item.result c.loop-phis.phis.now p c.loop-phis.found c.on_phi.new.found _ c.in-len1-up.len_at_least c.point.ensures
          (c.in_ok-on_phi.ensures ∙ ap (λ x. c.loop-phis.found ++ findings_at (spot.At p) (broken_by_step rules f p (PhiAt x))) c.phi-item.is) c.loop-phis.invariant.sum;
      fits = rest-fits rules (λ x. PhiAt x) c.loop-phis.index (2 ^ 64) c.loop-phis.phis.now c.in-len1-up.len_at_least c.loop-phis.invariant.fits;
    }
