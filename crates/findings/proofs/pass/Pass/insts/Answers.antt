use Rattle.std.proofs.Common.{ap, ◌∙◌, ◌++◌, ◌^◌}
use Rattle.ir_module.specs.declared.places.Spot.TheVariants as spot
use Rattle.ir_module.specs.Steps.{InstAt}
use Rattle.profile_rules.specs.code.Listed.{findings_at}
use Rattle.profile_rules.specs.Findings.{broken_by_step}
use Rattle.findings.proofs.Parts.{step-more, rest-fits}
use Rattle.findings.proofs.pass.Pass.insts.Goals as goal

pub loop-insts-preserved : goal.loop-insts-preserved
loop-insts-preserved g c =
    let rules = g.P.Profile.rules c.args.self.now.profile.now in
    let f = c.args.self.now.function.now in
    let p = c.point.result in
    record {
      sum = step-more rules (λ x. InstAt x) c.args.self.now.number.0 f c.args.block.0 c.loop-insts.index c.inst-item.result c.loop-insts.insts.now p c.loop-insts.found c.on_inst.new.found _ c.in-len1-up.len_at_least c.point.ensures
          (c.in_ok-on_inst.ensures ∙ ap (λ x. c.loop-insts.found ++ findings_at (spot.At p) (broken_by_step rules f p (InstAt x))) c.inst-item.is) c.loop-insts.invariant.sum;
      fits = rest-fits rules (λ x. InstAt x) c.loop-insts.index (2 ^ 64) c.loop-insts.insts.now c.in-len1-up.len_at_least c.loop-insts.invariant.fits;
    }
