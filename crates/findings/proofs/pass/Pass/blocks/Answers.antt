use Rattle.findings.proofs.Parts.{block-more}
use Rattle.findings.proofs.pass.Pass.blocks.Goals as goal

pub loop-number-preserved : goal.loop-number-preserved
loop-number-preserved g c = block-more (g.P.Profile.rules c.args.self.now.profile.now) c.args.self.now.number.0 c.args.self.now.function.now c.loop-number.number c.args.blocks.now c.at.result.now c.loop-number.found c.block.new.found _ c.at.ensures c.in_ok-block.ensures c.loop-number.invariant
