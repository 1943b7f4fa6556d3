use Rattle.generated_summary.proofs.Played.{played}
use Rattle.generated_summary.proofs.run.play.Goals as goal

pub returns : goal.returns
returns c = played c.new-bits.result c.run_on.new.backend c.new-bits.ensures c.args.m.now c.args.steps c.in_ok-ended.ended c.in_ok-ended.ensures.ran
