use Rattle.std.proofs.Common.{arith, sym, ◌∙◌}
use Rattle.std.proofs.lemmas.Grind.{common_steps}
use Rattle.step_parts.specs.code.Scenes.{at}
use Rattle.control_steps.proofs.Along.{along-more}
use Rattle.control_steps.proofs.edges.all_along.Goals as goal

pub loop-rest-preserved : goal.loop-rest-preserved
loop-rest-preserved c =
    along-more (at c.args.s.now) _ c.loop-rest.rest.now _ _ _ _ _ (grind (arith, common_steps)) (sym c.in_ok-mv.ensures ∙ c.in-Some.is) c.in_ok-push-in-Some.ensures.ok c.loop-rest.invariant
