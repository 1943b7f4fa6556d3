use Rattle.std.proofs.Common.{◌≡◌, length}
use Rattle.static_steps.specs.Edges.{phis_bring}
use Rattle.step_parts.specs.code.Scenes.{at}
use Rattle.control_steps.proofs.edges.phis_bring.Given as goal

abbrev pub invariant-loop-rest : goal.invariant-loop-rest
invariant-loop-rest l = phis_bring l.phis l.from (at l.s).w.top.names (at l.s).w.top.names ≡ phis_bring l.rest l.from (at l.s).w.top.names l.new

abbrev pub decreases-loop-rest : goal.decreases-loop-rest
decreases-loop-rest l = length l.rest
