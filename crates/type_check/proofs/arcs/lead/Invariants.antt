use Rattle.std.proofs.Common.{◌≡◌, ◌+◌, ◌≤◌, length}
use Rattle.type_check.specs.code.Arcs as spec
use Rattle.type_check.proofs.arcs.lead.Given as goal

abbrev pub invariant-loop-arcs : goal.invariant-loop-arcs
invariant-loop-arcs l = record { whole : l.count + spec.lead l.b l.arcs ≡ spec.lead l.b l.fn.arcs; fits : l.count + length l.arcs ≤ length l.fn.arcs }

abbrev pub decreases-loop-arcs : goal.decreases-loop-arcs
decreases-loop-arcs l = length l.arcs
