use Rattle.std.proofs.Common.{◌≡◌, ◌+◌, ◌≤◌, length}
use Rattle.name_flow.specs.code.Runs as spec
use Rattle.name_flow.proofs.runs.lead.Given as goal

abbrev pub invariant-loop-uses : goal.invariant-loop-uses
invariant-loop-uses l = record { whole : l.count + spec.lead l.x l.uses ≡ spec.lead l.x l.fn.uses; fits : l.count + length l.uses ≤ length l.fn.uses }

abbrev pub decreases-loop-uses : goal.decreases-loop-uses
decreases-loop-uses l = length l.uses
