use Rattle.std.proofs.Common.{◌≡◌, ◌++◌, length}
use Rattle.fused_parts.specs.Parts.{case_jumps}
use Rattle.fused_parts.specs.Ranks.{part_number}
use Rattle.fused_parts.proofs.tails.case_jumps.Given as goal

abbrev pub invariant-loop-cases : goal.invariant-loop-cases
invariant-loop-cases l =
    case_jumps (part_number l.layout) l.numbers.mine l.fn.cases l.fn.links ≡ l.jumps ++ case_jumps (part_number l.layout) l.numbers.mine l.cases l.links

abbrev pub decreases-loop-cases : goal.decreases-loop-cases
decreases-loop-cases l = length l.cases
