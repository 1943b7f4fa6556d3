use Rattle.std.proofs.Common.{◌≡◌, length}
use Rattle.ir_printer.specs.Groups.{groups_from, groups_of}
use Rattle.ir_printer.proofs.groups.Groups.of.Given as goal

-- what is found and what is to come are the whole
abbrev pub invariant-loop-functions : goal.invariant-loop-functions
invariant-loop-functions l = groups_from l.groups l.functions ≡ groups_of l.m

abbrev pub decreases-loop-functions : goal.decreases-loop-functions
decreases-loop-functions l = length l.functions
