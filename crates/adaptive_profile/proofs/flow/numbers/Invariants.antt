use Rattle.std.proofs.Common.{◌≡◌, take}
use Rattle.adaptive_profile.specs.code.Graphs.{numbers}
use Rattle.adaptive_profile.proofs.flow.numbers.Given as goal

abbrev pub invariant-loop-i : goal.invariant-loop-i
invariant-loop-i l = l.numbers ≡ numbers (take l.i l.edges)
