use Rattle.std.proofs.Common.{◌≡◌, map, take}
use Rattle.fused_parts.specs.Parts.{number_at}
use Rattle.fused_parts.proofs.numbers.Numbers.taken.Given as goal

abbrev pub invariant-loop-d : goal.invariant-loop-d
invariant-loop-d l = l.out ≡ map (number_at l.self.mine) (take l.d-index l.label)
