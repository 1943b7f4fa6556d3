use Rattle.std.proofs.Common.{◌≡◌, ◌∷◌, length}
use Rattle.fused_parts.specs.Parts.{no_numbers, rest_from, whole}
use Rattle.fused_parts.specs.Ranks.{part_number}
use Rattle.fused_parts.specs.code.Making.{with_rest}
use Rattle.fused_parts.proofs.parts.Source.walk.Given as goal

abbrev pub invariant-loop-rest : goal.invariant-loop-rest
invariant-loop-rest l =
    let n = part_number l.self.layout.now in
    whole (rest_from l.self.m.now l.self.nodes.now n l.self.shared (l.first ∷ l.fn.rest) l.self.layout.now no_numbers)
    ≡ with_rest l.making (rest_from l.self.m.now l.self.nodes.now n l.self.shared (l.node ∷ l.rest) l.flags l.making.numbers)

abbrev pub decreases-loop-rest : goal.decreases-loop-rest
decreases-loop-rest l = length l.rest
