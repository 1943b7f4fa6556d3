use Rattle.std.proofs.Common.{◌≡◌, subst}
use Rattle.std.specs.Prelude.{IfOk}
use Rattle.fused_parts.specs.Ranks.{part_number}
use Rattle.fused_parts.proofs.Lasts.{along-last}
use Rattle.fused_parts.proofs.tails.last_jump.Goals as goal

pub returns : goal.returns
returns c =
    subst (λ j. IfOk c.jump_to.result (λ jump. jump ≡ j))
    (along-last (part_number c.args.layout.now) c.args.numbers.now.mine c.args.links.now c.len.result c.at.result.now c.len.ensures c.at.ensures)
    c.jump_to.ensures
