use Rattle.std.proofs.Common.{sym, ap, ◌∙◌, ◌&&◌}
use Rattle.base_profile.proofs.Chains.{chain}
use Rattle.base_profile.proofs.walk.is_chain.Goals as goal

pub returns-then-met : goal.returns-then-met
returns-then-met c =
    let met = c.are_met-met.result in
    let ends = c.ends_in_return-ends.result in
    chain c.args.blocks.now c.args.positions.now met ends ends c.requires.positions c.are_met-met.ensures c.ends_in_return-ends.ensures (sym (ap (λ b. b && ends) c.if-met.true))

pub returns-else-met : goal.returns-else-met
returns-else-met c =
    let met = c.are_met-met.result in
    let ends = c.ends_in_return-ends.result in
    chain c.args.blocks.now c.args.positions.now met ends met c.requires.positions c.are_met-met.ensures c.ends_in_return-ends.ensures (c.if-met.false ∙ sym (ap (λ b. b && ends) c.if-met.false))
