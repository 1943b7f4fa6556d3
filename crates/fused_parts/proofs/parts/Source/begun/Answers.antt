use Rattle.std.proofs.Common.{◌∙◌}
use Rattle.fused_parts.proofs.Giving.{begins-as}
use Rattle.fused_parts.proofs.parts.Source.begun.Goals as goal

pub returns : goal.returns
returns c =
    begins-as c.args.self.now.m.now c.args.next.now.node c.args.parts c.args.first c.as_slice.result.now c.new.result c.in_ok-numbers.numbers c.in_ok-numbers.params
    (c.as_slice.ensures ∙ c.in_ok-widths.ensures)
    c.in_ok-numbers.ensures.numbers c.in_ok-numbers.ensures.params c.new.ensures
