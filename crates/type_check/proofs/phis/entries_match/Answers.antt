use Rattle.std.proofs.Common.{ap, ◌∙◌}
use Rattle.type_check.specs.code.Arcs.{come_from}
use Rattle.type_check.proofs.Matches.{matches}
use Rattle.type_check.proofs.phis.entries_match.Goals as goal

pub returns : goal.returns
returns c = λ blocks b into.
    c.come_from.ensures ∙ ap (λ bs. come_from bs c.args.into.now) c.as_slice.ensures ∙ matches blocks b c.args.into.now c.args.entries.now c.in_ok-blocks.blocks c.in_ok-blocks.ensures into
