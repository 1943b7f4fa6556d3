use Rattle.std.proofs.Common.{ap, ◌∙◌, ◌&&◌}
use Rattle.profile_rules.specs.Walk.{is_return}
use Rattle.adaptive_profile.proofs.Returns.{later}
use Rattle.adaptive_profile.proofs.tables.Tables.is_later_return.Goals as goal

pub returns : goal.returns
returns c =
    let t = c.args.self.now in
    c.is_return_behind.ensures
    ∙ ap (λ b. is_return c.args.term.now && b) (later t.callees.tree.now.funcs t.first_returns.now c.args.at.func.0 c.args.at.block.0 c.args.f.now c.requires.ready.first_returns c.requires.within.function c.requires.within.block)
