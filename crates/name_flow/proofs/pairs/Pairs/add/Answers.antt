use Rattle.std.proofs.Common.{sym}
use Rattle.name_flow.proofs.Spreading.{added}
use Rattle.name_flow.proofs.pairs.Pairs.add.Goals as goal

pub returns : goal.returns
returns c = added c.self.inside.items.keys c.args.self.now c.insert.new.self.keys c.args.pair (sym c.self.view_is) c.in_ok-insert.ensures.keys
