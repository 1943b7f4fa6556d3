use Rattle.std.proofs.Common.{sym}
use Rattle.path_search.proofs.Numbered.{added}
use Rattle.path_search.proofs.table.Table.index_of.Goals as goal

pub returns-clause-grown : goal.returns-clause-grown
returns-clause-grown g c = added g.N.PartialEq.eq g.met.N.Eq.laws g.met.N.Exact.exact c.self.inside.nodes.keys c.args.self.now c.args.node c.insert_full.new.self.keys (sym c.self.view_is) c.in_ok-index.ensures.keys
