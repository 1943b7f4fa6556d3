use Rattle.std.proofs.Common.{◌∙◌, sym, ap, refl, Some}
use Rattle.graph_cycles.specs.code.Search.{is_done}
use Rattle.graph_cycles.proofs.Followed.{ok-begun, within-open, Follows-merged, Follows-done}
use Rattle.graph_cycles.proofs.search.Search.follow.Goals as goal

pub merge-requires-clause-within : goal.merge-requires-clause-within
merge-requires-clause-within c = within-open c.args.graph.now c.args.t c.args.self.now c.args.self.now c.requires c.in-Some-Open.p (sym c.mark.ensures ∙ (c.in-Some-Open.is ∙ ap Some c.in-Some-Open.field-0-is))

pub returns-in-Some-Unseen : goal.returns-in-Some-Unseen
returns-in-Some-Unseen c = ok-begun c.args.graph.now c.args.t c.args.self.now c.begin.new.self c.requires (sym c.mark.ensures ∙ (c.in-Some-Unseen.is ∙ ap Some c.in-Some-Unseen.field-0-is)) c.begin.result c.begin.ensures

pub returns-in-Some-Open : goal.returns-in-Some-Open
returns-in-Some-Open c = Follows-merged c.args.graph.now c.args.t c.args.self.now c.merge.new.self c.requires c.in-Some-Open.p (sym c.mark.ensures ∙ (c.in-Some-Open.is ∙ ap Some c.in-Some-Open.field-0-is)) c.merge.ensures

pub returns-in-Some-Closed : goal.returns-in-Some-Closed
returns-in-Some-Closed c = Follows-done c.args.graph.now c.args.t c.args.self.now c.args.self.now c.requires (ap is_done (sym c.mark.ensures ∙ (c.in-Some-Closed.is ∙ ap Some c.in-Some-Closed.field-0-is))) refl

pub returns-in-None : goal.returns-in-None
returns-in-None c = Follows-done c.args.graph.now c.args.t c.args.self.now c.args.self.now c.requires (ap is_done (sym c.mark.ensures ∙ c.in-None.is)) refl
