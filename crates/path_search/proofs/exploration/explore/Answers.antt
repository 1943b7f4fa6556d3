use Rattle.std.proofs.Common.{◌≡◌, subst}
use Rattle.std.specs.Prelude.{IfNone}
use Rattle.path_search.specs.Paths.{Search}
use Rattle.path_search.specs.code.Steps.{search}
use Rattle.path_search.specs.code.Visit.{IsDone, Keeps}
use Rattle.path_search.proofs.Made.{whole, explored}
use Rattle.path_search.proofs.exploration.explore.Goals as goal

pub assembled-requires : goal.assembled-requires
assembled-requires g c =
    let s : Search g.row.G-Node.Denot g.row.G-Kind.Denot = search (g.G.Graph.start c.args.graph.now) (g.G.Graph.turn c.args.graph.now) c.args.limits in
    whole s (g.G.Graph.IsValid c.args.graph.now) (g.G.Graph.Carries c.args.graph.now) c.walk.new.visit.table c.walk.new.visit.marks c.walk.new.visit.found
    (subst (λ r. IfNone r (IsDone s c.walk.new.visit.table c.walk.new.visit.marks c.walk.new.visit.found)) c.in-Ok-None.field-0-is c.in-Ok-None.ensures.done)

pub returns-in-Ok-assembled-clause-accepted : goal.returns-in-Ok-assembled-clause-accepted
returns-in-Ok-assembled-clause-accepted g c =
    let s : Search g.row.G-Node.Denot g.row.G-Kind.Denot = search (g.G.Graph.start c.args.graph.now) (g.G.Graph.turn c.args.graph.now) c.args.limits in
    let Valid = g.G.Graph.IsValid c.args.graph.now in let Carries = g.G.Graph.Carries c.args.graph.now in
    let done : IsDone s c.walk.new.visit.table c.walk.new.visit.marks c.walk.new.visit.found =
    subst (λ r. IfNone r (IsDone s c.walk.new.visit.table c.walk.new.visit.marks c.walk.new.visit.found)) c.in-Ok-None.field-0-is c.in-Ok-None.ensures.done in
    let kept : Keeps Valid Carries c.walk.new.visit.table c.walk.new.visit.found =
    subst (λ r. IfNone r (Keeps Valid Carries c.walk.new.visit.table c.walk.new.visit.found)) c.in-Ok-None.field-0-is c.in-Ok-None.ensures.keeps in
    explored s Valid Carries c.walk.new.visit.table c.walk.new.visit.marks c.walk.new.visit.found done c.in-Ok-assembled.nodes kept c.in-Ok-assembled.ensures
