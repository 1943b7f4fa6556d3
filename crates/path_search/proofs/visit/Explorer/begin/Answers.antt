use Rattle.std.proofs.Common.{◌≡◌, [], ◌∷◌, ◌++◌, List, refl, sym, ap, ◌∙◌, subst}
use Rattle.path_search.specs.Paths.{Search}
use Rattle.path_search.specs.code.Steps.{search}
use Rattle.path_search.specs.code.Visit.{IsVisit, Reaches, Keeps}
use Rattle.path_search.specs.declared.visit.Mark.TheVariants.{Seen}
use Rattle.path_search.proofs.Visits.{starts, reaches_start, first_node, keeps_start}
use Rattle.path_search.proofs.visit.Explorer.begin.Goals as goal

pub returns-clause-begun : goal.returns-clause-begun
returns-clause-begun g c =
    let s : Search g.row.G-Node.Denot g.row.G-Kind.Denot = search (g.G.Graph.start c.args.self.now.graph.now) (g.G.Graph.turn c.args.self.now.graph.now) c.args.self.now.limits in
    let table : c.index_of.new.self ≡ s.start ∷ [] = first_node c.new-table.result c.index_of.new.self c.in_ok-start.start c.new-table.ensures c.in_ok-index_of.ensures.grown ∙ ap (λ x. x ∷ []) c.in_ok-start.ensures.is in
    let marks : c.push.new.self ≡ Seen ∷ [] = c.in_ok-push.ensures.ok ∙ ap (λ x. x ++ Seen ∷ []) c.new-marks.ensures in
    subst (λ x. IsVisit s x c.push.new.self c.new.result c.new-2.result) (sym table) (subst (λ x. IsVisit s (s.start ∷ []) x c.new.result c.new-2.result) (sym marks)
    (subst (λ x. IsVisit s (s.start ∷ []) (Seen ∷ []) x c.new-2.result) (sym c.new.ensures) (subst (λ x. IsVisit s (s.start ∷ []) (Seen ∷ []) [] x) (sym c.new-2.ensures) (starts s))))

pub returns-clause-reaches : goal.returns-clause-reaches
returns-clause-reaches g c =
    let s : Search g.row.G-Node.Denot g.row.G-Kind.Denot = search (g.G.Graph.start c.args.self.now.graph.now) (g.G.Graph.turn c.args.self.now.graph.now) c.args.self.now.limits in
    let table : c.index_of.new.self ≡ s.start ∷ [] = first_node c.new-table.result c.index_of.new.self c.in_ok-start.start c.new-table.ensures c.in_ok-index_of.ensures.grown ∙ ap (λ x. x ∷ []) c.in_ok-start.ensures.is in
    let marks : c.push.new.self ≡ Seen ∷ [] = c.in_ok-push.ensures.ok ∙ ap (λ x. x ++ Seen ∷ []) c.new-marks.ensures in
    subst (λ x. Reaches s x c.push.new.self c.new-2.result 0) (sym table) (subst (λ x. Reaches s (s.start ∷ []) x c.new-2.result 0) (sym marks)
    (subst (λ x. Reaches s (s.start ∷ []) (Seen ∷ []) x 0) (sym c.new-2.ensures) (reaches_start s)))

pub returns-clause-keeps : goal.returns-clause-keeps
returns-clause-keeps g c =
    let s : Search g.row.G-Node.Denot g.row.G-Kind.Denot = search (g.G.Graph.start c.args.self.now.graph.now) (g.G.Graph.turn c.args.self.now.graph.now) c.args.self.now.limits in
    let table : c.index_of.new.self ≡ s.start ∷ [] = first_node c.new-table.result c.index_of.new.self c.in_ok-start.start c.new-table.ensures c.in_ok-index_of.ensures.grown ∙ ap (λ x. x ∷ []) c.in_ok-start.ensures.is in
    let marks : c.push.new.self ≡ Seen ∷ [] = c.in_ok-push.ensures.ok ∙ ap (λ x. x ++ Seen ∷ []) c.new-marks.ensures in
    let Valid = g.G.Graph.IsValid c.args.self.now.graph.now in let Carries = g.G.Graph.Carries c.args.self.now.graph.now in
    subst (λ x. Keeps Valid Carries x c.new.result) (sym table) (subst (Keeps Valid Carries (s.start ∷ [])) (sym c.new.ensures)
    (keeps_start Valid Carries s.start (subst (Valid 0) c.in_ok-start.ensures.is c.in_ok-start.ensures.valid)))
