use Rattle.std.proofs.Common.{◌≡◌, ◌<◌, ◌≤◌, ◌++◌, ◌∷◌, [], Some, List, length, set, refl, sym, ap, ◌∙◌, arith, subst}
use Rattle.std.specs.Prelude.{slice_get}
use Rattle.path_search.specs.Paths.{Search}
use Rattle.path_search.specs.code.Steps.{search}
use Rattle.path_search.specs.code.Visit.{IsVisit, IsDone, next_frame, work}
use Rattle.path_search.specs.declared.visit.Frame.{Frame}
use Rattle.path_search.specs.declared.visit.Mark.{Mark}
use Rattle.path_search.specs.declared.visit.Mark.TheVariants.{Left}
use Rattle.path_search.proofs.Decide.{decided_by}
use Rattle.path_search.proofs.Frontier.{get_within}
use Rattle.path_search.proofs.Lists.{length_push}
use Rattle.path_search.proofs.Visits.{here, goes_back, finishes, taken, last_frame, less_back}
use Rattle.path_search.proofs.visit.Explorer.leave.Goals as goal

filled : {A : Type 0} (xs : List A) → (xs ≡ [] → ⊥) → 0 < length xs
filled [] n = absurd (n refl)
filled (x ∷ xs) n = omega arith

differ : (b : _) → b ≡ Rattle.std.specs.Prelude.false → b ≡ Rattle.std.specs.Prelude.true → ⊥
differ b e f = cc

pub set-requires : goal.set-requires
set-requires g c =
    let s : Search g.row.G-Node.Denot g.row.G-Kind.Denot = search (g.G.Graph.start c.args.self.now.graph.now) (g.G.Graph.turn c.args.self.now.graph.now) c.args.self.now.limits in
    let v : IsVisit s c.args.visit.now.table c.args.visit.now.marks c.args.visit.now.found (c.pop.new.self ++ c.in-Some.top ∷ []) = subst (IsVisit s c.args.visit.now.table c.args.visit.now.marks c.args.visit.now.found) c.in-Some.ensures c.requires.visit in
    let t = here s (decided_by g.G.Node.PartialEq.eq g.met.G.Node.Eq.laws g.met.G.Node.Exact.exact) c.args.visit.now.table c.args.visit.now.marks c.args.visit.now.found c.pop.new.self c.in-Some.top v c.at.result.now c.at.ensures in
    omega (arith, get_within c.args.visit.now.table c.at.result.now.index t.at t.here, c.requires.visit.size)

pub returns-then-is_empty-clause-done : goal.returns-then-is_empty-clause-done
returns-then-is_empty-clause-done g c =
    let s : Search g.row.G-Node.Denot g.row.G-Kind.Denot = search (g.G.Graph.start c.args.self.now.graph.now) (g.G.Graph.turn c.args.self.now.graph.now) c.args.self.now.limits in
    let v : IsVisit s c.args.visit.now.table c.args.visit.now.marks c.args.visit.now.found (c.pop.new.self ++ c.in-Some.top ∷ []) = subst (IsVisit s c.args.visit.now.table c.args.visit.now.marks c.args.visit.now.found) c.in-Some.ensures c.requires.visit in
    subst (λ m. IsDone s c.args.visit.now.table m c.args.visit.now.found) (sym c.set.ensures)
    (finishes s (decided_by g.G.Node.PartialEq.eq g.met.G.Node.Eq.laws g.met.G.Node.Exact.exact) c.args.visit.now.table c.args.visit.now.marks c.args.visit.now.found c.pop.new.self c.in-Some.top v c.at.result.now c.at.ensures
    (c.is_empty.ensures.0 c.if-is_empty.true) (c.requires.all c.pop.new.self c.in-Some.top c.at.result.now c.in-Some.ensures c.at.ensures))

pub next_choice-requires-clause-room : goal.next_choice-requires-clause-room
next_choice-requires-clause-room g c lower top w =
    let s : Search g.row.G-Node.Denot g.row.G-Kind.Denot = search (g.G.Graph.start c.args.self.now.graph.now) (g.G.Graph.turn c.args.self.now.graph.now) c.args.self.now.limits in
    let v : IsVisit s c.args.visit.now.table c.args.visit.now.marks c.args.visit.now.found (c.pop.new.self ++ c.in-Some.top ∷ []) = subst (IsVisit s c.args.visit.now.table c.args.visit.now.marks c.args.visit.now.found) c.in-Some.ensures c.requires.visit in
    taken s (decided_by g.G.Node.PartialEq.eq g.met.G.Node.Eq.laws g.met.G.Node.Exact.exact) c.args.visit.now.table c.args.visit.now.marks c.args.visit.now.found c.pop.new.self c.in-Some.top v c.at.result.now c.at.ensures lower top w

pub returns-clause-on : goal.returns-clause-on
returns-clause-on g c =
    let s : Search g.row.G-Node.Denot g.row.G-Kind.Denot = search (g.G.Graph.start c.args.self.now.graph.now) (g.G.Graph.turn c.args.self.now.graph.now) c.args.self.now.limits in
    let table = c.args.visit.now.table in let found = c.args.visit.now.found in
    let b = last_frame c.pop.new.self (filled c.pop.new.self (λ e. differ c.is_empty.result c.if-is_empty.false (c.is_empty.ensures.1 e))) in
    let e : c.args.visit.now.stack ≡ (b.0 ++ b.1 ∷ []) ++ c.in-Some.top ∷ [] = c.in-Some.ensures ∙ ap (λ x. x ++ c.in-Some.top ∷ []) b.2 in
    let marks : List Mark = set c.args.visit.now.marks c.at.result.now.index (Left c.in-Some.top.number) in
    subst (IsVisit s table c.set.new.self found) (sym (c.next_choice.ensures.next b.0 b.1 b.2))
    (subst (λ m. IsVisit s table m found (b.0 ++ next_frame b.1 ∷ [])) (sym c.set.ensures)
    (goes_back s (decided_by g.G.Node.PartialEq.eq g.met.G.Node.Eq.laws g.met.G.Node.Exact.exact) table c.args.visit.now.marks found b.0 b.1 c.in-Some.top (next_frame b.1) c.at.result.now (subst (IsVisit s table c.args.visit.now.marks found) e c.requires.visit)
    c.at.ensures (c.requires.all c.pop.new.self c.in-Some.top c.at.result.now c.in-Some.ensures c.at.ensures) refl (omega arith)))

pub returns-clause-inside : goal.returns-clause-inside
returns-clause-inside g c =
    let b = last_frame c.pop.new.self (filled c.pop.new.self (λ e. differ c.is_empty.result c.if-is_empty.false (c.is_empty.ensures.1 e))) in
    omega (arith, ap length (c.next_choice.ensures.next b.0 b.1 b.2), length_push b.0 (next_frame b.1))

pub returns-clause-less : goal.returns-clause-less
returns-clause-less g c =
    let b = last_frame c.pop.new.self (filled c.pop.new.self (λ e. differ c.is_empty.result c.if-is_empty.false (c.is_empty.ensures.1 e))) in
    let e : c.args.visit.now.stack ≡ (b.0 ++ b.1 ∷ []) ++ c.in-Some.top ∷ [] = c.in-Some.ensures ∙ ap (λ x. x ++ c.in-Some.top ∷ []) b.2 in
    omega (arith, ap (work c.args.visit.now.found) (c.next_choice.ensures.next b.0 b.1 b.2), ap (work c.args.visit.now.found) e, less_back c.args.visit.now.found b.0 b.1 c.in-Some.top)
