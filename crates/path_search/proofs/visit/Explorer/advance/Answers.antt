use Rattle.std.proofs.Common.{◌≡◌, ◌<◌, ◌-◌, ◌++◌, ◌∷◌, [], Some, List, length, refl, sym, ap, ◌∙◌, arith, subst}
use Rattle.std.specs.Prelude.{slice_get}
use Rattle.std.proofs.lemmas.Option.{slice_get_read, same_Some}
use Rattle.path_search.specs.Paths.{Search}
use Rattle.path_search.specs.code.Steps.{search}
use Rattle.path_search.specs.code.Visit.{IsVisit, Reaches, next_frame, work}
use Rattle.path_search.specs.declared.visit.Frame.{Frame}
use Rattle.path_search.specs.declared.visit.Link.{Link}
use Rattle.path_search.proofs.Decide.{decided_by}
use Rattle.path_search.proofs.Frontier.{get_within}
use Rattle.path_search.proofs.Lists.{length_push}
use Rattle.path_search.proofs.Visits.{here, goes_over, comes_to, at_last, one_last, less_over}
use Rattle.path_search.proofs.visit.Explorer.advance.Goals as goal

pub at-requires : goal.at-requires
at-requires g c =
    let s : Search g.row.G-Node.Denot g.row.G-Kind.Denot = search (g.G.Graph.start c.args.self.now.graph.now) (g.G.Graph.turn c.args.self.now.graph.now) c.args.self.now.limits in
    let table = c.args.visit.now.table in let marks = c.args.visit.now.marks in let found = c.args.visit.now.found in
    let top = c.at-top.result.now in
    let w = at_last c.args.visit.now.stack c.at-top.result.now (c.len.result - 1) c.requires.inside (ap (λ n. n - 1) c.len.ensures) c.at-top.ensures in
    let v : IsVisit s table marks found (w.0 ++ top ∷ []) = subst (IsVisit s table marks found) w.1 c.requires.visit in
    omega (arith, get_within v.paths top.number _ (v.stands w.0 [] top refl), v.number)

pub leave-requires-clause-all : goal.leave-requires-clause-all
leave-requires-clause-all g c lower last h e d =
    let w = at_last c.args.visit.now.stack c.at-top.result.now (c.len.result - 1) c.requires.inside (ap (λ n. n - 1) c.len.ensures) c.at-top.ensures in
    let same = one_last c.args.visit.now.stack w.0 lower c.at-top.result.now last w.1 e in
    let one : c.at.result.now ≡ h = same_Some c.at.result.now h (sym c.at.ensures ∙ ap (λ (x : Frame). slice_get c.args.visit.now.found x.number) same.1 ∙ d) in
    omega (arith, ap (λ (x : Frame). x.choice) same.1, ap (λ (x : _). length x.links) one, ap length c.as_slice-links.ensures, c.if-top-links.true)

pub at-requires-2 : goal.at-requires-2
at-requires-2 g c =
    let s : Search g.row.G-Node.Denot g.row.G-Kind.Denot = search (g.G.Graph.start c.args.self.now.graph.now) (g.G.Graph.turn c.args.self.now.graph.now) c.args.self.now.limits in
    let table = c.args.visit.now.table in let marks = c.args.visit.now.marks in let found = c.args.visit.now.found in
    let top = c.at-top.result.now in let f = c.at.result.now in
    let w = at_last c.args.visit.now.stack c.at-top.result.now (c.len.result - 1) c.requires.inside (ap (λ n. n - 1) c.len.ensures) c.at-top.ensures in
    let v : IsVisit s table marks found (w.0 ++ top ∷ []) = subst (IsVisit s table marks found) w.1 c.requires.visit in
    let l = c.index-links-top.result in
    let link : slice_get f.links top.choice ≡ Some l = ap (λ x. slice_get x top.choice) (sym c.as_slice-links.ensures)
    ∙ slice_get_read c.as_slice-links.result.now (length c.as_slice-links.result.now) top.choice c.index-links-top.result refl c.if-top-links.false c.index-links-top.is in
    let to = (here s (decided_by g.G.Node.PartialEq.eq g.met.G.Node.Eq.laws g.met.G.Node.Exact.exact) table marks found w.0 top v f c.at.ensures).links.to top.choice l link in
    omega (arith, ap (λ (x : Link g.row.G-Label.Denot). x.to) c.index-links-top.is, get_within table l.to to.0 to.2, v.size)

pub returns-then-is_seen-clause-reaches : goal.returns-then-is_seen-clause-reaches
returns-then-is_seen-clause-reaches g c =
    let s : Search g.row.G-Node.Denot g.row.G-Kind.Denot = search (g.G.Graph.start c.args.self.now.graph.now) (g.G.Graph.turn c.args.self.now.graph.now) c.args.self.now.limits in
    let table = c.args.visit.now.table in let marks = c.args.visit.now.marks in let found = c.args.visit.now.found in
    let top = c.at-top.result.now in let f = c.at.result.now in
    let w = at_last c.args.visit.now.stack c.at-top.result.now (c.len.result - 1) c.requires.inside (ap (λ n. n - 1) c.len.ensures) c.at-top.ensures in
    let v : IsVisit s table marks found (w.0 ++ top ∷ []) = subst (IsVisit s table marks found) w.1 c.requires.visit in
    let l = c.index-links-top.result in
    let link : slice_get f.links top.choice ≡ Some l = ap (λ x. slice_get x top.choice) (sym c.as_slice-links.ensures)
    ∙ slice_get_read c.as_slice-links.result.now (length c.as_slice-links.result.now) top.choice c.index-links-top.result refl c.if-top-links.false c.index-links-top.is in
    let mark : slice_get marks l.to ≡ Some c.at-2.result.now = ap (λ (x : Link g.row.G-Label.Denot). slice_get marks x.to) c.index-links-top.is ∙ c.at-2.ensures in
    subst (λ x. Reaches s table marks x (Rattle.std.proofs.Common.get_or c.as_slice-links.result.now c.at-top.result.now.choice c.index-links-top.result).to) (sym w.1)
    (subst (λ (x : Link g.row.G-Label.Denot). Reaches s table marks (w.0 ++ top ∷ []) x.to) c.index-links-top.is
    (comes_to s (decided_by g.G.Node.PartialEq.eq g.met.G.Node.Eq.laws g.met.G.Node.Exact.exact) table marks found w.0 top v f c.at.ensures l link (mark ∙ ap Some (c.is_seen.ensures.yes c.if-is_seen.true))))

pub next_choice-requires : goal.next_choice-requires
next_choice-requires g c =
    let s : Search g.row.G-Node.Denot g.row.G-Kind.Denot = search (g.G.Graph.start c.args.self.now.graph.now) (g.G.Graph.turn c.args.self.now.graph.now) c.args.self.now.limits in
    let table = c.args.visit.now.table in let marks = c.args.visit.now.marks in let found = c.args.visit.now.found in
    let top = c.at-top.result.now in let f = c.at.result.now in
    let w = at_last c.args.visit.now.stack c.at-top.result.now (c.len.result - 1) c.requires.inside (ap (λ n. n - 1) c.len.ensures) c.at-top.ensures in
    let v : IsVisit s table marks found (w.0 ++ top ∷ []) = subst (IsVisit s table marks found) w.1 c.requires.visit in
    record {
      inside = c.requires.inside;
      room = λ lower last e. let same = one_last c.args.visit.now.stack w.0 lower c.at-top.result.now last w.1 e in
          omega (arith, ap (λ (x : Frame). x.choice) same.1, (here s (decided_by g.G.Node.PartialEq.eq g.met.G.Node.Eq.laws g.met.G.Node.Exact.exact) table marks found w.0 top v f c.at.ensures).small, ap length c.as_slice-links.ensures, c.if-top-links.false);
    }

pub returns : goal.returns
returns g c =
    let s : Search g.row.G-Node.Denot g.row.G-Kind.Denot = search (g.G.Graph.start c.args.self.now.graph.now) (g.G.Graph.turn c.args.self.now.graph.now) c.args.self.now.limits in
    let table = c.args.visit.now.table in let marks = c.args.visit.now.marks in let found = c.args.visit.now.found in
    let top = c.at-top.result.now in let f = c.at.result.now in
    let w = at_last c.args.visit.now.stack c.at-top.result.now (c.len.result - 1) c.requires.inside (ap (λ n. n - 1) c.len.ensures) c.at-top.ensures in
    let v : IsVisit s table marks found (w.0 ++ top ∷ []) = subst (IsVisit s table marks found) w.1 c.requires.visit in
    let l = c.index-links-top.result in
    let link : slice_get f.links top.choice ≡ Some l = ap (λ x. slice_get x top.choice) (sym c.as_slice-links.ensures)
    ∙ slice_get_read c.as_slice-links.result.now (length c.as_slice-links.result.now) top.choice c.index-links-top.result refl c.if-top-links.false c.index-links-top.is in
    let mark : slice_get marks l.to ≡ Some c.at-2.result.now = ap (λ (x : Link g.row.G-Label.Denot). slice_get marks x.to) c.index-links-top.is ∙ c.at-2.ensures in
    let e : c.next_choice.new.stack ≡ w.0 ++ next_frame top ∷ [] = c.next_choice.ensures.next w.0 top w.1 in
    record {
      same = (refl, refl);
      on = subst (IsVisit s table marks found) (sym e)
          (goes_over s (decided_by g.G.Node.PartialEq.eq g.met.G.Node.Eq.laws g.met.G.Node.Exact.exact) table marks found w.0 top v f c.at.ensures (next_frame top) l c.at-2.result.now link mark (c.is_seen.ensures.no c.if-is_seen.false) refl (omega arith));
      inside = omega (arith, ap length e, length_push w.0 (next_frame top));
      less = omega (arith, ap (work found) e, ap (work found) w.1, less_over found w.0 top f c.at.ensures (omega (arith, ap length c.as_slice-links.ensures, c.if-top-links.false)));
      done = tt;
      new = tt;
      reaches = tt;
    }
