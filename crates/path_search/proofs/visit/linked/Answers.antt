use Rattle.std.proofs.Common.{◌≡◌, [], ◌∷◌, ◌++◌, List, length, refl, sym, ap, ◌∙◌, subst, append_assoc, append-nil, arith}
use Rattle.std.specs.Vec.Iter.{into_iter_items}
use Rattle.path_search.specs.code.Visit.{AreLinks}
use Rattle.path_search.proofs.Visits.{grows_none, grows_more, links_none, links_more}
use Rattle.path_search.proofs.visit.linked.Goals as goal

nothing_left : {X : Type 0} (l : List X) → length l ≡ 0 → l ≡ []
nothing_left [] h = refl
nothing_left (x ∷ xs) h = absurd (omega arith)

pub loop-edge-init : goal.loop-edge-init
loop-edge-init g c = record {
  whole = refl;
  size = omega (arith, c.into_iter-edge-iterator.ensures.into_iter_gives.1, ap length c.into_iter-edge-iterator.ensures.into_iter_gives.0, c.into_vec-edge-items.result.ok.0);
  grows = grows_none c.args.table.now c.args.marks.now c.requires.once c.requires.size;
  links = subst (AreLinks c.args.table.now c.args.table.now []) (sym c.in_ok-links.ensures.items) (links_none c.args.table.now);
}

pub loop-edge-preserved : goal.loop-edge-preserved
loop-edge-preserved g c =
    let at = c.loop-edge in
    let steps : into_iter_items at.edge-iterator ≡ c.in-Some.edge ∷ into_iter_items c.next.new.self = c.in-Some.ensures.steps.0 in record {
      whole = append_assoc at.yielded (c.in-Some.edge ∷ []) (into_iter_items c.next.new.self) ∙ ap (λ x. at.yielded ++ x) (sym steps) ∙ at.invariant.whole;
      size = let was = at.invariant.size in let gone = c.in-Some.ensures.steps.1 in let short = ap length steps in omega arith;
      grows = grows_more c.args.table.now at.table c.index_of_node.new.table c.args.marks.now at.marks c.index_of_node.new.marks at.invariant.grows c.in_ok-to.ensures.grows;
      links = subst (AreLinks c.args.table.now c.index_of_node.new.table (at.yielded ++ c.in-Some.edge ∷ [])) (sym c.in_ok-push.ensures.items)
          (links_more c.args.table.now at.table c.index_of_node.new.table at.yielded at.links.items c.in-Some.edge (record { to = c.in_ok-to.to; label = c.in-Some.edge.label })
          c.in_ok-to.ensures.grows.kept c.in_ok-to.ensures.among c.in_ok-to.ensures.at refl at.invariant.links);
    }

pub returns-clause-grows : goal.returns-clause-grows
returns-clause-grows g c = c.loop-edge.invariant.grows

pub returns-clause-links : goal.returns-clause-links
returns-clause-links g c =
    let at = c.loop-edge in
    let none = c.in-None.ensures.steps in
    let empty : into_iter_items at.edge-iterator ≡ [] = nothing_left (into_iter_items at.edge-iterator) (sym at.invariant.size ∙ none.0) in
    let all : at.yielded ≡ c.args.edges = sym (append-nil at.yielded) ∙ ap (λ x. at.yielded ++ x) (sym empty) ∙ at.invariant.whole ∙ c.into_iter-edge-iterator.ensures.into_iter_gives.0 ∙ c.into_vec-edge-items.ensures in
    subst (λ x. AreLinks c.args.table.now at.table x c.from_vec.result) all (subst (AreLinks c.args.table.now at.table at.yielded) (sym c.from_vec.ensures) at.invariant.links)
