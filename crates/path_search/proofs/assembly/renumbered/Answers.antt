use Rattle.std.proofs.Common.{◌≡◌, [], ◌∷◌, ◌++◌, List, length, Some, refl, sym, ap, ◌∙◌, subst, append_assoc, append-nil, arith}
use Rattle.std.specs.Vec.Iter.{into_iter_items}
use Rattle.path_search.specs.declared.visit.Link.{Link}
use Rattle.path_search.specs.code.Assembly.{Renumbers}
use Rattle.path_search.proofs.Frontier.{get_within}
use Rattle.path_search.proofs.Made.{nothing_left, item_at, renumbers_none, renumbers_more}
use Rattle.path_search.proofs.assembly.renumbered.Goals as goal

pub loop-link-init : goal.loop-link-init
loop-link-init g c = record {
  whole = refl;
  size = omega (arith, c.into_iter-link-iterator.ensures.into_iter_gives.1, ap length c.into_iter-link-iterator.ensures.into_iter_gives.0, c.into_vec-link-items.result.ok.0);
  links = subst (Renumbers c.args.marks.now []) (sym c.in_ok-out.ensures.items) (renumbers_none c.args.marks.now);
}

pub at-requires : goal.at-requires
at-requires g c =
    let at = c.loop-link in
    let steps : into_iter_items at.link-iterator ≡ c.in-Some.link ∷ into_iter_items c.next.new.self = c.in-Some.ensures.steps.0 in
    let now : c.args.links ≡ at.yielded ++ c.in-Some.link ∷ into_iter_items c.next.new.self =
    sym c.into_vec-link-items.ensures ∙ sym c.into_iter-link-iterator.ensures.into_iter_gives.0 ∙ sym at.invariant.whole ∙ ap (λ x. at.yielded ++ x) steps in
    let t = c.requires (length at.yielded) c.in-Some.link (item_at c.args.links at.yielded (into_iter_items c.next.new.self) c.in-Some.link now) in
    get_within c.args.marks.now c.in-Some.link.to t.0 t.2

pub number-to-requires : goal.number-to-requires
number-to-requires g c =
    let at = c.loop-link in
    let steps : into_iter_items at.link-iterator ≡ c.in-Some.link ∷ into_iter_items c.next.new.self = c.in-Some.ensures.steps.0 in
    let now : c.args.links ≡ at.yielded ++ c.in-Some.link ∷ into_iter_items c.next.new.self =
    sym c.into_vec-link-items.ensures ∙ sym c.into_iter-link-iterator.ensures.into_iter_gives.0 ∙ sym at.invariant.whole ∙ ap (λ x. at.yielded ++ x) steps in
    let t = c.requires (length at.yielded) c.in-Some.link (item_at c.args.links at.yielded (into_iter_items c.next.new.self) c.in-Some.link now) in
    (t.1, ap Rattle.path_search.specs.code.Visit.number_of (Rattle.std.proofs.lemmas.Option.same_Some c.at.result.now t.0 (sym c.at.ensures ∙ t.2)) ∙ t.3)

pub loop-link-preserved : goal.loop-link-preserved
loop-link-preserved g c =
    let at = c.loop-link in
    let steps : into_iter_items at.link-iterator ≡ c.in-Some.link ∷ into_iter_items c.next.new.self = c.in-Some.ensures.steps.0 in record {
      whole = append_assoc at.yielded (c.in-Some.link ∷ []) (into_iter_items c.next.new.self) ∙ ap (λ x. at.yielded ++ x) (sym steps) ∙ at.invariant.whole;
      size = let was = at.invariant.size in let gone = c.in-Some.ensures.steps.1 in let short = ap length steps in omega arith;
      links = subst (Renumbers c.args.marks.now (at.yielded ++ c.in-Some.link ∷ [])) (sym c.in_ok-push.ensures.items)
          (renumbers_more c.args.marks.now at.yielded at.out.items c.in-Some.link (record { to = c.number-to.result; label = c.in-Some.link.label }) c.at.result.now c.at.ensures c.number-to.ensures refl at.invariant.links);
    }

pub returns : goal.returns
returns g c =
    let at = c.loop-link in
    let none = c.in-None.ensures.steps in
    let empty : into_iter_items at.link-iterator ≡ [] = nothing_left (into_iter_items at.link-iterator) (sym at.invariant.size ∙ none.0) in
    let all : at.yielded ≡ c.args.links = sym (append-nil at.yielded) ∙ ap (λ x. at.yielded ++ x) (sym empty) ∙ at.invariant.whole ∙ c.into_iter-link-iterator.ensures.into_iter_gives.0 ∙ c.into_vec-link-items.ensures in
    subst (λ x. Renumbers c.args.marks.now x c.from_vec.result) all (subst (Renumbers c.args.marks.now at.yielded) (sym c.from_vec.ensures) at.invariant.links)
