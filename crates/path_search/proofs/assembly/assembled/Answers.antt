use Rattle.std.proofs.Common.{◌≡◌, ◌+◌, suc, [], ◌∷◌, ◌++◌, List, length, Some, refl, sym, ap, ◌∙◌, subst, append_assoc, append-nil, arith}
use Rattle.std.specs.Vec.Iter.{into_iter_items}
use Rattle.std.specs.Prelude.{slice_get}
use Rattle.std.proofs.lemmas.Option.{same_Some}
use Rattle.path_search.specs.declared.visit.Found.{Found}
use Rattle.path_search.specs.declared.node.Visited.{Visited}
use Rattle.path_search.specs.code.Assembly.{AreFrom, AreInSlots}
use Rattle.path_search.proofs.Lists.{length_push}
use Rattle.path_search.proofs.Made.{nothing_left, item_at, from_none, from_more, in_slots, slots_less}
use Rattle.path_search.proofs.assembly.assembled.Goals as goal

pub loop-entered-init : goal.loop-entered-init
loop-entered-init g c = record {
  whole = refl;
  size = omega (arith, c.into_iter-entered-iterator.ensures.into_iter_gives.1, ap length c.into_iter-entered-iterator.ensures.into_iter_gives.0, c.into_vec-entered-items.result.ok.0);
  made = subst (AreFrom c.args.visit.table c.args.visit.marks []) (sym c.in_ok-nodes.ensures.items) (from_none c.args.visit.table c.args.visit.marks);
  slots = in_slots c.args.visit.table c.args.visit.marks c.args.visit.found c.in_ok-slots.slots.items c.requires c.in_ok-slots.ensures;
}

pub renumbered-requires : goal.renumbered-requires
renumbered-requires g c =
    let at = c.loop-entered in
    let steps : into_iter_items at.entered-iterator ≡ c.in-Some.entered ∷ into_iter_items c.next.new.self = c.in-Some.ensures.steps.0 in
    let now : c.args.visit.found ≡ at.yielded ++ c.in-Some.entered ∷ into_iter_items c.next.new.self =
    sym c.into_vec-entered-items.ensures ∙ sym c.into_iter-entered-iterator.ensures.into_iter_gives.0 ∙ sym at.invariant.whole ∙ ap (λ x. at.yielded ++ x) steps in
    c.requires.numbered (length at.yielded) c.in-Some.entered (item_at c.args.visit.found at.yielded (into_iter_items c.next.new.self) c.in-Some.entered now)

pub take_from-node-requires : goal.take_from-node-requires
take_from-node-requires g c =
    let at = c.loop-entered in
    let steps : into_iter_items at.entered-iterator ≡ c.in-Some.entered ∷ into_iter_items c.next.new.self = c.in-Some.ensures.steps.0 in
    let now : c.args.visit.found ≡ at.yielded ++ c.in-Some.entered ∷ into_iter_items c.next.new.self =
    sym c.into_vec-entered-items.ensures ∙ sym c.into_iter-entered-iterator.ensures.into_iter_gives.0 ∙ sym at.invariant.whole ∙ ap (λ x. at.yielded ++ x) steps in
    let t = at.invariant.slots (length at.yielded) c.in-Some.entered (omega arith) (item_at c.args.visit.found at.yielded (into_iter_items c.next.new.self) c.in-Some.entered now) in
    (t.0, t.2)

pub loop-entered-preserved : goal.loop-entered-preserved
loop-entered-preserved g c =
    let at = c.loop-entered in
    let steps : into_iter_items at.entered-iterator ≡ c.in-Some.entered ∷ into_iter_items c.next.new.self = c.in-Some.ensures.steps.0 in
    let now : c.args.visit.found ≡ at.yielded ++ c.in-Some.entered ∷ into_iter_items c.next.new.self =
    sym c.into_vec-entered-items.ensures ∙ sym c.into_iter-entered-iterator.ensures.into_iter_gives.0 ∙ sym at.invariant.whole ∙ ap (λ x. at.yielded ++ x) steps in
    let here = item_at c.args.visit.found at.yielded (into_iter_items c.next.new.self) c.in-Some.entered now in
    let t = at.invariant.slots (length at.yielded) c.in-Some.entered (omega arith) here in
    let one : t.0 ≡ c.take_from-node.result = same_Some t.0 c.take_from-node.result (same_Some (Some t.0) (Some c.take_from-node.result) (sym t.2 ∙ c.take_from-node.ensures.taken)) in
    let v : Visited g.row.N.Denot g.row.D.Denot g.row.E.Denot = record { node = c.take_from-node.result; item = c.in-Some.entered.item; links = c.in_ok-links.links } in
    record {
      whole = append_assoc at.yielded (c.in-Some.entered ∷ []) (into_iter_items c.next.new.self) ∙ ap (λ x. at.yielded ++ x) (sym steps) ∙ at.invariant.whole;
      size = let was = at.invariant.size in let gone = c.in-Some.ensures.steps.1 in let short = ap length steps in omega arith;
      made = subst (AreFrom c.args.visit.table c.args.visit.marks (at.yielded ++ c.in-Some.entered ∷ [])) (sym c.in_ok-push.ensures.items)
          (from_more c.args.visit.table c.args.visit.marks at.yielded at.nodes.items c.in-Some.entered v (record { node = t.1 ∙ ap Some one; item = refl; links = c.in_ok-links.ensures }) at.invariant.made);
      slots = subst (AreInSlots c.args.visit.table c.args.visit.found c.take_from-node.new.slots.items) (sym (length_push at.yielded c.in-Some.entered))
          (slots_less c.args.visit.table c.args.visit.marks c.args.visit.found at.slots.items c.take_from-node.new.slots.items (length at.yielded) c.in-Some.entered c.requires here c.take_from-node.ensures.others at.invariant.slots);
    }

pub returns : goal.returns
returns g c =
    let at = c.loop-entered in
    let none = c.in-None.ensures.steps in
    let empty : into_iter_items at.entered-iterator ≡ [] = nothing_left (into_iter_items at.entered-iterator) (sym at.invariant.size ∙ none.0) in
    let all : at.yielded ≡ c.args.visit.found = sym (append-nil at.yielded) ∙ ap (λ x. at.yielded ++ x) (sym empty) ∙ at.invariant.whole ∙ c.into_iter-entered-iterator.ensures.into_iter_gives.0 ∙ c.into_vec-entered-items.ensures in
    subst (λ x. AreFrom c.args.visit.table c.args.visit.marks x c.from_vec.result) all (subst (AreFrom c.args.visit.table c.args.visit.marks at.yielded) (sym c.from_vec.ensures) at.invariant.made)
