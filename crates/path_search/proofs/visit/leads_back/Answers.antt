use Rattle.std.proofs.Common.{◌≡◌, ℕ, length, Some, refl, sym, ap, ◌∙◌, arith}
use Rattle.std.specs.Prelude.{slice_get}
use Rattle.std.proofs.lemmas.Option.{slice_get_read, same_Some}
use Rattle.path_search.specs.declared.visit.Link.{Link}
use Rattle.path_search.specs.declared.visit.Mark.TheVariants.{Open}
use Rattle.path_search.proofs.Frontier.{get_within}
use Rattle.path_search.proofs.Lists.{none_more}
use Rattle.path_search.proofs.visit.leads_back.Goals as goal

pub at-requires : goal.at-requires
at-requires g c =
    c.requires c.loop-link.link-index c.link-item.result (slice_get_read c.args.links.now (length c.args.links.now) c.loop-link.link-index c.link-item.result refl (omega arith) c.link-item.is)

pub returns-then-is_open-clause-back : goal.returns-then-is_open-clause-back
returns-then-is_open-clause-back g c t =
    let link : slice_get c.args.links.now c.loop-link.link-index ≡ Some c.link-item.result = slice_get_read c.args.links.now (length c.args.links.now) c.loop-link.link-index c.link-item.result refl (omega arith) c.link-item.is in
    let opened = c.is_open.ensures.yes c.if-is_open.true in
    (c.loop-link.link-index, c.link-item.result, opened.0, link, c.at.ensures ∙ ap Some opened.1)

pub loop-link-preserved : goal.loop-link-preserved
loop-link-preserved g c =
    none_more c.args.links.now c.loop-link.link-index c.link-item.result (λ (l : Link g.row.E.Denot). (n : ℕ) × (slice_get c.args.marks.now l.to ≡ Some (Open n))) (omega arith) c.link-item.is c.loop-link.invariant
    (λ o. c.is_open.ensures.no c.if-is_open.false o.0 (same_Some c.at.result.now (Open o.0) (sym c.at.ensures ∙ o.1)))

pub returns-clause-clear : goal.returns-clause-clear
returns-clause-clear g c t o = let h = get_within c.args.links.now o.0 o.1 o.3 in c.loop-link.invariant o.0 o.1 (omega arith) o.3 (o.2, o.4)
