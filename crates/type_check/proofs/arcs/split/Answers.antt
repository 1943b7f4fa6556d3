use Rattle.std.proofs.Common.{◌≤◌, length, subst, sym, ap, ◌∙◌, take, drop}
use Rattle.type_check.proofs.Fronts.{lead-within, take-lead, drop-lead}
use Rattle.type_check.proofs.arcs.split.Goals as goal

pub split_at-requires : goal.split_at-requires
split_at-requires c = subst (λ n. n ≤ length c.args.arcs.now) (sym c.lead.ensures) (lead-within c.args.b c.args.arcs.now)

pub returns-clause-front : goal.returns-clause-front
returns-clause-front c = c.split_at.ensures.front ∙ (ap (λ n. take n c.args.arcs.now) c.lead.ensures ∙ take-lead c.args.b c.args.arcs.now)

pub returns-clause-others : goal.returns-clause-others
returns-clause-others c = c.split_at.ensures.back ∙ (ap (λ n. drop n c.args.arcs.now) c.lead.ensures ∙ drop-lead c.args.b c.args.arcs.now)
