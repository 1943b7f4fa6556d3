use Rattle.std.proofs.Common.{◌≤◌, length, subst, sym, ap, ◌∙◌, take, drop}
use Rattle.name_flow.proofs.BlockRuns.{lead-within, take-lead, drop-lead}
use Rattle.name_flow.proofs.runs.split.Goals as goal

pub split_at-requires : goal.split_at-requires
split_at-requires c = subst (λ n. n ≤ length c.args.uses.now) (sym c.lead.ensures) (lead-within c.args.x c.args.uses.now)

pub returns-clause-front : goal.returns-clause-front
returns-clause-front c = c.split_at.ensures.front ∙ (ap (λ n. take n c.args.uses.now) c.lead.ensures ∙ take-lead c.args.x c.args.uses.now)

pub returns-clause-others : goal.returns-clause-others
returns-clause-others c = c.split_at.ensures.back ∙ (ap (λ n. drop n c.args.uses.now) c.lead.ensures ∙ drop-lead c.args.x c.args.uses.now)
