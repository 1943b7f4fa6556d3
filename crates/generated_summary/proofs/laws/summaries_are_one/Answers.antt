use Rattle.generated_summary.proofs.One.{one-summary}
use Rattle.generated_summary.proofs.laws.summaries_are_one.Goals as goal

pub returns : goal.returns
returns c m limit t budget n x y numbered typed p q =
    one-summary c.shots_are_one.ensures c.modules_have_one_run.ensures m limit numbered typed n c.live_names_are_told_in_one_way.ensures
    c.configurations_are_listed_in_one_way.ensures t budget (c.lowering_has_one_answer.ensures m t budget).module_ x y p q
