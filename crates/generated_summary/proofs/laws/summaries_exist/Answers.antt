use Rattle.generated_summary.proofs.Exist.{some-summary}
use Rattle.generated_summary.proofs.laws.summaries_exist.Goals as goal

pub returns : goal.returns
returns c m limit t budget n l numbered typed lowered =
    some-summary c.shots_exist.ensures c.modules_have_one_run.ensures c.ended_runs_stay.ensures c.admitted_modules_run.ensures m limit t budget n l numbered typed lowered
