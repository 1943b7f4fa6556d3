use Rattle.generated_summary.proofs.Alike.{alike}
use Rattle.generated_summary.proofs.laws.runs_are_alike.Goals as goal

pub returns : goal.returns
returns c m t budget n l x y numbered typed kept closed le =
    alike c.shots_are_one.ensures c.modules_have_one_run.ensures c.lowered_shots_are_equal.ensures c.unrolled_runs_end.ensures m t budget n l x y numbered typed kept closed le
