use Rattle.unrolled_runs.proofs.Ending.{never-cut}
use Rattle.unroller.specs.Programs.{search_of}
use Rattle.sound_lowering.specs.Programs.{program_by}
use Rattle.unrolled_runs.proofs.laws.unrolled_runs_end.Goals as goal

pub returns : goal.returns
returns c m t budget l lowered numbered closed answers n es rs e enough run =
    let x = lowered.explored in
    never-cut c.runs_follow_steps.ensures m t budget l lowered numbered
    (λ i on. c.searches_without_loops_have_no_cycles.ensures (search_of (program_by m t lowered.live) budget) lowered.nodes
    (record { accepts = x.accepts; lists = x.lists; links = x.links }) closed i on)
    c.starts_describe_runs.ensures answers n es rs e enough run
