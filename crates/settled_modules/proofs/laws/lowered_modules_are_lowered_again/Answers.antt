use Rattle.settled_modules.proofs.Again.{AreProved, lowered-again}
use Rattle.settled_modules.proofs.laws.lowered_modules_are_lowered_again.Goals as goal

pub returns : goal.returns
returns c m t budget l second h typed enough =
    let laws : AreProved = record {
      fits = c.lowered_programs_fit.ensures;
      numbered = c.printed_is_numbered.ensures;
      base = c.base_is_accepted.ensures;
      adaptive = c.lowered_is_accepted.ensures;
      undecided = c.made_residues_are_undecided.ensures;
      answer = c.lowering_has_an_answer.ensures;
      counts = c.budgets_count_configurations.ensures;
    } in
    lowered-again laws m t budget l second h typed enough
