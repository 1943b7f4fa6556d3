use Rattle.typed_runs.specs.Laws.{InvariantHolds}
use Rattle.valid_steps.specs.Laws.{StepsKeepConfigurations, entry_id}
use Rattle.valid_steps.proofs.Starts.{code-type}
use Rattle.valid_steps.proofs.Whole.{keeps-configurations}
use Rattle.valid_steps.proofs.laws.steps_keep_configurations.Goals as goal

pub returns : goal.returns
unfolding StepsKeepConfigurations InvariantHolds
returns c m limit t live e g numbered typed is h =
    keeps-configurations m limit t live (entry_id e) g numbered typed c.class_tells_types.ensures c.words_tell_types.ensures
    (λ f at. code-type m limit e is (c.admitted_modules_keep_the_invariant.ensures m limit numbered typed) f at) h
