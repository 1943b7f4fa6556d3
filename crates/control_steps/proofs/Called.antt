-- The name of a call.
use Rattle.std.proofs.Common.{◌≡◌, None, refl}
use Rattle.ir_module.specs.Steps.{Step, PhiAt, InstAt, TermAt, NoStep}
use Rattle.static_steps.specs.Returns.{result_at}
use Rattle.step_parts.specs.code.Standing.{IsNeither}

pub no_result : (s : Step) → IsNeither s → result_at s ≡ None
no_result (PhiAt phi) h = refl
no_result NoStep h = refl
no_result (InstAt i) h = absurd h
no_result (TermAt t) h = absurd h
