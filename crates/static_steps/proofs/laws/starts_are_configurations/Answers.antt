use Rattle.std.proofs.Common.{refl}
use Rattle.kept_items.specs.declared.target.Target.{Target}
use Rattle.kept_items.specs.declared.target.Target.TheVariants.{Base, Adaptive}
use Rattle.static_steps.specs.declared.phase.Phase.TheVariants as phase
use Rattle.static_steps.specs.Configurations.{IsPhaseOf}
use Rattle.static_steps.proofs.laws.starts_are_configurations.Goals as goal

begins : (t : Target) → IsPhaseOf t phase.Begin
begins Base = tt
begins (Adaptive caps) = refl

pub returns : goal.returns
returns c m t live entry f qubits results e stands = record {
  frames = (f, record { in_function = e; stands = stands; rises = tt; names = tt }, refl);
  held = tt;
  ordered = tt;
  in_phase = begins t;
}
