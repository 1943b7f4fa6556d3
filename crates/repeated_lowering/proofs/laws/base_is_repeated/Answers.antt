use Rattle.repeated_lowering.proofs.Repeats.{repeats}
use Rattle.repeated_lowering.proofs.laws.base_is_repeated.Goals as goal

pub returns : goal.returns
returns c r p limit budget nodes is at qubits results explored = repeats r p limit budget nodes is at qubits results explored
