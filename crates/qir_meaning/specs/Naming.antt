-- The fixed naming of qubits and results: a fixed number stays, allocation j becomes number k + j, and returned result j becomes
-- number r + j, where k and r are the required numbers of the module. It is injective on numbers below these.
use Rattle.std.specs.Prelude.{ℕ, ◌+◌}
use Rattle.backend_api.specs.declared.operation.QubitRef.{QubitRef}
use Rattle.backend_api.specs.declared.operation.QubitRef.TheVariants as qubit
use Rattle.backend_api.specs.declared.operation.ResultRef.{ResultRef}
use Rattle.backend_api.specs.declared.operation.ResultRef.TheVariants as result
use Rattle.backend_api.specs.Naming.{Naming, named_op}
use Rattle.qir_meaning.specs.Runs.{RunEnd, Returned, Trapped, Asks, Cut}

abbrev pub fixed_qubit : ℕ → QubitRef → QubitRef
fixed_qubit k (qubit.Id i) = qubit.Id i
fixed_qubit k (qubit.Alloc j) = qubit.Id (k + j)

abbrev pub fixed_result : ℕ → ResultRef → ResultRef
fixed_result r (result.Id i) = result.Id i
fixed_result r (result.Measured j) = result.Id (r + j)

abbrev pub fixed_naming : ℕ → ℕ → Naming
fixed_naming k r = record { qubit = fixed_qubit k; result = fixed_result r }

abbrev pub named_end : Naming → RunEnd → RunEnd
named_end N (Returned code) = Returned code
named_end N (Trapped c) = Trapped c
named_end N (Asks op) = Asks (named_op N op)
named_end N Cut = Cut
