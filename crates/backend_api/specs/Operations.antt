-- What operations and events name (QIR specification, 'Quantum Instruction Set').
use Rattle.std.specs.Prelude.{◌≡◌, ◌==◌, Bool, true, false, List, [], ◌∷◌, flat_map, count_by}
use Rattle.backend_api.specs.declared.operation.Answer.{Answer}
use Rattle.backend_api.specs.declared.operation.Answer.TheVariants as answer
use Rattle.backend_api.specs.declared.operation.Arg.{Arg}
use Rattle.backend_api.specs.declared.operation.Arg.TheVariants as arg
use Rattle.backend_api.specs.declared.operation.Event.{Event}
use Rattle.backend_api.specs.declared.operation.Op.{Op}
use Rattle.backend_api.specs.declared.operation.QubitRef.{QubitRef}
use Rattle.backend_api.specs.declared.operation.QubitRef.TheVariants as qubit
use Rattle.backend_api.specs.declared.operation.ResultRef.{ResultRef}
use Rattle.backend_api.specs.declared.operation.ResultRef.TheVariants as result

abbrev pub same_qubit : QubitRef → QubitRef → Bool
same_qubit (qubit.Id i) (qubit.Id j) = i == j
same_qubit (qubit.Id i) (qubit.Alloc j) = false
same_qubit (qubit.Alloc i) (qubit.Id j) = false
same_qubit (qubit.Alloc i) (qubit.Alloc j) = i == j

abbrev pub same_result : ResultRef → ResultRef → Bool
same_result (result.Id i) (result.Id j) = i == j
same_result (result.Id i) (result.Measured j) = false
same_result (result.Measured i) (result.Id j) = false
same_result (result.Measured i) (result.Measured j) = i == j

abbrev pub is_result : Arg → Bool
is_result (arg.Qubit q) = false
is_result (arg.Res r) = true
is_result (arg.Double t) = false
is_result (arg.Int i) = false

-- a gate names no result
abbrev pub IsGate : Op → Type 0
IsGate op = count_by is_result op.args ≡ 0

-- a measurement names the one result that its bit is written to
abbrev pub IsMeasurement : Op → Type 0
IsMeasurement op = count_by is_result op.args ≡ 1

abbrev pub qubits_of_arg : Arg → List QubitRef
qubits_of_arg (arg.Qubit q) = q ∷ []
qubits_of_arg (arg.Res r) = []
qubits_of_arg (arg.Double t) = []
qubits_of_arg (arg.Int i) = []

-- the qubits that an operation names, in order
abbrev pub qubits_of : Op → List QubitRef
qubits_of op = flat_map qubits_of_arg op.args

-- the qubits that events name, in order
abbrev pub qubits_in : List Event → List QubitRef
qubits_in es = flat_map (λ e. qubits_of e.op) es

abbrev pub results_of_arg : Arg → List ResultRef
results_of_arg (arg.Qubit q) = []
results_of_arg (arg.Res r) = r ∷ []
results_of_arg (arg.Double t) = []
results_of_arg (arg.Int i) = []

-- the results that an operation names, in order
abbrev pub results_of : Op → List ResultRef
results_of op = flat_map results_of_arg op.args

-- the results that events name, in order
abbrev pub results_in : List Event → List ResultRef
results_in es = flat_map (λ e. results_of e.op) es

abbrev pub bits_of_answer : Answer → List Bool
bits_of_answer answer.Done = []
bits_of_answer (answer.Bit b) = b ∷ []

-- the bits that measurements among events were answered with, in order
abbrev pub bits_in : List Event → List Bool
bits_in es = flat_map (λ e. bits_of_answer e.answer) es
