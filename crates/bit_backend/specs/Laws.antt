-- Other names for qubits and results change no bit, for every naming that gives no two of the qubits one name.
use Rattle.std.specs.Prelude.{◌≡◌, List, ◌∷◌}
use Rattle.backend_api.specs.declared.operation.Event.{Event}
use Rattle.backend_api.specs.declared.operation.Op.{Op}
use Rattle.backend_api.specs.declared.operation.QubitRef.{QubitRef}
use Rattle.backend_api.specs.Naming.{IsInjectiveOn, Naming, named_events, named_op}
use Rattle.backend_api.specs.Operations.{qubits_in, qubits_of}
use Rattle.bit_backend.specs.Actions.{can}
use Rattle.bit_backend.specs.Bits.{bit_after, fits}

-- a renamed qubit has its bit after the renamed events
abbrev pub RenamingKeepsBits : Type 0
RenamingKeepsBits =
    (N : Naming) (es : List Event) (q : QubitRef) →
    IsInjectiveOn N (q ∷ qubits_in es) → bit_after (named_events N es) (N.qubit q) ≡ bit_after es q

-- a renamed operation can be done where the operation can
abbrev pub RenamingKeepsOperations : Type 0
RenamingKeepsOperations = (N : Naming) (op : Op) → IsInjectiveOn N (qubits_of op) → can (named_op N op) ≡ can op

-- renamed events fit where the events do
abbrev pub RenamingKeepsFits : Type 0
RenamingKeepsFits = (N : Naming) (es : List Event) → IsInjectiveOn N (qubits_in es) → fits (named_events N es) ≡ fits es
