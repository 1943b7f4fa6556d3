-- Other names for qubits and results.
use Rattle.std.specs.Prelude.{◌≡◌, List, map}
use Rattle.std.specs.List.{Contains}
use Rattle.backend_api.specs.declared.operation.Arg.{Arg}
use Rattle.backend_api.specs.declared.operation.Arg.TheVariants as arg
use Rattle.backend_api.specs.declared.operation.Event.{Event}
use Rattle.backend_api.specs.declared.operation.Op.{Op}
use Rattle.backend_api.specs.declared.operation.QubitRef.{QubitRef}
use Rattle.backend_api.specs.declared.operation.ResultRef.{ResultRef}

pub record Naming : Type 0 where
  pub qubit : QubitRef → QubitRef
  pub result : ResultRef → ResultRef

abbrev pub named_arg : Naming → Arg → Arg
named_arg N (arg.Qubit q) = arg.Qubit (N.qubit q)
named_arg N (arg.Res r) = arg.Res (N.result r)
named_arg N (arg.Double t) = arg.Double t
named_arg N (arg.Int i) = arg.Int i

abbrev pub named_op : Naming → Op → Op
named_op N op = record { name = op.name; args = map (named_arg N) op.args }

abbrev pub named_event : Naming → Event → Event
named_event N e = record { op = named_op N e.op; answer = e.answer }

abbrev pub named_events : Naming → List Event → List Event
named_events N es = map (named_event N) es

-- of the qubits of a list, no two get one name
abbrev pub IsInjectiveOn : Naming → List QubitRef → Type 0
IsInjectiveOn N qs = (p q : QubitRef) → Contains qs p → Contains qs q → N.qubit p ≡ N.qubit q → p ≡ q
