-- The qubits and results that the runs of a module name, and the namings that keep them apart.
use Rattle.std.specs.Prelude.{◌≡◌, ℕ, ◌<◌, ⊤, List, [], ◌++◌}
use Rattle.std.specs.List.{All, Contains}
use Rattle.backend_api.specs.declared.operation.Answer.{Answer}
use Rattle.backend_api.specs.declared.operation.Event.{Event}
use Rattle.backend_api.specs.declared.operation.Op.{Op}
use Rattle.backend_api.specs.declared.operation.QubitRef.{QubitRef}
use Rattle.backend_api.specs.declared.operation.QubitRef.TheVariants as qubit
use Rattle.backend_api.specs.declared.operation.ResultRef.{ResultRef}
use Rattle.backend_api.specs.declared.operation.ResultRef.TheVariants as result
use Rattle.backend_api.specs.Naming.{Naming}
use Rattle.backend_api.specs.Operations.{qubits_in, qubits_of, results_in, results_of}
use Rattle.ir_module.specs.declared.tree.Module.{Module}
use Rattle.output_records.specs.declared.record.Record.{Record}
use Rattle.qir_meaning.specs.Runs.{RunEnd, Returned, Trapped, Asks, Cut, Runs}

-- what is taken of the operation that a run asked for in vain
abbrev pub of_end : {A : Type 0} → (Op → List A) → RunEnd → List A
of_end f (Asks op) = f op
of_end f (Returned code) = []
of_end f (Trapped c) = []
of_end f Cut = []

-- the qubits that a run names: in its events, and in the operation that it asked for in vain
abbrev pub qubits_of_run : List Event → RunEnd → List QubitRef
qubits_of_run es e = qubits_in es ++ of_end qubits_of e

abbrev pub results_of_run : List Event → RunEnd → List ResultRef
results_of_run es e = results_in es ++ of_end results_of e

-- a handle is named by some run of the module, with some answers of the machine
pub record IsNamed {A : Type 0} (handles : List Event → RunEnd → List A) (m : Module) (x : A) : Type 0 where
  pub answers : List Answer
  pub steps : ℕ
  pub events : List Event
  pub records : List Record
  pub ending : RunEnd
  pub run : Runs m answers steps events records ending
  pub named : Contains (handles events ending) x

-- of all qubits that runs of the module name no two get one name, and of all results no two
pub record KeepsApart (N : Naming) (m : Module) : Type 0 where
  pub qubits : (p q : QubitRef) → IsNamed qubits_of_run m p → IsNamed qubits_of_run m q → N.qubit p ≡ N.qubit q → p ≡ q
  pub results : (p q : ResultRef) → IsNamed results_of_run m p → IsNamed results_of_run m q → N.result p ≡ N.result q → p ≡ q

-- a fixed number is below the required one
abbrev pub QubitBelow : ℕ → QubitRef → Type 0
QubitBelow k (qubit.Id i) = i < k
QubitBelow k (qubit.Alloc j) = ⊤

abbrev pub ResultBelow : ℕ → ResultRef → Type 0
ResultBelow r (result.Id i) = i < r
ResultBelow r (result.Measured j) = ⊤

-- every run of the module names fixed numbers below the required ones alone
pub record StaysBelow (m : Module) (k r : ℕ) : Type 0 where
  pub qubits : (a : List Answer) (n : ℕ) (es : List Event) (rs : List Record) (e : RunEnd)
      → Runs m a n es rs e
      → All (QubitBelow k) (qubits_of_run es e)
  pub results : (a : List Answer) (n : ℕ) (es : List Event) (rs : List Record) (e : RunEnd)
      → Runs m a n es rs e
      → All (ResultBelow r) (results_of_run es e)
