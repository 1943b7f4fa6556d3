-- What admission gives.
use Rattle.std.specs.Prelude.{◌≡◌, ℕ, List}
use Rattle.backend_api.specs.declared.operation.Answer.{Answer}
use Rattle.backend_api.specs.declared.operation.Event.{Event}
use Rattle.ir_module.specs.declared.tree.Module.{Module}
use Rattle.ir_module.specs.Numbered.{Numbered}
use Rattle.output_records.specs.declared.record.Record.{Record}
use Rattle.qir_meaning.specs.Apart.{KeepsApart, StaysBelow}
use Rattle.qir_meaning.specs.Naming.{fixed_naming}
use Rattle.qir_meaning.specs.Runs.{RunEnd, Runs, HasRun}
use Rattle.type_check.specs.Faults.{Typed}
use Rattle.type_check.specs.Required.{required_qubits, required_results}
use Rattle.typed_runs.specs.Fits.{FitsAlways, LabelsIn}

-- the invariant holds of a module without faults: its whole states fit at the start and after each instruction
unfoldable pub InvariantHolds : Type 0
InvariantHolds =
    (m : Module) (limit : ℕ) → Numbered m → Typed m limit → FitsAlways m (required_qubits m limit) (required_results m limit)

-- there is a run with these answers and this bound, and no other
pub record HasExactlyOneRun (m : Module) (answers : List Answer) (n : ℕ) : Type 0 where
  pub run : HasRun m answers n
  pub only : (es es' : List Event) (rs rs' : List Record) (e e' : RunEnd)
      → Runs m answers n es rs e
      → Runs m answers n es' rs' e'
      → (es ≡ es') × (rs ≡ rs') × (e ≡ e')

-- so it has exactly one run for every list of answers and every bound: no instruction is without a meaning
unfoldable pub NeverStuck : Type 0
NeverStuck =
    (m : Module) (limit : ℕ) → Numbered m → Typed m limit → (answers : List Answer) (n : ℕ) → HasExactlyOneRun m answers n

-- its runs name fixed numbers below the required ones alone
unfoldable pub NamesRequired : Type 0
NamesRequired =
    (m : Module) (limit : ℕ)
    → Numbered m
    → Typed m limit
    → StaysBelow m (required_qubits m limit) (required_results m limit)

-- so the fixed naming keeps the handles of its runs apart
unfoldable pub FixedNamingFits : Type 0
FixedNamingFits =
    (m : Module) (limit : ℕ)
    → Numbered m
    → Typed m limit
    → KeepsApart (fixed_naming (required_qubits m limit) (required_results m limit)) m

-- and the labels of its records are constants of the module
unfoldable pub LabelsAreConstants : Type 0
LabelsAreConstants =
    (m : Module) (limit : ℕ)
    → Numbered m
    → Typed m limit
    → (answers : List Answer) (n : ℕ) (es : List Event) (rs : List Record) (e : RunEnd)
    → Runs m answers n es rs e
    → LabelsIn m rs
