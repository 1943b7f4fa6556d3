-- Laws of runs, for every module, list of answers and bound.
use Rattle.std.specs.Prelude.{◌≡◌, ◌≢◌, ◌↔◌, ℕ, ◌≤◌, List}
use Rattle.backend_api.specs.declared.operation.Answer.{Answer}
use Rattle.backend_api.specs.declared.operation.Event.{Event}
use Rattle.ir_module.specs.declared.tree.Module.{Module}
use Rattle.output_records.specs.declared.record.Record.{Record}
use Rattle.backend_api.specs.Naming.{Naming}
use Rattle.qir_meaning.specs.Apart.{KeepsApart, StaysBelow}
use Rattle.qir_meaning.specs.Naming.{fixed_naming}
use Rattle.qir_meaning.specs.Runs.{RunEnd, Cut, Runs, HasRun}
use Rattle.qir_meaning.specs.Same.{Prefix, SameBehaviour}
use Rattle.qir_meaning.specs.code.Simulation.{Simulation}
use Rattle.qir_meaning.specs.code.Steps.{run_by_steps, Finished}

-- a module has at most one run
abbrev pub HasOneRun : Type 0
HasOneRun =
    (m : Module) (answers : List Answer) (n : ℕ) (es es' : List Event) (rs rs' : List Record) (e e' : RunEnd)
    → Runs m answers n es rs e
    → Runs m answers n es' rs' e'
    → (es ≡ es') × (rs ≡ rs') × (e ≡ e')

-- it is the one by steps
abbrev pub RunsAreSteps : Type 0
RunsAreSteps =
    (m : Module) (answers : List Answer) (n : ℕ) (es : List Event) (rs : List Record) (e : RunEnd)
    → Runs m answers n es rs e ↔ Finished (run_by_steps m answers n) e es rs

-- a run that ended is the same at every greater bound
abbrev pub EndedRunsStay : Type 0
EndedRunsStay =
    (m : Module) (answers : List Answer) (n k : ℕ) (es : List Event) (rs : List Record) (e : RunEnd)
    → n ≤ k
    → e ≢ Cut
    → Runs m answers n es rs e
    → Runs m answers k es rs e

-- at a greater bound nothing is taken back: what a run has done, also one that is cut, is a prefix of what it has done there
abbrev pub RunsOnlyGrow : Type 0
RunsOnlyGrow =
    (m : Module) (answers : List Answer) (n k : ℕ) (es es' : List Event) (rs rs' : List Record) (e e' : RunEnd)
    → n ≤ k
    → Runs m answers n es rs e
    → Runs m answers k es' rs' e'
    → Prefix es es' × Prefix rs rs'

-- a module that follows another has the same behaviour
abbrev pub SimulationKeepsBehaviour : Type 0
SimulationKeepsBehaviour = (m l : Module) (N : Naming) (W : ℕ) → Simulation m l N W → SameBehaviour m l N W

-- and both have a run, whatever the answers and the bound: no instruction is without a meaning
abbrev pub SimulationGivesRuns : Type 0
SimulationGivesRuns =
    (m l : Module) (N : Naming) (W : ℕ)
    → Simulation m l N W
    → (answers : List Answer) (n : ℕ)
    → HasRun m answers n × HasRun l answers n

-- the fixed naming keeps the handles of a module apart whose runs name fixed numbers below the required ones alone
abbrev pub FixedNamingKeepsApart : Type 0
FixedNamingKeepsApart = (m : Module) (k r : ℕ) → StaysBelow m k r → KeepsApart (fixed_naming k r) m
