-- Constant evaluation of a program as a search over its configurations.
use Rattle.std.specs.Prelude.{◌≡◌, ℕ, ◌+◌, ◌≤◌, ⊤, Bool, List, [], map, slice_get, Some}
use Rattle.ir_module.specs.declared.places.Point.{Point}
use Rattle.ir_module.specs.declared.tree.Module.{Module}
use Rattle.ir_values.specs.declared.ids.FuncId.{FuncId}
use Rattle.ir_values.specs.declared.ids.LocalId.{LocalId}
use Rattle.kept_items.specs.declared.target.Kind.{Kind}
use Rattle.kept_items.specs.declared.target.Target.{Target}
use Rattle.kept_items.specs.declared.val.Dyn.{Dyn}
use Rattle.kept_items.specs.Targets.{has_loops}
use Rattle.path_search.specs.Paths.{Search}
use Rattle.path_search.specs.Paths as path
use Rattle.static_steps.specs.declared.config.Config.{Config}
use Rattle.static_steps.specs.declared.turn.Move.{Move}
use Rattle.static_steps.specs.declared.turn.Turn.{Turn}
use Rattle.static_steps.specs.declared.turn.Turn.TheVariants.{Goes, Exits, Bad, Lost}
use Rattle.static_steps.specs.Configurations.{IsConfiguration}
use Rattle.static_steps.specs.Steps.{start_of, static_step}
use Rattle.unroller.specs.declared.node.Outcome.{Outcome}
use Rattle.unroller.specs.declared.node.Outcome.TheVariants as outcome

-- a module with a target, the names that are live at each point, its entry and the required numbers of qubits and results
pub record Program : Type 0 where
  pub m : Module
  pub target : Target
  pub live : Point → LocalId → Bool
  pub entry : FuncId
  pub qubits : ℕ
  pub results : ℕ

module _ (p : Program) where
  abbrev pub step_of : Config → Turn
  step_of g = static_step p.m p.target p.live g

  -- a configuration of the module for the target
  abbrev pub IsReached : Config → Type 0
  IsReached g = IsConfiguration p.m p.target p.live p.entry p.qubits p.results g

  -- one to which so many moves lead
  pub record IsReachedBy (moves : ℕ) (g : Config) : Type 0 where
    pub reached : IsReached g
    pub allocated : g.allocated ≤ moves
    pub returned : g.returned ≤ moves

  -- a successor of g: a configuration again, with at most one allocation and one returned result more
  pub record LeadsOn (g : Config) (mv : Move) : Type 0 where
    pub reached : IsReached mv.to
    pub allocated : mv.to.allocated ≤ g.allocated + 1
    pub returned : mv.to.returned ≤ g.returned + 1

  -- what a configuration does has a meaning, and each move leads on
  abbrev pub LeadOn : Config → Turn → Type 0
  LeadOn g (Goes moves item choice) = (i : ℕ) (mv : Move) → slice_get moves i ≡ Some mv → LeadsOn g mv
  LeadOn g (Exits code) = ⊤
  LeadOn g (Bad kind) = ⊤
  LeadOn g Lost = ⊥

-- what a configuration does, as a node of a graph; no configuration of an admitted module is Lost
abbrev pub turn_of : Turn → path.Turn Config Kind
turn_of (Goes moves item choice) = path.Next (map (λ mv. mv.to) moves)
turn_of (Exits code) = path.Next []
turn_of (Bad kind) = path.Bad kind
turn_of Lost = path.Next []

-- the search over the configurations of a program within a budget; paths may come back where the target has loops
abbrev pub search_of : Program → ℕ → Search Config Kind
search_of p budget = record {
  start = start_of p.entry;
  turn = λ g. turn_of (step_of p g);
  budget = budget;
  loops = has_loops p.target;
}

-- the outcome and the values that the successors' Dynamic names take are those of this step
abbrev pub IsOutcome : Turn → Outcome → List (List Dyn) → Type 0
IsOutcome (Goes moves item choice) o args = (o ≡ outcome.Goes item choice) × (args ≡ map (λ mv. mv.args) moves)
IsOutcome (Exits code) o args = (o ≡ outcome.Exits code) × (args ≡ [])
IsOutcome (Bad kind) o args = ⊥
IsOutcome Lost o args = ⊥

-- what is told of a node: it is a configuration of the program, with the outcome of its step
pub record Carries (p : Program) (g : Config) (o : Outcome) (args : List (List Dyn)) : Type 0 where
  pub reached : IsReached p g
  pub outcome : IsOutcome (step_of p g) o args
