-- The verdict of constant evaluation on a program.
use Rattle.std.specs.Prelude.{◌≡◌, ◌⊎◌, ℕ, List}
use Rattle.kept_items.specs.declared.target.Kind.{Kind}
use Rattle.path_search.specs.declared.reason.Reason.{Reason}
use Rattle.path_search.specs.Explored.{Explored}
use Rattle.path_search.specs.Verdict.{Refuses}
use Rattle.static_steps.specs.declared.config.Config.{Config}
use Rattle.static_steps.specs.Steps.{start_of}
use Rattle.unroller.specs.Programs.{Carries, IsReached, LeadOn, Program, search_of, step_of}
use Rattle.fused_parts.specs.Nodes.{Node}

-- constant evaluation starts at a configuration, and goes on from configurations to configurations, never Lost
pub record KeepsConfigurations (p : Program) : Type 0 where
  pub starts : IsReached p (start_of p.entry)
  pub leads_on : (g : Config) → IsReached p g → LeadOn p g (step_of p g)

-- all its reachable configurations are permitted, and are these
pub record IsPermitted (p : Program) (budget : ℕ) : Type 0 where
  pub nodes : List Node
  pub explored : Explored (search_of p budget) (Carries p) nodes

-- it is refused at a configuration
pub record IsForbidden (p : Program) (budget : ℕ) : Type 0 where
  pub at : Config
  pub reason : Reason Kind
  pub refuses : Refuses (search_of p budget) at reason

-- a program has a verdict within each budget
abbrev pub HasVerdict : Type 0
HasVerdict = (p : Program) (budget : ℕ) → KeepsConfigurations p → IsPermitted p budget ⊎ IsForbidden p budget

-- and its reachable configurations are listed in one way
abbrev pub IsListedOnce : Type 0
IsListedOnce =
    (p : Program) (budget : ℕ) (xs ys : List Node)
    → Explored (search_of p budget) (Carries p) xs
    → Explored (search_of p budget) (Carries p) ys
    → xs ≡ ys
