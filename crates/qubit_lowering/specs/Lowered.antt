-- When an admitted module has a lowered program.
use Rattle.std.specs.Prelude.{◌≡◌, ℕ, ◌<◌, ◌≤◌, ◌^◌, List, length}
use Rattle.admission.specs.Admitted.{CheckedModule}
use Rattle.admitted_steps.specs.Programs.{program_of}
use Rattle.fused_parts.specs.Nodes.{Node}
use Rattle.kept_items.specs.declared.target.Target.{Target}
use Rattle.lowered_program.specs.Parameters.{HaveFewParameters}
use Rattle.lowered_runs.specs.Made.{CodesFit}
use Rattle.path_search.specs.Explored.{Explored}
use Rattle.qubit_lowering.specs.Sources.{IsResidueOf}
use Rattle.residue.specs.declared.parts.Residue.{Residue}
use Rattle.residue.specs.Scopes.{gives_of}
use Rattle.unroller.specs.Programs.{Carries, search_of}

-- Constant evaluation of the module reaches so many configurations, at most as many as the budget permits, and each is permitted; r is
-- made of them. The last three facts say what their code knows: codes are integers of 64 bits, numbers of Dynamic values fit, and so do
-- those of parameters.
pub record IsLoweredFrom (c : CheckedModule) (t : Target) (budget : ℕ) (r : Residue) (count : ℕ) : Type 0 where
  pub nodes : List Node
  pub explored : Explored (search_of (program_of c t) budget) (Carries (program_of c t)) nodes
  pub residue : IsResidueOf c t nodes r
  pub number : count ≡ length nodes
  pub within : length nodes ≤ budget
  pub codes : CodesFit nodes
  pub few_values : length (gives_of r) < 2 ^ 63
  pub few_parameters : HaveFewParameters c.tree.funcs
