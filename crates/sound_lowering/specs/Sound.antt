-- What the lowered module of a module keeps of it.
use Rattle.std.specs.Prelude.{ℕ, ◌+◌, ◌*◌, ◌≤◌, List, length}
use Rattle.ir_module.specs.declared.tree.Module.{Module}
use Rattle.ir_module.specs.Numbered.{Numbered}
use Rattle.ir_module.specs.Printable.{IsPrintable}
use Rattle.kept_items.specs.declared.target.Target.{Target}
use Rattle.lowered_program.specs.Residues.{greatest}
use Rattle.lowered_sizes.specs.Sizes.{instructions, most_phis}
use Rattle.profiled_residue.specs.Profiles.{Passes}
use Rattle.qir_meaning.specs.Apart.{KeepsApart}
use Rattle.qir_meaning.specs.Runs.{AlwaysRuns}
use Rattle.qir_meaning.specs.Same.{SameBehaviour}
use Rattle.static_steps.specs.Works.{dynamics_of}
use Rattle.type_check.specs.Faults.{Typed}
use Rattle.fused_parts.specs.Nodes.{Node}
use Rattle.sound_lowering.specs.Programs.{naming_of}

-- the greatest required number of qubits or of results of a lowered module: each of at most 1,000,000 configurations may add one
abbrev pub lowered_limit : ℕ
lowered_limit = 1001000000

-- l is a lowered module of m for the target, and these are the configurations that it is made of, as many as the budget at most
pub record IsSound (m : Module) (t : Target) (budget : ℕ) (nodes : List Node) (l : Module) : Type 0 where
  -- its numbers and names are in order, it breaks no rule of admission, and none of its profile
  pub numbered : Numbered l
  pub typed : Typed l lowered_limit
  pub passes : Passes l t
  -- it does what m does, whatever the machine answers
  pub same : SameBehaviour m l (naming_of m) budget
  -- no two of the qubits, and no two of the results, that runs of m name get one name
  pub apart : KeepsApart (naming_of m) m
  -- both have a run for every list of answers and every bound of steps
  pub source_runs : AlwaysRuns m
  pub lowered_runs : AlwaysRuns l
  -- phis aside it has at most four instructions for each configuration and sixteen more, and no block has more phis than some
  -- configuration has Dynamic names
  pub few_instructions : instructions l ≤ 4 * length nodes + 16
  pub few_phis : most_phis l ≤ greatest dynamics_of nodes
  -- canonical text can hold it where it can hold m
  pub printable : IsPrintable m → IsPrintable l
