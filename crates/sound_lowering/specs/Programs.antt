-- The program that a module is for a target.
use Rattle.std.specs.Prelude.{◌≡◌, ℕ, Bool, Option, None, Some, List}
use Rattle.ir_module.specs.declared.places.Point.{Point}
use Rattle.ir_module.specs.declared.tree.Module.{Module}
use Rattle.ir_module.specs.Entry.{Entry, entry_of}
use Rattle.ir_values.specs.declared.ids.FuncId.{FuncId}
use Rattle.ir_values.specs.declared.ids.LocalId.{LocalId}
use Rattle.kept_items.specs.declared.target.Target.{Target}
use Rattle.lowered_program.specs.Residues.{residue_of}
use Rattle.path_search.specs.Explored.{Explored}
use Rattle.qir_meaning.specs.Naming.{fixed_naming}
use Rattle.backend_api.specs.Naming.{Naming}
use Rattle.residue.specs.Printed.{printed}
use Rattle.told_liveness.specs.Tests.{IsLiveTest}
use Rattle.type_check.specs.Required.{required_qubits, required_results}
use Rattle.fused_parts.specs.Nodes.{Node}
use Rattle.unroller.specs.Programs.{Carries, Program, search_of}
use Rattle.unroller.specs.Refusals.{IsRefused}
use Rattle.kept_items.specs.declared.target.Kind.{Kind}

-- the greatest required number of qubits or of results that an admitted module states
abbrev pub source_limit : ℕ
source_limit = 1000000000

-- fixed numbers stay, allocations follow the required qubits, and returned results the required results
abbrev pub naming_of : Module → Naming
naming_of m = fixed_naming (required_qubits m source_limit) (required_results m source_limit)

-- the number of an entry; every admitted module has one
abbrev pub number_of_entry : Option Entry → FuncId
number_of_entry None = record { 0 = 0 }
number_of_entry (Some e) = record { 0 = e.number }

-- the module for a target, with a test that tells its live names
abbrev pub program_by : Module → Target → (Point → LocalId → Bool) → Program
program_by m t live = record {
  m = m;
  target = t;
  live = live;
  entry = number_of_entry (entry_of m);
  qubits = required_qubits m source_limit;
  results = required_results m source_limit;
}

-- All configurations that constant evaluation of the module reaches are permitted within the budget; these are they, and l is the
-- lowered module that is made of them.
pub record IsLowered (m : Module) (t : Target) (budget : ℕ) (l : Module) : Type 0 where
  pub live : Point → LocalId → Bool
  pub is_test : IsLiveTest m live
  pub entry : Entry
  pub is_entry : entry_of m ≡ Some entry
  pub nodes : List Node
  pub explored : Explored (search_of (program_by m t live) budget) (Carries (program_by m t live)) nodes
  pub is : l ≡ printed (residue_of (program_by m t live) entry.function nodes) t

-- Constant evaluation meets an instruction that isn't permitted; the first in path order stands here, and is refused for this kind.
pub record IsNotLowered (m : Module) (t : Target) (budget : ℕ) (at : Point) (kind : Kind) : Type 0 where
  pub live : Point → LocalId → Bool
  pub is_test : IsLiveTest m live
  pub refused : IsRefused (program_by m t live) budget at kind
