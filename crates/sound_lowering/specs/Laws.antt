-- Lowering is sound.
use Rattle.std.specs.Prelude.{◌≡◌, ℕ, Bool, ◌<◌, ◌≤◌, ◌^◌, Some, List, length}
use Rattle.ir_module.specs.declared.places.Point.{Point}
use Rattle.ir_module.specs.declared.tree.Module.{Module}
use Rattle.ir_module.specs.Entry.{Entry, entry_of}
use Rattle.ir_module.specs.Numbered.{Numbered}
use Rattle.ir_values.specs.declared.ids.LocalId.{LocalId}
use Rattle.kept_items.specs.declared.target.Target.{Target}
use Rattle.lowered_program.specs.Parameters.{HaveFewParameters}
use Rattle.lowered_program.specs.Residues.{residue_of}
use Rattle.lowered_runs.specs.Made.{CodesFit}
use Rattle.path_search.specs.Explored.{Explored}
use Rattle.residue.specs.declared.parts.Residue.{Residue}
use Rattle.residue.specs.Printed.{printed}
use Rattle.residue.specs.Scopes.{gives_of}
use Rattle.residue.specs.Valid.{Valid}
use Rattle.told_liveness.specs.Tests.{IsLiveTest}
use Rattle.type_check.specs.Faults.{Typed}
use Rattle.fused_parts.specs.Nodes.{Node}
use Rattle.unroller.specs.Programs.{Carries, search_of}
use Rattle.sound_lowering.specs.Programs.{program_by, source_limit}
use Rattle.sound_lowering.specs.Sound.{IsSound}

-- an admitted module with a target, and a budget within which constant evaluation permits all its reachable configurations: these
pub record IsPermitted (m : Module) (t : Target) (budget : ℕ) (live : Point → LocalId → Bool) (e : Entry) (nodes : List Node) : Type 0 where
  pub numbered : Numbered m
  pub typed : Typed m source_limit
  pub is_entry : entry_of m ≡ Some e
  pub is_test : IsLiveTest m live
  pub explored : Explored (search_of (program_by m t live) budget) (Carries (program_by m t live)) nodes
  pub within : length nodes ≤ budget
  pub small : budget ≤ 1000000

abbrev pub lowered_residue : Module → Target → (Point → LocalId → Bool) → Entry → List Node → Residue
lowered_residue m t live e nodes = residue_of (program_by m t live) e.function nodes

-- what the machine's numbers hold of it: no text within the limit of an input, lowered within these budgets, comes near
pub record HasRoom (m : Module) (nodes : List Node) (r : Residue) : Type 0 where
  pub values : length (gives_of r) < 2 ^ 63
  pub parameters : HaveFewParameters m.funcs
  pub codes : CodesFit nodes

-- the lowered program is valid for its target
abbrev pub LoweredIsValid : Type 0
LoweredIsValid =
    (m : Module) (t : Target) (budget : ℕ) (live : Point → LocalId → Bool) (e : Entry) (nodes : List Node)
    → IsPermitted m t budget live e nodes
    → HasRoom m nodes (lowered_residue m t live e nodes)
    → Valid (lowered_residue m t live e nodes) t

-- and its module keeps what the module does
abbrev pub LoweredIsSound : Type 0
LoweredIsSound =
    (m : Module) (t : Target) (budget : ℕ) (live : Point → LocalId → Bool) (e : Entry) (nodes : List Node)
    → IsPermitted m t budget live e nodes
    → HasRoom m nodes (lowered_residue m t live e nodes)
    → IsSound m t budget nodes (printed (lowered_residue m t live e nodes) t)
