-- A lowered module behaves as its source.
use Rattle.std.specs.Prelude.{◌≡◌, ℕ, ◌≤◌, Option, Some, List, length}
use Rattle.ir_module.specs.Entry.{Entry, entry_of}
use Rattle.ir_module.specs.Numbered.{Numbered}
use Rattle.qir_meaning.specs.Naming.{fixed_naming}
use Rattle.qir_meaning.specs.Same.{SameBehaviour}
use Rattle.kept_items.specs.declared.target.Caps.{Caps}
use Rattle.kept_items.specs.declared.target.Target.TheVariants.{Adaptive, Base}
use Rattle.path_search.specs.Explored.{Explored}
use Rattle.residue.specs.declared.parts.Residue.{Residue}
use Rattle.residue.specs.Printed.{printed}
use Rattle.printed_residue.specs.Laws.{IsGood}
use Rattle.runs_follow_steps.specs.Describes.{TellsLive}
use Rattle.type_check.specs.Faults.{Typed}
use Rattle.type_check.specs.Required.{required_qubits, required_results}
use Rattle.unroller.specs.Programs.{Carries, Program, search_of}
use Rattle.fused_parts.specs.Nodes.{Node}
use Rattle.lowered_runs.specs.Made.{CodesFit, IsMade}

-- p is a program without faults at the limit, with its entry, its required numbers and a test that tells its live names
pub record IsAdmitted (p : Program) (limit : ℕ) (e : Entry) : Type 0 where
  pub numbered : Numbered p.m
  pub typed : Typed p.m limit
  pub is_entry : entry_of p.m ≡ Some e
  pub entry : p.entry ≡ record { 0 = e.number }
  pub qubits : p.qubits ≡ required_qubits p.m limit
  pub results : p.results ≡ required_results p.m limit
  pub live : TellsLive p.m p.live

-- of a program for an Adaptive target: where its configurations, at most W, are all explored, the module of the lowered program that
-- is made of them behaves as the program does, under the fixed naming
unfoldable pub AdaptiveBehaves : Type 0
AdaptiveBehaves =
    (p : Program) (caps : Caps) (limit : ℕ) (e : Entry) (budget W : ℕ) (nodes : List Node) (shared : Option ℕ) (r : Residue)
    → p.target ≡ Adaptive caps
    → IsAdmitted p limit e
    → Explored (search_of p budget) (Carries p) nodes
    → length nodes ≤ W
    → IsMade p nodes shared r
    → CodesFit nodes
    → IsGood r p.target
    → SameBehaviour p.m (printed r p.target) (fixed_naming p.qubits p.results) W

-- the same for the Base Profile
unfoldable pub BaseBehaves : Type 0
BaseBehaves =
    (p : Program) (limit : ℕ) (e : Entry) (budget W : ℕ) (nodes : List Node) (shared : Option ℕ) (r : Residue)
    → p.target ≡ Base
    → IsAdmitted p limit e
    → Explored (search_of p budget) (Carries p) nodes
    → length nodes ≤ W
    → IsMade p nodes shared r
    → CodesFit nodes
    → IsGood r p.target
    → SameBehaviour p.m (printed r p.target) (fixed_naming p.qubits p.results) W
