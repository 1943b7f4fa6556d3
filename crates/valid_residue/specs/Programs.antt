-- Programs without faults, and what a machine's numbers hold of their lowered programs.
use Rattle.std.specs.Prelude.{◌≡◌, ℕ, ◌^◌, ◌<◌, ◌≤◌, Some, List, length, slice_get}
use Rattle.ir_module.specs.declared.tree.Function.{Function}
use Rattle.ir_module.specs.Entry.{Entry, entry_of}
use Rattle.ir_module.specs.Numbered.{Numbered}
use Rattle.type_check.specs.Faults.{Typed}
use Rattle.type_check.specs.Required.{required_qubits, required_results}
use Rattle.path_search.specs.Explored.{Explored}
use Rattle.residue.specs.declared.parts.Residue.{Residue}
use Rattle.residue.specs.Scopes.{gives_of}
use Rattle.unroller.specs.Programs.{Carries, Program, search_of}
use Rattle.fused_parts.specs.Nodes.{Node}
use Rattle.lowered_program.specs.Residues.{residue_of}
use Rattle.valid_steps.specs.Laws.{entry_id}

-- p is a program without faults at the limit, with its entry and its required numbers
pub record IsFaultless (p : Program) (limit : ℕ) (e : Entry) : Type 0 where
  pub numbered : Numbered p.m
  pub typed : Typed p.m limit
  pub is_entry : entry_of p.m ≡ Some e
  pub entry : p.entry ≡ entry_id e
  pub qubits : p.qubits ≡ required_qubits p.m limit
  pub results : p.results ≡ required_results p.m limit

-- these are all the configurations of a program without faults, and r is the lowered program that is made of them
pub record IsLowered (p : Program) (nodes : List Node) (r : Residue) : Type 0 where
  pub limit : ℕ
  pub found_entry : Entry
  pub faultless : IsFaultless p limit found_entry
  pub budget : ℕ
  pub explored : Explored (search_of p budget) (Carries p) nodes
  pub made : r ≡ residue_of p found_entry.function nodes

-- numbers that a machine's integers hold
pub record IsSmall (p : Program) (nodes : List Node) (r : Residue) : Type 0 where
  pub configurations : length nodes ≤ 1000000
  pub qubits : r.all_qubits < 2 ^ 64
  pub results : r.all_results < 2 ^ 64
  pub values : length (gives_of r) < 2 ^ 63
  pub parameters : (g : ℕ) (f : Function) → slice_get p.m.funcs g ≡ Some f → f.params < 2 ^ 32
