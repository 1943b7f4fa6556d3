-- The lowered program that is made of the reachable configurations of a program.
use Rattle.std.specs.Prelude.{◌≡◌, ℕ, ℤ, false, Option, Some, List, length, slice_get}
use Rattle.ir_values.specs.declared.int.Width.TheVariants.{W64}
use Rattle.ir_values.specs.Arithmetic.{modulo}
use Rattle.ir_values.specs.Int.{signed}
use Rattle.kept_items.specs.declared.item.Code.TheVariants as code
use Rattle.kept_items.specs.Targets.{has_returns}
use Rattle.residue.specs.declared.parts.Part.{Part}
use Rattle.residue.specs.declared.parts.Residue.{Residue}
use Rattle.unroller.specs.declared.node.Outcome.TheVariants as outcome
use Rattle.unroller.specs.Programs.{Program}
use Rattle.fused_parts.specs.Nodes.{Node, joins}
use Rattle.fused_parts.specs.Parts.{no_numbers, parts_of, rest_from, whole}
use Rattle.fused_parts.specs.Ranks.{part_number}

-- the parts of these configurations, without one that exits share
abbrev pub own_parts : Program → List Node → Option ℕ → List Part
own_parts p nodes shared = whole (rest_from p.m nodes (part_number (joins nodes)) shared nodes (joins nodes) no_numbers)

-- r is made of the configurations of p; where its exits share a part, it stands last, and the target has no `returns`
pub record IsMade (p : Program) (nodes : List Node) (shared : Option ℕ) (r : Residue) : Type 0 where
  pub parts : r.parts ≡ parts_of p.m (part_number (joins nodes)) shared nodes (joins nodes)
  pub qubits : r.own_qubits ≡ p.qubits
  pub results : r.own_results ≡ p.results
  pub shared_last : (n : ℕ) → shared ≡ Some n → (n ≡ length (own_parts p nodes shared)) × (has_returns p.target ≡ false)

-- a known code that is returned is one of 64 bits
abbrev pub CodesFit : List Node → Type 0
CodesFit nodes = (i : ℕ) (x : Node) (z : ℤ) → slice_get nodes i ≡ Some x → x.item ≡ outcome.Exits (code.Known z) → signed (modulo W64 z) ≡ z
