-- Lowering what was lowered.
use Rattle.std.specs.Prelude.{◌≡◌, ℕ, true, Bool, Some, List, nat_eq, slice_get}
use Rattle.std.specs.List.{list_all, starts_with}
use Rattle.ir_module.specs.declared.tree.Function.{Function}
use Rattle.ir_values.specs.declared.int.Width.TheVariants.{W64}
use Rattle.ir_values.specs.declared.value.Value.TheVariants as value
use Rattle.ir_values.specs.Arithmetic.{modulo}
use Rattle.ir_values.specs.Int.{IntValue, signed}
use Rattle.ir_values.specs.Names.{instruction_prefix}
use Rattle.kept_items.specs.declared.target.Target.TheVariants.{Base}
use Rattle.kept_items.specs.declared.val.Val.TheVariants.{Known}
use Rattle.lowered_program.specs.Residues.{residue_of}
use Rattle.lowered_runs.specs.Made.{CodesFit}
use Rattle.path_search.specs.Explored.{Explored}
use Rattle.profiled_residue.specs.Premises.{FitsProfile}
use Rattle.residue.specs.declared.parts.Part.{Part}
use Rattle.residue.specs.declared.parts.Residue.{Residue}
use Rattle.residue.specs.declared.parts.Tail.TheVariants as tail
use Rattle.residue.specs.Printed.{printed, printed_entry}
use Rattle.residue.specs.Valid.{Valid}
use Rattle.settled_lowering.specs.Laws.{IsPrinted}
use Rattle.type_check.specs.Required.{required_qubits, required_results}
use Rattle.typed_residue.specs.Laws.{FitsLimit}
use Rattle.unroller.specs.Programs.{Carries, Program, search_of}
use Rattle.fused_parts.specs.Nodes.{Node}

-- only quantum instructions are named among the operations that can't be undone
abbrev pub instructions_named : Residue → Bool
instructions_named r = list_all (λ n. starts_with nat_eq n instruction_prefix) r.irreversible

-- what a Base residue keeps that was made from a module
pub record IsRepeatable (r : Residue) (limit : ℕ) : Type 0 where
  pub valid : Valid r Base
  pub profile : FitsProfile r Base
  pub limited : FitsLimit r limit
  pub named : instructions_named r ≡ true
  -- a known code that is returned is one of 64 bits
  pub code : (p : Part) (i : IntValue)
      → slice_get r.parts 0 ≡ Some p → p.tail ≡ tail.Return (Known (value.Int i)) → modulo W64 (signed i) ≡ i

-- The program is the printed module with the numbers that this requires, and these are its configurations. The lowered program that is
-- made of them is printed as the same module.
abbrev pub BaseIsRepeated : Type 0
BaseIsRepeated =
    (r : Residue) (p : Program) (limit budget : ℕ) (nodes : List Node)
    → IsRepeatable r limit
    → IsPrinted r Base p
    → p.qubits ≡ required_qubits p.m limit
    → p.results ≡ required_results p.m limit
    → Explored (search_of p budget) (Carries p) nodes
    → printed (residue_of p (printed_entry r Base) nodes) Base ≡ printed r Base

-- the residue that is made of the configurations of a Base program keeps this, where it is valid and fits
abbrev pub MadeIsRepeatable : Type 0
MadeIsRepeatable =
    (p : Program) (f : Function) (nodes : List Node) (limit : ℕ)
    → p.target ≡ Base
    → CodesFit nodes
    → Valid (residue_of p f nodes) Base
    → FitsProfile (residue_of p f nodes) Base
    → FitsLimit (residue_of p f nodes) limit
    → IsRepeatable (residue_of p f nodes) limit
