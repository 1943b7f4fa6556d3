-- What the pieces of a residue that come from its source have to be so that they can be printed.
use Rattle.std.specs.Prelude.{◌≡◌, ℕ, ◌^◌, ◌<◌, true, Some, List, length, slice_get}
use Rattle.std.specs.List.{list_all}
use Rattle.ir_module.specs.Printable.{attr_fits, constant_text_fits, name_fits}
use Rattle.residue.specs.declared.parts.Jump.{Jump}
use Rattle.residue.specs.declared.parts.Part.{Part}
use Rattle.residue.specs.declared.parts.Residue.{Residue}
use Rattle.residue.specs.Functions.{all_items}
use Rattle.residue.specs.Scopes.{jumps, written}
use Rattle.printable_values.specs.Values.{name_prints, val_prints}

-- a jump leads to part n
pub record IsReached (parts : List Part) (n : ℕ) : Type 0 where
  pub from : ℕ
  pub part : Part
  pub is : slice_get parts from ≡ Some part
  pub place : ℕ
  pub jump : Jump
  pub stands : slice_get (jumps part.tail) place ≡ Some jump
  pub leads : jump.to ≡ n

-- a jump leads to each part with parameters
abbrev pub PartsAreReached : List Part → Type 0
PartsAreReached parts = (n : ℕ) (p : Part) → slice_get parts n ≡ Some p → 0 < length p.params → IsReached parts n

pub record HasPrintablePieces (r : Residue) : Type 0 where
  pub entry : name_fits r.entry ≡ true
  pub attributes : list_all attr_fits r.attrs ≡ true
  pub constants : list_all constant_text_fits r.globals ≡ true
  pub operations : list_all name_prints (all_items r) ≡ true
  pub values : list_all val_prints (written r) ≡ true
  -- the required numbers
  pub qubits : r.all_qubits < 2 ^ 64
  pub results : r.all_results < 2 ^ 64
  pub reached : PartsAreReached r.parts
