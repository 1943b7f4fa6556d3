-- Rules of admission that the module of a valid residue keeps at every spot, whatever the limit.
use Rattle.std.specs.Prelude.{◌≡◌, ℕ, ◌^◌, ◌<◌, ◌≤◌, true}
use Rattle.ir_module.specs.declared.places.Spot.{Spot}
use Rattle.kept_items.specs.declared.target.Target.{Target}
use Rattle.residue.specs.declared.parts.Residue.{Residue}
use Rattle.residue.specs.Printed.{printed}
use Rattle.residue.specs.Valid.{Valid, handles_below}
use Rattle.type_check.specs.declared.code.TypeCode.{TypeCode}
use Rattle.type_check.specs.declared.code.TypeCode.TheVariants as code
use Rattle.type_check.specs.Faults.{Typed, keeps_rule}

abbrev pub Keeps : TypeCode → Type 0
Keeps c = (r : Residue) (t : Target) (limit : ℕ) (s : Spot) → Valid r t → keeps_rule (printed r t) limit s c ≡ true

-- types agree
abbrev pub KeepsTypes : Type 0
KeepsTypes = Keeps code.Types

-- a phi has an entry for each edge into its block, and entries for one block don't differ
abbrev pub KeepsPhis : Type 0
KeepsPhis = Keeps code.PhiEntries

-- no two cases of a switch are equal
abbrev pub KeepsCases : Type 0
KeepsCases = Keeps code.SwitchCase

-- no edge leads to a first block, which has no phis
abbrev pub KeepsFirstBlocks : Type 0
KeepsFirstBlocks = Keeps code.EntryBlock

-- every declared function that is called has a class
abbrev pub KeepsKnown : Type 0
KeepsKnown = Keeps code.UnknownDecl

-- constants and functions with a body have names of their own
abbrev pub KeepsNames : Type 0
KeepsNames = Keeps code.ReservedName

-- there is one entry
abbrev pub KeepsEntry : Type 0
KeepsEntry = Keeps code.NoEntry

-- the entry takes no parameters and returns a code
abbrev pub KeepsSignature : Type 0
KeepsSignature = Keeps code.EntrySignature

-- what a residue keeps that was made from a module: its own handles are below the required numbers, and these within the limit
pub record FitsLimit (r : Residue) (limit : ℕ) : Type 0 where
  pub handles : handles_below r ≡ true
  pub own_qubits : r.own_qubits ≤ r.all_qubits
  pub own_results : r.own_results ≤ r.all_results
  pub qubits : r.all_qubits ≤ limit
  pub results : r.all_results ≤ limit
  pub small_qubits : r.all_qubits < 2 ^ 64
  pub small_results : r.all_results < 2 ^ 64

-- the required numbers are plain
abbrev pub KeepsStated : Type 0
KeepsStated =
    (r : Residue) (t : Target) (limit : ℕ) (s : Spot)
    → Valid r t
    → FitsLimit r limit
    → keeps_rule (printed r t) limit s code.BadNumberAttr ≡ true

-- numbers of qubits and results are below them
abbrev pub KeepsNumbers : Type 0
KeepsNumbers =
    (r : Residue) (t : Target) (limit : ℕ) (s : Spot)
    → Valid r t
    → FitsLimit r limit
    → keeps_rule (printed r t) limit s code.IdRange ≡ true

-- so it breaks no rule of admission
abbrev pub PrintedIsTyped : Type 0
PrintedIsTyped = (r : Residue) (t : Target) (limit : ℕ) → Valid r t → FitsLimit r limit → Typed (printed r t) limit
