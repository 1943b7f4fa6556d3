-- Canonical text can hold the module that a residue is, for every residue that is valid and whose pieces can be printed.
use Rattle.ir_module.specs.Printable.{IsPrintable}
use Rattle.kept_items.specs.declared.target.Target.{Target}
use Rattle.residue.specs.declared.parts.Residue.{Residue}
use Rattle.residue.specs.Printed.{printed}
use Rattle.residue.specs.Valid.{Valid}
use Rattle.printable_residue.specs.Pieces.{HasPrintablePieces}

abbrev pub PrintedIsPrintable : Type 0
PrintedIsPrintable = (r : Residue) (t : Target) → Valid r t → HasPrintablePieces r → IsPrintable (printed r t)
