-- The module that a residue is has its numbers and names in order, for every residue that is valid.
use Rattle.ir_module.specs.Numbered.{Numbered}
use Rattle.kept_items.specs.declared.target.Target.{Target}
use Rattle.residue.specs.declared.parts.Residue.{Residue}
use Rattle.residue.specs.Printed.{printed}
use Rattle.residue.specs.Valid.{Valid}

abbrev pub PrintedIsNumbered : Type 0
PrintedIsNumbered = (r : Residue) (t : Target) → Valid r t → Numbered (printed r t)
