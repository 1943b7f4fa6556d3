use Rattle.std.proofs.Common.{length}
use Rattle.residue.specs.Printed.{names_of}
use Rattle.residue_module.specs.code.Names.{Adds, Holds}
use Rattle.residue_module.specs.declared.names.LocalNames.{LocalNames}
use Rattle.residue_module.proofs.names.names_of_parts.Given as goal

abbrev pub invariant-loop-part : goal.invariant-loop-part
invariant-loop-part l = (new : LocalNames) → Adds (names_of l.parts) l.names new → Holds (names_of l.fn.parts) new

abbrev pub decreases-loop-part : goal.decreases-loop-part
decreases-loop-part l = length l.parts
