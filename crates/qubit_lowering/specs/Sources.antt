-- The lowered program of a module that was checked.
use Rattle.std.specs.Prelude.{◌≡◌, Some, List}
use Rattle.admission.specs.Admitted.{CheckedModule}
use Rattle.admitted_steps.specs.Programs.{program_of}
use Rattle.fused_parts.specs.Nodes.{Node}
use Rattle.ir_module.specs.Entry.{Entry, entry_of}
use Rattle.kept_items.specs.declared.target.Target.{Target}
use Rattle.lowered_program.specs.Residues.{residue_of}
use Rattle.residue.specs.declared.parts.Residue.{Residue}

-- r is made of these configurations of the module for the target, with the entry's name and attributes
pub record IsResidueOf (c : CheckedModule) (t : Target) (nodes : List Node) (r : Residue) : Type 0 where
  pub entry : Entry
  pub is_entry : entry_of c.tree ≡ Some entry
  pub residue : r ≡ residue_of (program_of c t) entry.function nodes
