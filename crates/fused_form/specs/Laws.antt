-- The parts of lowered programs are as long as they can be, for every target.
use Rattle.std.specs.Prelude.{◌≡◌, ℕ, List}
use Rattle.ir_module.specs.declared.tree.Module.{Module}
use Rattle.ir_module.specs.Numbered.{Numbered}
use Rattle.kept_items.specs.declared.target.Target.{Target}
use Rattle.kept_items.specs.declared.val.Dyn.{Dyn}
use Rattle.path_search.specs.declared.visit.Link.{Link}
use Rattle.residue.specs.declared.parts.Residue.{Residue}
use Rattle.residue.specs.Printed.{printed}
use Rattle.type_check.specs.Faults.{Typed}
use Rattle.unroller.specs.Programs.{Program}
use Rattle.fused_parts.specs.Nodes.{Node, joins}
use Rattle.fused_parts.specs.Ranks.{part_number}
use Rattle.sound_lowering.specs.Programs as modules
use Rattle.sound_lowering.specs.Programs.{source_limit}
use Rattle.valid_residue.specs.Programs.{IsLowered}
use Rattle.fused_form.specs.Fused.{AreFused, IsOnlyWay}

-- The lowered program r of a program without faults. The part that exits share is no exception: there are several.
abbrev pub LoweredPartsAreFused : Type 0
LoweredPartsAreFused = (p : Program) (nodes : List Node) (r : Residue) → IsLowered p nodes r → AreFused r.parts

-- where the only edge of a configuration is the only one to another, both stand in one part
abbrev pub ChainsAreOnePart : Type 0
ChainsAreOnePart =
    (p : Program) (nodes : List Node) (r : Residue) (i : ℕ) (l : Link (List Dyn))
    → IsLowered p nodes r
    → IsOnlyWay nodes i l
    → part_number (joins nodes) l.to ≡ part_number (joins nodes) i

-- l is the module of such parts
pub record IsPrintedFused (l : Module) (t : Target) : Type 0 where
  pub residue : Residue
  pub is : l ≡ printed residue t
  pub fused : AreFused residue.parts

-- so is each lowered module of an admitted one
abbrev pub LoweredModulesAreFused : Type 0
LoweredModulesAreFused =
    (m : Module) (t : Target) (budget : ℕ) (l : Module)
    → Numbered m
    → Typed m source_limit
    → modules.IsLowered m t budget l
    → IsPrintedFused l t
