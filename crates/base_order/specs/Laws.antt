-- Laws of lowered programs for the Base Profile (QIR specification, 'Base Profile').
use Rattle.std.specs.Prelude.{◌≡◌, true, List}
use Rattle.kept_items.specs.declared.target.Target.TheVariants.{Base}
use Rattle.residue.specs.declared.parts.Residue.{Residue}
use Rattle.residue.specs.Valid.{phases_in_order, target_permits}
use Rattle.fused_parts.specs.Nodes.{Node}
use Rattle.unroller.specs.Programs.{Program}
use Rattle.valid_residue.specs.Programs.{IsLowered}

-- there is one part, whose reversible operations come before the irreversible ones, and these before the records
unfoldable pub BaseKeepsOrder : Type 0
BaseKeepsOrder = (p : Program) (nodes : List Node) (r : Residue) → p.target ≡ Base → IsLowered p nodes r → phases_in_order r p.target ≡ true

-- the Base Profile permits the items and the end of the one part
unfoldable pub BasePermits : Type 0
BasePermits = (p : Program) (nodes : List Node) (r : Residue) → p.target ≡ Base → IsLowered p nodes r → target_permits r p.target ≡ true
