-- The module that a residue is passes the profile of its target.
use Rattle.kept_items.specs.declared.target.Caps.{Caps}
use Rattle.kept_items.specs.declared.target.Target.{Target}
use Rattle.kept_items.specs.declared.target.Target.TheVariants.{Base, Adaptive}
use Rattle.residue.specs.declared.parts.Residue.{Residue}
use Rattle.residue.specs.Printed.{printed}
use Rattle.residue.specs.Valid.{Valid}
use Rattle.profiled_residue.specs.Premises.{FitsProfile}
use Rattle.profiled_residue.specs.Profiles.{Passes, PassesAdaptive, PassesBase}

-- the entry has number 0
abbrev pub BasePasses : Type 0
BasePasses = (r : Residue) → Valid r Base → FitsProfile r Base → PassesBase (printed r Base) 0

abbrev pub AdaptivePasses : Type 0
AdaptivePasses =
    (r : Residue) (caps : Caps)
    → Valid r (Adaptive caps)
    → FitsProfile r (Adaptive caps)
    → PassesAdaptive (printed r (Adaptive caps)) 0

abbrev pub PrintedPasses : Type 0
PrintedPasses = (r : Residue) (t : Target) → Valid r t → FitsProfile r t → Passes (printed r t) t
