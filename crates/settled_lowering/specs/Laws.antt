-- What constant evaluation says of the module that a residue is.
use Rattle.std.specs.Prelude.{◌≡◌}
use Rattle.kept_items.specs.declared.target.Target.{Target}
use Rattle.kept_items.specs.declared.target.Target.TheVariants.{Base}
use Rattle.lowered_sizes.specs.Sizes.{instructions}
use Rattle.path_search.specs.Verdict.{Accepts}
use Rattle.profiled_residue.specs.Premises.{FitsProfile}
use Rattle.residue.specs.declared.parts.Residue.{Residue}
use Rattle.residue.specs.Printed.{printed}
use Rattle.residue.specs.Valid.{Valid}
use Rattle.unroller.specs.Programs.{Program, search_of}

-- p is the printed module with the target; its entry has the number 0
pub record IsPrinted (r : Residue) (t : Target) (p : Program) : Type 0 where
  pub module_is : p.m ≡ printed r t
  pub target : p.target ≡ t
  pub entry : p.entry ≡ record { 0 = 0 }

-- a Base program that was lowered is accepted within as many configurations as it has instructions that aren't phis
abbrev pub BaseIsAccepted : Type 0
BaseIsAccepted =
    (r : Residue) (p : Program)
    → Valid r Base
    → FitsProfile r Base
    → IsPrinted r Base p
    → Accepts (search_of p (instructions (printed r Base)))
