-- Names that are live in the Adaptive module that a residue is, and what constant evaluation says of it.
use Rattle.std.specs.Prelude.{◌≡◌, Bool, true}
use Rattle.ir_module.specs.declared.places.Point.{Point}
use Rattle.ir_values.specs.declared.ids.LocalId.{LocalId}
use Rattle.kept_items.specs.declared.target.Caps.{Caps}
use Rattle.kept_items.specs.declared.target.Target.TheVariants.{Adaptive}
use Rattle.lowered_sizes.specs.Sizes.{instructions}
use Rattle.path_search.specs.Verdict.{Accepts}
use Rattle.profiled_residue.specs.Premises.{FitsProfile}
use Rattle.residue.specs.declared.parts.Residue.{Residue}
use Rattle.residue.specs.Printed.{printed}
use Rattle.residue.specs.Valid.{Valid}
use Rattle.runs_follow_steps.specs.Describes.{TellsLive}
use Rattle.settled_adaptive.specs.Laws.{LivesWithin}
use Rattle.settled_adaptive.specs.Undecided.{all_undecided}
use Rattle.settled_lowering.specs.Laws.{IsPrinted}
use Rattle.unroller.specs.Programs.{Program, search_of}

-- no name is live where the entry begins, and all are the residue's
abbrev pub NamesLiveWithin : Type 0
NamesLiveWithin =
    (r : Residue) (caps : Caps) (live : Point → LocalId → Bool)
    → Valid r (Adaptive caps)
    → TellsLive (printed r (Adaptive caps)) live
    → LivesWithin r live

-- so an Adaptive program that was lowered is accepted within as many configurations as it has instructions that aren't phis
abbrev pub LoweredIsAccepted : Type 0
LoweredIsAccepted =
    (r : Residue) (caps : Caps) (p : Program)
    → Valid r (Adaptive caps)
    → FitsProfile r (Adaptive caps)
    → all_undecided r ≡ true
    → IsPrinted r (Adaptive caps) p
    → TellsLive p.m p.live
    → Accepts (search_of p (instructions (printed r (Adaptive caps))))
