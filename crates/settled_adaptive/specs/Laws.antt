-- What constant evaluation says of the Adaptive module that a residue is.
use Rattle.std.specs.Prelude.{◌≡◌, ℕ, ◌<◌, Bool, true, false, length}
use Rattle.ir_module.specs.declared.places.Point.{Point}
use Rattle.ir_values.specs.declared.ids.LocalId.{LocalId}
use Rattle.kept_items.specs.declared.target.Caps.{Caps}
use Rattle.kept_items.specs.declared.target.Target.TheVariants.{Adaptive}
use Rattle.lowered_sizes.specs.Sizes.{instructions}
use Rattle.path_search.specs.Verdict.{Accepts}
use Rattle.printed_residue.specs.Places.{in_entry}
use Rattle.profiled_residue.specs.Premises.{FitsProfile}
use Rattle.residue.specs.declared.parts.Residue.{Residue}
use Rattle.residue.specs.Instructions.{local}
use Rattle.residue.specs.Printed.{names_of, printed}
use Rattle.residue.specs.Valid.{Valid}
use Rattle.runs_follow_steps.specs.Describes.{TellsLive}
use Rattle.settled_adaptive.specs.Undecided.{all_undecided}
use Rattle.settled_lowering.specs.Laws.{IsPrinted}
use Rattle.unroller.specs.Programs.{Program, search_of}

-- names that are live in the entry are those of the residue, and none is live where the entry begins
pub record LivesWithin (r : Residue) (live : Point → LocalId → Bool) : Type 0 where
  pub bounded : (n i : ℕ) (y : LocalId) → live (in_entry n i) y ≡ true → y.0 < length (names_of r.parts)
  pub starting : (y : ℕ) → live (in_entry 0 0) (local y) ≡ false

-- an Adaptive program that was lowered is accepted within as many configurations as it has instructions that aren't phis
abbrev pub AdaptiveIsAccepted : Type 0
AdaptiveIsAccepted =
    (r : Residue) (caps : Caps) (p : Program)
    → Valid r (Adaptive caps)
    → FitsProfile r (Adaptive caps)
    → all_undecided r ≡ true
    → IsPrinted r (Adaptive caps) p
    → TellsLive p.m p.live
    → LivesWithin r p.live
    → Accepts (search_of p (instructions (printed r (Adaptive caps))))
