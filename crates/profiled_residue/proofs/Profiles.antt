-- The module passes the profile of its target.
use Rattle.std.proofs.Common.{◌≡◌, inl, inr, ℕ, Bool, true, false, not, ◌&&◌, refl}
use Rattle.std.specs.Prelude.{slice_get}
use Rattle.ir_module.specs.declared.places.Spot.{Spot}
use Rattle.ir_module.specs.Steps.{step_in}
use Rattle.kept_items.specs.declared.target.Caps.{Caps}
use Rattle.kept_items.specs.declared.target.Target.{Target}
use Rattle.kept_items.specs.declared.target.Target.TheVariants.{Base, Adaptive}
use Rattle.profile_rules.specs.Adaptive.{ViolatesAdaptive, adaptive_rules, backwards_key, ends_block, is_on}
use Rattle.residue.specs.declared.parts.Residue.{Residue}
use Rattle.residue.specs.Printed.{print_blocks, printed, printed_entry}
use Rattle.residue.specs.Valid.{Valid}
use Rattle.printed_residue.proofs.Ends.{entry-is}
use Rattle.numbered_residue.proofs.Shared.{both}
use Rattle.profiled_residue.specs.Premises.{FitsProfile}
use Rattle.profiled_residue.specs.Profiles.{KeepsRules, Passes}
use Rattle.profiled_residue.proofs.AdaptiveCalls.{calls-known, handles-known, integers-recorded, labels-known}
use Rattle.profiled_residue.proofs.AdaptiveSteps.{choices-of-integers, integers-permitted, returns-once, switches-permitted}
use Rattle.profiled_residue.proofs.BaseSteps.{base-passes}
use Rattle.profiled_residue.proofs.Broken.{StepPasses, breaks-none}
use Rattle.profiled_residue.proofs.CallRules.{initializes-first}
use Rattle.profiled_residue.proofs.Cycles.{calls-back-none, loops-back-none}
use Rattle.profiled_residue.proofs.Functions.{adaptive-declared, adaptive-entry, adaptive-module}

module _ (r : Residue) (caps : Caps) (ok : Valid r (Adaptive caps)) (fits : FitsProfile r (Adaptive caps)) where
  -- the rules on walks stand apart
  no-table : (b c : Bool) → not ((b && false) && c) ≡ true
  no-table true c = refl
  no-table false c = refl

  adaptive-step : (n i : ℕ) → StepPasses (adaptive_rules (printed r (Adaptive caps)) 0) r (Adaptive caps) n i
  adaptive-step n i =
      both _ _ (no-table (ends_block (step_in (slice_get (print_blocks r (Adaptive caps)) n) i)) (not (is_on backwards_key (printed r (Adaptive caps)))))
      (both _ _ (switches-permitted r caps ok n i) (both _ _ (returns-once r caps ok n i) (both _ _ (integers-permitted r caps ok n i) (both _ _ (choices-of-integers r caps ok n i)
      (both _ _ (calls-known r caps ok n i) (both _ _ (integers-recorded r caps ok n i) (both _ _ (handles-known r caps ok n i) (both _ _ (labels-known r caps ok n i)
      (both _ _ (initializes-first r (Adaptive caps) ok n i) (both _ _ refl refl))))))))))

  pub adaptive-passes : (s : Spot) (rule : ℕ) → ViolatesAdaptive (printed r (Adaptive caps)) 0 s rule → ⊥
  adaptive-passes s rule (inl h) = breaks-none (adaptive_rules (printed r (Adaptive caps)) 0) r (Adaptive caps) (adaptive-module r caps) (adaptive-entry r caps) (adaptive-declared r caps) adaptive-step s rule h
  adaptive-passes s rule (inr (inl h)) = loops-back-none r caps fits h.1 s h.2
  adaptive-passes s rule (inr (inr h)) = calls-back-none r caps ok s h.1

keeps : (r : Residue) (t : Target) → Valid r t → FitsProfile r t → KeepsRules t (printed r t) 0
keeps r Base ok fits = base-passes r ok fits
keeps r (Adaptive caps) ok fits = adaptive-passes r caps ok fits

pub passes-profile : (r : Residue) (t : Target) → Valid r t → FitsProfile r t → Passes (printed r t) t
passes-profile r t ok fits = record {
  entry = record { number = 0; function = printed_entry r t };
  is = entry-is r t;
  keeps = keeps r t ok fits;
}
