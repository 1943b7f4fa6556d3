-- The rules of the Base Profile on other steps than calls, and all its rules.
use Rattle.std.proofs.Common.{◌≡◌, ℕ, Bool, true, false, not, ◌&&◌, Some, refl}
use Rattle.std.proofs.lemmas.Bool.{and_parts}
use Rattle.std.specs.List.{list_all}
use Rattle.std.specs.Prelude.{slice_get}
use Rattle.ir_module.specs.declared.places.Spot.{Spot}
use Rattle.ir_module.specs.Steps.{InstAt, TermAt, step_in}
use Rattle.kept_items.specs.declared.item.Item.{Item}
use Rattle.kept_items.specs.declared.item.Item.TheVariants as item
use Rattle.kept_items.specs.declared.target.Target.TheVariants.{Base}
use Rattle.profile_rules.specs.declared.finding.Form.TheVariants as form
use Rattle.profile_rules.specs.Base.{ViolatesBase, base_rules, branches_on_value, calls_out_of_order, computes}
use Rattle.residue.specs.declared.parts.Part.{Part}
use Rattle.residue.specs.declared.parts.Residue.{Residue}
use Rattle.residue.specs.declared.parts.Tail.{Tail}
use Rattle.residue.specs.declared.parts.Tail.TheVariants as tail
use Rattle.residue.specs.Functions.{all_items}
use Rattle.residue.specs.Instructions.{instructions, print_tail}
use Rattle.residue.specs.Printed.{print_blocks, printed, printed_entry, words}
use Rattle.residue.specs.Valid.{Valid, all_tails, base_permits, base_permits_tail}
use Rattle.printed_residue.specs.Places.{in_entry}
use Rattle.printed_residue.proofs.Facts.{passes-here}
use Rattle.numbered_residue.proofs.Shared.{both, every}
use Rattle.profiled_residue.specs.Premises.{FitsProfile}
use Rattle.profiled_residue.proofs.BaseCalls.{arguments-known, calls-in-order, calls-known}
use Rattle.profiled_residue.proofs.Broken.{StepPasses, breaks-none}
use Rattle.profiled_residue.proofs.CallRules.{base-permits, initializes-first}
use Rattle.profiled_residue.proofs.Functions.{base-declared, base-entry, base-module}
use Rattle.profiled_residue.proofs.Located.{steps-pass}

module _ (r : Residue) (ok : Valid r Base) (fits : FitsProfile r Base) where
  -- ---- no terminator branches on a value

  tail-plain : (x : Tail) → base_permits_tail x ≡ true → not (branches_on_value (TermAt (print_tail (words r) x)) && true) ≡ true
  tail-plain (tail.Return a) h = refl
  tail-plain (tail.Jump j) h = cc
  tail-plain (tail.Branch a j i) h = cc
  tail-plain (tail.Switch w a j cases) h = cc

  tails-plain : (q : ℕ) (p : Part) → slice_get r.parts q ≡ Some p → base_permits_tail p.tail ≡ true
  tails-plain q p s = passes-here (λ p. base_permits_tail p.tail) r.parts q p (and_parts (list_all base_permits (all_items r)) (all_tails base_permits_tail r) ok.permits).1 s

  pub branches-on-none : (n i : ℕ) → not (branches_on_value (step_in (slice_get (print_blocks r Base) n) i) && true) ≡ true
  branches-on-none = steps-pass r Base (λ n i s. not (branches_on_value s && true)) ok (record {
    none = λ n i. refl;
    start = refl;
    item = λ n i x a s m. every (λ c. not (branches_on_value (InstAt c) && true)) (instructions (words r) m x) (λ c. refl);
    tail = λ n i q p s e. tail-plain p.tail (tails-plain q p s);
    phi = λ z n i p s k x g es. cc;
    leads = λ e n i lt. refl;
  })

  -- ---- nothing is computed

  item-calls : (x : Item) → base_permits x ≡ true → (m : ℕ) → list_all (λ c. not (computes (InstAt c) && true)) (instructions (words r) m x) ≡ true
  item-calls (item.Operation name args) h m = refl
  item-calls (item.Output c args) h m = refl
  item-calls (item.Binary d o g w a b) h m = cc
  item-calls (item.Icmp d o w a b) h m = cc
  item-calls (item.Convert d o w a to) h m = cc
  item-calls (item.Select d w c a b) h m = cc
  item-calls (item.Read d v) h m = cc
  item-calls (item.Equal d v u) h m = cc

  pub computes-none : (n i : ℕ) → not (computes (step_in (slice_get (print_blocks r Base) n) i) && true) ≡ true
  computes-none = steps-pass r Base (λ n i s. not (computes s && true)) ok (record {
    none = λ n i. refl;
    start = refl;
    item = λ n i x a s m. item-calls x (base-permits r ok x a) m;
    tail = λ n i q p s e. refl;
    phi = λ z n i p s k x g es. cc;
    leads = λ e n i lt. refl;
  })

  -- ---- all rules

  in-order : (b : Bool) → not b ≡ true → not (b && true) ≡ true
  in-order true h = cc
  in-order false h = refl

  base-step : (n i : ℕ) → StepPasses (base_rules form.Strict (printed r Base) 0 (printed_entry r Base)) r Base n i
  base-step n i =
      both _ _ (branches-on-none n i) (both _ _ (computes-none n i) (both _ _ (calls-known r ok fits n i) (both _ _ (arguments-known r ok fits n i)
      (both _ _ (in-order (calls_out_of_order (printed r Base) (printed_entry r Base) (in_entry n i) (step_in (slice_get (print_blocks r Base) n) i)) (calls-in-order r ok fits n i))
      (both _ _ (initializes-first r Base ok n i) refl)))))

  pub base-passes : (s : Spot) (rule : ℕ) → ViolatesBase form.Strict (printed r Base) 0 s rule → ⊥
  base-passes s rule h =
      breaks-none (base_rules form.Strict (printed r Base) 0 (printed_entry r Base)) r Base (base-module r ok fits) (base-entry r ok fits) (base-declared r ok fits) base-step s rule h
