-- From tests that are false at each part of the printed module to no broken rule at any spot.
use Rattle.std.proofs.Common.{◌≡◌, ℕ, zero, suc, Bool, true, not, Option, None, Some, List, [], ◌∷◌, refl, ap, ◌∙◌, subst, option_map, Contains}
use Rattle.std.proofs.lemmas.Bool.{and_parts}
use Rattle.std.proofs.lemmas.Option.{slice_get-map}
use Rattle.std.specs.List.{list_all}
use Rattle.std.specs.Prelude.{if◌then◌else◌, slice_get}
use Rattle.ir_module.specs.declared.places.Point.{Point}
use Rattle.ir_module.specs.declared.places.Spot.{Spot}
use Rattle.ir_module.specs.declared.places.Spot.TheVariants as spot
use Rattle.ir_module.specs.declared.tree.Function.{Function}
use Rattle.ir_module.specs.Steps.{Step, PhiAt, InstAt, TermAt, NoStep, step_in}
use Rattle.kept_items.specs.declared.target.Target.{Target}
use Rattle.profile_rules.specs.Findings.{Breaks, Rules, broken, broken_at, broken_at_point, broken_by_function, broken_by_step}
use Rattle.profile_rules.proofs.Positions.{none}
use Rattle.residue.specs.declared.parts.Residue.{Residue}
use Rattle.residue.specs.Functions.{Called, declaration, declared_of}
use Rattle.residue.specs.Printed.{print_blocks, printed, printed_entry}
use Rattle.printed_residue.specs.Places.{in_entry}
use Rattle.numbered_residue.proofs.Shared.{not-false}

-- where each test is false nothing is broken
none-broken : {A : Type 0} (is : A → Bool) (rs : List (ℕ × A)) → list_all (λ r. not (is r.1)) rs ≡ true → broken is rs ≡ []
none-broken is [] h = refl
none-broken is (r ∷ rs) h =
    let p = and_parts (not (is r.1)) (list_all (λ r. not (is r.1)) rs) h in
    ap (λ b. if b then r.0 ∷ broken is rs else broken is rs) (not-false (is r.1) p.0) ∙ none-broken is rs p.1

none-by-step : (rules : Rules) (f : Function) (p : Point) (s : Step) → list_all (λ r. not (r.1 f p s)) rules.on_step ≡ true → broken_by_step rules f p s ≡ []
none-by-step rules f p NoStep h = refl
none-by-step rules f p (PhiAt x) h = none-broken (λ t. t f p (PhiAt x)) rules.on_step h
none-by-step rules f p (InstAt x) h = none-broken (λ t. t f p (InstAt x)) rules.on_step h
none-by-step rules f p (TermAt x) h = none-broken (λ t. t f p (TermAt x)) rules.on_step h

module _ (rules : Rules) (r : Residue) (t : Target) where
  abbrev f : Function
  f = printed_entry r t

  -- tests of functions are false of this one under its number
  abbrev pub FunctionPasses : ℕ → Function → Type 0
  FunctionPasses g h = list_all (λ x. not (x.1 g h)) rules.on_function ≡ true

  -- tests of steps are false of the step at this place of the entry
  abbrev pub StepPasses : ℕ → ℕ → Type 0
  StepPasses n i = list_all (λ x. not (x.1 f (in_entry n i) (step_in (slice_get (print_blocks r t) n) i))) rules.on_step ≡ true

  module _ (whole : list_all (λ x. not x.1) rules.on_module ≡ true) (entry : FunctionPasses 0 f)
      (declared : (n : ℕ) (c : Called) → slice_get (declared_of r) n ≡ Some c → FunctionPasses (suc n) (declaration r.irreversible c))
      (steps : (n i : ℕ) → StepPasses n i) where
    -- a declaration under its number
    by-declaration : (n : ℕ) (o : Option Called) → slice_get (declared_of r) n ≡ o → broken_by_function rules (suc n) (option_map (declaration r.irreversible) o) ≡ []
    by-declaration n None e = refl
    by-declaration n (Some c) e = none-broken (λ u. u (suc n) (declaration r.irreversible c)) rules.on_function (declared n c e)

    at-function : (g : ℕ) → broken_by_function rules g (slice_get (printed r t).funcs g) ≡ []
    at-function zero = none-broken (λ u. u 0 f) rules.on_function entry
    at-function (suc n) =
        ap (broken_by_function rules (suc n)) (slice_get-map (declaration r.irreversible) (declared_of r) n)
        ∙ by-declaration n (slice_get (declared_of r) n) refl

    -- a declaration has no steps
    in-declaration : (p : Point) (o : Option Called) → broken_at_point rules (option_map (declaration r.irreversible) o) p ≡ []
    in-declaration p None = refl
    in-declaration p (Some c) = refl

    at-point : (g n i : ℕ) (p : Point) → p ≡ (record { func = record { 0 = g }; block = record { 0 = n }; index = i }) → broken_at_point rules (slice_get (printed r t).funcs g) p ≡ []
    at-point zero n i p e =
        ap (broken_at_point rules (Some f)) e
        ∙ none-by-step rules f (in_entry n i) (step_in (slice_get (print_blocks r t) n) i) (steps n i)
    at-point (suc g) n i p e =
        ap (λ o. broken_at_point rules o p) (slice_get-map (declaration r.irreversible) (declared_of r) g)
        ∙ in-declaration p (slice_get (declared_of r) g)

    nothing-broken : (s : Spot) → broken_at rules (printed r t) s ≡ []
    nothing-broken spot.Module = none-broken (λ b. b) rules.on_module whole
    nothing-broken (spot.Func g) = at-function g.0
    nothing-broken (spot.At p) = at-point p.func.0 p.block.0 p.index p refl

    pub breaks-none : (s : Spot) (rule : ℕ) → Breaks rules (printed r t) s rule → ⊥
    breaks-none s rule h = none rule (subst (λ l. Contains l rule) (nothing-broken s) h)
