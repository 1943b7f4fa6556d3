-- The rules on the module as a whole and on functions: flags, attributes, bodies, blocks, and marks of declarations.
use Rattle.std.proofs.Common.{◌≡◌, ℕ, suc, Bool, true, false, not, ◌&&◌, Some, List, [], ◌∷◌, refl, ap, ◌∙◌, arith}
use Rattle.std.proofs.lemmas.Bool.{and_parts}
use Rattle.std.specs.List.{list_all}
use Rattle.std.specs.Prelude.{◌==◌, ◌||◌, if◌then◌else◌, length, slice_get}
use Rattle.ir_values.specs.declared.class.Class.{Class}
use Rattle.ir_values.specs.declared.ty.Ty.{Ty}
use Rattle.ir_values.specs.declared.ty.Ty.TheVariants as ty
use Rattle.ir_values.specs.declared.value.Value.{Value}
use Rattle.ir_values.specs.Calls.{class_of}
use Rattle.ir_values.specs.Types.{signature}
use Rattle.kept_items.specs.declared.item.Item.{Item}
use Rattle.kept_items.specs.declared.item.Item.TheVariants as item
use Rattle.kept_items.specs.declared.target.Caps.{Caps}
use Rattle.kept_items.specs.declared.target.Target.{Target}
use Rattle.kept_items.specs.declared.target.Target.TheVariants.{Base, Adaptive}
use Rattle.kept_items.specs.declared.val.Val.{Val}
use Rattle.profile_rules.specs.declared.finding.Form.TheVariants as form
use Rattle.profile_rules.specs.Adaptive.{adaptive_rules, functions_key, is_on}
use Rattle.profile_rules.specs.Base.{base_rules, calls_function, has_other_blocks, is_unmarked_measurement}
use Rattle.profile_rules.specs.Calls.{declared_class, is_measure, passes}
use Rattle.profile_rules.specs.Walk.{is_chain, is_return}
use Rattle.residue.specs.declared.parts.Part.{Part}
use Rattle.residue.specs.declared.parts.Residue.{Residue}
use Rattle.residue.specs.declared.parts.Tail.{Tail}
use Rattle.residue.specs.declared.parts.Tail.TheVariants as tail
use Rattle.residue.specs.Functions.{Called, all_items, called, calls_of, calls_of_residue, declaration, declared_of, initialize, is_constant, is_named, read_result, reading, record_name, types_of}
use Rattle.residue.specs.Instructions.{print_tail}
use Rattle.residue.specs.Printed.{base_blocks, printed, printed_entry, words}
use Rattle.residue.specs.Valid.{Valid, all_tails, base_permits, base_permits_tail}
use Rattle.printed_residue.proofs.Declared.{Among, declared-class}
use Rattle.printed_residue.proofs.Facts.{passes-here}
use Rattle.printed_residue.proofs.Lines.{item-declared}
use Rattle.printed_residue.proofs.Looks.{differ}
use Rattle.numbered_residue.proofs.Listed.{uses-pass}
use Rattle.numbered_residue.proofs.Passing.{all-both, all-each, all-flat}
use Rattle.numbered_residue.proofs.Shared.{both, not-false}
use Rattle.profiled_residue.specs.Premises.{FitsProfile, measurement_named}
use Rattle.profiled_residue.proofs.Broken.{FunctionPasses}
use Rattle.profiled_residue.proofs.Called.{class-is, marked}
use Rattle.profiled_residue.proofs.CallRules.{record-known, record-passes}
use Rattle.profiled_residue.proofs.Located.{one-part}

-- a rule on the entry is no rule on a declaration
not-entry : (n : ℕ) (b : Bool) → not ((suc n == 0) && b) ≡ true
not-entry n b = ap (λ x. not (x && b)) (differ (suc n) 0 (λ e. absurd (omega (arith, e))))

pub not-both : (b : Bool) → not (b && false) ≡ true
not-both true = refl
not-both false = refl

-- ---- every declared measurement is marked

-- a function of this name and these types is a measurement, and not among the irreversible operations
abbrev unmarked : Residue → Called → Bool
unmarked r c = passes (class_of c.name (signature c.ret c.params)) is_measure && not (is_named r.irreversible c.name)

initialize-marked : (r : Residue) → unmarked r initialize ≡ false
unfolding class_of
initialize-marked r = refl

reading-marked : (r : Residue) → unmarked r read_result ≡ false
unfolding class_of
reading-marked r = refl

named-or-none : (b c : Bool) → (not b || c) ≡ true → not (b && not c) ≡ true
named-or-none true true h = refl
named-or-none true false h = cc
named-or-none false c h = refl

module _ (r : Residue) (t : Target) (ok : Valid r t) (fits : FitsProfile r t) where
  abbrev is_marked : Called → Bool
  is_marked c = not (unmarked r c)

  side-marked : (v : Value) → list_all is_marked (reading v) ≡ true
  side-marked v = by (is_constant v)
    where
      by : (b : Bool) → list_all is_marked (if b then [] else (read_result ∷ [])) ≡ true
      by true = refl
      by false = ap (λ b. not b && true) (reading-marked r)

  output-marked : (c : Class) (args : List (Ty × Val)) → Among (all_items r) (item.Output c args) → unmarked r (called (record_name c) ty.Void (types_of args)) ≡ false
  output-marked c args a =
      ap (λ o. passes o is_measure && not (is_named r.irreversible (record_name c)))
      (class-is r t ok (item.Output c args) (called (record_name c) ty.Void (types_of args)) c a (0, refl) (item-declared r t ok (item.Output c args) a))
      ∙ ap (λ b. b && not (is_named r.irreversible (record_name c))) (not-false (is_measure c) (record-passes (λ c. not (is_measure c)) refl c (types_of args) (record-known r t ok c args a)))

  calls-marked : (x : Item) → Among (all_items r) x → list_all is_marked (calls_of x) ≡ true
  calls-marked (item.Binary d o g w a b) k = refl
  calls-marked (item.Icmp d o w a b) k = refl
  calls-marked (item.Convert d o w a to) k = refl
  calls-marked (item.Select d w c a b) k = refl
  calls-marked (item.Read d v) k = ap (λ b. not b && true) (reading-marked r)
  calls-marked (item.Equal d v u) k = all-both is_marked (reading v) (reading u) (side-marked v) (side-marked u)
  calls-marked (item.Operation name args) k =
      ap (λ b. b && true)
      (named-or-none (passes (class_of name (signature ty.Void (types_of args))) is_measure) (is_named r.irreversible name)
      (passes-here (measurement_named r.irreversible) (all_items r) k.0 (item.Operation name args) fits.measurements k.1))
  calls-marked (item.Output c args) k = ap (λ b. not b && true) (output-marked c args k)

  declared-marked : list_all is_marked (declared_of r) ≡ true
  declared-marked =
      uses-pass is_marked (calls_of_residue r) (initialize ∷ []) (ap (λ b. not b && true) (initialize-marked r))
      (all-flat is_marked calls_of (all_items r) (all-each (λ x. list_all is_marked (calls_of x)) (all_items r) (λ i x s. calls-marked x (i, s))))

  -- so no declaration breaks the rule
  pub measurement-marked : (n : ℕ) (c : Called) → slice_get (declared_of r) n ≡ Some c → not (is_unmarked_measurement (printed_entry r t) (suc n) (declaration r.irreversible c)) ≡ true
  measurement-marked n c s =
      ap (λ b. not ((passes (declared_class (declaration r.irreversible c)) is_measure && not b) && calls_function (printed_entry r t) (suc n))) (marked r t ok c)
      ∙ ap (λ o. not ((passes o is_measure && not (is_named r.irreversible c.name)) && calls_function (printed_entry r t) (suc n))) (declared-class r.irreversible c)
      ∙ ap (λ b. not (b && calls_function (printed_entry r t) (suc n))) (not-false (unmarked r c) (passes-here is_marked (declared_of r) n c declared-marked s))

-- ---- Base

module _ (r : Residue) (ok : Valid r Base) (fits : FitsProfile r Base) where
  returns : (x : Tail) → base_permits_tail x ≡ true → is_return (print_tail (words r) x) ≡ true
  returns (tail.Return a) h = refl
  returns (tail.Jump j) h = cc
  returns (tail.Branch a j i) h = cc
  returns (tail.Switch w a j cases) h = cc

  chain : (p : Part) → is_return (print_tail (words r) p.tail) ≡ true → is_chain (base_blocks r (p ∷ [])) ≡ true
  chain p h = h

  -- the four blocks are one chain that ends in a return
  blocks-chained : not (has_other_blocks form.Strict (printed_entry r Base)) ≡ true
  blocks-chained =
      let one = one-part r ok in
      let tails = (and_parts (list_all base_permits (all_items r)) (all_tails base_permits_tail r) ok.permits).1 in
      ap (λ ps. not (not ((length (base_blocks r ps) == 4) && is_chain (base_blocks r ps)))) one.1
      ∙ ap (λ b. not (not b)) (chain one.0 (returns one.0.tail (passes-here (λ p. base_permits_tail p.tail) r.parts 0 one.0 tails (ap (λ ps. slice_get ps 0) one.1))))

  pub base-module : list_all (λ x. not x.1) (base_rules form.Strict (printed r Base) 0 (printed_entry r Base)).on_module ≡ true
  base-module = refl

  pub base-entry : FunctionPasses (base_rules form.Strict (printed r Base) 0 (printed_entry r Base)) r Base 0 (printed_entry r Base)
  base-entry = both _ _ refl (both _ _ refl (both _ _ refl (both _ _ refl (both _ _ blocks-chained (both _ _ refl (both _ _ refl refl))))))

  pub base-declared : (n : ℕ) (c : Called) → slice_get (declared_of r) n ≡ Some c → FunctionPasses (base_rules form.Strict (printed r Base) 0 (printed_entry r Base)) r Base (suc n) (declaration r.irreversible c)
  base-declared n c s =
      both _ _ (not-entry n _) (both _ _ (not-entry n _) (both _ _ (not-entry n _) (both _ _ (not-both (not (suc n == 0))) (both _ _ (not-entry n _) (both _ _ (not-entry n _)
      (both _ _ (measurement-marked r Base ok fits n c s) refl))))))

-- ---- Adaptive

module _ (r : Residue) (caps : Caps) where
  pub adaptive-module : list_all (λ x. not x.1) (adaptive_rules (printed r (Adaptive caps)) 0).on_module ≡ true
  adaptive-module = refl

  pub adaptive-entry : FunctionPasses (adaptive_rules (printed r (Adaptive caps)) 0) r (Adaptive caps) 0 (printed_entry r (Adaptive caps))
  adaptive-entry = refl

  no-body : (b c : Bool) → not ((b && false) && c) ≡ true
  no-body true c = refl
  no-body false c = refl

  pub adaptive-declared : (n : ℕ) (c : Called) → slice_get (declared_of r) n ≡ Some c → FunctionPasses (adaptive_rules (printed r (Adaptive caps)) 0) r (Adaptive caps) (suc n) (declaration r.irreversible c)
  adaptive-declared n c s =
      both _ _ (not-entry n _) (both _ _ (not-entry n _) (both _ _ (not-entry n _)
      (both _ _ (no-body (not (suc n == 0)) (not (is_on functions_key (printed r (Adaptive caps))))) refl)))
