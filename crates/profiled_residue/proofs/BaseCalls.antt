-- The rules of the Base Profile on calls: what is called, with which arguments, and in which order; and on declarations.
use Rattle.std.proofs.Common.{◌≡◌, ℕ, zero, suc, ◌<◌, Bool, true, false, not, ◌&&◌, Some, List, [], ◌∷◌, map, refl, sym, ap, ◌∙◌, arith}
use Rattle.std.proofs.lemmas.Bool.{and_parts}
use Rattle.std.specs.List.{list_any}
use Rattle.std.specs.Prelude.{◌||◌, if◌then◌else◌, slice_get}
use Rattle.ir_module.specs.declared.tree.Operand.{Operand}
use Rattle.ir_module.specs.Steps.{step_in}
use Rattle.ir_values.specs.declared.class.Class.{Class}
use Rattle.ir_values.specs.declared.class.Class.TheVariants as class
use Rattle.ir_values.specs.declared.ty.Ty.{Ty}
use Rattle.ir_values.specs.declared.ty.Ty.TheVariants as ty
use Rattle.ir_values.specs.Calls.{class_of}
use Rattle.ir_values.specs.Types.{signature}
use Rattle.kept_items.specs.declared.item.Item.{Item}
use Rattle.kept_items.specs.declared.item.Item.TheVariants as item
use Rattle.kept_items.specs.declared.target.Target.TheVariants.{Base}
use Rattle.kept_items.specs.declared.val.Val.{Val}
use Rattle.kept_items.specs.declared.val.Val.TheVariants.{Known, Dynamic}
use Rattle.profile_rules.specs.Base.{calls_other_function, fits_position, is_base_class, passes_computed_argument}
use Rattle.profile_rules.specs.Calls.{Call, at_call, calls_class, calls_irreversible, is_constant, is_gate, is_init, is_measure, is_record, passes}
use Rattle.profile_rules.specs.Walk.{branches_to, position_after, walk_position}
use Rattle.residue.specs.declared.parts.Part.{Part}
use Rattle.residue.specs.declared.parts.Residue.{Residue}
use Rattle.residue.specs.Functions.{all_items, called, is_named, record_name, types_of}
use Rattle.residue.specs.Instructions.{Words, operand_of, typed_operand}
use Rattle.residue.specs.Phases.{phase_of}
use Rattle.residue.specs.Printed.{base_blocks, print_blocks, printed, printed_entry, words}
use Rattle.residue.specs.Valid.{Valid, all_known, is_base_record, is_known}
use Rattle.printed_residue.proofs.Calls.{Declares, measures, op_class}
use Rattle.printed_residue.proofs.Declared.{Among}
use Rattle.printed_residue.proofs.Facts.{passes-here}
use Rattle.printed_residue.proofs.Lines.{item-declared}
use Rattle.printed_residue.proofs.Rising.{phase-few}
use Rattle.profiled_residue.specs.Premises.{FitsProfile, measurement_named}
use Rattle.profiled_residue.proofs.Called.{call_named, class-called, class-initialized, class-is, initialization, irreversible-called}
use Rattle.profiled_residue.proofs.CallRules.{base-permits, calls-good, operation-answers}
use Rattle.profiled_residue.proofs.Located.{one-part}

-- ---- what Base permits is of the profile

record-is-base : (c : Class) → is_base_record c ≡ true → is_base_class c ≡ true
record-is-base class.Tuple h = refl
record-is-base class.Array h = refl
record-is-base class.ResRecord h = refl
record-is-base c h = cc

record-is-record : (c : Class) → is_base_record c ≡ true → is_record c ≡ true
record-is-record class.Tuple h = refl
record-is-record class.Array h = refl
record-is-record class.ResRecord h = refl
record-is-record c h = cc

-- known values are constants
all-constant : (ws : Words) (args : List (Ty × Val)) → all_known args ≡ true → list_any (λ (a : Ty × Operand). not (is_constant a.1)) (map (typed_operand ws) args) ≡ false
all-constant ws [] h = refl
all-constant ws (a ∷ args) h =
    let p = and_parts (is_known a.1) (all_known args) h in
    ap (λ b. b || list_any (λ (a : Ty × Operand). not (is_constant a.1)) (map (typed_operand ws) args)) (known a.1 p.0) ∙ all-constant ws args p.1
  where
    known : (a : Val) → is_known a ≡ true → not (is_constant (operand_of ws a)) ≡ false
    known (Known v) h = refl
    known (Dynamic d) h = cc

-- the walk meets the four blocks in order
position : (r : Residue) (p : Part) (n : ℕ) → n < 4 → position_after (branches_to (base_blocks r (p ∷ [])) n) ≡ suc n
position r p zero lt = refl
position r p (suc zero) lt = refl
position r p (suc (suc zero)) lt = refl
position r p (suc (suc (suc zero))) lt = refl
position r p (suc (suc (suc (suc n)))) lt = absurd (omega (arith, lt))

module _ (r : Residue) (ok : Valid r Base) (fits : FitsProfile r Base) where
  output-permits : (c : Class) (args : List (Ty × Val)) → Among (all_items r) (item.Output c args) → (is_base_record c ≡ true) × (all_known args ≡ true)
  output-permits c args a = and_parts (is_base_record c) (all_known args) (base-permits r ok (item.Output c args) a)

  -- ---- only functions of the profile are called

  pub calls-known : (n i : ℕ) → not (calls_other_function (printed r Base) (step_in (slice_get (print_blocks r Base) n) i)) ≡ true
  calls-known = calls-good r Base ok (λ n i c. not (calls_class (printed r Base) is_base_class c)) (record {
    start = ap not (class-initialized r Base is_base_class);
    read = λ z n i v d. cc;
    operation = λ n i name args a s d. ap not (class-called r Base ((words r).function name) (call_named r name args).args name (op_class (measures args)) is_base_class d ∙ operation-answers is_base_class true refl refl (measures args));
    output = λ n i c args a s d. ap not (class-called r Base ((words r).function (record_name c)) (call_named r (record_name c) args).args (record_name c) c is_base_class d ∙ record-is-base c (output-permits c args a).0);
  })

  -- ---- all arguments are constants

  pub arguments-known : (n i : ℕ) → not (passes_computed_argument (step_in (slice_get (print_blocks r Base) n) i)) ≡ true
  arguments-known = calls-good r Base ok (λ n i c. list_any (λ a. not (is_constant a.1)) c.args) (record {
    start = refl;
    read = λ z n i v d. cc;
    operation = λ n i name args a s d. all-constant (words r) args (base-permits r ok (item.Operation name args) a);
    output = λ n i c args a s d. all-constant (words r) args (output-permits c args a).1;
  })

  -- ---- the order of calls

  walk-is : (n : ℕ) → n < 4 → walk_position (printed_entry r Base) n ≡ suc n
  walk-is n lt =
      let one = one-part r ok in
      ap (λ ps. position_after (branches_to (base_blocks r ps) n)) one.1 ∙ position r one.0 n lt

  abbrev fits_block : ℕ → Call → Bool
  fits_block n c = fits_position (printed r Base) (walk_position (printed_entry r Base) n) c

  -- where a call of an item stands, by the item's phase
  by-phase : (n k : ℕ) (x : Item) (c : Call) → phase_of r.irreversible x ≡ n → phase_of r.irreversible x ≡ k → fits_position (printed r Base) (suc k) c ≡ true → not (fits_block n c) ≡ false
  by-phase n k x c e f h =
      let few = (phase-few r.irreversible x).1 in
      ap (λ m. not (fits_position (printed r Base) m c)) (walk-is n (omega (arith, few, e)) ∙ ap suc (sym e ∙ f)) ∙ ap not h

  operation-class : (name : List ℕ) (args : List (Ty × Val)) → (a : Among (all_items r) (item.Operation name args)) → class_of name (signature ty.Void (types_of args)) ≡ Some (op_class (measures args))
  operation-class name args a = class-is r Base ok (item.Operation name args) (called name ty.Void (types_of args)) (op_class (measures args)) a (0, refl) (item-declared r Base ok (item.Operation name args) a)

  -- a reversible operation is no measurement
  reversible-gate : (name : List ℕ) (args : List (Ty × Val)) → Among (all_items r) (item.Operation name args) → is_named r.irreversible name ≡ false → is_gate (op_class (measures args)) ≡ true
  reversible-gate name args a e =
      by (measures args) (operation-class name args a) (passes-here (measurement_named r.irreversible) (all_items r) a.0 (item.Operation name args) fits.measurements a.1)
    where
      by : (b : Bool) → class_of name (signature ty.Void (types_of args)) ≡ Some (op_class b) → (not (passes (class_of name (signature ty.Void (types_of args))) is_measure) || is_named r.irreversible name) ≡ true → is_gate (op_class b) ≡ true
      by false s h = refl
      by true s h = ap (λ o. not (passes o is_measure) || false) (sym s) ∙ ap (λ b. not (passes (class_of name (signature ty.Void (types_of args))) is_measure) || b) (sym e) ∙ h

  operation-fits : (n : ℕ) (name : List ℕ) (args : List (Ty × Val)) → Among (all_items r) (item.Operation name args) → phase_of r.irreversible (item.Operation name args) ≡ n
      → Declares (printed r Base) ((words r).function name) name (op_class (measures args)) → not (fits_block n (call_named r name args)) ≡ false
  operation-fits n name args a s d = by (is_named r.irreversible name) refl
    where
      kind : (test : Class → Bool) → calls_class (printed r Base) test (call_named r name args) ≡ test (op_class (measures args))
      kind test = class-called r Base ((words r).function name) (call_named r name args).args name (op_class (measures args)) test d

      irreversible : (b : Bool) → is_named r.irreversible name ≡ b → calls_irreversible (printed r Base) (call_named r name args) ≡ b
      irreversible b e = irreversible-called r Base ok name args a ∙ e

      either : (b : Bool) → ((is_gate (op_class b) && true) || is_measure (op_class b)) ≡ true
      either true = refl
      either false = refl

      by : (b : Bool) → is_named r.irreversible name ≡ b → not (fits_block n (call_named r name args)) ≡ false
      by false e =
          by-phase n 1 (item.Operation name args) (call_named r name args) s (ap (λ b. if b then 2 else 1) e)
          (ap (λ b. b && not (calls_irreversible (printed r Base) (call_named r name args))) (kind is_gate ∙ reversible-gate name args a e) ∙ ap not (irreversible false e))
      by true e =
          by-phase n 2 (item.Operation name args) (call_named r name args) s (ap (λ b. if b then 2 else 1) e)
          (ap (λ b. (calls_class (printed r Base) is_gate (call_named r name args) && b) || calls_class (printed r Base) is_measure (call_named r name args)) (irreversible true e)
          ∙ ap (λ b. (b && true) || calls_class (printed r Base) is_measure (call_named r name args)) (kind is_gate)
          ∙ ap (λ b. (is_gate (op_class (measures args)) && true) || b) (kind is_measure)
          ∙ either (measures args))

  pub calls-in-order : (n i : ℕ) → not (at_call (step_in (slice_get (print_blocks r Base) n) i) (λ c. not (fits_block n c))) ≡ true
  calls-in-order = calls-good r Base ok (λ n i c. not (fits_block n c)) (record {
    start = ap (λ k. not (fits_position (printed r Base) k initialization)) (walk-is 0 (omega arith)) ∙ ap not (class-initialized r Base is_init);
    read = λ z n i v d. cc;
    operation = λ n i name args a s d. operation-fits n name args a s d;
    output = λ n i c args a s d. by-phase n 3 (item.Output c args) (call_named r (record_name c) args) s refl
        (class-called r Base ((words r).function (record_name c)) (call_named r (record_name c) args).args (record_name c) c is_record d ∙ record-is-record c (output-permits c args a).0);
  })
