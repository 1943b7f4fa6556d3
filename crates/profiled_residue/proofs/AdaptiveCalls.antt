-- The rules of the Adaptive Profile on calls: what is called, and with which arguments.
use Rattle.std.proofs.Common.{◌≡◌, ℕ, suc, Bool, true, false, not, ◌&&◌, List, [], ◌∷◌, map, refl, ap, ◌∙◌, arith}
use Rattle.std.proofs.lemmas.Bool.{and_parts}
use Rattle.std.specs.List.{list_all, list_any}
use Rattle.std.specs.Prelude.{◌||◌, nat_lt, slice_get}
use Rattle.ir_module.specs.declared.tree.Function.{Function}
use Rattle.ir_module.specs.declared.tree.Module.{Module}
use Rattle.ir_module.specs.declared.tree.Operand.{Operand}
use Rattle.ir_module.specs.Steps.{step_in}
use Rattle.ir_values.specs.declared.class.Class.{Class}
use Rattle.ir_values.specs.declared.class.Class.TheVariants as class
use Rattle.ir_values.specs.declared.int.Width.{Width}
use Rattle.ir_values.specs.declared.ty.Ty.{Ty}
use Rattle.ir_values.specs.declared.ty.Ty.TheVariants as ty
use Rattle.ir_values.specs.declared.value.Value.{Value}
use Rattle.kept_items.specs.declared.item.Item.TheVariants as item
use Rattle.kept_items.specs.declared.target.Caps.{Caps}
use Rattle.kept_items.specs.declared.target.Target.TheVariants.{Adaptive}
use Rattle.kept_items.specs.declared.val.Val.{Val}
use Rattle.kept_items.specs.declared.val.Val.TheVariants.{Known, Dynamic}
use Rattle.profile_rules.specs.Adaptive.{callee_number, calls_other_function, first_of, integers_key, is_adaptive_class, is_fixed, is_function_type, is_handle, is_label_or_double, is_on, passes_computed_handle, passes_computed_label, records_integer}
use Rattle.profile_rules.specs.Calls.{Call, at_call, calls_body, calls_class, has_count, is_int_record}
use Rattle.residue.specs.declared.parts.Residue.{Residue}
use Rattle.residue.specs.Functions.{all_items, declared_of, place_among, read_name, record_name, types_of}
use Rattle.residue.specs.Instructions.{Words, operand_of, typed_operand}
use Rattle.residue.specs.Printed.{print_blocks, printed, printed_entry, words}
use Rattle.residue.specs.Scopes.{gives_of}
use Rattle.residue.specs.Valid.{Valid, first_known, recorded_type, takes_types, val_has}
use Rattle.residue.specs.Valid as valid
use Rattle.printed_residue.proofs.Calls.{Declares, measures, op_class}
use Rattle.printed_residue.proofs.Declared.{Among, fits}
use Rattle.numbered_residue.proofs.Forms.{item-uses-pass}
use Rattle.numbered_residue.proofs.Shared.{below}
use Rattle.profiled_residue.proofs.Called.{call_named, class-called, class-initialized, initialization, reading}
use Rattle.profiled_residue.proofs.CallRules.{at-call-and, calls-good, operation-answers, record-known, record-passes}
use Rattle.profiled_residue.proofs.Flags.{integers-on}
use Rattle.profiled_residue.proofs.Permitted.{item-permitted}

-- ---- classes

integer-permitted : (c : Class) (ints on : Bool) → on ≡ ints → (ints || not (valid.is_int_record c)) ≡ true → (is_int_record c && not on) ≡ false
integer-permitted class.IntRecord true on e h = ap not e
integer-permitted class.IntRecord false on e h = cc
integer-permitted c ints on e h = refl

none : (a b : Bool) → a ≡ false → b ≡ false → (a || b) ≡ false
none a b h g = ap (λ x. x || b) h ∙ g

-- a call of the entry, which has number 0
abbrev pub calls_entry : Call → Bool
calls_entry c = list_any (λ g. not (nat_lt 0 g)) (callee_number c.callee)

-- ---- arguments

module _ (f : Function) (ws : Words) (widths : List (ℕ × Width)) where
  abbrev computed_handle : Ty × Operand → Bool
  computed_handle a = is_function_type a.0 || (is_handle a.0 && not (is_fixed true f a.1))

  abbrev computed_label : Ty × Operand → Bool
  computed_label a = is_label_or_double a.0 && not (is_fixed true f a.1)

  -- qubits and results are known, and no argument is a function
  handle-known : (u : Ty) (a : Val) → val_has widths u a ≡ true → computed_handle (u, operand_of ws a) ≡ false
  handle-known (ty.Func us) (Known v) h = cc
  handle-known (ty.Func us) (Dynamic d) h = cc
  handle-known ty.Qubit (Known v) h = refl
  handle-known ty.Qubit (Dynamic d) h = cc
  handle-known ty.Res (Known v) h = refl
  handle-known ty.Res (Dynamic d) h = cc
  handle-known ty.Void a h = refl
  handle-known (ty.Int w) a h = refl
  handle-known ty.Double a h = refl
  handle-known ty.Text a h = refl

  -- labels and doubles are known
  label-known : (u : Ty) (a : Val) → val_has widths u a ≡ true → computed_label (u, operand_of ws a) ≡ false
  label-known ty.Text (Known v) h = refl
  label-known ty.Text (Dynamic d) h = cc
  label-known ty.Double (Known v) h = refl
  label-known ty.Double (Dynamic d) h = cc
  label-known ty.Qubit a h = refl
  label-known ty.Res a h = refl
  label-known ty.Void a h = refl
  label-known (ty.Int w) a h = refl
  label-known (ty.Func us) a h = refl

  -- no argument is bad where none of its type is
  no-argument : (bad : Ty × Operand → Bool) → ((u : Ty) (a : Val) → val_has widths u a ≡ true → bad (u, operand_of ws a) ≡ false) → (args : List (Ty × Val)) → list_all (fits widths) args ≡ true → list_any bad (map (typed_operand ws) args) ≡ false
  no-argument bad h [] g = refl
  no-argument bad h (a ∷ args) g =
      let p = and_parts (fits widths a) (list_all (fits widths) args) g in
      none (bad (a.0, operand_of ws a.1)) (list_any bad (map (typed_operand ws) args)) (h a.0 a.1 p.0) (no-argument bad h args p.1)

  -- the count stands first
  first-fixed : (args : List (Ty × Val)) → first_known args ≡ true → list_any (λ (a : Ty × Operand). not (is_fixed true f a.1)) (first_of (map (typed_operand ws) args)) ≡ false
  first-fixed [] h = refl
  first-fixed (a ∷ args) h = by a.1 h
    where
      by : (v : Val) → valid.is_known v ≡ true → (not (is_fixed true f (operand_of ws v)) || false) ≡ false
      by (Known v) h = refl
      by (Dynamic d) h = cc

  count-fixed : (c : Class) (args : List (Ty × Val)) → (not (valid.has_count c) || first_known args) ≡ true → (has_count c && list_any (λ (a : Ty × Operand). not (is_fixed true f a.1)) (first_of (map (typed_operand ws) args))) ≡ false
  count-fixed class.Tuple args h = first-fixed args h
  count-fixed class.Array args h = first-fixed args h
  count-fixed c args h = refl

module _ (r : Residue) (caps : Caps) (ok : Valid r (Adaptive caps)) where
  abbrev m : Module
  m = printed r (Adaptive caps)

  abbrev f : Function
  f = printed_entry r (Adaptive caps)

  read-class : (v : Value) (test : Class → Bool) → Declares m ((words r).function read_name) read_name class.Read → calls_class m test (reading r v) ≡ test class.Read
  read-class v test d = class-called r (Adaptive caps) ((words r).function read_name) (reading r v).args read_name class.Read test d

  named-class : (name : List ℕ) (args : List (Ty × Val)) (c : Class) (test : Class → Bool) → Declares m ((words r).function name) name c → calls_class m test (call_named r name args) ≡ test c
  named-class name args c test d = class-called r (Adaptive caps) ((words r).function name) (call_named r name args).args name c test d

  output-permits : (c : Class) (args : List (Ty × Val)) → Among (all_items r) (item.Output c args) → ((not (valid.has_count c) || first_known args) ≡ true) × ((caps.ints || not (valid.is_int_record c)) ≡ true)
  output-permits c args a = and_parts (not (valid.has_count c) || first_known args) (caps.ints || not (valid.is_int_record c)) (item-permitted r caps ok (item.Output c args) a)

  -- ---- only functions of the profile are called

  or-true : (b c : Bool) → c ≡ true → not (b || c) ≡ false
  or-true true c h = refl
  or-true false c h = ap not h

  pub calls-known : (n i : ℕ) → not (calls_other_function m (step_in (slice_get (print_blocks r (Adaptive caps)) n) i)) ≡ true
  calls-known = calls-good r (Adaptive caps) ok (λ n i c. not (calls_body m c || calls_class m is_adaptive_class c)) (record {
    start = or-true (calls_body m initialization) (calls_class m is_adaptive_class initialization) (class-initialized r (Adaptive caps) is_adaptive_class);
    read = λ z n i v d. or-true (calls_body m (reading r v)) (calls_class m is_adaptive_class (reading r v)) (read-class v is_adaptive_class d);
    operation = λ n i name args a s d. or-true (calls_body m (call_named r name args)) (calls_class m is_adaptive_class (call_named r name args)) (named-class name args (op_class (measures args)) is_adaptive_class d ∙ operation-answers is_adaptive_class true refl refl (measures args));
    output = λ n i c args a s d. or-true (calls_body m (call_named r (record_name c) args)) (calls_class m is_adaptive_class (call_named r (record_name c) args)) (named-class (record_name c) args c is_adaptive_class d ∙ record-passes is_adaptive_class refl c (types_of args) (record-known r (Adaptive caps) ok c args a));
  })

  -- ---- integers are recorded only with integer computations

  abbrev off : Bool
  off = not (is_on integers_key m)

  pub integers-recorded : (n i : ℕ) → not (records_integer m (step_in (slice_get (print_blocks r (Adaptive caps)) n) i) && not (is_on integers_key m)) ≡ true
  integers-recorded n i =
      ap not (at-call-and (step_in (slice_get (print_blocks r (Adaptive caps)) n) i) (calls_class m is_int_record) off)
      ∙ calls-good r (Adaptive caps) ok (λ n i c. calls_class m is_int_record c && off) (record {
        start = ap (λ b. b && off) (class-initialized r (Adaptive caps) is_int_record);
        read = λ z n i v d. ap (λ b. b && off) (read-class v is_int_record d);
        operation = λ n i name args a s d. ap (λ b. b && off) (named-class name args (op_class (measures args)) is_int_record d ∙ operation-answers is_int_record false refl refl (measures args));
        output = λ n i c args a s d. ap (λ b. b && off) (named-class (record_name c) args c is_int_record d) ∙ integer-permitted c caps.ints (is_on integers_key m) (integers-on r caps) (output-permits c args a).1;
      }) n i

  -- ---- arguments are known

  pub handles-known : (n i : ℕ) → not (passes_computed_handle true f (step_in (slice_get (print_blocks r (Adaptive caps)) n) i)) ≡ true
  handles-known = calls-good r (Adaptive caps) ok (λ n i c. list_any (λ (a : Ty × Operand). is_function_type a.0 || (is_handle a.0 && not (is_fixed true f a.1))) c.args) (record {
    start = refl;
    read = λ z n i v d. refl;
    operation = λ n i name args a s d. no-argument f (words r) (gives_of r) (computed_handle f (words r) (gives_of r)) (handle-known f (words r) (gives_of r)) args (item-uses-pass (fits (gives_of r)) r (item.Operation name args) ok.types a);
    output = λ n i c args a s d. no-argument f (words r) (gives_of r) (computed_handle f (words r) (gives_of r)) (handle-known f (words r) (gives_of r)) args (item-uses-pass (fits (gives_of r)) r (item.Output c args) ok.types a);
  })

  abbrev bad_label : Call → Bool
  bad_label c =
      list_any (λ (a : Ty × Operand). is_label_or_double a.0 && not (is_fixed true f a.1)) c.args
      || (calls_class m has_count c && list_any (λ (a : Ty × Operand). not (is_fixed true f a.1)) (first_of c.args))

  arguments-good : (args : List (Ty × Val)) → list_all (fits (gives_of r)) args ≡ true → list_any (λ (a : Ty × Operand). is_label_or_double a.0 && not (is_fixed true f a.1)) (map (typed_operand (words r)) args) ≡ false
  arguments-good args h = no-argument f (words r) (gives_of r) (computed_label f (words r) (gives_of r)) (label-known f (words r) (gives_of r)) args h

  pub labels-known : (n i : ℕ) → not (passes_computed_label m true f (step_in (slice_get (print_blocks r (Adaptive caps)) n) i)) ≡ true
  labels-known = calls-good r (Adaptive caps) ok (λ n i c. bad_label c) (record {
    start = ap (λ b. b && false) (class-initialized r (Adaptive caps) has_count);
    read = λ z n i v d. ap (λ b. b && false) (read-class v has_count d);
    operation = λ n i name args a s d. none (list_any (λ (a : Ty × Operand). is_label_or_double a.0 && not (is_fixed true f a.1)) (map (typed_operand (words r)) args)) (calls_class m has_count (call_named r name args) && list_any (λ (a : Ty × Operand). not (is_fixed true f a.1)) (first_of (map (typed_operand (words r)) args)))
        (arguments-good args (item-uses-pass (fits (gives_of r)) r (item.Operation name args) ok.types a))
        (ap (λ b. b && list_any (λ (a : Ty × Operand). not (is_fixed true f a.1)) (first_of (map (typed_operand (words r)) args))) (named-class name args (op_class (measures args)) has_count d ∙ operation-answers has_count false refl refl (measures args)));
    output = λ n i c args a s d. none (list_any (λ (a : Ty × Operand). is_label_or_double a.0 && not (is_fixed true f a.1)) (map (typed_operand (words r)) args)) (calls_class m has_count (call_named r (record_name c) args) && list_any (λ (a : Ty × Operand). not (is_fixed true f a.1)) (first_of (map (typed_operand (words r)) args)))
        (arguments-good args (item-uses-pass (fits (gives_of r)) r (item.Output c args) ok.types a))
        (ap (λ b. b && list_any (λ (a : Ty × Operand). not (is_fixed true f a.1)) (first_of (map (typed_operand (words r)) args))) (named-class (record_name c) args c has_count d) ∙ count-fixed f (words r) (gives_of r) c args (output-permits c args a).0);
  })

  -- ---- the entry is not called

  declared-later : (name : List ℕ) → (not (nat_lt 0 (suc (place_among (declared_of r) name))) || false) ≡ false
  declared-later name = ap (λ b. not b || false) (below 0 (suc (place_among (declared_of r) name)) (omega arith))

  pub entry-not-called : (n i : ℕ) → not (at_call (step_in (slice_get (print_blocks r (Adaptive caps)) n) i) calls_entry) ≡ true
  entry-not-called = calls-good r (Adaptive caps) ok (λ n i c. calls_entry c) (record {
    start = refl;
    read = λ z n i v d. declared-later read_name;
    operation = λ n i name args a s d. declared-later name;
    output = λ n i c args a s d. declared-later (record_name c);
  })
