-- Rules on calls: which calls of the entry are to be tested, so that no step of it breaks the rule.
use Rattle.std.proofs.Common.{◌≡◌, ℕ, Bool, true, false, not, ◌&&◌, Option, None, Some, List, [], ◌∷◌, refl, ap, ◌∙◌}
use Rattle.std.proofs.lemmas.Bool.{and_parts}
use Rattle.std.specs.List.{list_all}
use Rattle.std.specs.Prelude.{slice_get}
use Rattle.ir_module.specs.Steps.{Step, InstAt, step_in}
use Rattle.ir_values.specs.declared.class.Class.{Class}
use Rattle.ir_values.specs.declared.class.Class.TheVariants as class
use Rattle.ir_values.specs.declared.ty.Ty.{Ty}
use Rattle.ir_values.specs.declared.value.Value.{Value}
use Rattle.ir_values.specs.declared.value.Value.TheVariants as value
use Rattle.kept_items.specs.declared.item.Item.{Item}
use Rattle.kept_items.specs.declared.item.Item.TheVariants as item
use Rattle.kept_items.specs.declared.target.Target.{Target}
use Rattle.kept_items.specs.declared.target.Target.TheVariants.{Base, Adaptive}
use Rattle.kept_items.specs.declared.val.Val.{Val}
use Rattle.kept_items.specs.Targets.{is_base}
use Rattle.profile_rules.specs.Calls.{Call, at_call, call_of, calls_class, is_init, passes}
use Rattle.profile_rules.specs.Shared.{is_first_of_entry}
use Rattle.residue.specs.declared.parts.Residue.{Residue}
use Rattle.residue.specs.Functions.{all_items, is_constant, read_name, record_name, types_of}
use Rattle.residue.specs.Instructions.{instructions}
use Rattle.residue.specs.Printed.{print_blocks, printed, words}
use Rattle.residue.specs.Valid.{Valid, all_tails, base_permits, base_permits_tail, output_known, recorded_type, takes_types}
use Rattle.printed_residue.specs.Places.{in_entry}
use Rattle.printed_residue.proofs.Calls.{Declares, measures, op_class}
use Rattle.printed_residue.proofs.Declared.{Among}
use Rattle.printed_residue.proofs.Facts.{passes-here}
use Rattle.printed_residue.proofs.Lines.{item-declared}
use Rattle.printed_residue.proofs.Running.{ReadDeclared}
use Rattle.numbered_residue.proofs.Forms.{equal-passes}
use Rattle.numbered_residue.proofs.Shared.{not-false}
use Rattle.profiled_residue.proofs.Called.{call_named, class-called, class-initialized, initialization, reading}
use Rattle.profiled_residue.proofs.Located.{InBlock, steps-pass}

-- what is to be shown of a test of calls, which is true of the bad ones, by the block and the index where a call stands
pub record GoodCalls (r : Residue) (t : Target) (bad : ℕ → ℕ → Call → Bool) : Type 0 where
  pub start : bad 0 0 initialization ≡ false
  pub read : is_base t ≡ false → (n i : ℕ) (v : Value) → Declares (printed r t) ((words r).function read_name) read_name class.Read → bad n i (reading r v) ≡ false
  pub operation : (n i : ℕ) (name : List ℕ) (args : List (Ty × Val)) → Among (all_items r) (item.Operation name args) → InBlock r t n (item.Operation name args)
      → Declares (printed r t) ((words r).function name) name (op_class (measures args)) → bad n i (call_named r name args) ≡ false
  pub output : (n i : ℕ) (c : Class) (args : List (Ty × Val)) → Among (all_items r) (item.Output c args) → InBlock r t n (item.Output c args)
      → Declares (printed r t) ((words r).function (record_name c)) (record_name c) c → bad n i (call_named r (record_name c) args) ≡ false

side-declared : (r : Residue) (t : Target) (v : Value) → is_constant v ≡ false → ReadDeclared (printed r t) (words r) v → Declares (printed r t) ((words r).function read_name) read_name class.Read
side-declared r t value.One e d = cc
side-declared r t value.Zero e d = cc
side-declared r t (value.Int i) e d = d
side-declared r t (value.Double i) e d = d
side-declared r t (value.Id i) e d = d
side-declared r t (value.Alloc i) e d = d
side-declared r t (value.Measured i) e d = d
side-declared r t (value.Label i) e d = d
side-declared r t value.NoLabel e d = d
side-declared r t (value.Func i) e d = d

-- ---- what Base permits

pub base-permits : (r : Residue) → Valid r Base → (x : Item) → Among (all_items r) x → base_permits x ≡ true
base-permits r ok x a = passes-here base_permits (all_items r) a.0 x (and_parts (list_all base_permits (all_items r)) (all_tails base_permits_tail r) ok.permits).0 a.1

module _ (r : Residue) (t : Target) (ok : Valid r t) where
  -- items that Base doesn't permit are of another target
  not-base : (x : Item) → Among (all_items r) x → base_permits x ≡ false → is_base t ≡ false
  not-base x a e = by t ok
    where
      clash : (b : Bool) → b ≡ true → b ≡ false → true ≡ false
      clash true h g = g
      clash false h g = cc

      by : (t : Target) → Valid r t → is_base t ≡ false
      by Base ok = clash (base_permits x) (base-permits r ok x a) e
      by (Adaptive caps) ok = refl

  module _ (bad : ℕ → ℕ → Call → Bool) (h : GoodCalls r t bad) where
    abbrev good : ℕ → ℕ → Step → Bool
    good n i s = not (at_call s (bad n i))

    one : (b : Bool) → b ≡ false → (not b && true) ≡ true
    one b e = ap (λ x. not x && true) e

    item-good : (n i : ℕ) (x : Item) → Among (all_items r) x → InBlock r t n x → (m : ℕ) → list_all (λ c. good n i (InstAt c)) (instructions (words r) m x) ≡ true
    item-good n i (item.Binary d o g w a b) k s m = refl
    item-good n i (item.Icmp d o w a b) k s m = refl
    item-good n i (item.Convert d o w a to) k s m = refl
    item-good n i (item.Select d w c a b) k s m = refl
    item-good n i (item.Read d v) k s m = one (bad n i (reading r v)) (h.read (not-base (item.Read d v) k refl) n i v (item-declared r t ok (item.Read d v) k))
    item-good n i (item.Equal d v u) k s m =
        let other = not-base (item.Equal d v u) k refl in
        let is = item-declared r t ok (item.Equal d v u) k in
        equal-passes (λ c. good n i (InstAt c)) (words r) m d v u
        (λ z. ap not (h.read other n i v (side-declared r t v z is.0)))
        (λ z. ap not (h.read other n i u (side-declared r t u z is.1))) refl
    item-good n i (item.Operation name args) k s m = one (bad n i (call_named r name args)) (h.operation n i name args k s (item-declared r t ok (item.Operation name args) k))
    item-good n i (item.Output c args) k s m = one (bad n i (call_named r (record_name c) args)) (h.output n i c args k s (item-declared r t ok (item.Output c args) k))

    -- no call of the entry is bad
    pub calls-good : (n i : ℕ) → not (at_call (step_in (slice_get (print_blocks r t) n) i) (bad n i)) ≡ true
    calls-good = steps-pass r t good ok (record {
      none = λ n i. refl;
      start = ap not h.start;
      item = item-good;
      tail = λ n i q p s e. refl;
      phi = λ z n i p s k x g es. refl;
      leads = λ e n i lt. refl;
    })

-- a test of calls beside one of the place
pub at-call-and : (s : Step) (test : Call → Bool) (b : Bool) → (at_call s test && b) ≡ at_call s (λ c. test c && b)
at-call-and s test b = by (call_of s)
  where
    by : (o : Option Call) → (passes o test && b) ≡ passes o (λ c. test c && b)
    by None = refl
    by (Some c) = refl

-- ---- classes of what items call

abbrev pub record_classes : List Class
record_classes = class.Tuple ∷ class.Array ∷ class.ResRecord ∷ class.BoolRecord ∷ class.IntRecord ∷ class.DoubleRecord ∷ []

-- what the six classes pass, every output passes
pub record-passes : (test : Class → Bool) → list_all test record_classes ≡ true → (c : Class) (ts : List Ty) → takes_types (recorded_type c) ts ≡ true → test c ≡ true
record-passes test h class.Tuple ts t = passes-here test record_classes 0 class.Tuple h refl
record-passes test h class.Array ts t = passes-here test record_classes 1 class.Array h refl
record-passes test h class.ResRecord ts t = passes-here test record_classes 2 class.ResRecord h refl
record-passes test h class.BoolRecord ts t = passes-here test record_classes 3 class.BoolRecord h refl
record-passes test h class.IntRecord ts t = passes-here test record_classes 4 class.IntRecord h refl
record-passes test h class.DoubleRecord ts t = passes-here test record_classes 5 class.DoubleRecord h refl
record-passes test h c ts t = cc

pub record-known : (r : Residue) (t : Target) → Valid r t → (c : Class) (args : List (Ty × Val)) → Among (all_items r) (item.Output c args) → takes_types (recorded_type c) (types_of args) ≡ true
record-known r t ok c args a = passes-here output_known (all_items r) a.0 (item.Output c args) ok.outputs a.1

-- what gates and measurements answer, every operation answers
pub operation-answers : (test : Class → Bool) (v : Bool) → test class.Gate ≡ v → test class.Measure ≡ v → (b : Bool) → test (op_class b) ≡ v
operation-answers test v g h true = h
operation-answers test v g h false = g

-- ---- initialisation, in both profiles

module _ (r : Residue) (t : Target) (ok : Valid r t) where
  abbrev initializes : ℕ → ℕ → Call → Bool
  initializes n i c = calls_class (printed r t) is_init c && not (is_first_of_entry 0 (in_entry n i))

  -- the entry initialises by its first instruction, and by no other
  pub initializes-first : (n i : ℕ) → not (at_call (step_in (slice_get (print_blocks r t) n) i) (calls_class (printed r t) is_init) && not (is_first_of_entry 0 (in_entry n i))) ≡ true
  initializes-first n i =
      ap not (at-call-and (step_in (slice_get (print_blocks r t) n) i) (calls_class (printed r t) is_init) (not (is_first_of_entry 0 (in_entry n i))))
      ∙ calls-good r t ok initializes (record {
        start = ap (λ b. b && false) (class-initialized r t is_init);
        read = λ z n i v d. ap (λ b. b && not (is_first_of_entry 0 (in_entry n i))) (class-called r t ((words r).function read_name) (reading r v).args read_name class.Read is_init d);
        operation = λ n i name args a s d. ap (λ b. b && not (is_first_of_entry 0 (in_entry n i))) (class-called r t ((words r).function name) (call_named r name args).args name (op_class (measures args)) is_init d ∙ operation-answers is_init false refl refl (measures args));
        output = λ n i c args a s d. ap (λ b. b && not (is_first_of_entry 0 (in_entry n i))) (class-called r t ((words r).function (record_name c)) (call_named r (record_name c) args).args (record_name c) c is_init d ∙ not-false (is_init c) (record-passes (λ c. not (is_init c)) refl c (types_of args) (record-known r t ok c args a)));
      }) n i
