-- When a residue is valid for a target: one test for each rule.
use Rattle.std.specs.Prelude.{◌≡◌, ℕ, ◌+◌, ◌==◌, ◌^◌, ◌&&◌, ◌||◌, not, Bool, true, false, is_some, nat_eq, nat_lt, Option, None, Some, List, [], ◌∷◌, ◌++◌, length, map, slice_get}
use Rattle.std.specs.List.{list_all, list_any, starts_with}
use Rattle.ir_values.specs.declared.class.Class.{Class}
use Rattle.ir_values.specs.declared.class.Class.TheVariants as class
use Rattle.ir_values.specs.declared.int.Width.{Width}
use Rattle.ir_values.specs.declared.int.Width.TheVariants.{W1, W64}
use Rattle.ir_values.specs.declared.name.Name.{Name}
use Rattle.ir_values.specs.declared.ty.Ty.{Ty}
use Rattle.ir_values.specs.declared.ty.Ty.TheVariants as ty
use Rattle.ir_values.specs.declared.value.Value.{Value}
use Rattle.ir_values.specs.declared.value.Value.TheVariants as value
use Rattle.ir_values.specs.Arithmetic.{allows, converts}
use Rattle.ir_values.specs.Calls.{class_of, same_text, same_words}
use Rattle.ir_values.specs.Names.{instruction_prefix, name_text, quantum_prefix}
use Rattle.ir_values.specs.Types.{signature}
use Rattle.ir_values.specs.Values.{is_bit, is_bitwise, same_int, same_value, same_width}
use Rattle.ir_module.specs.Numbered.{are_distinct, are_few}
use Rattle.kept_items.specs.declared.item.Item.{Item}
use Rattle.kept_items.specs.declared.item.Item.TheVariants as item
use Rattle.kept_items.specs.declared.target.Caps.{Caps}
use Rattle.kept_items.specs.declared.target.Target.{Target}
use Rattle.kept_items.specs.declared.target.Target.TheVariants as target
use Rattle.kept_items.specs.declared.val.Dyn.{Dyn}
use Rattle.kept_items.specs.declared.val.Val.{Val}
use Rattle.kept_items.specs.declared.val.Val.TheVariants.{Known, Dynamic}
use Rattle.residue.specs.declared.parts.Jump.{Jump}
use Rattle.residue.specs.declared.parts.Part.{Part}
use Rattle.residue.specs.declared.parts.Residue.{Residue}
use Rattle.residue.specs.declared.parts.Tail.{Tail}
use Rattle.residue.specs.declared.parts.Tail.TheVariants as tail
use Rattle.residue.specs.Functions.{Called, all_items, calls_of_residue, types_of}
use Rattle.residue.specs.Phases.{phases_rise}
use Rattle.residue.specs.Printed.{names_of}
use Rattle.residue.specs.Scopes.{gives_of, item_gives, item_uses, items_of, jump_args, jumps, param_gives, part_gives, tail_uses, uses_of, width_in, written}

-- every tail passes the test
abbrev pub all_tails : (Tail → Bool) → Residue → Bool
all_tails test r = list_all (λ p. test p.tail) r.parts

-- ---- there is a part 0; every jump leads to a part in range other than part 0, and part 0 has no parameters

abbrev pub begins : List Part → Bool
begins [] = false
begins (p ∷ parts) = length p.params == 0

abbrev pub leads_on : ℕ → Jump → Bool
leads_on n j = nat_lt 0 j.to && nat_lt j.to n

abbrev pub has_start : Residue → Bool
has_start r = begins r.parts && all_tails (λ t. list_all (leads_on (length r.parts)) (jumps t)) r

-- ---- the arguments of a jump fit the parameters in number and width; two jumps of one tail to one part have equal arguments

abbrev pub value_has : Ty → Value → Bool
value_has (ty.Int w) (value.Int i) = same_width i.width w
value_has ty.Double (value.Double t) = true
value_has ty.Qubit (value.Id n) = true
value_has ty.Qubit (value.Alloc n) = true
value_has ty.Res (value.Id n) = true
value_has ty.Res (value.Measured n) = true
value_has ty.Res value.One = true
value_has ty.Res value.Zero = true
value_has ty.Text (value.Label g) = true
value_has ty.Text value.NoLabel = true
value_has t v = false

abbrev pub is_of_width : Width → Option Width → Bool
is_of_width w None = false
is_of_width w (Some v) = same_width v w

-- a value has a type, where these are the widths of the Dynamic values
abbrev pub val_has : List (ℕ × Width) → Ty → Val → Bool
val_has widths t (Known v) = value_has t v
val_has widths (ty.Int w) (Dynamic d) = is_of_width w (width_in widths d.0)
val_has widths t (Dynamic d) = false

abbrev pub args_fit : List (ℕ × Width) → List (Dyn × Width) → List Val → Bool
args_fit widths [] [] = true
args_fit widths (x ∷ params) (a ∷ args) = val_has widths (ty.Int x.1) a && args_fit widths params args
args_fit widths [] (a ∷ args) = false
args_fit widths (x ∷ params) [] = false

abbrev pub fits_part : List (ℕ × Width) → Option Part → List Val → Bool
fits_part widths None args = false
fits_part widths (Some p) args = args_fit widths p.params args

abbrev pub same_val : Val → Val → Bool
same_val (Known v) (Known u) = same_value v u
same_val (Dynamic d) (Dynamic e) = d.0 == e.0
same_val (Known v) (Dynamic e) = false
same_val (Dynamic d) (Known u) = false

abbrev pub same_vals : List Val → List Val → Bool
same_vals [] [] = true
same_vals (a ∷ as_) (b ∷ bs) = same_val a b && same_vals as_ bs
same_vals [] (b ∷ bs) = false
same_vals (a ∷ as_) [] = false

abbrev pub agrees_with : Jump → Jump → Bool
agrees_with j i = not (j.to == i.to) || same_vals j.args i.args

abbrev pub all_agree : List Jump → Bool
all_agree [] = true
all_agree (j ∷ js) = list_all (agrees_with j) js && all_agree js

abbrev pub jumps_fit : Residue → Bool
jumps_fit r =
    all_tails (λ t. list_all (λ j. fits_part (gives_of r) (slice_get r.parts j.to) j.args) (jumps t)) r
    && all_tails (λ t. all_agree (jumps t)) r

-- ---- the cases of a switch are distinct

-- no two of these are one by the test
abbrev pub all_differ : {A : Type 0} → (A → A → Bool) → List A → Bool
all_differ same [] = true
all_differ same (x ∷ xs) = not (list_any (λ y. same y x) xs) && all_differ same xs

abbrev pub cases_differ : Tail → Bool
cases_differ (tail.Switch w a j cases) = all_differ (λ c d. same_int c.0 d.0) cases
cases_differ t = true

abbrev pub distinct_cases : Residue → Bool
distinct_cases r = all_tails cases_differ r

-- ---- each Dynamic value is defined once; a part uses only its own parameters and the results of its own earlier lines

abbrev pub is_within : List (ℕ × Width) → Val → Bool
is_within scope (Known v) = true
is_within scope (Dynamic d) = is_some (width_in scope d.0)

abbrev pub items_within : List (ℕ × Width) → List Item → Bool
items_within scope [] = true
items_within scope (x ∷ xs) = list_all (λ a. is_within scope a.1) (item_uses x) && items_within (scope ++ item_gives x) xs

abbrev pub tail_within : List (ℕ × Width) → Tail → Bool
tail_within scope t = list_all (λ a. is_within scope a.1) (tail_uses t) && list_all (is_within scope) (jump_args t)

abbrev pub part_within : Part → Bool
part_within p = items_within (param_gives p) (items_of p.lines) && tail_within (part_gives p) p.tail

abbrev pub well_scoped : Residue → Bool
well_scoped r = all_differ (λ x y. x.0 == y.0) (gives_of r) && list_all part_within r.parts

-- ---- a binary instruction has only flags, and a conversion only widths, that its operation allows

abbrev pub item_allowed : Item → Bool
item_allowed (item.Binary d op flags w a b) = allows op flags
item_allowed (item.Convert d conv from a to) = converts conv from to
item_allowed x = true

abbrev pub items_allowed : Residue → Bool
items_allowed r = list_all item_allowed (all_items r)

-- ---- each value, case and Dynamic value has the type or width of its place

abbrev pub well_typed : Residue → Bool
well_typed r = list_all (λ a. val_has (gives_of r) a.0 a.1) (uses_of r)

-- ---- the name and the types of an operation, returning nothing, have the class of a gate or a measurement

abbrev pub is_operation : Option Class → Bool
is_operation (Some class.Gate) = true
is_operation (Some class.Measure) = true
is_operation c = false

abbrev pub operation_known : Item → Bool
operation_known (item.Operation name args) = is_operation (class_of name (signature ty.Void (types_of args)))
operation_known x = true

abbrev pub operations_known : Residue → Bool
operations_known r = list_all operation_known (all_items r)

-- ---- an output has one of the six record classes, with its types

abbrev pub recorded_type : Class → Option Ty
recorded_type class.Tuple = Some (ty.Int W64)
recorded_type class.Array = Some (ty.Int W64)
recorded_type class.ResRecord = Some ty.Res
recorded_type class.BoolRecord = Some (ty.Int W1)
recorded_type class.IntRecord = Some (ty.Int W64)
recorded_type class.DoubleRecord = Some ty.Double
recorded_type c = None

-- two lists of types are one
abbrev pub same_types : List Ty → List Ty → Bool
same_types ts us = same_words (signature ty.Void ts) (signature ty.Void us)

abbrev pub takes_types : Option Ty → List Ty → Bool
takes_types None ts = false
takes_types (Some t) ts = same_types ts (t ∷ ty.Text ∷ [])

abbrev pub output_known : Item → Bool
output_known (item.Output c args) = takes_types (recorded_type c) (types_of args)
output_known x = true

abbrev pub outputs_known : Residue → Bool
outputs_known r = list_all output_known (all_items r)

-- ---- one and zero stand only in comparisons

abbrev pub is_constant_result : Val → Bool
is_constant_result (Known value.One) = true
is_constant_result (Known value.Zero) = true
is_constant_result a = false

abbrev pub item_compares : Item → Bool
item_compares (item.Equal d v u) = true
item_compares x = not (list_any (λ a. is_constant_result a.1) (item_uses x))

abbrev pub tail_compares : Tail → Bool
tail_compares t = not (list_any (λ a. is_constant_result a.1) (tail_uses t)) && not (list_any is_constant_result (jump_args t))

abbrev pub constants_compared : Residue → Bool
constants_compared r = list_all item_compares (all_items r) && all_tails tail_compares r

-- ---- the names of the entry and of the constants are distinct and don't begin with `__quantum__`

abbrev pub is_own_name : Name → Bool
is_own_name n = not (starts_with nat_eq (name_text n) quantum_prefix)

abbrev pub own_names : Residue → List Name
own_names r = r.entry ∷ map (λ g. g.name) r.globals

abbrev pub names_differ : Residue → Bool
names_differ r = are_distinct (own_names r) && list_all is_own_name (own_names r)

-- ---- the names of operations begin with `__quantum__qis__`, and one name has one list of types

abbrev pub is_instruction : Item → Bool
is_instruction (item.Operation name args) = starts_with nat_eq name instruction_prefix
is_instruction x = true

abbrev pub calls_alike : Called → Called → Bool
calls_alike c d = not (same_text c.name d.name) || same_types c.params d.params

abbrev pub all_alike : List Called → Bool
all_alike [] = true
all_alike (c ∷ cs) = list_all (calls_alike c) cs && all_alike cs

abbrev pub calls_agree : Residue → Bool
calls_agree r = list_all is_instruction (all_items r) && all_alike (calls_of_residue r)

-- ---- labels are in range of the constants, which number fewer than 2 to the 32

abbrev pub label_below : ℕ → Val → Bool
label_below n (Known (value.Label g)) = nat_lt g.0 n
label_below n a = true

abbrev pub labels_below : Residue → Bool
labels_below r = are_few r.globals && list_all (label_below (length r.globals)) (written r)

-- ---- every printed number is below 2 to the 64, those of local names among them; parts and lines together number fewer than 2 to
-- the 31, and the arguments of an item fewer than 2 to the 32, as the parameters of a declaration do

abbrev pub number_small : ℕ → ℕ → Val → Bool
number_small qubits results (Known (value.Alloc j)) = nat_lt (qubits + j) (2 ^ 64)
number_small qubits results (Known (value.Measured j)) = nat_lt (results + j) (2 ^ 64)
number_small qubits results a = true

abbrev pub parts_and_lines : List Part → ℕ
parts_and_lines [] = 0
parts_and_lines (p ∷ parts) = 1 + length p.lines + parts_and_lines parts

abbrev pub numbers_small : Residue → Bool
numbers_small r =
    list_all (number_small r.own_qubits r.own_results) (written r)
    && (nat_lt (length (names_of r.parts)) (2 ^ 64)
    && (nat_lt (parts_and_lines r.parts) (2 ^ 31) && list_all (λ x. are_few (item_uses x)) (all_items r)))

-- ---- the target permits the items, the tails and the parameters

abbrev pub is_known : Val → Bool
is_known (Known v) = true
is_known (Dynamic d) = false

abbrev pub all_known : List (Ty × Val) → Bool
all_known args = list_all (λ a. is_known a.1) args

abbrev pub is_base_record : Class → Bool
is_base_record class.Tuple = true
is_base_record class.Array = true
is_base_record class.ResRecord = true
is_base_record c = false

-- Base has operations and some records, of known values
abbrev pub base_permits : Item → Bool
base_permits (item.Operation name args) = all_known args
base_permits (item.Output c args) = is_base_record c && all_known args
base_permits x = false

abbrev pub base_permits_tail : Tail → Bool
base_permits_tail (tail.Return a) = is_known a
base_permits_tail t = false

-- what a machine without integer computations has: on one bit `and`, `or`, `xor`, comparison and select
abbrev pub is_free : Item → Bool
is_free (item.Binary d op flags w a b) = is_bitwise op && is_bit w
is_free (item.Icmp d pred w a b) = is_bit w
is_free (item.Convert d conv w a to) = false
is_free (item.Select d w c a b) = is_bit w
is_free x = true

abbrev pub has_count : Class → Bool
has_count class.Tuple = true
has_count class.Array = true
has_count c = false

abbrev pub is_int_record : Class → Bool
is_int_record class.IntRecord = true
is_int_record c = false

abbrev pub first_known : List (Ty × Val) → Bool
first_known [] = true
first_known (a ∷ args) = is_known a.1

-- a tuple's or an array's count is known
abbrev pub caps_permit : Caps → Item → Bool
caps_permit caps (item.Output c args) = (not (has_count c) || first_known args) && (caps.ints || not (is_int_record c))
caps_permit caps x = caps.ints || is_free x

abbrev pub is_zero : Val → Bool
is_zero (Known (value.Int i)) = i.bits == 0
is_zero a = false

abbrev pub caps_permit_tail : Caps → Tail → Bool
caps_permit_tail caps (tail.Switch w a j cases) = caps.switch && (caps.ints || is_bit w)
caps_permit_tail caps (tail.Return a) = caps.returns || is_zero a
caps_permit_tail caps t = true

-- without integer computations no parameter is wider than one bit
abbrev pub caps_permit_params : Caps → Part → Bool
caps_permit_params caps p = list_all (λ x. caps.ints || is_bit x.1) p.params

abbrev pub returns : Tail → ℕ
returns (tail.Return a) = 1
returns t = 0

abbrev pub count_returns : List Part → ℕ
count_returns [] = 0
count_returns (p ∷ parts) = returns p.tail + count_returns parts

abbrev pub target_permits : Residue → Target → Bool
target_permits r target.Base = list_all base_permits (all_items r) && all_tails base_permits_tail r
target_permits r (target.Adaptive caps) =
    list_all (caps_permit caps) (all_items r)
    && (all_tails (caps_permit_tail caps) r
    && (list_all (caps_permit_params caps) r.parts && (caps.returns || nat_lt (count_returns r.parts) 2)))

-- ---- for Base there is one part, whose reversible operations come before the irreversible ones, and these before the records

abbrev pub phases_in_order : Residue → Target → Bool
phases_in_order r target.Base = (length r.parts == 1) && phases_rise r.irreversible 0 (all_items r)
phases_in_order r (target.Adaptive caps) = true

-- ----

pub record Valid (r : Residue) (t : Target) : Type 0 where
  pub start : has_start r ≡ true
  pub jumps : jumps_fit r ≡ true
  pub cases : distinct_cases r ≡ true
  pub scopes : well_scoped r ≡ true
  pub allowed : items_allowed r ≡ true
  pub types : well_typed r ≡ true
  pub operations : operations_known r ≡ true
  pub outputs : outputs_known r ≡ true
  pub constants : constants_compared r ≡ true
  pub names : names_differ r ≡ true
  pub calls : calls_agree r ≡ true
  pub labels : labels_below r ≡ true
  pub numbers : numbers_small r ≡ true
  pub permits : target_permits r t ≡ true
  pub phases : phases_in_order r t ≡ true

-- ---- what a residue that was made from a module keeps besides: fixed numbers are below the source's own required ones, those of
-- allocations and returned results below the printed ones

abbrev pub handle_below : Residue → Ty × Val → Bool
handle_below r (ty.Qubit, Known (value.Id i)) = nat_lt i r.own_qubits
handle_below r (ty.Qubit, Known (value.Alloc j)) = nat_lt (r.own_qubits + j) r.all_qubits
handle_below r (ty.Res, Known (value.Id i)) = nat_lt i r.own_results
handle_below r (ty.Res, Known (value.Measured j)) = nat_lt (r.own_results + j) r.all_results
handle_below r a = true

abbrev pub handles_below : Residue → Bool
handles_below r = list_all (handle_below r) (uses_of r)
