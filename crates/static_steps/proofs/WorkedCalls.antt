-- Worked steps of calls: of functions with a body, and of each class of declared functions.
use Rattle.std.specs.Prelude.{◌≡◌, ℕ, refl, Option, None, Some, List, [], ◌∷◌, codes}
use Rattle.ir_module.specs.declared.tree.InstKind.{InstKind}
use Rattle.ir_module.specs.declared.tree.Operand.{Operand}
use Rattle.ir_module.specs.declared.tree.Term.TheVariants as term
use Rattle.ir_values.specs.declared.cause.Cause.TheVariants as cause
use Rattle.ir_values.specs.declared.class.Class.TheVariants as class
use Rattle.ir_values.specs.declared.int.Width.TheVariants.{W1, W64}
use Rattle.ir_values.specs.declared.ty.Ty.{Ty}
use Rattle.ir_values.specs.declared.ty.Ty.TheVariants as ty
use Rattle.ir_values.specs.declared.value.Value.{Value}
use Rattle.ir_values.specs.declared.value.Value.TheVariants as value
use Rattle.ir_values.specs.Calls.{class_of, qis}
use Rattle.kept_items.specs.declared.item.Choice.TheVariants.{One}
use Rattle.kept_items.specs.declared.item.Item.TheVariants as item
use Rattle.kept_items.specs.declared.target.Kind.TheVariants as kinds
use Rattle.kept_items.specs.declared.target.Target.{Target}
use Rattle.kept_items.specs.declared.target.Target.TheVariants.{Base}
use Rattle.kept_items.specs.declared.val.Val.{Val}
use Rattle.kept_items.specs.declared.val.Val.TheVariants.{Known, Dynamic}
use Rattle.static_steps.specs.declared.config.Config.{Config}
use Rattle.static_steps.specs.declared.phase.Phase.{Phase}
use Rattle.static_steps.specs.declared.phase.Phase.TheVariants as phase
use Rattle.static_steps.specs.declared.turn.Turn.{Turn}
use Rattle.static_steps.specs.declared.turn.Turn.TheVariants.{Goes, Bad}
use Rattle.static_steps.specs.Steps.{static_step}
use Rattle.static_steps.specs.Values.{Names}
use Rattle.static_steps.proofs.WorkedModules.{at_config, at_point, block, call, const, does, does_from, dyn, everywhere, int, leaves, local, move_to, on, plain, source, with_ints, x}

abbrev bit : Names (Option Value)
bit = (x 0, None) ∷ []

abbrev bit_and_result : Names (Option Value)
bit_and_result = (x 0, None) ∷ (x 3, None) ∷ []

-- a call that gives nothing
abbrev silently : Config → Target → InstKind → Turn
silently g t what = does_from g t None what

abbrev begin : Config
begin = at_config 0 0 []

-- two allocations were made, and these are held
abbrev holding : ℕ → List ℕ → Config
holding i held = record (at_config 0 i []) { allocated = 2; held = held }

abbrev in_phase : ℕ → Phase → Config
in_phase i ph = record (at_config 0 i []) { phase = ph }

abbrev qubit : Value → Ty × Operand
qubit v = (ty.Qubit, const v)

abbrev result : Value → Ty × Operand
result v = (ty.Res, const v)

abbrev known : Ty → Value → Ty × Val
known t v = (t, Known v)

-- ---- functions with a body

-- the frame that waits stands behind the call, and leaves out the call's name
a_call_has_a_frame_of_its_own :
    does plain ((x 0, None) ∷ (x 3, Some (int W1 0)) ∷ []) (call (ty.Int W1) 1 ((ty.Int W1, local 0) ∷ []))
    ≡ Goes
    (move_to
    (record (at_config 0 0 []) {
      top = record { at = record { func = record { 0 = 1 }; block = record { 0 = 0 }; index = 0 }; names = bit };
      below = (record { at = at_point 0 1; names = bit }) ∷ [];
    })
    (0 ∷ 0 ∷ [])
    ∷ [])
    None One
unfolding static_step
a_call_has_a_frame_of_its_own = refl

a_return_gives_the_call_its_value :
    static_step (source (block ((record { result = Some (x 3); what = call (ty.Int W1) 1 ((ty.Int W1, local 0) ∷ []) }) ∷ []) term.RetVoid ∷ [])) plain everywhere
    (record (at_config 0 0 []) {
      top = record { at = record { func = record { 0 = 1 }; block = record { 0 = 0 }; index = 0 }; names = bit };
      below = (record { at = at_point 0 1; names = bit }) ∷ [];
    })
    ≡ Goes (move_to (at_config 0 1 bit_and_result) (0 ∷ 1 ∷ []) ∷ []) None One
unfolding static_step
a_return_gives_the_call_its_value = refl

-- ---- the runtime

initialize_is_dropped : silently begin plain (call ty.Void 2 ((ty.Text, const value.NoLabel) ∷ [])) ≡ on [] []
unfolding static_step class_of
initialize_is_dropped = refl

an_allocation_is_known_and_held :
    does plain [] (call ty.Qubit 3 [])
    ≡ Goes (move_to (record (at_config 0 1 ((x 3, Some (value.Alloc 0)) ∷ [])) { allocated = 1; held = 0 ∷ [] }) [] ∷ []) None One
unfolding static_step class_of
an_allocation_is_known_and_held = refl

abbrev release : Value → InstKind
release v = call ty.Void 4 (qubit v ∷ [])

a_release_ends_holding : silently (holding 0 (0 ∷ 1 ∷ [])) plain (release (value.Alloc 0)) ≡ Goes (move_to (holding 1 (1 ∷ [])) [] ∷ []) None One
unfolding static_step class_of
a_release_ends_holding = refl

a_second_release_traps : silently (holding 0 (1 ∷ [])) plain (release (value.Alloc 0)) ≡ Bad (kinds.Traps cause.Released)
unfolding static_step class_of
a_second_release_traps = refl

a_fixed_qubit_is_never_released : silently begin plain (release (value.Id 0)) ≡ Bad (kinds.Traps cause.BadRelease)
unfolding static_step class_of
a_fixed_qubit_is_never_released = refl

one_is_known : does plain [] (call ty.Res 5 []) ≡ on ((x 3, Some value.One) ∷ []) []
unfolding static_step class_of
one_is_known = refl

constant_results_are_compared : does plain [] (call (ty.Int W1) 6 (result value.One ∷ result value.Zero ∷ [])) ≡ on ((x 3, Some (int W1 0)) ∷ []) []
unfolding static_step class_of
constant_results_are_compared = refl

measured_results_are_compared_in_the_run :
    does plain [] (call (ty.Int W1) 6 (result (value.Id 0) ∷ result (value.Id 0) ∷ []))
    ≡ leaves (item.Equal (dyn 0) (value.Id 0) (value.Id 0)) ((x 3, None) ∷ []) (0 ∷ [])
unfolding static_step class_of
measured_results_are_compared_in_the_run = refl

abbrev read : Value → InstKind
read v = call (ty.Int W1) 7 (result v ∷ [])

a_constant_result_reads_as_known : does Base [] (read value.One) ≡ on ((x 3, Some (int W1 1)) ∷ []) []
unfolding static_step class_of
a_constant_result_reads_as_known = refl

a_result_is_read_in_the_run : does plain [] (read (value.Id 0)) ≡ leaves (item.Read (dyn 0) (value.Id 0)) ((x 3, None) ∷ []) (0 ∷ [])
unfolding static_step class_of
a_result_is_read_in_the_run = refl

base_has_no_reads : does Base [] (read (value.Id 0)) ≡ Bad kinds.Forbidden
unfolding static_step class_of
base_has_no_reads = refl

-- ---- operations

abbrev gate : Value → InstKind
gate v = call ty.Void 8 (qubit v ∷ [])

abbrev issues : Config → List ℕ → List (Ty × Val) → Turn
issues g name args = Goes (move_to g [] ∷ []) (Some (item.Operation name args)) One

a_gate_is_kept : silently begin plain (gate (value.Id 0)) ≡ issues (at_config 0 1 []) (qis (codes "h__body")) (known ty.Qubit (value.Id 0) ∷ [])
unfolding static_step class_of
a_gate_is_kept = refl

a_released_qubit_has_no_gate : silently (holding 0 (1 ∷ [])) plain (gate (value.Alloc 0)) ≡ Bad (kinds.Traps cause.Released)
unfolding static_step class_of
a_released_qubit_has_no_gate = refl

abbrev mz : Value → Value → InstKind
mz q r = call ty.Void 9 (qubit q ∷ result r ∷ [])

nothing_is_measured_into_a_constant : silently begin plain (mz (value.Id 0) value.One) ≡ Bad (kinds.Traps cause.ConstResult)
unfolding static_step class_of
nothing_is_measured_into_a_constant = refl

a_gate_raises_the_phase :
    silently begin Base (gate (value.Id 0)) ≡ issues (in_phase 1 phase.Reversible) (qis (codes "h__body")) (known ty.Qubit (value.Id 0) ∷ [])
unfolding static_step class_of
a_gate_raises_the_phase = refl

a_measurement_raises_it_more :
    silently (in_phase 0 phase.Reversible) Base (mz (value.Id 0) (value.Id 1))
    ≡ issues (in_phase 1 phase.Irreversible) (qis (codes "mz__body")) (known ty.Qubit (value.Id 0) ∷ known ty.Res (value.Id 1) ∷ [])
unfolding static_step class_of
a_measurement_raises_it_more = refl

then_base_has_no_gate : silently (in_phase 0 phase.Irreversible) Base (gate (value.Id 0)) ≡ Bad kinds.Phase
unfolding static_step class_of
then_base_has_no_gate = refl

and_behind_a_record_no_measurement : silently (in_phase 0 phase.Output) Base (mz (value.Id 0) (value.Id 1)) ≡ Bad kinds.Phase
unfolding static_step class_of
and_behind_a_record_no_measurement = refl

-- it is issued as `mz` into the next returned result
a_measurement_returns_the_next_result :
    does plain [] (call ty.Res 10 (qubit (value.Id 0) ∷ []))
    ≡ issues (record (at_config 0 1 ((x 3, Some (value.Measured 0)) ∷ [])) { returned = 1 }) (qis (codes "mz__body"))
    (known ty.Qubit (value.Id 0) ∷ known ty.Res (value.Measured 0) ∷ [])
unfolding static_step class_of
a_measurement_returns_the_next_result = refl

-- ---- records

abbrev no_label : Ty × Operand
no_label = (ty.Text, const value.NoLabel)

abbrev tuple : Operand → InstKind
tuple a = call ty.Void 11 ((ty.Int W64, a) ∷ no_label ∷ [])

a_tuple_is_kept :
    silently begin plain (tuple (const (int W64 2)))
    ≡ leaves (item.Output class.Tuple (known (ty.Int W64) (int W64 2) ∷ known ty.Text value.NoLabel ∷ [])) [] []
unfolding static_step class_of
a_tuple_is_kept = refl

its_number_is_known : silently (at_config 0 0 bit) plain (tuple (local 0)) ≡ Bad kinds.Forbidden
unfolding static_step class_of
its_number_is_known = refl

abbrev record_result : Value → InstKind
record_result v = call ty.Void 12 (result v ∷ no_label ∷ [])

a_record_ends_the_operations_of_base :
    silently (in_phase 0 phase.Irreversible) Base (record_result (value.Id 0))
    ≡ Goes (move_to (in_phase 1 phase.Output) [] ∷ []) (Some (item.Output class.ResRecord (known ty.Res (value.Id 0) ∷ known ty.Text value.NoLabel ∷ []))) One
unfolding static_step class_of
a_record_ends_the_operations_of_base = refl

no_constant_result_is_recorded : silently begin plain (record_result value.One) ≡ Bad kinds.Forbidden
unfolding static_step class_of
no_constant_result_is_recorded = refl

abbrev record_bool : Operand → InstKind
record_bool a = call ty.Void 13 ((ty.Int W1, a) ∷ no_label ∷ [])

a_boolean_is_recorded :
    silently (at_config 0 0 bit) plain (record_bool (local 0))
    ≡ leaves (item.Output class.BoolRecord ((ty.Int W1, Dynamic (dyn 0)) ∷ known ty.Text value.NoLabel ∷ [])) bit (0 ∷ [])
unfolding static_step class_of
a_boolean_is_recorded = refl

base_records_no_boolean : silently begin Base (record_bool (const (int W1 1))) ≡ Bad kinds.Forbidden
unfolding static_step class_of
base_records_no_boolean = refl

abbrev record_int : InstKind
record_int = call ty.Void 14 ((ty.Int W64, const (int W64 5)) ∷ no_label ∷ [])

an_integer_is_recorded_with_ints :
    silently begin with_ints record_int
    ≡ leaves (item.Output class.IntRecord (known (ty.Int W64) (int W64 5) ∷ known ty.Text value.NoLabel ∷ [])) [] []
unfolding static_step class_of
an_integer_is_recorded_with_ints = refl

and_not_without : silently begin plain record_int ≡ Bad kinds.Capability
unfolding static_step class_of
and_not_without = refl

base_records_no_integer : silently begin Base record_int ≡ Bad kinds.Forbidden
unfolding static_step class_of
base_records_no_integer = refl
