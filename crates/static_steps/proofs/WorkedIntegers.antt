-- Worked steps of instructions on integers and of `select`: known, Dynamic, with and without the capability.
use Rattle.std.specs.Prelude.{◌≡◌, refl, true, false, Option, None, Some, [], ◌∷◌, codes}
use Rattle.ir_module.specs.declared.tree.InstKind.{InstKind}
use Rattle.ir_module.specs.declared.tree.InstKind.TheVariants as kind
use Rattle.ir_module.specs.declared.tree.Operand.{Operand}
use Rattle.ir_values.specs.declared.cause.Cause.TheVariants as cause
use Rattle.ir_values.specs.declared.int.BinOp.TheVariants as op
use Rattle.ir_values.specs.declared.int.Conv.TheVariants as conv
use Rattle.ir_values.specs.declared.int.Flags.{Flags}
use Rattle.ir_values.specs.declared.int.Pred.TheVariants as pred
use Rattle.ir_values.specs.declared.int.Width.{Width}
use Rattle.ir_values.specs.declared.int.Width.TheVariants.{W1, W8}
use Rattle.ir_values.specs.declared.ty.Ty.{Ty}
use Rattle.ir_values.specs.declared.ty.Ty.TheVariants as ty
use Rattle.ir_values.specs.declared.value.Value.{Value}
use Rattle.ir_values.specs.declared.value.Value.TheVariants as value
use Rattle.ir_values.specs.Arithmetic.{binary_of, compare_of, convert_of}
use Rattle.kept_items.specs.declared.item.Item.TheVariants as item
use Rattle.kept_items.specs.declared.target.Kind.TheVariants as kinds
use Rattle.kept_items.specs.declared.val.Val.TheVariants.{Known, Dynamic}
use Rattle.static_steps.specs.declared.turn.Turn.TheVariants.{Bad}
use Rattle.static_steps.specs.Steps.{static_step}
use Rattle.static_steps.specs.Values.{Names}
use Rattle.static_steps.proofs.WorkedModules.{const, does, dyn, int, leaves, local, on, plain, with_ints, x}

abbrev none : Flags
none = record { nuw = false; nsw = false; exact = false }

abbrev no_signed_wrap : Flags
no_signed_wrap = record { nuw = false; nsw = true; exact = false }

abbrev add : Flags → Width → Operand → Operand → InstKind
add flags w a b = kind.Binary op.Add flags (ty.Int w) a b

-- name 0 is Dynamic
abbrev bit : Names (Option Value)
bit = (x 0, None) ∷ []

-- and so is the result, name 3
abbrev bit_and_result : Names (Option Value)
bit_and_result = (x 0, None) ∷ (x 3, None) ∷ []

known_sums_are_folded : does plain [] (add none W8 (const (int W8 200)) (const (int W8 100))) ≡ on ((x 3, Some (int W8 44)) ∷ []) []
unfolding static_step binary_of
known_sums_are_folded = refl

a_broken_flag_is_no_value : does plain [] (add no_signed_wrap W8 (const (int W8 127)) (const (int W8 1))) ≡ Bad (kinds.Traps cause.Poison)
unfolding static_step binary_of
a_broken_flag_is_no_value = refl

a_known_division_by_zero_traps : does plain [] (kind.Binary op.UDiv none (ty.Int W8) (const (int W8 1)) (const (int W8 0))) ≡ Bad (kinds.Traps cause.DivZero)
unfolding static_step binary_of
a_known_division_by_zero_traps = refl

bitwise_on_bits_is_free :
    does plain bit (kind.Binary op.And none (ty.Int W1) (local 0) (const (int W1 1)))
    ≡ leaves (item.Binary (dyn 1) op.And none W1 (Dynamic (dyn 0)) (Known (int W1 1))) bit_and_result (0 ∷ 1 ∷ [])
unfolding static_step
bitwise_on_bits_is_free = refl

sums_of_bits_are_not : does plain bit (add none W1 (local 0) (const (int W1 1))) ≡ Bad kinds.Capability
unfolding static_step
sums_of_bits_are_not = refl

with_ints_they_are_kept :
    does with_ints bit (add none W1 (local 0) (const (int W1 1)))
    ≡ leaves (item.Binary (dyn 1) op.Add none W1 (Dynamic (dyn 0)) (Known (int W1 1))) bit_and_result (0 ∷ 1 ∷ [])
unfolding static_step
with_ints_they_are_kept = refl

known_numbers_are_compared : does plain [] (kind.Icmp pred.Slt (ty.Int W8) (const (int W8 255)) (const (int W8 0))) ≡ on ((x 3, Some (int W1 1)) ∷ []) []
unfolding static_step compare_of
known_numbers_are_compared = refl

bits_are_compared_freely :
    does plain bit (kind.Icmp pred.Eq (ty.Int W1) (local 0) (const (int W1 1)))
    ≡ leaves (item.Icmp (dyn 1) pred.Eq W1 (Dynamic (dyn 0)) (Known (int W1 1))) bit_and_result (0 ∷ 1 ∷ [])
unfolding static_step
bits_are_compared_freely = refl

bytes_are_not : does plain bit (kind.Icmp pred.Eq (ty.Int W8) (local 0) (const (int W8 1))) ≡ Bad kinds.Capability
unfolding static_step
bytes_are_not = refl

a_known_bit_is_widened : does plain [] (kind.Convert conv.SExt (ty.Int W1) (const (int W1 1)) (ty.Int W8)) ≡ on ((x 3, Some (int W8 255)) ∷ []) []
unfolding static_step convert_of
a_known_bit_is_widened = refl

widening_a_bit_needs_ints : does plain bit (kind.Convert conv.ZExt (ty.Int W1) (local 0) (ty.Int W8)) ≡ Bad kinds.Capability
unfolding static_step
widening_a_bit_needs_ints = refl

with_ints_it_is_kept :
    does with_ints bit (kind.Convert conv.ZExt (ty.Int W1) (local 0) (ty.Int W8))
    ≡ leaves (item.Convert (dyn 1) conv.ZExt W1 (Dynamic (dyn 0)) W8) bit_and_result (0 ∷ 1 ∷ [])
unfolding static_step
with_ints_it_is_kept = refl

-- a choice

abbrev choice : Operand → Ty → Value → Value → InstKind
choice c t a b = kind.Select c t (const a) t (const b)

a_known_condition_chooses : does plain [] (choice (const (int W1 0)) ty.Qubit (value.Id 5) (value.Id 6)) ≡ on ((x 3, Some (value.Id 6)) ∷ []) []
unfolding static_step
a_known_condition_chooses = refl

equal_values_need_no_choice : does plain bit (choice (local 0) ty.Qubit (value.Id 5) (value.Id 5)) ≡ on ((x 0, None) ∷ (x 3, Some (value.Id 5)) ∷ []) (0 ∷ [])
unfolding static_step
equal_values_need_no_choice = refl

a_choice_of_bits_is_kept :
    does plain bit (choice (local 0) (ty.Int W1) (int W1 0) (int W1 1))
    ≡ leaves (item.Select (dyn 1) W1 (Dynamic (dyn 0)) (Known (int W1 0)) (Known (int W1 1))) bit_and_result (0 ∷ 1 ∷ [])
unfolding static_step
a_choice_of_bits_is_kept = refl

a_choice_of_bytes_needs_ints : does plain bit (choice (local 0) (ty.Int W8) (int W8 0) (int W8 1)) ≡ Bad kinds.Capability
unfolding static_step
a_choice_of_bytes_needs_ints = refl

no_run_chooses_qubits : does with_ints bit (choice (local 0) ty.Qubit (value.Id 5) (value.Id 6)) ≡ Bad kinds.Handle
unfolding static_step
no_run_chooses_qubits = refl

no_run_chooses_results : does with_ints bit (choice (local 0) ty.Res (value.Id 5) (value.Id 6)) ≡ Bad kinds.Handle
unfolding static_step
no_run_chooses_results = refl

no_run_chooses_functions : does with_ints bit (choice (local 0) (ty.Func []) (value.Func (record { 0 = 0 })) (value.Func (record { 0 = 1 }))) ≡ Bad kinds.Target
unfolding static_step
no_run_chooses_functions = refl

no_run_chooses_labels : does with_ints bit (choice (local 0) ty.Text (value.Label (record { 0 = 0 })) value.NoLabel) ≡ Bad kinds.Token
unfolding static_step
no_run_chooses_labels = refl

no_run_chooses_doubles : does with_ints bit (choice (local 0) ty.Double (value.Double (codes "0.0")) (value.Double (codes "-0.0"))) ≡ Bad kinds.Token
unfolding static_step
no_run_chooses_doubles = refl

-- an operand without a value comes before every other cause
a_name_without_a_value_traps_first : does plain bit (kind.Select (local 0) ty.Qubit (const (value.Id 5)) ty.Qubit (local 1)) ≡ Bad (kinds.Traps cause.Unbound)
unfolding static_step
a_name_without_a_value_traps_first = refl
