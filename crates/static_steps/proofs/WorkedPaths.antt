-- Worked steps of terminators, of phis on edges, and of what a frame keeps.
use Rattle.std.specs.Prelude.{◌≡◌, ℕ, ◌==◌, not, refl, pos, Bool, Option, None, Some, [], ◌∷◌}
use Rattle.ir_module.specs.declared.places.Point.{Point}
use Rattle.ir_module.specs.declared.tree.Block.{Block}
use Rattle.ir_module.specs.declared.tree.Operand.{Operand}
use Rattle.ir_module.specs.declared.tree.Term.{Term}
use Rattle.ir_module.specs.declared.tree.Term.TheVariants as term
use Rattle.ir_values.specs.declared.cause.Cause.TheVariants as cause
use Rattle.ir_values.specs.declared.ids.BlockId.{BlockId}
use Rattle.ir_values.specs.declared.ids.LocalId.{LocalId}
use Rattle.ir_values.specs.declared.int.Width.{Width}
use Rattle.ir_values.specs.declared.int.Width.TheVariants.{W1, W8, W64}
use Rattle.ir_values.specs.declared.name.Name.TheVariants as name
use Rattle.ir_values.specs.declared.ty.Ty.TheVariants as ty
use Rattle.ir_values.specs.declared.value.Value.{Value}
use Rattle.ir_values.specs.Int.{IntValue}
use Rattle.kept_items.specs.declared.item.Choice.TheVariants.{One, Branch, Switch}
use Rattle.kept_items.specs.declared.item.Code.TheVariants as code
use Rattle.kept_items.specs.declared.target.Kind.TheVariants as kinds
use Rattle.kept_items.specs.declared.target.Target.{Target}
use Rattle.kept_items.specs.declared.target.Target.TheVariants.{Base}
use Rattle.static_steps.specs.declared.turn.Turn.{Turn}
use Rattle.static_steps.specs.declared.turn.Turn.TheVariants.{Goes, Exits, Bad}
use Rattle.static_steps.specs.Steps.{static_step}
use Rattle.static_steps.specs.Values.{Names}
use Rattle.static_steps.proofs.WorkedModules.{at_config, block, const, dyn, everywhere, int, local, move_to, plain, source, with_both, with_returns, with_switch, x}

abbrev b : ℕ → BlockId
b n = record { 0 = n }

abbrev stop : Block
stop = block [] term.RetVoid

-- the entry's first block ends so; two more follow
abbrev ends : Target → Names (Option Value) → Term → Turn
ends t names e = static_step (source (block [] e ∷ stop ∷ stop ∷ [])) t everywhere (at_config 0 0 names)

abbrev bit : Names (Option Value)
bit = (x 0, None) ∷ []

a_known_branch_has_one_edge : ends plain [] (term.CondBr (const (int W1 0)) (b 1) (b 2)) ≡ Goes (move_to (at_config 2 0 []) [] ∷ []) None One
unfolding static_step
a_known_branch_has_one_edge = refl

a_dynamic_branch_has_both_true_first :
    ends plain bit (term.CondBr (local 0) (b 1) (b 2))
    ≡ Goes (move_to (at_config 1 0 bit) (0 ∷ []) ∷ move_to (at_config 2 0 bit) (0 ∷ []) ∷ []) None (Branch (dyn 0))
unfolding static_step
a_dynamic_branch_has_both_true_first = refl

a_branch_on_no_value_traps : ends plain [] (term.CondBr (local 0) (b 1) (b 2)) ≡ Bad (kinds.Traps cause.Unbound)
unfolding static_step
a_branch_on_no_value_traps = refl

abbrev five : IntValue
five = record { width = W8; bits = 5 }

abbrev on_five : Width → Operand → Term
on_five w a = term.Switch (ty.Int w) a (b 2) ((five, b 1) ∷ [])

a_known_switch_takes_its_case : ends plain [] (on_five W8 (const (int W8 5))) ≡ Goes (move_to (at_config 1 0 []) [] ∷ []) None One
unfolding static_step
a_known_switch_takes_its_case = refl

or_the_default : ends plain [] (on_five W8 (const (int W8 6))) ≡ Goes (move_to (at_config 2 0 []) [] ∷ []) None One
unfolding static_step
or_the_default = refl

a_dynamic_switch_needs_the_capability : ends plain bit (on_five W1 (local 0)) ≡ Bad kinds.Capability
unfolding static_step
a_dynamic_switch_needs_the_capability = refl

on_a_bit_it_needs_no_other :
    ends with_switch bit (on_five W1 (local 0))
    ≡ Goes (move_to (at_config 1 0 bit) (0 ∷ []) ∷ move_to (at_config 2 0 bit) (0 ∷ []) ∷ []) None (Switch (dyn 0) W1 (five ∷ []))
unfolding static_step
on_a_bit_it_needs_no_other = refl

on_a_byte_it_needs_ints_too : ends with_switch bit (on_five W8 (local 0)) ≡ Bad kinds.Capability
unfolding static_step
on_a_byte_it_needs_ints_too = refl

and_has_all_edges_with_both :
    ends with_both bit (on_five W8 (local 0))
    ≡ Goes (move_to (at_config 1 0 bit) (0 ∷ []) ∷ move_to (at_config 2 0 bit) (0 ∷ []) ∷ []) None (Switch (dyn 0) W8 (five ∷ []))
unfolding static_step
and_has_all_edges_with_both = refl

-- returns of the entry

abbrev returns : Operand → Term
returns a = term.Ret (ty.Int W64) a

base_returns_any_known_code : ends Base [] (returns (const (int W64 7))) ≡ Exits (code.Known (pos 7))
unfolding static_step
base_returns_any_known_code = refl

code_zero_needs_no_capability : ends plain [] (returns (const (int W64 0))) ≡ Exits (code.Known (pos 0))
unfolding static_step
code_zero_needs_no_capability = refl

nothing_is_code_zero : ends plain [] term.RetVoid ≡ Exits (code.Known (pos 0))
unfolding static_step
nothing_is_code_zero = refl

another_code_does : ends plain [] (returns (const (int W64 7))) ≡ Bad kinds.Capability
unfolding static_step
another_code_does = refl

a_dynamic_code_does : ends plain bit (returns (local 0)) ≡ Bad kinds.Capability
unfolding static_step
a_dynamic_code_does = refl

with_the_capability_it_exits : ends with_returns bit (returns (local 0)) ≡ Exits (code.Dynamic (dyn 0))
unfolding static_step
with_the_capability_it_exits = refl

-- phis, and names that are live no longer

abbrev joined : Block
joined = record {
  name = name.Number 0;
  phis = (record { result = x 1; entries = (local 0, b 0) ∷ [] }) ∷ (record { result = x 0; entries = (local 1, b 0) ∷ [] }) ∷ [];
  insts = [];
  term = term.RetVoid;
}

-- the two names are swapped: the phis take the values from before the edge
phis_take_their_values_together :
    static_step (source (block [] (term.Br (b 1)) ∷ joined ∷ [])) plain everywhere (at_config 0 0 ((x 0, None) ∷ (x 1, Some (int W1 1)) ∷ []))
    ≡ Goes (move_to (at_config 1 2 ((x 0, Some (int W1 1)) ∷ (x 1, None) ∷ [])) (0 ∷ []) ∷ []) None One
unfolding static_step
phis_take_their_values_together = refl

-- a phi whose operand has no value has none
a_phi_of_no_value_has_none :
    static_step (source (block [] (term.Br (b 1)) ∷ joined ∷ [])) plain everywhere (at_config 0 0 ((x 1, Some (int W1 1)) ∷ []))
    ≡ Goes (move_to (at_config 1 2 ((x 0, Some (int W1 1)) ∷ [])) [] ∷ []) None One
unfolding static_step
a_phi_of_no_value_has_none = refl

-- name 0 is live nowhere
abbrev not_zero : Point → LocalId → Bool
not_zero p y = not (y.0 == 0)

a_name_that_is_not_live_is_dropped :
    static_step (source (block [] (term.Br (b 1)) ∷ stop ∷ [])) plain not_zero (at_config 0 0 ((x 0, None) ∷ (x 1, None) ∷ []))
    ≡ Goes (move_to (at_config 1 0 ((x 1, None) ∷ [])) (1 ∷ []) ∷ []) None One
unfolding static_step
a_name_that_is_not_live_is_dropped = refl
