-- The step of one instruction, its operands read first.
use Rattle.std.specs.Prelude.{Option, List, slice_get}
use Rattle.ir_module.specs.declared.tree.InstKind.{InstKind}
use Rattle.ir_module.specs.Operands.{operands_of}
use Rattle.ir_values.specs.declared.ids.LocalId.{LocalId}
use Rattle.ir_values.specs.declared.ty.Ty.{Ty}
use Rattle.ir_values.specs.declared.value.Value.TheVariants as value
use Rattle.kept_items.specs.declared.val.Val.{Val}
use Rattle.kept_items.specs.declared.val.Val.TheVariants.{Known}
use Rattle.static_steps.specs.declared.turn.Turn.{Turn}
use Rattle.static_steps.specs.declared.turn.Turn.TheVariants.{Lost}
use Rattle.static_steps.specs.Calls.{calls_turn}
use Rattle.static_steps.specs.Settings.{Setting}
use Rattle.static_steps.specs.Steps.{inst_turn, with_vals}
use Rattle.static_steps.specs.Values.{vals_of}

abbrev pub inst_of : Setting → Option LocalId → InstKind → Turn
inst_of s x what = with_vals (vals_of s.w.top.names (operands_of what)) (inst_turn s x what)

-- a call, by the value of its callee
abbrev pub call_of : Setting → Option LocalId → Val → List Ty → List Val → Turn
call_of s x (Known (value.Func g)) ts vs = calls_turn s x g (slice_get s.m.funcs g.0) ts vs
call_of s x v ts vs = Lost
