-- Small modules for worked steps: the entry holds one instruction and one terminator, and each step starts from given names.
use Rattle.std.specs.Prelude.{ℕ, Bool, true, false, Option, None, Some, List, [], ◌∷◌, codes}
use Rattle.ir_module.specs.declared.places.Point.{Point}
use Rattle.ir_module.specs.declared.tree.Block.{Block}
use Rattle.ir_module.specs.declared.tree.Callee.TheVariants as callee
use Rattle.ir_module.specs.declared.tree.Function.{Function}
use Rattle.ir_module.specs.declared.tree.Inst.{Inst}
use Rattle.ir_module.specs.declared.tree.InstKind.{InstKind}
use Rattle.ir_module.specs.declared.tree.InstKind.TheVariants as kind
use Rattle.ir_module.specs.declared.tree.Module.{Module}
use Rattle.ir_module.specs.declared.tree.Operand.{Operand}
use Rattle.ir_module.specs.declared.tree.Operand.TheVariants as operand
use Rattle.ir_module.specs.declared.tree.Term.{Term}
use Rattle.ir_module.specs.declared.tree.Term.TheVariants as term
use Rattle.ir_values.specs.declared.ids.LocalId.{LocalId}
use Rattle.ir_values.specs.declared.int.Width.{Width}
use Rattle.ir_values.specs.declared.int.Width.TheVariants.{W1, W8, W64}
use Rattle.ir_values.specs.declared.name.Name.{Name}
use Rattle.ir_values.specs.declared.name.Name.TheVariants as name
use Rattle.ir_values.specs.declared.ty.Ty.{Ty}
use Rattle.ir_values.specs.declared.ty.Ty.TheVariants as ty
use Rattle.ir_values.specs.declared.value.Value.{Value}
use Rattle.ir_values.specs.declared.value.Value.TheVariants as value
use Rattle.ir_values.specs.Calls.{qis, rt}
use Rattle.kept_items.specs.declared.target.Target.{Target}
use Rattle.kept_items.specs.declared.target.Target.TheVariants.{Adaptive}
use Rattle.kept_items.specs.declared.val.Dyn.{Dyn}
use Rattle.static_steps.specs.declared.config.Config.{Config}
use Rattle.static_steps.specs.declared.phase.Phase.TheVariants as phase
use Rattle.static_steps.specs.declared.turn.Move.{Move}
use Rattle.static_steps.specs.declared.turn.Turn.{Turn}
use Rattle.static_steps.specs.declared.turn.Turn.TheVariants.{Goes}
use Rattle.static_steps.specs.Steps.{static_step}
use Rattle.static_steps.specs.Values.{Names}
use Rattle.kept_items.specs.declared.item.Choice.TheVariants.{One}
use Rattle.kept_items.specs.declared.item.Item.{Item}

abbrev pub x : ℕ → LocalId
x n = record { 0 = n }

abbrev pub int : Width → ℕ → Value
int w n = value.Int (record { width = w; bits = n })

abbrev pub const : Value → Operand
const v = operand.Const v

abbrev pub local : ℕ → Operand
local n = operand.Local (x n)

-- targets

abbrev pub plain : Target
plain = Adaptive (record { ints = false; switch = false; returns = false; loops = false })

abbrev pub with_ints : Target
with_ints = Adaptive (record { ints = true; switch = false; returns = false; loops = false })

abbrev pub with_switch : Target
with_switch = Adaptive (record { ints = false; switch = true; returns = false; loops = false })

abbrev pub with_both : Target
with_both = Adaptive (record { ints = true; switch = true; returns = false; loops = false })

abbrev pub with_returns : Target
with_returns = Adaptive (record { ints = false; switch = false; returns = true; loops = false })

-- modules

abbrev types : List Ty → List (Name × Ty)
types [] = []
types (t ∷ ts) = (name.Number 0, t) ∷ types ts

abbrev pub declared : ℕ → List ℕ → Ty → List Ty → Function
declared n f ret params = record { name = name.Text f; ret = ret; params = n; locals = types params; attrs = []; blocks = None }

abbrev pub block : List Inst → Term → Block
block insts t = record { name = name.Number 0; phis = []; insts = insts; term = t }

-- names 0 to 3 are bits, and 4 is an i8
abbrev pub function_of : List Block → Function
function_of blocks = record {
  name = name.Text (codes "main");
  ret = ty.Int W64;
  params = 0;
  locals = types (ty.Int W1 ∷ ty.Int W1 ∷ ty.Int W1 ∷ ty.Int W1 ∷ ty.Int W8 ∷ []);
  attrs = [];
  blocks = Some blocks;
}

-- function 1 of each module has a body and one parameter, and returns it; the others are declared
abbrev pub inner : Function
inner = record {
  name = name.Text (codes "inner");
  ret = ty.Int W1;
  params = 1;
  locals = types (ty.Int W1 ∷ []);
  attrs = [];
  blocks = Some (block [] (term.Ret (ty.Int W1) (local 0)) ∷ []);
}

abbrev pub source : List Block → Module
source blocks = record {
  globals = [];
  funcs =
      function_of blocks
      ∷ inner
      ∷ declared 1 (rt (codes "initialize")) ty.Void (ty.Text ∷ [])
      ∷ declared 0 (rt (codes "qubit_allocate")) ty.Qubit []
      ∷ declared 1 (rt (codes "qubit_release")) ty.Void (ty.Qubit ∷ [])
      ∷ declared 0 (rt (codes "result_get_one")) ty.Res []
      ∷ declared 2 (rt (codes "result_equal")) (ty.Int W1) (ty.Res ∷ ty.Res ∷ [])
      ∷ declared 1 (rt (codes "read_result")) (ty.Int W1) (ty.Res ∷ [])
      ∷ declared 1 (qis (codes "h__body")) ty.Void (ty.Qubit ∷ [])
      ∷ declared 2 (qis (codes "mz__body")) ty.Void (ty.Qubit ∷ ty.Res ∷ [])
      ∷ declared 1 (qis (codes "m__body")) ty.Res (ty.Qubit ∷ [])
      ∷ declared 2 (rt (codes "tuple_record_output")) ty.Void (ty.Int W64 ∷ ty.Text ∷ [])
      ∷ declared 2 (rt (codes "result_record_output")) ty.Void (ty.Res ∷ ty.Text ∷ [])
      ∷ declared 2 (rt (codes "bool_record_output")) ty.Void (ty.Int W1 ∷ ty.Text ∷ [])
      ∷ declared 2 (rt (codes "int_record_output")) ty.Void (ty.Int W64 ∷ ty.Text ∷ [])
      ∷ [];
  flags = [];
}

-- configurations: the entry at a block and an index, with these names

abbrev pub at_point : ℕ → ℕ → Point
at_point b i = record { func = record { 0 = 0 }; block = record { 0 = b }; index = i }

abbrev pub at_config : ℕ → ℕ → Names (Option Value) → Config
at_config b i names = record {
  top = record { at = at_point b i; names = names };
  below = [];
  allocated = 0;
  held = [];
  returned = 0;
  phase = phase.Begin;
}

abbrev pub dyn : ℕ → Dyn
dyn n = record { 0 = n }

abbrev dyns : List ℕ → List Dyn
dyns [] = []
dyns (n ∷ ns) = dyn n ∷ dyns ns

abbrev pub move_to : Config → List ℕ → Move
move_to g args = record { to = g; args = dyns args }

-- all names are live
abbrev pub everywhere : Point → LocalId → Bool
everywhere p y = true

-- the step of an instruction that stands first in the entry, from these names
abbrev pub does_from : Config → Target → Option LocalId → InstKind → Turn
does_from g t r what = static_step (source (block ((record { result = r; what = what }) ∷ []) term.RetVoid ∷ [])) t everywhere g

abbrev pub does : Target → Names (Option Value) → InstKind → Turn
does t names what = does_from (at_config 0 0 names) t (Some (x 3)) what

-- on to the next point, where the names are these and the Dynamic ones take the values of these numbers
abbrev pub on : Names (Option Value) → List ℕ → Turn
on names args = Goes (move_to (at_config 0 1 names) args ∷ []) None One

abbrev pub leaves : Item → Names (Option Value) → List ℕ → Turn
leaves item names args = Goes (move_to (at_config 0 1 names) args ∷ []) (Some item) One

abbrev pub call : Ty → ℕ → List (Ty × Operand) → InstKind
call ret f args = kind.Call ret (callee.Func (record { 0 = f })) args
