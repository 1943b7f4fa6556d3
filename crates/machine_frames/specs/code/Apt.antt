-- What an instruction does where its integers have the widths that admission gives them. No instruction of an admitted module has others.
use Rattle.std.specs.Prelude.{⊤, ℕ, Bool, true, false, ◌&&◌, ◌==◌, Option, None, Some, List, [], ◌∷◌, count_by, map, slice_get}
use Rattle.backend_api.specs.declared.operation.Arg.{Arg}
use Rattle.backend_api.specs.Operations.{is_result}
use Rattle.ir_module.specs.declared.tree.Block.{Block}
use Rattle.ir_module.specs.declared.tree.Function.{Function}
use Rattle.ir_module.specs.Classes.{class_of_function}
use Rattle.ir_values.specs.declared.class.Class.{Class}
use Rattle.ir_values.specs.declared.class.Class.TheVariants as class
use Rattle.ir_values.specs.declared.ids.FuncId.{FuncId}
use Rattle.ir_values.specs.declared.ty.Ty.{Ty}
use Rattle.ir_values.specs.Names.{name_text}
use Rattle.qir_meaning.specs.Effects.{arguments, declared_call, first_result, gate, measure_into, measure_returning, operation}
use Rattle.ir_module.specs.declared.places.Point.{Point}
use Rattle.ir_module.specs.declared.tree.InstKind.{InstKind}
use Rattle.ir_module.specs.declared.tree.InstKind.TheVariants as kind
use Rattle.ir_module.specs.declared.tree.Module.{Module}
use Rattle.ir_module.specs.Operands.{operands_of}
use Rattle.ir_module.specs.Steps.{Step, PhiAt, InstAt, TermAt, NoStep, step_in_module}
use Rattle.ir_values.specs.declared.ids.LocalId.{LocalId}
use Rattle.ir_values.specs.declared.int.Width.{Width}
use Rattle.ir_values.specs.declared.ty.Ty.TheVariants as ty
use Rattle.ir_values.specs.declared.value.Value.{Value}
use Rattle.ir_values.specs.declared.value.Value.TheVariants as value
use Rattle.ir_values.specs.Arithmetic.{allows, converts}
use Rattle.ir_values.specs.Width.{bits_of}
use Rattle.qir_meaning.specs.Moves.{ends, first_point, performs, with_values}
use Rattle.qir_meaning.specs.State.{Env, State, Move, Enter, Stuck, frame, values_of}

abbrev pub same_width : Width → Width → Bool
same_width v w = bits_of v == bits_of w

abbrev pub apt : InstKind → List Value → Bool
apt (kind.Binary op flags t a b) (value.Int i ∷ value.Int j ∷ []) = same_width i.width j.width && allows op flags
apt (kind.Icmp pred t a b) (value.Int i ∷ value.Int j ∷ []) = same_width i.width j.width
apt (kind.Convert conv t a (ty.Int w)) (value.Int i ∷ []) = converts conv i.width w
apt what vs = true

abbrev pub if_apt : Bool → Move → Move
if_apt true move = move
if_apt false move = Stuck

module _ (m : Module) (p : Point) (env : Env) (st : State) where
  -- an operation has as many results among its arguments as its class says
  abbrev pub issues : Option LocalId → List ℕ → Class → List Arg → Move
  issues x name class.Gate args = if_apt (count_by is_result args == 0) (gate p env x st (operation name args) st.answers)
  issues x name class.Measure args = if_apt (count_by is_result args == 1) (measure_into p env x st name args (first_result args))
  issues x name class.Returning args = if_apt (count_by is_result args == 0) (measure_returning p env x st args)
  issues x name c args = Stuck

  abbrev pub declared_apt : Option LocalId → List ℕ → List Ty → Class → List Value → Move
  declared_apt x name ts class.Gate vs = arguments st ts vs (issues x name class.Gate)
  declared_apt x name ts class.Measure vs = arguments st ts vs (issues x name class.Measure)
  declared_apt x name ts class.Returning vs = arguments st ts vs (issues x name class.Returning)
  declared_apt x name ts c vs = declared_call p env x st name ts c vs

  abbrev pub of_class : Option LocalId → Function → Option Class → List Ty → List Value → Move
  of_class x f None ts vs = Stuck
  of_class x f (Some c) ts vs = declared_apt x (name_text f.name) ts c vs

  abbrev pub body_apt : Option LocalId → FuncId → Function → Option (List Block) → List Ty → List Value → Move
  body_apt x g f None ts vs = of_class x f (class_of_function f) ts vs
  body_apt x g f (Some blocks) ts vs = Enter (first_point g) (frame f vs) x st

  abbrev pub calls_apt : Option LocalId → FuncId → Option Function → List Ty → List Value → Move
  calls_apt x g None ts vs = Stuck
  calls_apt x g (Some f) ts vs = body_apt x g f f.blocks ts vs

  abbrev pub performs_apt : Option LocalId → InstKind → List Value → Move
  performs_apt x (kind.Call ret f args) (value.Func g ∷ vs) = calls_apt x g (slice_get m.funcs g.0) (map (λ a. a.0) args) vs
  performs_apt x what vs = if_apt (apt what vs) (performs m p env st x what vs)

  abbrev pub does_apt : Option LocalId → InstKind → Move
  does_apt x what = with_values (values_of env (operands_of what)) st (performs_apt x what)

  abbrev pub step_apt : Step → Move
  step_apt (PhiAt phi) = Stuck
  step_apt (InstAt i) = does_apt i.result i.what
  step_apt (TermAt t) = ends m p env st t
  step_apt NoStep = Stuck

-- what the instruction at a point does
unfoldable pub move_apt : Module → Point → Env → State → Move
move_apt m p env st = step_apt m p env st (step_in_module m p)

abbrev pub IsNoCall : InstKind → Type 0
IsNoCall (kind.Call ret f args) = ⊥
IsNoCall what = ⊤
