-- What one instruction does, by one case for each kind (LLVM Language Reference, 'Instruction Reference').
use Rattle.std.specs.Prelude.{◌==◌, if◌then◌else◌, Option, None, Some, List, [], ◌∷◌, length, map, slice_get, slice_set, Result, Ok, Err}
use Rattle.ir_module.specs.declared.places.Point.{Point}
use Rattle.ir_module.specs.declared.tree.Block.{Block}
use Rattle.ir_module.specs.declared.tree.Function.{Function}
use Rattle.ir_module.specs.declared.tree.InstKind.{InstKind}
use Rattle.ir_module.specs.declared.tree.InstKind.TheVariants as kind
use Rattle.ir_module.specs.declared.tree.Module.{Module}
use Rattle.ir_module.specs.declared.tree.Operand.{Operand}
use Rattle.ir_module.specs.declared.tree.Phi.{Phi}
use Rattle.ir_module.specs.declared.tree.Term.{Term}
use Rattle.ir_module.specs.declared.tree.Term.TheVariants as term
use Rattle.ir_module.specs.Classes.{class_of_function}
use Rattle.ir_module.specs.Operands.{operands_of}
use Rattle.ir_module.specs.Steps.{Step, PhiAt, InstAt, TermAt, NoStep, step_in_module}
use Rattle.ir_module.specs.Tree.{block_at}
use Rattle.ir_values.specs.declared.ty.Ty.{Ty}
use Rattle.ir_values.specs.declared.ty.Ty.TheVariants as ty
use Rattle.ir_values.specs.declared.ids.BlockId.{BlockId}
use Rattle.ir_values.specs.declared.cause.Cause.{Cause}
use Rattle.ir_values.specs.declared.cause.Cause.TheVariants as cause
use Rattle.ir_values.specs.declared.class.Class.{Class}
use Rattle.ir_values.specs.declared.ids.FuncId.{FuncId}
use Rattle.ir_values.specs.declared.ids.LocalId.{LocalId}
use Rattle.ir_values.specs.declared.value.Value.{Value}
use Rattle.ir_values.specs.declared.value.Value.TheVariants as value
use Rattle.ir_values.specs.Arithmetic.{binary_of, compare_of, convert_of}
use Rattle.ir_values.specs.Int.{IntValue}
use Rattle.ir_values.specs.Names.{name_text}
use Rattle.qir_meaning.specs.Effects.{bit_value, declared_call, gives, is_one}
use Rattle.qir_meaning.specs.State.{Env, State, Trap, Move, Next, Enter, Back, Halt, Stuck, value_of, values_of, frame}

abbrev pub given : {A B : Type 0} → Option A → (A → Option B) → Option B
given None go = None
given (Some x) go = go x

-- a name without a value stops the run
abbrev pub with_value : Option Value → State → (Value → Move) → Move
with_value None st go = Halt (Trap cause.Unbound) st
with_value (Some v) st go = go v

abbrev pub with_values : Option (List Value) → State → (List Value → Move) → Move
with_values None st go = Halt (Trap cause.Unbound) st
with_values (Some vs) st go = go vs

abbrev pub first_point : FuncId → Point
first_point f = record { func = f; block = record { 0 = 0 }; index = 0 }

module _ (m : Module) (p : Point) (env : Env) (st : State) where
  abbrev pub declared : Option LocalId → Function → Option Class → List Ty → List Value → Move
  declared x f None ts vs = Stuck
  declared x f (Some c) ts vs = declared_call p env x st (name_text f.name) ts c vs

  abbrev pub with_body : Option LocalId → FuncId → Function → Option (List Block) → List Ty → List Value → Move
  with_body x g f None ts vs = declared x f (class_of_function f) ts vs
  with_body x g f (Some blocks) ts vs = Enter (first_point g) (frame f vs) x st

  -- the call of a function: one with a body gets a frame, and a declared one does what its class says
  abbrev pub calls : Option LocalId → FuncId → Option Function → List Ty → List Value → Move
  calls x g None ts vs = Stuck
  calls x g (Some f) ts vs = with_body x g f f.blocks ts vs

  -- the result of an operation on integers, or the cause for which it traps
  abbrev pub computes : Option LocalId → Result IntValue Cause → Move
  computes x (Ok i) = gives p env x st (value.Int i) st
  computes x (Err why) = Halt (Trap why) st

  -- an instruction whose result is named x, by the values of its operands and their widths; a conversion leads
  -- to its second type
  abbrev pub performs : Option LocalId → InstKind → List Value → Move
  performs x (kind.Binary op flags t a b) (value.Int i ∷ value.Int j ∷ []) = computes x (binary_of op flags i j)
  performs x (kind.Icmp pred t a b) (value.Int i ∷ value.Int j ∷ []) = gives p env x st (bit_value (compare_of pred i j)) st
  performs x (kind.Convert conv t a (ty.Int w)) (value.Int i ∷ []) = gives p env x st (value.Int (convert_of conv i w)) st
  performs x (kind.Select c t a u b) (value.Int i ∷ v ∷ w ∷ []) = gives p env x st (if is_one i then v else w) st
  performs x (kind.Call ret f args) (value.Func g ∷ vs) = calls x g (slice_get m.funcs g.0) (map (λ a. a.0) args) vs
  performs x what vs = Stuck

  abbrev pub does : Option LocalId → InstKind → Move
  does x what = with_values (values_of env (operands_of what)) st (performs x what)

abbrev pub entry_for : List (Operand × BlockId) → BlockId → Option Operand
entry_for [] from = None
entry_for (e ∷ es) from = if e.1.0 == from.0 then Some e.0 else entry_for es from

-- the phis of a block take their values together, from those before the edge; an operand without a value leaves none
abbrev pub phis_take : List Phi → BlockId → Env → Env → Option Env
phis_take [] from old new = Some new
phis_take (phi ∷ phis) from old new =
    given (entry_for phi.entries from) (λ a. phis_take phis from old (slice_set new phi.result.0 (value_of old a)))

abbrev pub block_in : Module → FuncId → BlockId → Option Block
block_in m f b = given (slice_get m.funcs f.0) (λ g. block_at g b)

-- the block of the case that equals, else the default
abbrev pub target_of : IntValue → List (IntValue × BlockId) → BlockId → BlockId
target_of i [] default = default
target_of i (c ∷ cs) default = if c.0.bits == i.bits then c.1 else target_of i cs default

abbrev pub with_int : Value → (IntValue → Move) → Move
with_int (value.Int i) go = go i
with_int v go = Stuck

module _ (m : Module) (p : Point) (env : Env) (st : State) where
  abbrev pub arrives : BlockId → Block → Option Env → Move
  arrives b to None = Stuck
  arrives b to (Some env') = Next (record { func = p.func; block = b; index = length to.phis }) env' st

  abbrev pub leads_to : BlockId → Option Block → Move
  leads_to b None = Stuck
  leads_to b (Some to) = arrives b to (phis_take to.phis p.block env env)

  -- along the edge to a block, at no cost
  abbrev pub jump : BlockId → Move
  jump b = leads_to b (block_in m p.func b)

  abbrev pub ends : Term → Move
  ends term.RetVoid = Back None
  ends (term.Ret t a) = with_value (value_of env a) st (λ v. Back (Some v))
  ends (term.Br b) = jump b
  ends (term.CondBr c on_true on_false) =
      with_value (value_of env c) st (λ v. with_int v (λ i. jump (if is_one i then on_true else on_false)))
  ends (term.Switch t a default cases) =
      with_value (value_of env a) st (λ v. with_int v (λ i. jump (target_of i cases default)))

  abbrev pub step_move : Step → Move
  step_move (PhiAt phi) = Stuck
  step_move (InstAt i) = does m p env st i.result i.what
  step_move (TermAt t) = ends t
  step_move NoStep = Stuck

-- what the instruction at a point does, from the values of its frame and the state before it
unfoldable pub move : Module → Point → Env → State → Move
move m p env st = step_move m p env st (step_in_module m p)
