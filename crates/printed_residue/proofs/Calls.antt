-- What declared calls read, and what is declared.
use Rattle.std.proofs.Common.{◌≡◌, ℕ, ◌<◌, Bool, true, false, Option, None, Some, List, [], ◌∷◌, refl}
use Rattle.std.specs.List.{list_any}
use Rattle.std.specs.Prelude.{⊤, ◌||◌, slice_get}
use Rattle.backend_api.specs.declared.operation.Arg.{Arg}
use Rattle.backend_api.specs.declared.operation.ResultRef.{ResultRef}
use Rattle.backend_api.specs.declared.operation.ResultRef.TheVariants as result
use Rattle.ir_module.specs.declared.tree.Function.{Function}
use Rattle.ir_module.specs.declared.tree.Module.{Module}
use Rattle.ir_module.specs.Classes.{class_of_function}
use Rattle.ir_values.specs.declared.cause.Cause.TheVariants as cause
use Rattle.ir_values.specs.declared.class.Class.{Class}
use Rattle.ir_values.specs.declared.class.Class.TheVariants as class
use Rattle.ir_values.specs.declared.ids.FuncId.{FuncId}
use Rattle.ir_values.specs.declared.ty.Ty.{Ty}
use Rattle.ir_values.specs.declared.ty.Ty.TheVariants as ty
use Rattle.ir_values.specs.declared.value.Value.{Value}
use Rattle.ir_values.specs.declared.value.Value.TheVariants as value
use Rattle.ir_values.specs.ClassTypes.{is_result_type}
use Rattle.ir_values.specs.Int.{IntValue}
use Rattle.ir_values.specs.Names.{name_text}
use Rattle.qir_meaning.specs.Effects.{known_bit, reading, first_result}
use Rattle.qir_meaning.specs.State.{Env, State, Stuck, bit_of}
use Rattle.qir_meaning.specs.State as run
use Rattle.kept_items.specs.declared.val.Val.{Val}
use Rattle.kept_items.specs.declared.val.Val.TheVariants.{Known}
use Rattle.kept_items.specs.Items.{valued, Got, Bit, Unset, NoResult, got, bit_read, arg_of, args_of, one_arg}

-- a function is declared with this name and class
pub record Declares (l : Module) (g : FuncId) (name : List ℕ) (c : Class) : Type 0 where
  pub function : Function
  pub is : slice_get l.funcs g.0 ≡ Some function
  pub no_body : function.blocks ≡ None
  pub named : name_text function.name ≡ name
  pub class : class_of_function function ≡ Some c

-- a measurement has a result among its arguments
abbrev pub measures : List (Ty × Val) → Bool
measures args = list_any (λ a. is_result_type a.0) args

abbrev pub op_class : Bool → Class
op_class true = class.Measure
op_class false = class.Gate

-- the fixed numbers of results are below r
abbrev pub ValueBelow : ℕ → Value → Type 0
ValueBelow r (value.Id i) = i < r
ValueBelow r v = ⊤

abbrev pub ResultBelow : ℕ → Ty → Val → Type 0
ResultBelow r ty.Res (Known v) = ValueBelow r v
ResultBelow r t a = ⊤

abbrev pub ResultsBelow : ℕ → List (Ty × Val) → Type 0
ResultsBelow r [] = ⊤
ResultsBelow r (a ∷ args) = ResultBelow r a.0 a.1 × ResultsBelow r args

abbrev pub by_got : State → Got → (Bool → run.Move) → run.Move
by_got st (Bit b) go = go b
by_got st Unset go = run.Halt (run.Trap cause.ReadUnset) st
by_got st NoResult go = Stuck

pub reading-is : (st : State) (v : Value) (go : Bool → run.Move) → reading st v go ≡ by_got st (bit_read st v) go
reading-is st value.One go = refl
reading-is st value.Zero go = refl
reading-is st (value.Id i) go = known-is (bit_of st (result.Id i))
  where
    known-is : (o : Option Bool) → known_bit st o go ≡ by_got st (got o) go
    known-is None = refl
    known-is (Some b) = refl
reading-is st (value.Measured i) go = known-is (bit_of st (result.Measured i))
  where
    known-is : (o : Option Bool) → known_bit st o go ≡ by_got st (got o) go
    known-is None = refl
    known-is (Some b) = refl
reading-is st v go = refl

-- an operation is a measurement where it has a result among its arguments
abbrev pub AgreeOn : Bool → Option ResultRef → Type 0
AgreeOn true None = ⊥
AgreeOn true (Some r) = ⊤
AgreeOn false None = ⊤
AgreeOn false (Some r) = ⊥

abbrev pub Agree : Bool → Option (List Arg) → Type 0
Agree b None = ⊤
Agree b (Some args) = AgreeOn b (first_result args)

pub agrees : (ds : List IntValue) (st : State) (args : List (Ty × Val)) → Agree (measures args) (args_of ds st args)
agrees ds st [] = tt
agrees ds st (a ∷ args) = join a.0 (valued ds a.1) (args_of ds st args) (agrees ds st args)
  where
    join : (t : Ty) (v : Value) (o : Option (List Arg)) → Agree (measures args) o → Agree (is_result_type t || measures args) (one_arg (arg_of t v) o)
    join ty.Qubit (value.Id i) None h = tt
    join ty.Qubit (value.Id i) (Some as_) h = h
    join ty.Qubit (value.Alloc i) None h = tt
    join ty.Qubit (value.Alloc i) (Some as_) h = h
    join ty.Res (value.Id i) None h = tt
    join ty.Res (value.Id i) (Some as_) h = tt
    join ty.Res (value.Measured i) None h = tt
    join ty.Res (value.Measured i) (Some as_) h = tt
    join ty.Double (value.Double d) None h = tt
    join ty.Double (value.Double d) (Some as_) h = h
    join (ty.Int w) (value.Int i) None h = tt
    join (ty.Int w) (value.Int i) (Some as_) h = h
    join t v o h = tt
