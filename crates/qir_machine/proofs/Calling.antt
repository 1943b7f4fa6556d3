-- Calls, by what is called.
use Rattle.std.proofs.Common.{◌≡◌, ◌∙◌, ℕ, zero, suc, List, [], ◌∷◌, map, Option, None, Some, refl, sym, ap}
use Rattle.std.specs.Prelude.{slice_get}
use Rattle.ir_module.specs.declared.places.Point.{Point}
use Rattle.ir_module.specs.declared.tree.Block.{Block}
use Rattle.ir_module.specs.declared.tree.Callee.{Callee}
use Rattle.ir_module.specs.declared.tree.Function.{Function}
use Rattle.ir_module.specs.declared.tree.InstKind.TheVariants as kind
use Rattle.ir_module.specs.declared.tree.Module.{Module}
use Rattle.ir_module.specs.declared.tree.Operand.{Operand}
use Rattle.ir_module.specs.Classes.{class_of_function}
use Rattle.ir_module.specs.Operands.{callee_operand, operands_of}
use Rattle.ir_values.specs.Names.{name_text}
use Rattle.ir_values.specs.declared.cause.Cause.TheVariants as cause
use Rattle.ir_values.specs.declared.class.Class.{Class}
use Rattle.ir_values.specs.declared.ids.FuncId.{FuncId}
use Rattle.ir_values.specs.declared.ids.LocalId.{LocalId}
use Rattle.ir_values.specs.declared.ty.Ty.{Ty}
use Rattle.ir_values.specs.declared.value.Value.{Value}
use Rattle.ir_values.specs.declared.value.Value.TheVariants as value
use Rattle.machine_frames.specs.code.Apt.{body_apt, calls_apt, declared_apt, does_apt, of_class, performs_apt}
use Rattle.qir_machine.specs.declared.calls.Called.TheVariants as called
use Rattle.qir_machine.specs.code.Machines.{called_by}
use Rattle.qir_meaning.specs.Moves.{first_point, with_values}
use Rattle.qir_meaning.specs.State.{Env, State, Move, Enter, Halt, Stuck, Trap, frame, one_more, value_of, values_of}

pub none-some : {A : Type 0} (x : A) → ◌≡◌ {A = Option A} None (Some x) → ⊥
none-some x e = cc

-- the class of a function, in the list of the classes of all
pub class-at : (funcs : List Function) (n : ℕ) (f : Function) → slice_get funcs n ≡ Some f → slice_get (map class_of_function funcs) n ≡ Some (class_of_function f)
class-at [] n f e = cc
class-at (g ∷ funcs) zero f e = let h : g ≡ f = cc in ap (λ k. Some (class_of_function k)) h
class-at (g ∷ funcs) (suc n) f e = class-at funcs n f e

module _ (m : Module) (p : Point) (env : Env) (st : State) (x : Option LocalId) (g : FuncId) (ts : List Ty) (vs : List Value) where
  pub no-function : slice_get m.funcs g.0 ≡ None → calls_apt m p env st x g (slice_get m.funcs g.0) ts vs ≡ Stuck
  no-function e = ap (λ o. calls_apt m p env st x g o ts vs) e

  module _ (f : Function) (is : slice_get m.funcs g.0 ≡ Some f) where
    pub enters : (bs : List Block) → f.blocks ≡ Some bs → calls_apt m p env st x g (slice_get m.funcs g.0) ts vs ≡ Enter (first_point g) (frame f vs) x st
    enters bs e = ap (λ o. calls_apt m p env st x g o ts vs) is ∙ ap (λ o. body_apt m p env st x g f o ts vs) e

    pub of-its-class : (c : Option Class) → f.blocks ≡ None → class_of_function f ≡ c → calls_apt m p env st x g (slice_get m.funcs g.0) ts vs ≡ of_class m p env st x f c ts vs
    of-its-class c e h =
        ap (λ o. calls_apt m p env st x g o ts vs) is ∙ ap (λ o. body_apt m p env st x g f o ts vs) e ∙ ap (λ o. of_class m p env st x f o ts vs) h

module _ (m : Module) (p : Point) (env : Env) (st : State) (x : Option LocalId) (callee : Callee) (args : List (Ty × Operand)) (ret : Ty) where
  abbrev calling : Move
  calling = does_apt m p env st x (kind.Call ret callee args)

  abbrev with_both : Option Value → Option (List Value) → Move
  with_both f vs = with_values (one_more f vs) st (performs_apt m p env st x (kind.Call ret callee args))

  -- an argument without a value
  pub unbound-argument : values_of env (map (λ (a : Ty × Operand). a.1) args) ≡ None → calling ≡ Halt (Trap cause.Unbound) st
  unbound-argument e = ap (with_both (value_of env (callee_operand callee))) e ∙ by-callee (value_of env (callee_operand callee))
    where
      by-callee : (o : Option Value) → with_both o None ≡ Halt (Trap cause.Unbound) st
      by-callee None = refl
      by-callee (Some v) = refl

  module _ (vs : List Value) (e : values_of env (map (λ (a : Ty × Operand). a.1) args) ≡ Some vs) where
    pub calls-function : (g : FuncId) → called.Func g ≡ called_by (value_of env (callee_operand callee)) → calling ≡ calls_apt m p env st x g (slice_get m.funcs g.0) (map (λ (a : Ty × Operand). a.0) args) vs
    calls-function g h = ap (with_both (value_of env (callee_operand callee))) e ∙ by-callee (value_of env (callee_operand callee)) h
      where
        by-callee : (o : Option Value) → called.Func g ≡ called_by o → with_both o (Some vs) ≡ calls_apt m p env st x g (slice_get m.funcs g.0) (map (λ (a : Ty × Operand). a.0) args) vs
        by-callee None h = cc
        by-callee (Some (value.Func k)) h = let i : g ≡ k = cc in ap (λ j. calls_apt m p env st x j (slice_get m.funcs j.0) (map (λ (a : Ty × Operand). a.0) args) vs) (sym i)
        by-callee (Some v) h = cc

    pub unbound-callee : called.Unbound ≡ called_by (value_of env (callee_operand callee)) → calling ≡ Halt (Trap cause.Unbound) st
    unbound-callee h = ap (with_both (value_of env (callee_operand callee))) e ∙ by-callee (value_of env (callee_operand callee)) h
      where
        by-callee : (o : Option Value) → called.Unbound ≡ called_by o → with_both o (Some vs) ≡ Halt (Trap cause.Unbound) st
        by-callee None h = refl
        by-callee (Some (value.Func k)) h = cc
        by-callee (Some v) h = cc

    pub no-callee : called.Lost ≡ called_by (value_of env (callee_operand callee)) → calling ≡ Stuck
    no-callee h = ap (with_both (value_of env (callee_operand callee))) e ∙ by-callee (value_of env (callee_operand callee)) h
      where
        by-callee : (o : Option Value) → called.Lost ≡ called_by o → with_both o (Some vs) ≡ Stuck
        by-callee None h = cc
        by-callee (Some (value.Func k)) h = cc
        by-callee (Some v) h = refl
