-- One instruction of the printed module: its tick, its operands, and a further name.
use Rattle.std.proofs.Common.{◌≡◌, ℕ, zero, suc, ◌+◌, ◌-◌, true, Option, None, Some, List, [], ◌∷◌, length, map, refl, sym, ap, ◌∙◌, arith}
use Rattle.std.proofs.lemmas.List.{map-append}
use Rattle.std.specs.Prelude.{⊤, slice_get}
use Rattle.backend_api.specs.declared.operation.Answer.{Answer}
use Rattle.backend_api.specs.declared.operation.Arg.{Arg}
use Rattle.backend_api.specs.declared.operation.Arg.TheVariants as arg
use Rattle.backend_api.specs.declared.operation.Op.{Op}
use Rattle.backend_api.specs.declared.operation.QubitRef.TheVariants as qubit
use Rattle.backend_api.specs.declared.operation.ResultRef.{ResultRef}
use Rattle.backend_api.specs.declared.operation.ResultRef.TheVariants as result
use Rattle.backend_api.specs.Naming.{Naming, named_arg, named_op, named_event}
use Rattle.ir_module.specs.declared.places.Point.{Point}
use Rattle.ir_module.specs.declared.tree.Block.{Block}
use Rattle.ir_module.specs.declared.tree.Callee.TheVariants as callee
use Rattle.ir_module.specs.declared.tree.Function.{Function}
use Rattle.ir_module.specs.declared.tree.Inst.{Inst}
use Rattle.ir_module.specs.declared.tree.InstKind.TheVariants as kind
use Rattle.ir_module.specs.declared.tree.Module.{Module}
use Rattle.ir_module.specs.declared.tree.Operand.{Operand}
use Rattle.ir_module.specs.Tree.{block_at}
use Rattle.ir_module.specs.Steps.{Step, PhiAt, InstAt, TermAt, NoStep, step_at, step_of_point, step_in_module}
use Rattle.ir_values.specs.declared.ty.Ty.{Ty}
use Rattle.ir_values.specs.declared.ty.Ty.TheVariants as ty
use Rattle.ir_values.specs.declared.ids.BlockId.{BlockId}
use Rattle.ir_values.specs.declared.class.Class.{Class}
use Rattle.ir_values.specs.declared.ids.FuncId.{FuncId}
use Rattle.ir_values.specs.declared.ids.LocalId.{LocalId}
use Rattle.ir_values.specs.declared.value.Value.{Value}
use Rattle.ir_values.specs.declared.value.Value.TheVariants as value
use Rattle.ir_values.specs.Int.{IntValue}
use Rattle.qir_meaning.specs.code.Steps.{Whole, tick, tick_of}
use Rattle.qir_meaning.specs.Effects.{argument, arguments, declared_call, first_result}
use Rattle.qir_meaning.specs.Moves.{move, does, performs, calls, with_body, declared, with_values, step_move, given, block_in}
use Rattle.qir_meaning.specs.Naming.{fixed_naming}
use Rattle.qir_meaning.specs.State.{Env, State, next, bind, value_at, value_of, values_of, one_more, with_event, with_bit, bit_of}
use Rattle.qir_meaning.specs.State as run
use Rattle.kept_items.specs.declared.val.Val.{Val}
use Rattle.kept_items.specs.declared.val.Val.TheVariants.{Known, Dynamic}
use Rattle.residue.specs.Instructions.{Words, named_value, operand_of, typed_operand}
use Rattle.kept_items.specs.Items.{dynamic, valued, arg_of, args_of, one_arg}
use Rattle.printed_residue.specs.Places.{at_name, lowered_state}
use Rattle.printed_residue.proofs.Calls.{AgreeOn, Declares}

-- the instruction behind the phis of a block

abbrev or-else : {A : Type 0} → Option A → (A → Step) → Step → Step
or-else None f s = s
or-else (Some x) f s = f x

pub past : {A : Type 0} (xs : List A) (n : ℕ) → slice_get xs (length xs + n) ≡ None
past [] n = refl
past (x ∷ xs) n = let e : length (x ∷ xs) + n ≡ suc (length xs + n) = omega arith in ap (slice_get (x ∷ xs)) e ∙ past xs n

abbrev pub point : FuncId → BlockId → ℕ → Point
point f b n = record { func = f; block = b; index = n }

pub inst-behind : (b : Block) (j : ℕ) (x : Inst) → slice_get b.insts j ≡ Some x → step_at b (length b.phis + j) ≡ InstAt x
inst-behind b j x h =
    let e : length b.phis + j - length b.phis ≡ j = omega arith in
    ap (λ o. or-else o PhiAt (or-else (slice_get b.insts (length b.phis + j - length b.phis)) InstAt (ending (length b.phis + j - (length b.phis + length b.insts))))) (past b.phis j)
    ∙ ap (λ n. or-else (slice_get b.insts n) InstAt (ending (length b.phis + j - (length b.phis + length b.insts)))) e
    ∙ ap (λ o. or-else o InstAt (ending (length b.phis + j - (length b.phis + length b.insts)))) h
  where
    ending : ℕ → Step
    ending zero = TermAt b.term
    ending (suc n) = NoStep

abbrev in-function : Option Function → Point → Step
in-function None p = NoStep
in-function (Some f) p = step_of_point f p

abbrev in-block : Option Block → ℕ → Step
in-block None i = NoStep
in-block (Some b) i = step_at b i

pub step-is : (l : Module) (p : Point) (b : Block) → block_in l p.func p.block ≡ Some b → step_in_module l p ≡ step_at b p.index
step-is l p b h = by-function (slice_get l.funcs p.func.0) h
  where
    by-function : (o : Option Function) → given o (λ g. block_at g p.block) ≡ Some b → in-function o p ≡ step_at b p.index
    by-function None h = cc
    by-function (Some f) h = ap (λ o. in-block o p.index) h

-- the tick of the instruction at a place
pub inst-tick : (l : Module) (f : FuncId) (c : BlockId) (b : Block) (j : ℕ) (x : Inst) (v : Whole) → block_in l f c ≡ Some b → slice_get b.insts j ≡ Some x → v.at ≡ point f c (length b.phis + j) → tick l v ≡ tick_of v (does l v.at v.env v.state x.result x.what)
unfolding tick move
inst-tick l f c b j x v hb hx hp =
    ap (λ s. tick_of v (step_move l v.at v.env v.state s))
    (ap (step_in_module l) hp ∙ step-is l (point f c (length b.phis + j)) b hb ∙ inst-behind b j x hx)

-- operands
module _ (ws : Words) (ds : List IntValue) (env : Env) where
  -- a Dynamic value is that of its name
  abbrev pub Has : Val → Type 0
  Has (Known v) = ⊤
  Has (Dynamic d) = at_name env (ws.name_of d.0) ≡ Some (value.Int (dynamic ds d))

  abbrev pub AllHave : List (Ty × Val) → Type 0
  AllHave [] = ⊤
  AllHave (a ∷ args) = Has a.1 × AllHave args

  pub operand-has : (a : Val) → Has a → value_of env (operand_of ws a) ≡ Some (named_value ws (valued ds a))
  operand-has (Known v) i = refl
  operand-has (Dynamic d) i = i

  abbrev values : List (Ty × Val) → List Value
  values args = map (λ a. named_value ws (valued ds a.1)) args

  pub operands-have : (args : List (Ty × Val)) → AllHave args → values_of env (map (λ a. a.1) (map (typed_operand ws) args)) ≡ Some (values args)
  operands-have [] i = refl
  operands-have (a ∷ args) i =
      ap (λ o. one_more o (values_of env (map (λ a. a.1) (map (typed_operand ws) args)))) (operand-has a.1 i.0) ∙ ap (one_more (Some (named_value ws (valued ds a.1)))) (operands-have args i.1)

-- arguments under the naming
module _ (ws : Words) where
  abbrev N : Naming
  N = fixed_naming ws.qubits ws.results

  lowered-argument : (st : State) (t : Ty) (v : Value) (a : Arg) (go : Arg → run.Move) → arg_of t v ≡ Some a → argument (lowered_state N st) t (named_value ws v) go ≡ go (named_arg N a)
  lowered-argument st ty.Qubit (value.Id i) a go h = let s : arg.Qubit (qubit.Id i) ≡ a = cc in ap (λ x. go (named_arg N x)) s
  lowered-argument st ty.Qubit (value.Alloc i) a go h = let s : arg.Qubit (qubit.Alloc i) ≡ a = cc in ap (λ x. go (named_arg N x)) s
  lowered-argument st ty.Res (value.Id i) a go h = let s : arg.Res (result.Id i) ≡ a = cc in ap (λ x. go (named_arg N x)) s
  lowered-argument st ty.Res (value.Measured i) a go h = let s : arg.Res (result.Measured i) ≡ a = cc in ap (λ x. go (named_arg N x)) s
  lowered-argument st ty.Double (value.Double d) a go h = let s : arg.Double d ≡ a = cc in ap (λ x. go (named_arg N x)) s
  lowered-argument st (ty.Int w) (value.Int i) a go h = let s : arg.Int i ≡ a = cc in ap (λ x. go (named_arg N x)) s
  lowered-argument st t v a go h = cc

  pub lowered-arguments : (ds : List IntValue) (st : State) (args : List (Ty × Val)) (as_ : List Arg) (go : List Arg → run.Move) → args_of ds st args ≡ Some as_
      → arguments (lowered_state N st) (map (λ a. a.0) args) (map (λ a. named_value ws (valued ds a.1)) args) go ≡ go (map (named_arg N) as_)
  lowered-arguments ds st [] as_ go h = let s : [] ≡ as_ = cc in ap (λ x. go (map (named_arg N) x)) s
  lowered-arguments ds st (a ∷ args) as_ go h = by-first (arg_of a.0 (valued ds a.1)) refl (args_of ds st args) (λ bs go' e. lowered-arguments ds st args bs go' e) h
    where
      by-first : (o : Option Arg) → arg_of a.0 (valued ds a.1) ≡ o → (p : Option (List Arg)) → ((bs : List Arg) (go' : List Arg → run.Move) → p ≡ Some bs → arguments (lowered_state N st) (map (λ a. a.0) args) (map (λ a. named_value ws (valued ds a.1)) args) go' ≡ go' (map (named_arg N) bs)) → one_arg o p ≡ Some as_
          → argument (lowered_state N st) a.0 (named_value ws (valued ds a.1)) (λ x. arguments (lowered_state N st) (map (λ a. a.0) args) (map (λ a. named_value ws (valued ds a.1)) args) (λ xs. go (x ∷ xs))) ≡ go (map (named_arg N) as_)
      by-first None e p ih h = cc
      by-first (Some x) e None ih h = cc
      by-first (Some x) e (Some bs) ih h =
          let s : x ∷ bs ≡ as_ = cc in
          lowered-argument st a.0 (valued ds a.1) x (λ x. arguments (lowered_state N st) (map (λ a. a.0) args) (map (λ a. named_value ws (valued ds a.1)) args) (λ xs. go (x ∷ xs))) e
          ∙ ih bs (λ xs. go (named_arg N x ∷ xs)) refl
          ∙ ap (λ z. go (map (named_arg N) z)) s

  pub named-result : (args : List Arg) → AgreeOn true (first_result args) → (q : ResultRef) × (first_result args ≡ Some q) × (first_result (map (named_arg N) args) ≡ Some (N.result q))
  named-result [] h = absurd h
  named-result (arg.Res q ∷ args) h = (q, refl, refl)
  named-result (arg.Qubit q ∷ args) h = named-result args h
  named-result (arg.Double d ∷ args) h = named-result args h
  named-result (arg.Int i ∷ args) h = named-result args h

  -- an event more on both sides
  pub event-lowered : (st : State) (op : Op) (a : Answer) (rest : List Answer) → with_event (lowered_state N st) (named_op N op) a rest ≡ lowered_state N (with_event st op a rest)
  event-lowered st op a rest = ap (λ es. record (lowered_state N st) { answers = rest; events = es }) (sym (map-append (named_event N) st.events ((record { op = op; answer = a }) ∷ [])))

-- a call of a declared function
pub declared-does : (l : Module) (p : Point) (env : Env) (st : State) (x : Option LocalId) (ret : Ty) (g : FuncId) (args : List (Ty × Operand)) (name : List ℕ) (c : Class) (vs : List Value) → Declares l g name c → values_of env (map (λ a. a.1) args) ≡ Some vs → does l p env st x (kind.Call ret (callee.Func g) args) ≡ declared_call p env x st name (map (λ a. a.0) args) c vs
declared-does l p env st x ret g args name c vs d hv =
    let ts : List Ty = map (λ a. a.0) args in
    ap (λ o. with_values (one_more (Some (value.Func g)) o) st (performs l p env st x (kind.Call ret (callee.Func g) args))) hv
    ∙ ap (λ o. calls l p env st x g o ts vs) d.is
    ∙ ap (λ o. with_body l p env st x g d.function o ts vs) d.no_body
    ∙ ap (λ o. declared l p env st x d.function o ts vs) d.class
    ∙ ap (λ n. declared_call p env x st n ts c vs) d.named
