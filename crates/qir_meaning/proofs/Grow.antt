-- Events and records only grow, and a run that is over stays so.
use Rattle.std.proofs.Common.{◌≡◌, ℕ, zero, suc, ◌≤◌, Bool, true, false, Option, None, Some, List, [], ◌∷◌, ◌++◌, refl, sym, ap, ◌∙◌, subst, arith, append_assoc, append-nil, Result, Ok, Err}
use Rattle.std.specs.Prelude.{if◌then◌else◌, slice_get}
use Rattle.backend_api.specs.declared.operation.Answer.{Answer}
use Rattle.backend_api.specs.declared.operation.Answer.TheVariants as answer
use Rattle.backend_api.specs.declared.operation.Arg.{Arg}
use Rattle.backend_api.specs.declared.operation.Arg.TheVariants as arg
use Rattle.backend_api.specs.declared.operation.Op.{Op}
use Rattle.backend_api.specs.declared.operation.QubitRef.TheVariants as qubit
use Rattle.backend_api.specs.declared.operation.ResultRef.{ResultRef}
use Rattle.backend_api.specs.declared.operation.ResultRef.TheVariants as result
use Rattle.ir_module.specs.declared.places.Point.{Point}
use Rattle.ir_module.specs.declared.tree.Block.{Block}
use Rattle.ir_module.specs.declared.tree.Function.{Function}
use Rattle.ir_module.specs.declared.tree.InstKind.{InstKind}
use Rattle.ir_module.specs.declared.tree.InstKind.TheVariants as kind
use Rattle.ir_module.specs.declared.tree.Module.{Module}
use Rattle.ir_module.specs.declared.tree.Term.{Term}
use Rattle.ir_module.specs.declared.tree.Term.TheVariants as term
use Rattle.ir_module.specs.Steps.{Step, PhiAt, InstAt, TermAt, NoStep, step_in_module}
use Rattle.ir_values.specs.declared.ty.Ty.{Ty}
use Rattle.ir_values.specs.declared.ty.Ty.TheVariants as ty
use Rattle.ir_values.specs.declared.ids.BlockId.{BlockId}
use Rattle.ir_values.specs.declared.cause.Cause.{Cause}
use Rattle.ir_values.specs.declared.class.Class.{Class}
use Rattle.ir_values.specs.declared.class.Class.TheVariants as class
use Rattle.ir_values.specs.declared.ids.FuncId.{FuncId}
use Rattle.ir_values.specs.declared.ids.GlobalId.{GlobalId}
use Rattle.ir_values.specs.declared.ids.LocalId.{LocalId}
use Rattle.ir_values.specs.declared.value.Value.{Value}
use Rattle.ir_values.specs.declared.value.Value.TheVariants as value
use Rattle.ir_values.specs.Arithmetic.{binary_of}
use Rattle.ir_values.specs.Int.{IntValue}
use Rattle.output_records.specs.declared.record.Shown.{Shown}
use Rattle.qir_meaning.specs.Effects.{argument, arguments, known_bit, reading, label_of, releases, gate, measure, measure_into, recorded, declared_call, operation, first_result, is_one}
use Rattle.ir_module.specs.Operands.{operands_of}
use Rattle.ir_values.specs.Names.{name_text}
use Rattle.ir_module.specs.Classes.{class_of_function}
use Rattle.qir_meaning.specs.Moves.{with_value, with_values, with_int, move, step_move, does, computes, performs, declared, with_body, calls, ends, arrives, leads_to, jump, phis_take, block_in, target_of}
use Rattle.qir_meaning.specs.Runs.{RunEnd, Returned, Trapped, Asks, Cut, end_of}
use Rattle.qir_meaning.specs.Same.{Prefix}
use Rattle.qir_meaning.specs.State.{Env, State, Stop, Trap, Ask, Move, Next, Enter, Back, Halt, Stuck, value_of, values_of, is_held, bit_of, with_event, with_bit}
use Rattle.qir_meaning.specs.code.Steps.{Waiting, Outcome, Ended, Jam, returned, Whole, Tick, On, Off, gives_back, tick_of, tick, run, goes}

pub prefix-refl : {A : Type 0} (xs : List A) → Prefix xs xs
prefix-refl xs = ([], sym (append-nil xs))

pub prefix-trans : {A : Type 0} (xs ys zs : List A) → Prefix xs ys → Prefix ys zs → Prefix xs zs
prefix-trans xs ys zs h k = (h.0 ++ k.0, k.1 ∙ ap (λ l. l ++ k.0) h.1 ∙ append_assoc xs h.0 k.0)

-- the later state has all of the earlier one's events and records
abbrev pub Grows : State → State → Type 0
Grows st st' = Prefix st.events st'.events × Prefix st.records st'.records

pub grows-refl : (st : State) → Grows st st
grows-refl st = (prefix-refl st.events, prefix-refl st.records)

pub grows-trans : (a b c : State) → Grows a b → Grows b c → Grows a c
grows-trans a b c h k = (prefix-trans a.events b.events c.events h.0 k.0, prefix-trans a.records b.records c.records h.1 k.1)

abbrev pub IsOverEnd : RunEnd → Type 0
IsOverEnd (Returned code) = Unit {0}
IsOverEnd (Trapped c) = Unit {0}
IsOverEnd (Asks op) = Unit {0}
IsOverEnd Cut = ⊥

stop-over : (stop : Stop) → IsOverEnd (end_of stop)
stop-over (Trap c) = tt
stop-over (Ask op) = tt

abbrev MoveGrows : State → Move → Type 0
MoveGrows st (Next p env st') = Grows st st'
MoveGrows st (Enter q env x st') = Grows st st'
MoveGrows st (Back v) = Unit {0}
MoveGrows st (Halt stop st') = Grows st st'
MoveGrows st Stuck = Unit {0}

module _ (st : State) where
  by-value : (o : Option Value) (go : Value → Move) → ((v : Value) → MoveGrows st (go v)) → MoveGrows st (with_value o st go)
  by-value None go k = grows-refl st
  by-value (Some v) go k = k v

  by-values : (o : Option (List Value)) (go : List Value → Move) → ((vs : List Value) → MoveGrows st (go vs)) → MoveGrows st (with_values o st go)
  by-values None go k = grows-refl st
  by-values (Some vs) go k = k vs

  by-int : (v : Value) (go : IntValue → Move) → ((i : IntValue) → MoveGrows st (go i)) → MoveGrows st (with_int v go)
  by-int (value.Int i) go k = k i
  by-int v go k = tt

  if-held : (b : Bool) (x y : Move) → MoveGrows st x → MoveGrows st y → MoveGrows st (if b then x else y)
  if-held true x y h k = h
  if-held false x y h k = k

  by-argument : (t : Ty) (v : Value) (go : Arg → Move) → ((a : Arg) → MoveGrows st (go a)) → MoveGrows st (argument st t v go)
  by-argument ty.Qubit (value.Id i) go k = k (arg.Qubit (qubit.Id i))
  by-argument ty.Qubit (value.Alloc j) go k = if-held (is_held st j) _ _ (k (arg.Qubit (qubit.Alloc j))) (grows-refl st)
  by-argument ty.Res (value.Id i) go k = k (arg.Res (result.Id i))
  by-argument ty.Res (value.Measured i) go k = k (arg.Res (result.Measured i))
  by-argument ty.Res value.One go k = grows-refl st
  by-argument ty.Res value.Zero go k = grows-refl st
  by-argument ty.Double (value.Double t) go k = k (arg.Double t)
  by-argument (ty.Int w) (value.Int i) go k = k (arg.Int i)
  by-argument t v go k = tt

  by-arguments : (ts : List Ty) (vs : List Value) (go : List Arg → Move) → ((args : List Arg) → MoveGrows st (go args)) → MoveGrows st (arguments st ts vs go)
  by-arguments [] [] go k = k []
  by-arguments (t ∷ ts) (v ∷ vs) go k = by-argument t v _ (λ a. by-arguments ts vs _ (λ args. k (a ∷ args)))
  by-arguments [] (v ∷ vs) go k = tt
  by-arguments (t ∷ ts) [] go k = tt

  by-known : (o : Option Bool) (go : Bool → Move) → ((b : Bool) → MoveGrows st (go b)) → MoveGrows st (known_bit st o go)
  by-known None go k = grows-refl st
  by-known (Some b) go k = k b

  by-reading : (v : Value) (go : Bool → Move) → ((b : Bool) → MoveGrows st (go b)) → MoveGrows st (reading st v go)
  by-reading value.One go k = k true
  by-reading value.Zero go k = k false
  by-reading (value.Id i) go k = by-known (bit_of st (result.Id i)) go k
  by-reading (value.Measured i) go k = by-known (bit_of st (result.Measured i)) go k
  by-reading v go k = tt

  by-label : (v : Value) (go : Option GlobalId → Move) → ((l : Option GlobalId) → MoveGrows st (go l)) → MoveGrows st (label_of v go)
  by-label (value.Label g) go k = k (Some g)
  by-label value.NoLabel go k = k None
  by-label v go k = tt

  grows-event : (op : Op) (a : Answer) (rest : List Answer) → Grows st (with_event st op a rest)
  grows-event op a rest = (((record { op = op; answer = a }) ∷ [], refl), prefix-refl st.records)

  module _ (p : Point) (env : Env) (x : Option LocalId) where
    by-gate : (op : Op) (l : List Answer) → MoveGrows st (gate p env x st op l)
    by-gate op [] = grows-refl st
    by-gate op (answer.Done ∷ rest) = grows-event op answer.Done rest
    by-gate op (answer.Bit b ∷ rest) = grows-refl st

    by-measure : (op : Op) (r : ResultRef) (l : List Answer) (go : State → Move) → ((st' : State) → Grows st st' → MoveGrows st (go st')) → MoveGrows st (measure p env x st op r l go)
    by-measure op r [] go k = grows-refl st
    by-measure op r (answer.Done ∷ rest) go k = grows-refl st
    by-measure op r (answer.Bit b ∷ rest) go k = k (with_bit (with_event st op (answer.Bit b) rest) r b) (grows-event op (answer.Bit b) rest)

    by-releases : (v : Value) → MoveGrows st (releases p env x st v)
    by-releases (value.Id i) = grows-refl st
    by-releases (value.Alloc j) = if-held (is_held st j) _ _ (grows-refl st) (grows-refl st)
    by-releases v = tt

    by-into : (name : List ℕ) (args : List Arg) (o : Option ResultRef) → MoveGrows st (measure_into p env x st name args o)
    by-into name args None = tt
    by-into name args (Some r) = by-measure (operation name args) r st.answers _ (λ st' h. h)

    by-recorded : (label : Value) (what : Shown) → MoveGrows st (recorded p env x st label what)
    by-recorded label what = by-label label _ (λ l. (prefix-refl st.events, ((record { shown = what; label = l }) ∷ [], refl)))

    by-declared : (name : List ℕ) (ts : List Ty) (c : Class) (vs : List Value) → MoveGrows st (declared_call p env x st name ts c vs)
    by-declared name ts class.Init vs = grows-refl st
    by-declared name ts class.Alloc vs = grows-refl st
    by-declared name ts class.Release (v ∷ []) = by-releases v
    by-declared name ts class.One vs = grows-refl st
    by-declared name ts class.Zero vs = grows-refl st
    by-declared name ts class.Equal (v ∷ w ∷ []) = by-reading v _ (λ a. by-reading w _ (λ b. grows-refl st))
    by-declared name ts class.Count vs = grows-refl st
    by-declared name ts class.Read (v ∷ []) = by-reading v _ (λ b. grows-refl st)
    by-declared name ts class.Tuple (value.Int i ∷ l ∷ []) = by-recorded l _
    by-declared name ts class.Array (value.Int i ∷ l ∷ []) = by-recorded l _
    by-declared name ts class.ResRecord (v ∷ l ∷ []) = by-reading v _ (λ b. by-recorded l _)
    by-declared name ts class.BoolRecord (value.Int i ∷ l ∷ []) = by-recorded l _
    by-declared name ts class.IntRecord (value.Int i ∷ l ∷ []) = by-recorded l _
    by-declared name ts class.DoubleRecord (value.Double t ∷ l ∷ []) = by-recorded l _
    by-declared name ts class.Returning vs = by-arguments ts vs _ (λ args. by-measure _ _ st.answers _ (λ st' h. h))
    by-declared name ts class.Measure vs = by-arguments ts vs _ (λ args. by-into name args (first_result args))
    by-declared name ts class.Gate vs = by-arguments ts vs _ (λ args. by-gate (operation name args) st.answers)
    by-declared name ts c vs = tt

    module _ (m : Module) where
      by-class : (f : Function) (c : Option Class) (ts : List Ty) (vs : List Value) → MoveGrows st (declared m p env st x f c ts vs)
      by-class f None ts vs = tt
      by-class f (Some c) ts vs = by-declared (name_text f.name) ts c vs

      by-body : (g : FuncId) (f : Function) (o : Option (List Block)) (ts : List Ty) (vs : List Value) → MoveGrows st (with_body m p env st x g f o ts vs)
      by-body g f None ts vs = by-class f (class_of_function f) ts vs
      by-body g f (Some blocks) ts vs = grows-refl st

      by-calls : (g : FuncId) (o : Option Function) (ts : List Ty) (vs : List Value) → MoveGrows st (calls m p env st x g o ts vs)
      by-calls g None ts vs = tt
      by-calls g (Some f) ts vs = by-body g f f.blocks ts vs

      by-computes : (r : Result IntValue Cause) → MoveGrows st (computes m p env st x r)
      by-computes (Ok i) = grows-refl st
      by-computes (Err why) = grows-refl st

      by-performs : (what : InstKind) (vs : List Value) → MoveGrows st (performs m p env st x what vs)
      by-performs (kind.Binary op flags t a b) (value.Int i ∷ value.Int j ∷ []) = by-computes (binary_of op flags i j)
      by-performs (kind.Icmp pred t a b) (value.Int i ∷ value.Int j ∷ []) = grows-refl st
      by-performs (kind.Convert conv t a (ty.Int w)) (value.Int i ∷ []) = grows-refl st
      by-performs (kind.Select c t a u b) (value.Int i ∷ v ∷ w ∷ []) = grows-refl st
      by-performs (kind.Call ret f args) (value.Func g ∷ vs) = by-calls g (slice_get m.funcs g.0) _ vs
      by-performs what vs = tt

      by-does : (what : InstKind) → MoveGrows st (does m p env st x what)
      by-does what = by-values (values_of env (operands_of what)) _ (λ vs. by-performs what vs)

  module _ (m : Module) (p : Point) (env : Env) where
    by-arrives : (b : BlockId) (to : Block) (o : Option Env) → MoveGrows st (arrives m p env st b to o)
    by-arrives b to None = tt
    by-arrives b to (Some env') = grows-refl st

    by-leads : (b : BlockId) (o : Option Block) → MoveGrows st (leads_to m p env st b o)
    by-leads b None = tt
    by-leads b (Some to) = by-arrives b to (phis_take to.phis p.block env env)

    by-jump : (b : BlockId) → MoveGrows st (jump m p env st b)
    by-jump b = by-leads b (block_in m p.func b)

    by-ends : (t : Term) → MoveGrows st (ends m p env st t)
    by-ends term.RetVoid = tt
    by-ends (term.Ret t a) = by-value (value_of env a) _ (λ v. tt)
    by-ends (term.Br b) = by-jump b
    by-ends (term.CondBr c on_true on_false) = by-value (value_of env c) _ (λ v. by-int v _ (λ i. by-jump (if is_one i then on_true else on_false)))
    by-ends (term.Switch t a default cases) = by-value (value_of env a) _ (λ v. by-int v _ (λ i. by-jump (target_of i cases default)))

    by-step : (s : Step) → MoveGrows st (step_move m p env st s)
    by-step (PhiAt phi) = tt
    by-step (InstAt i) = by-does p env i.result m i.what
    by-step (TermAt t) = by-ends t
    by-step NoStep = tt

    by-move : MoveGrows st (move m p env st)
    unfolding move
    by-move = by-step (step_in_module m p)

abbrev TickGrows : State → Tick → Type 0
TickGrows st (On u) = Grows st u.state
TickGrows st (Off (Ended e st')) = Grows st st' × IsOverEnd e
TickGrows st (Off Jam) = Unit {0}

returned-grows : (v : Option Value) (st : State) → TickGrows st (Off (returned v st))
returned-grows None st = (grows-refl st, tt)
returned-grows (Some (value.Int i)) st = (grows-refl st, tt)
returned-grows (Some v) st = tt

gives-back-grows : (ws : List Waiting) (v : Option Value) (st : State) → TickGrows st (gives_back ws v st)
gives-back-grows [] v st = returned-grows v st
gives-back-grows (u ∷ us) v st = grows-refl st

tick-of-grows : (w : Whole) (mv : Move) → MoveGrows w.state mv → TickGrows w.state (tick_of w mv)
tick-of-grows w (Next p env st) h = h
tick-of-grows w (Enter q env x st) h = h
tick-of-grows w (Back v) h = gives-back-grows w.waits v w.state
tick-of-grows w (Halt stop st) h = (h, stop-over stop)
tick-of-grows w Stuck h = tt

tick-grows : (m : Module) (w : Whole) → TickGrows w.state (tick m w)
unfolding tick
tick-grows m w = tick-of-grows w (move m w.at w.env w.state) (by-move w.state m w.at w.env)

-- no instruction ends a run as cut
pub off-over : (m : Module) (w : Whole) (e : RunEnd) (st : State) → tick m w ≡ Off (Ended e st) → IsOverEnd e
off-over m w e st t = (subst (TickGrows w.state) t (tick-grows m w)).1

-- a run, one instruction at a time

pub run-suc : (m : Module) (n : ℕ) (w : Whole) → run m (suc n) w ≡ goes (run m n) (tick m w)
unfolding run
run-suc m n w = refl

pub run-zero : (m : Module) (w : Whole) → run m 0 w ≡ Ended Cut w.state
unfolding run
run-zero m w = refl

abbrev pub IsOver : Outcome → Type 0
IsOver (Ended e st) = IsOverEnd e
IsOver Jam = Unit {0}

longer-tick : (m : Module) (n k : ℕ) (o : Outcome) → ((u : Whole) → run m n u ≡ o → run m k u ≡ o) → (t : Tick) → goes (run m n) t ≡ o → goes (run m k) t ≡ o
longer-tick m n k o ih (On u) h = ih u h
longer-tick m n k o ih (Off p) h = h

-- more steps change nothing of a run that is over
pub longer : (m : Module) (n k : ℕ) (w : Whole) (o : Outcome) → n ≤ k → IsOver o → run m n w ≡ o → run m k w ≡ o
longer m zero k w o le over e = absurd (subst IsOver (sym e ∙ run-zero m w) over)
longer m (suc n) zero w o le over e = absurd (omega arith)
longer m (suc n) (suc k) w o le over e = run-suc m k w ∙ longer-tick m n k o (λ u h. longer m n k u o (omega arith) over h) (tick m w) (sym (run-suc m n w) ∙ e)

abbrev pub OutGrows : State → Outcome → Type 0
OutGrows st (Ended e st') = Grows st st'
OutGrows st Jam = Unit {0}

out-trans : (a b : State) (o : Outcome) → Grows a b → OutGrows b o → OutGrows a o
out-trans a b (Ended e st) h k = grows-trans a b st h k
out-trans a b Jam h k = tt

goes-grows : (m : Module) (n : ℕ) (st : State) → ((u : Whole) → OutGrows u.state (run m n u)) → (t : Tick) → TickGrows st t → OutGrows st (goes (run m n) t)
goes-grows m n st ih (On u) h = out-trans st u.state (run m n u) h (ih u)
goes-grows m n st ih (Off (Ended e st')) h = h.0
goes-grows m n st ih (Off Jam) h = tt

-- a run's outcome has what was there before it
pub run-grows : (m : Module) (n : ℕ) (w : Whole) → OutGrows w.state (run m n w)
run-grows m zero w = subst (OutGrows w.state) (sym (run-zero m w)) (grows-refl w.state)
run-grows m (suc n) w = subst (OutGrows w.state) (sym (run-suc m n w)) (goes-grows m n w.state (run-grows m n) (tick m w) (tick-grows m w))

later-tick : (m : Module) (n k : ℕ) (e : RunEnd) (st : State) → ((u : Whole) → run m n u ≡ Ended e st → OutGrows st (run m k u)) → (t : Tick) → goes (run m n) t ≡ Ended e st → OutGrows st (goes (run m k) t)
later-tick m n k e st ih (On u) h = ih u h
later-tick m n k e st ih (Off o) h = subst (OutGrows st) (sym h) (grows-refl st)

pub same-ends : (a b : State) (e e' : RunEnd) → Ended e a ≡ Ended e' b → (e ≡ e') × (a ≡ b)
same-ends a b e e' h = (cc, cc)

-- what a run has done, a longer one has done
pub later-grows : (m : Module) (n k : ℕ) (w : Whole) (e : RunEnd) (st : State) → n ≤ k → run m n w ≡ Ended e st → OutGrows st (run m k w)
later-grows m zero k w e st le h = subst (λ s. OutGrows s (run m k w)) (same-ends w.state st Cut e (sym (run-zero m w) ∙ h)).1 (run-grows m k w)
later-grows m (suc n) zero w e st le h = absurd (omega arith)
later-grows m (suc n) (suc k) w e st le h =
    subst (OutGrows st) (sym (run-suc m k w)) (later-tick m n k e st (λ u h. later-grows m n k u e st (omega arith) h) (tick m w) (sym (run-suc m n w) ∙ h))
