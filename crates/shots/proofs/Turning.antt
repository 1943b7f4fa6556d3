-- What an instruction does is the same for all answers that are left, but that an operation takes the first of them.
use Rattle.std.proofs.Common.{◌≡◌, ℕ, ◌+◌, ◌==◌, Bool, true, false, Option, None, Some, List, [], ◌∷◌, ◌++◌, map, count_by, refl, ap, ◌∙◌, arith, cond, codes, eqb-true, Result, Ok, Err}
use Rattle.std.specs.Prelude.{if◌then◌else◌, slice_get}
use Rattle.std.proofs.lemmas.List.Sums.{sum_by-append, sum_by-cons}
use Rattle.backend_api.specs.declared.operation.Answer.{Answer}
use Rattle.backend_api.specs.declared.operation.Answer.TheVariants as answer
use Rattle.backend_api.specs.declared.operation.Arg.{Arg}
use Rattle.backend_api.specs.declared.operation.Arg.TheVariants as arg
use Rattle.backend_api.specs.declared.operation.Event.{Event}
use Rattle.backend_api.specs.declared.operation.Op.{Op}
use Rattle.backend_api.specs.declared.operation.QubitRef.TheVariants as qubit
use Rattle.backend_api.specs.declared.operation.ResultRef.{ResultRef}
use Rattle.backend_api.specs.declared.operation.ResultRef.TheVariants as result
use Rattle.backend_api.specs.Operations.{is_result}
use Rattle.ir_module.specs.declared.places.Point.{Point}
use Rattle.ir_module.specs.declared.tree.Block.{Block}
use Rattle.ir_module.specs.declared.tree.Function.{Function}
use Rattle.ir_module.specs.declared.tree.InstKind.{InstKind}
use Rattle.ir_module.specs.declared.tree.InstKind.TheVariants as kind
use Rattle.ir_module.specs.declared.tree.Module.{Module}
use Rattle.ir_module.specs.declared.tree.Term.{Term}
use Rattle.ir_module.specs.declared.tree.Term.TheVariants as term
use Rattle.ir_module.specs.Classes.{class_of_function}
use Rattle.ir_module.specs.Operands.{operands_of}
use Rattle.ir_module.specs.Steps.{Step, PhiAt, InstAt, TermAt, NoStep, step_in_module}
use Rattle.ir_values.specs.declared.cause.Cause.{Cause}
use Rattle.ir_values.specs.declared.cause.Cause.TheVariants as cause
use Rattle.ir_values.specs.declared.class.Class.{Class}
use Rattle.ir_values.specs.declared.class.Class.TheVariants as class
use Rattle.ir_values.specs.declared.ids.BlockId.{BlockId}
use Rattle.ir_values.specs.declared.ids.FuncId.{FuncId}
use Rattle.ir_values.specs.declared.ids.GlobalId.{GlobalId}
use Rattle.ir_values.specs.declared.ids.LocalId.{LocalId}
use Rattle.ir_values.specs.declared.ty.Ty.{Ty}
use Rattle.ir_values.specs.declared.ty.Ty.TheVariants as ty
use Rattle.ir_values.specs.declared.value.Value.{Value}
use Rattle.ir_values.specs.declared.value.Value.TheVariants as value
use Rattle.ir_values.specs.Arithmetic.{binary_of, compare_of, convert_of}
use Rattle.ir_values.specs.Calls.{qis}
use Rattle.ir_values.specs.Int.{IntValue}
use Rattle.ir_values.specs.Names.{name_text}
use Rattle.machine_frames.specs.code.Apt.{apt, if_apt, issues, declared_apt, of_class, body_apt, calls_apt, performs_apt, does_apt, step_apt, move_apt}
use Rattle.output_records.specs.declared.record.Shown.{Shown}
use Rattle.output_records.specs.declared.record.Shown.TheVariants as shown
use Rattle.qir_meaning.specs.Effects.{argument, arguments, bit_value, first_result, gate, is_one, known_bit, label_of, measure, measure_into, measure_returning, operation, reading, recorded, releases}
use Rattle.qir_meaning.specs.Moves.{arrives, block_in, computes, ends, first_point, jump, leads_to, phis_take, target_of, with_int, with_value, with_values}
use Rattle.qir_meaning.specs.State.{Env, State, Move, Trap, Ask, Next, Enter, Back, Halt, Stuck, next, bind, bit_of, frame, is_held, value_of, values_of, with_allocation, with_bit, with_event, with_record, without}

-- a state with these answers left
abbrev pub with_answers : List Answer → State → State
with_answers a st = record st { answers = a }

-- a gate is answered that it is done, and a measurement with a bit
abbrev pub is_for : Bool → Answer → Bool
is_for true answer.Done = false
is_for true (answer.Bit b) = true
is_for false answer.Done = true
is_for false (answer.Bit b) = false

-- how many results an operation names
abbrev pub results_for : Bool → ℕ
results_for true = 1
results_for false = 0

abbrev pub event : Op → Answer → Event
event op x = record { op = op; answer = x }

-- an operation is asked for, which takes an answer of its kind, and goes on from it; with another answer, or none, the run is over
pub record Asks (st : State) (does : List Answer → Move) : Type 0 where
  pub op : Op
  pub measures : Bool
  pub sized : count_by is_result op.args ≡ results_for measures
  pub point : Point
  pub env : Env
  pub after : Answer → State
  pub events : (x : Answer) → (after x).events ≡ st.events ++ event op x ∷ []
  pub answered : (x : Answer) (a : List Answer) → is_for measures x ≡ true → does (x ∷ a) ≡ Next point env (with_answers a (after x))
  pub other : (x : Answer) (a : List Answer) → is_for measures x ≡ false → does (x ∷ a) ≡ Halt (Ask op) (with_answers (x ∷ a) st)
  pub none : does [] ≡ Halt (Ask op) (with_answers [] st)

-- what an instruction does, whatever answers are left
pub data Turns (st : State) (does : List Answer → Move) : Type 0 where
  goes : (p : Point) (env : Env) (st' : State) → st'.events ≡ st.events → ((a : List Answer) → does a ≡ Next p env (with_answers a st')) → Turns st does
  enters : (p : Point) (env : Env) (x : Option LocalId) → ((a : List Answer) → does a ≡ Enter p env x (with_answers a st)) → Turns st does
  comes_back : (v : Option Value) → ((a : List Answer) → does a ≡ Back v) → Turns st does
  traps : (why : Cause) → ((a : List Answer) → does a ≡ Halt (Trap why) (with_answers a st)) → Turns st does
  stuck : ((a : List Answer) → does a ≡ Stuck) → Turns st does
  asks : Asks st does → Turns st does

module _ (st : State) where
  abbrev W : List Answer → State
  W a = with_answers a st

  by-value : (o : Option Value) (go : List Answer → Value → Move) → ((v : Value) → Turns st (λ a. go a v)) → Turns st (λ a. with_value o (W a) (go a))
  by-value None go k = traps cause.Unbound (λ a. refl)
  by-value (Some v) go k = k v

  by-values : (o : Option (List Value)) (go : List Answer → List Value → Move) → ((vs : List Value) → Turns st (λ a. go a vs)) → Turns st (λ a. with_values o (W a) (go a))
  by-values None go k = traps cause.Unbound (λ a. refl)
  by-values (Some vs) go k = k vs

  by-int : (v : Value) (go : List Answer → IntValue → Move) → ((i : IntValue) → Turns st (λ a. go a i)) → Turns st (λ a. with_int v (go a))
  by-int (value.Int i) go k = k i
  by-int v go k = stuck (λ a. refl)

  if-held : (b : Bool) (x y : List Answer → Move) → Turns st x → Turns st y → Turns st (λ a. if b then x a else y a)
  if-held true x y h k = h
  if-held false x y h k = k

  if-fit : (b : Bool) (x : List Answer → Move) → (b ≡ true → Turns st x) → Turns st (λ a. if_apt b (x a))
  if-fit true x k = k refl
  if-fit false x k = stuck (λ a. refl)

  by-argument : (t : Ty) (v : Value) (go : List Answer → Arg → Move) → ((x : Arg) → Turns st (λ a. go a x)) → Turns st (λ a. argument (W a) t v (go a))
  by-argument ty.Qubit (value.Id i) go k = k (arg.Qubit (qubit.Id i))
  by-argument ty.Qubit (value.Alloc j) go k = if-held (is_held st j) (λ a. go a (arg.Qubit (qubit.Alloc j))) (λ a. Halt (Trap cause.Released) (W a)) (k (arg.Qubit (qubit.Alloc j))) (traps cause.Released (λ a. refl))
  by-argument ty.Res (value.Id i) go k = k (arg.Res (result.Id i))
  by-argument ty.Res (value.Measured i) go k = k (arg.Res (result.Measured i))
  by-argument ty.Res value.One go k = traps cause.ConstResult (λ a. refl)
  by-argument ty.Res value.Zero go k = traps cause.ConstResult (λ a. refl)
  by-argument ty.Double (value.Double t) go k = k (arg.Double t)
  by-argument (ty.Int w) (value.Int i) go k = k (arg.Int i)
  by-argument t v go k = stuck (λ a. refl)

  by-arguments : (ts : List Ty) (vs : List Value) (go : List Answer → List Arg → Move) → ((xs : List Arg) → Turns st (λ a. go a xs)) → Turns st (λ a. arguments (W a) ts vs (go a))
  by-arguments [] [] go k = k []
  by-arguments (t ∷ ts) (v ∷ vs) go k =
      by-argument t v (λ a x. arguments (W a) ts vs (λ xs. go a (x ∷ xs))) (λ x. by-arguments ts vs (λ a xs. go a (x ∷ xs)) (λ xs. k (x ∷ xs)))
  by-arguments [] (v ∷ vs) go k = stuck (λ a. refl)
  by-arguments (t ∷ ts) [] go k = stuck (λ a. refl)

  by-known : (o : Option Bool) (go : List Answer → Bool → Move) → ((b : Bool) → Turns st (λ a. go a b)) → Turns st (λ a. known_bit (W a) o (go a))
  by-known None go k = traps cause.ReadUnset (λ a. refl)
  by-known (Some b) go k = k b

  by-reading : (v : Value) (go : List Answer → Bool → Move) → ((b : Bool) → Turns st (λ a. go a b)) → Turns st (λ a. reading (W a) v (go a))
  by-reading value.One go k = k true
  by-reading value.Zero go k = k false
  by-reading (value.Id i) go k = by-known (bit_of st (result.Id i)) go k
  by-reading (value.Measured i) go k = by-known (bit_of st (result.Measured i)) go k
  by-reading v go k = stuck (λ a. refl)

  by-label : (v : Value) (go : List Answer → Option GlobalId → Move) → ((l : Option GlobalId) → Turns st (λ a. go a l)) → Turns st (λ a. label_of v (go a))
  by-label (value.Label g) go k = k (Some g)
  by-label value.NoLabel go k = k None
  by-label v go k = stuck (λ a. refl)

  module _ (p : Point) (env : Env) (x : Option LocalId) where
    by-gate : (op : Op) → count_by is_result op.args ≡ 0 → Turns st (λ a. gate p env x (W a) op a)
    by-gate op none = asks (record {
      op = op;
      measures = false;
      sized = none;
      point = next p;
      env = env;
      after = λ y. with_event st op y [];
      events = λ y. refl;
      answered = done;
      other = undone;
      none = refl;
    })
      where
        done : (y : Answer) (a : List Answer) → is_for false y ≡ true → gate p env x (W (y ∷ a)) op (y ∷ a) ≡ Next (next p) env (with_answers a (with_event st op y []))
        done answer.Done a e = refl
        done (answer.Bit b) a e = cc

        undone : (y : Answer) (a : List Answer) → is_for false y ≡ false → gate p env x (W (y ∷ a)) op (y ∷ a) ≡ Halt (Ask op) (W (y ∷ a))
        undone answer.Done a e = cc
        undone (answer.Bit b) a e = refl

    -- the bit of an answer, which a measurement writes
    abbrev bit_in_answer : Answer → Bool
    bit_in_answer answer.Done = false
    bit_in_answer (answer.Bit b) = b

    -- the state after a measurement was answered
    abbrev measured_by : Op → ResultRef → Answer → State
    measured_by op r y = with_bit (with_event st op y []) r (bit_in_answer y)

    -- what follows a measurement goes on from the state that it leaves
    by-measure : (op : Op) (r : ResultRef) → count_by is_result op.args ≡ 1 → (env' : Env) (onward : State → State) (go : State → Move)
        → ((s : State) → go s ≡ Next (next p) env' (onward s))
        → ((s : State) → (onward s).events ≡ s.events)
        → ((s : State) (a : List Answer) → onward (with_answers a s) ≡ with_answers a (onward s))
        → Turns st (λ a. measure p env x (W a) op r a go)
    by-measure op r one env' onward go on same keeps = asks (record {
      op = op;
      measures = true;
      sized = one;
      point = next p;
      env = env';
      after = λ y. onward (measured_by op r y);
      events = λ y. same (measured_by op r y);
      answered = done;
      other = undone;
      none = refl;
    })
      where
        done : (y : Answer) (a : List Answer) → is_for true y ≡ true → measure p env x (W (y ∷ a)) op r (y ∷ a) go ≡ Next (next p) env' (with_answers a (onward (measured_by op r y)))
        done answer.Done a e = cc
        done (answer.Bit b) a e = on (with_answers a (measured_by op r (answer.Bit b))) ∙ ap (Next (next p) env') (keeps (measured_by op r (answer.Bit b)) a)

        undone : (y : Answer) (a : List Answer) → is_for true y ≡ false → measure p env x (W (y ∷ a)) op r (y ∷ a) go ≡ Halt (Ask op) (W (y ∷ a))
        undone answer.Done a e = refl
        undone (answer.Bit b) a e = cc

    by-into : (name : List ℕ) (xs : List Arg) → count_by is_result xs ≡ 1 → (o : Option ResultRef) → Turns st (λ a. measure_into p env x (W a) name xs o)
    by-into name xs one None = stuck (λ a. refl)
    by-into name xs one (Some r) = by-measure (operation name xs) r one env (λ s. s) (λ s. Next (next p) env s) (λ s. refl) (λ s. refl) (λ s a. refl)

    one-more : (xs : List Arg) (r : ResultRef) → count_by is_result xs ≡ 0 → count_by is_result (xs ++ arg.Res r ∷ []) ≡ 1
    one-more xs r none =
        let f : Arg → ℕ = λ (y : Arg). cond (is_result y) 1 0 in
        let e = sum_by-append f xs (arg.Res r ∷ []) in
        let l = sum_by-cons f (arg.Res r) [] in
        omega (arith, e, l, none)

    by-returning : (xs : List Arg) → count_by is_result xs ≡ 0 → Turns st (λ a. measure_returning p env x (W a) xs)
    by-returning xs none =
        let r = result.Measured st.measured in
        by-measure (operation (qis (codes "mz__body")) (xs ++ arg.Res r ∷ [])) r (one-more xs r none) (bind env x (value.Measured st.measured)) (λ s. record s { measured = st.measured + 1 })
        (λ s. Next (next p) (bind env x (value.Measured st.measured)) (record s { measured = st.measured + 1 })) (λ s. refl) (λ s. refl) (λ s a. refl)

    by-issues : (m : Module) (name : List ℕ) (c : Class) (xs : List Arg) → Turns st (λ a. issues m p env (W a) x name c xs)
    by-issues m name class.Gate xs = if-fit (count_by is_result xs == 0) (λ a. gate p env x (W a) (operation name xs) a) (λ e. by-gate (operation name xs) (eqb-true (count_by is_result xs) 0 e))
    by-issues m name class.Measure xs = if-fit (count_by is_result xs == 1) (λ a. measure_into p env x (W a) name xs (first_result xs)) (λ e. by-into name xs (eqb-true (count_by is_result xs) 1 e) (first_result xs))
    by-issues m name class.Returning xs = if-fit (count_by is_result xs == 0) (λ a. measure_returning p env x (W a) xs) (λ e. by-returning xs (eqb-true (count_by is_result xs) 0 e))
    by-issues m name c xs = stuck (λ a. refl)

    by-releases : (v : Value) → Turns st (λ a. releases p env x (W a) v)
    by-releases (value.Id i) = traps cause.BadRelease (λ a. refl)
    by-releases (value.Alloc j) =
        if-held (is_held st j) (λ a. Next (next p) env (without (W a) j)) (λ a. Halt (Trap cause.Released) (W a)) (goes (next p) env (without st j) refl (λ a. refl)) (traps cause.Released (λ a. refl))
    by-releases v = stuck (λ a. refl)

    -- it gives a value, and changes nothing that is shared
    by-gives : (v : Value) → Turns st (λ a. Next (next p) (bind env x v) (W a))
    by-gives v = goes (next p) (bind env x v) st refl (λ a. refl)

    by-goes-on : Turns st (λ a. Next (next p) env (W a))
    by-goes-on = goes (next p) env st refl (λ a. refl)

    by-recorded : (label : Value) (what : Shown) → Turns st (λ a. recorded p env x (W a) label what)
    by-recorded label what =
        by-label label (λ a l. Next (next p) env (with_record (W a) (record { shown = what; label = l })))
        (λ l. goes (next p) env (with_record st (record { shown = what; label = l })) refl (λ a. refl))

    by-declared : (m : Module) (name : List ℕ) (ts : List Ty) (c : Class) (vs : List Value) → Turns st (λ a. declared_apt m p env (W a) x name ts c vs)
    by-declared m name ts class.Gate vs = by-arguments ts vs (λ a. issues m p env (W a) x name class.Gate) (λ xs. by-issues m name class.Gate xs)
    by-declared m name ts class.Measure vs = by-arguments ts vs (λ a. issues m p env (W a) x name class.Measure) (λ xs. by-issues m name class.Measure xs)
    by-declared m name ts class.Returning vs = by-arguments ts vs (λ a. issues m p env (W a) x name class.Returning) (λ xs. by-issues m name class.Returning xs)
    by-declared m name ts class.Init vs = by-goes-on
    by-declared m name ts class.Alloc vs = goes (next p) (bind env x (value.Alloc st.allocated)) (with_allocation st) refl (λ a. refl)
    by-declared m name ts class.Release (v ∷ []) = by-releases v
    by-declared m name ts class.One vs = by-gives value.One
    by-declared m name ts class.Zero vs = by-gives value.Zero
    by-declared m name ts class.Equal (v ∷ w ∷ []) = by-reading v _ (λ b. by-reading w _ (λ c. by-gives _))
    by-declared m name ts class.Count vs = by-goes-on
    by-declared m name ts class.Read (v ∷ []) = by-reading v _ (λ b. by-gives _)
    by-declared m name ts class.Tuple (value.Int i ∷ l ∷ []) = by-recorded l _
    by-declared m name ts class.Array (value.Int i ∷ l ∷ []) = by-recorded l _
    by-declared m name ts class.ResRecord (v ∷ l ∷ []) = by-reading v (λ a b. recorded p env x (W a) l (shown.Res b)) (λ b. by-recorded l (shown.Res b))
    by-declared m name ts class.BoolRecord (value.Int i ∷ l ∷ []) = by-recorded l _
    by-declared m name ts class.IntRecord (value.Int i ∷ l ∷ []) = by-recorded l _
    by-declared m name ts class.DoubleRecord (value.Double t ∷ l ∷ []) = by-recorded l _
    by-declared m name ts c vs = stuck (λ a. refl)

    module _ (m : Module) where
      by-class : (f : Function) (c : Option Class) (ts : List Ty) (vs : List Value) → Turns st (λ a. of_class m p env (W a) x f c ts vs)
      by-class f None ts vs = stuck (λ a. refl)
      by-class f (Some c) ts vs = by-declared m (name_text f.name) ts c vs

      by-body : (g : FuncId) (f : Function) (o : Option (List Block)) (ts : List Ty) (vs : List Value) → Turns st (λ a. body_apt m p env (W a) x g f o ts vs)
      by-body g f None ts vs = by-class f (class_of_function f) ts vs
      by-body g f (Some blocks) ts vs = enters (first_point g) (frame f vs) x (λ a. refl)

      by-calls : (g : FuncId) (o : Option Function) (ts : List Ty) (vs : List Value) → Turns st (λ a. calls_apt m p env (W a) x g o ts vs)
      by-calls g None ts vs = stuck (λ a. refl)
      by-calls g (Some f) ts vs = by-body g f f.blocks ts vs

      by-computes : (r : Result IntValue Cause) → Turns st (λ a. computes m p env (W a) x r)
      by-computes (Ok i) = by-gives (value.Int i)
      by-computes (Err why) = traps why (λ a. refl)

      by-performs : (what : InstKind) (vs : List Value) → Turns st (λ a. performs_apt m p env (W a) x what vs)
      by-performs (kind.Call ret f args) (value.Func g ∷ vs) = by-calls g (slice_get m.funcs g.0) (map (λ a. a.0) args) vs
      by-performs (kind.Binary op flags t a b) (value.Int i ∷ value.Int j ∷ []) =
          if-fit (apt (kind.Binary op flags t a b) (value.Int i ∷ value.Int j ∷ [])) (λ l. computes m p env (W l) x (binary_of op flags i j)) (λ _. by-computes (binary_of op flags i j))
      by-performs (kind.Icmp pred t a b) (value.Int i ∷ value.Int j ∷ []) =
          if-fit (apt (kind.Icmp pred t a b) (value.Int i ∷ value.Int j ∷ [])) (λ l. Next (next p) (bind env x (bit_value (compare_of pred i j))) (W l)) (λ _. by-gives (bit_value (compare_of pred i j)))
      by-performs (kind.Convert conv t a (ty.Int w)) (value.Int i ∷ []) =
          if-fit (apt (kind.Convert conv t a (ty.Int w)) (value.Int i ∷ [])) (λ l. Next (next p) (bind env x (value.Int (convert_of conv i w))) (W l)) (λ _. by-gives (value.Int (convert_of conv i w)))
      by-performs (kind.Select c t a u b) (value.Int i ∷ v ∷ w ∷ []) = by-gives (if is_one i then v else w)
      by-performs what vs = stuck (λ a. refl)

      by-does : (what : InstKind) → Turns st (λ a. does_apt m p env (W a) x what)
      by-does what = by-values (values_of env (operands_of what)) (λ a. performs_apt m p env (W a) x what) (λ vs. by-performs what vs)

  module _ (m : Module) (p : Point) (env : Env) where
    by-arrives : (b : BlockId) (to : Block) (o : Option Env) → Turns st (λ a. arrives m p env (W a) b to o)
    by-arrives b to None = stuck (λ a. refl)
    by-arrives b to (Some env') = goes _ env' st refl (λ a. refl)

    by-leads : (b : BlockId) (o : Option Block) → Turns st (λ a. leads_to m p env (W a) b o)
    by-leads b None = stuck (λ a. refl)
    by-leads b (Some to) = by-arrives b to (phis_take to.phis p.block env env)

    by-jump : (b : BlockId) → Turns st (λ a. jump m p env (W a) b)
    by-jump b = by-leads b (block_in m p.func b)

    by-ends : (t : Term) → Turns st (λ a. ends m p env (W a) t)
    by-ends term.RetVoid = comes_back None (λ a. refl)
    by-ends (term.Ret t o) = by-value (value_of env o) (λ a v. Back (Some v)) (λ v. comes_back (Some v) (λ a. refl))
    by-ends (term.Br b) = by-jump b
    by-ends (term.CondBr c on_true on_false) =
        by-value (value_of env c) (λ a v. with_int v (λ i. jump m p env (W a) (if is_one i then on_true else on_false)))
        (λ v. by-int v (λ a i. jump m p env (W a) (if is_one i then on_true else on_false)) (λ i. by-jump (if is_one i then on_true else on_false)))
    by-ends (term.Switch t o default cases) =
        by-value (value_of env o) (λ a v. with_int v (λ i. jump m p env (W a) (target_of i cases default)))
        (λ v. by-int v (λ a i. jump m p env (W a) (target_of i cases default)) (λ i. by-jump (target_of i cases default)))

    by-step : (s : Step) → Turns st (λ a. step_apt m p env (W a) s)
    by-step (PhiAt phi) = stuck (λ a. refl)
    by-step (InstAt i) = by-does p env i.result m i.what
    by-step (TermAt t) = by-ends t
    by-step NoStep = stuck (λ a. refl)

    pub instruction-turns : Turns st (λ a. move_apt m p env (W a))
    unfolding move_apt
    instruction-turns = by-step (step_in_module m p)
