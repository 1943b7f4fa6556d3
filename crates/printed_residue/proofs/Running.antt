-- What the printed instructions of an item do, for every kind of item.
use Rattle.std.proofs.Common.{◌≡◌, ℕ, ◌+◌, ◌<◌, Bool, true, false, Option, None, Some, List, [], ◌∷◌, ◌++◌, length, map, Result, Ok, Err, refl, sym, ap, ◌∙◌, subst, arith}
use Rattle.std.specs.Prelude.{⊤, if◌then◌else◌, slice_get, slice_set}
use Rattle.backend_api.specs.declared.operation.Answer.{Answer}
use Rattle.backend_api.specs.declared.operation.Answer.TheVariants as answer
use Rattle.backend_api.specs.declared.operation.Arg.{Arg}
use Rattle.backend_api.specs.declared.operation.Op.{Op}
use Rattle.backend_api.specs.declared.operation.ResultRef.{ResultRef}
use Rattle.backend_api.specs.declared.operation.ResultRef.TheVariants as result
use Rattle.backend_api.specs.Naming.{Naming, named_arg, named_op}
use Rattle.ir_module.specs.declared.tree.Block.{Block}
use Rattle.ir_module.specs.declared.tree.Callee.TheVariants as callee
use Rattle.ir_module.specs.declared.tree.Inst.{Inst}
use Rattle.ir_module.specs.declared.tree.InstKind.TheVariants as kind
use Rattle.ir_module.specs.declared.tree.Module.{Module}
use Rattle.ir_module.specs.declared.tree.Operand.{Operand}
use Rattle.ir_module.specs.declared.tree.Operand.TheVariants as operand
use Rattle.ir_module.specs.declared.tree.InstKind.{InstKind}
use Rattle.ir_module.specs.Operands.{operands_of}
use Rattle.ir_values.specs.declared.int.BinOp.{BinOp}
use Rattle.ir_values.specs.declared.int.Conv.{Conv}
use Rattle.ir_values.specs.declared.int.Flags.{Flags}
use Rattle.ir_values.specs.declared.int.Pred.{Pred}
use Rattle.ir_values.specs.declared.int.Pred.TheVariants as pred
use Rattle.ir_values.specs.declared.int.Width.{Width}
use Rattle.ir_values.specs.declared.int.Width.TheVariants.{W1}
use Rattle.ir_values.specs.declared.ty.Ty.{Ty}
use Rattle.ir_values.specs.declared.ty.Ty.TheVariants as ty
use Rattle.ir_values.specs.declared.ids.BlockId.{BlockId}
use Rattle.ir_values.specs.declared.cause.Cause.{Cause}
use Rattle.ir_values.specs.declared.cause.Cause.TheVariants as cause
use Rattle.ir_values.specs.declared.class.Class.{Class}
use Rattle.ir_values.specs.declared.class.Class.TheVariants as class
use Rattle.ir_values.specs.declared.ids.FuncId.{FuncId}
use Rattle.ir_values.specs.declared.ids.LocalId.{LocalId}
use Rattle.ir_values.specs.declared.value.Value.{Value}
use Rattle.ir_values.specs.declared.value.Value.TheVariants as value
use Rattle.ir_values.specs.Arithmetic.{binary_of, compare_of, convert_of}
use Rattle.ir_values.specs.Int.{IntValue, signed}
use Rattle.output_records.specs.declared.record.Shown.{Shown}
use Rattle.output_records.specs.declared.record.Shown.TheVariants as shown
use Rattle.qir_meaning.specs.Effects.{is_one, same_bit, reading, recorded, gives, bit_value, gate, measure, measure_into, declared_call, operation, first_result, goes_on}
use Rattle.qir_meaning.specs.Moves.{performs, computes, with_values, block_in}
use Rattle.qir_meaning.specs.Naming.{fixed_naming, named_end}
use Rattle.qir_meaning.specs.Runs.{end_of}
use Rattle.qir_meaning.specs.code.Simulation.{GoesBy}
use Rattle.qir_meaning.proofs.Behaviour.{goes-on-by}
use Rattle.qir_meaning.specs.State.{Env, State, Stop, Trap, Ask, with_record, next, bind, value_at, value_of, values_of, one_more, with_event, with_bit, bit_of}
use Rattle.qir_meaning.specs.State as run
use Rattle.qir_meaning.specs.code.Steps.{Ended, Whole, On, Off, tick, tick_of}
use Rattle.kept_items.specs.declared.item.Item.{Item}
use Rattle.kept_items.specs.declared.item.Item.TheVariants as item
use Rattle.kept_items.specs.declared.val.Dyn.{Dyn}
use Rattle.kept_items.specs.declared.val.Val.{Val}
use Rattle.residue.specs.Functions.{read_name, record_name}
use Rattle.residue.specs.Instructions.{Words, reads, local, named_value, operand_of, typed_operand, read_into, side_reads, side_operand, equal_test, instructions}
use Rattle.kept_items.specs.Items.{valued, Got, Bit, Unset, NoResult, got, bit_read, bit_int, read_did, Did, Gave, Stopped, Senseless, computed, binary_did, icmp_did, convert_did, select_did, gate_did, measure_did, operation_did, issued, recorded_did, output_did, args_of, did}
use Rattle.printed_residue.specs.Places.{at_name, lowered_state, BitsBelow}
use Rattle.printed_residue.proofs.Calls.{Agree, AgreeOn, Declares, ValueBelow, agrees, by_got, measures, op_class, reading-is}
use Rattle.printed_residue.proofs.Bits.{bit-named}
use Rattle.printed_residue.proofs.Looks.{set-here, set-elsewhere, set-long}
use Rattle.printed_residue.proofs.Standing.{StandAt, stand-front, stand-rest}
use Rattle.printed_residue.proofs.Steps.{Has, AllHave, point, inst-tick, operand-has, operands-have, lowered-arguments, named-result, event-lowered, declared-does}

-- a value that is a result
abbrev pub IsResult : Value → Type 0
IsResult value.One = ⊤
IsResult value.Zero = ⊤
IsResult (value.Id i) = ⊤
IsResult (value.Measured i) = ⊤
IsResult v = ⊥

by-result : (st : State) (Q : Got → Type 0) (a : Value) → (IsResult a → Q (bit_read st a)) → Q NoResult → Q (bit_read st a)
by-result st Q value.One h n = h tt
by-result st Q value.Zero h n = h tt
by-result st Q (value.Id i) h n = h tt
by-result st Q (value.Measured i) h n = h tt
by-result st Q v h n = n

-- the result that is recorded is below
abbrev pub RecordBelow : ℕ → Class → List Value → Type 0
RecordBelow r class.ResRecord (v ∷ vs) = ValueBelow r v
RecordBelow r c vs = ⊤

-- the function that reads results is declared where one is read
abbrev pub ReadDeclared : Module → Words → Value → Type 0
ReadDeclared l ws value.One = ⊤
ReadDeclared l ws value.Zero = ⊤
ReadDeclared l ws v = Declares l (ws.function read_name) read_name class.Read

module _ (ws : Words) where
  -- a result is read alike under its number
  pub reads-alike : (st : State) (a : Value) → IsResult a → ValueBelow ws.results a → BitsBelow ws.results st.bits → (go : Bool → run.Move) → reading (lowered_state (fixed_naming ws.qubits ws.results) st) (named_value ws a) go ≡ by_got (lowered_state (fixed_naming ws.qubits ws.results) st) (bit_read st a) go
  reads-alike st value.One i h bits go = refl
  reads-alike st value.Zero i h bits go = refl
  reads-alike st (value.Id n) i h bits go = reading-is (lowered_state (fixed_naming ws.qubits ws.results) st) (value.Id n) go ∙ ap (λ o. by_got (lowered_state (fixed_naming ws.qubits ws.results) st) (got o) go) (bit-named ws st.bits (result.Id n) bits h)
  reads-alike st (value.Measured n) i h bits go = reading-is (lowered_state (fixed_naming ws.qubits ws.results) st) (value.Id (ws.results + n)) go ∙ ap (λ o. by_got (lowered_state (fixed_naming ws.qubits ws.results) st) (got o) go) (bit-named ws st.bits (result.Measured n) bits tt)
  reads-alike st v i h bits go = absurd i

module _ (l : Module) (f : FuncId) (ws : Words) (c : BlockId) (b : Block) (here : block_in l f c ≡ Some b) where
  abbrev M : Naming
  M = fixed_naming ws.qubits ws.results

  -- the printed module's run at an instruction of the block
  abbrev pub low : ℕ → Env → State → Whole
  low j env st = record { at = point f c (length b.phis + j); env = env; waits = []; state = lowered_state M st }

  abbrev later : (j : ℕ) → next (point f c (length b.phis + j)) ≡ point f c (length b.phis + (j + 1))
  later j = let e : length b.phis + j + 1 ≡ length b.phis + (j + 1) = omega arith in ap (point f c) e

  -- the tick of an instruction by the values of its operands
  performed : (j : ℕ) (env : Env) (st : State) (x : Option LocalId) (what : InstKind) (vs : List Value) → slice_get b.insts j ≡ Some (record { result = x; what = what }) → values_of env (operands_of what) ≡ Some vs → tick l (low j env st) ≡ tick_of (low j env st) (performs l (low j env st).at env (lowered_state M st) x what vs)
  performed j env st x what vs s e =
      inst-tick l f c b j _ (low j env st) here s refl
      ∙ ap (λ o. tick_of (low j env st) (with_values o (lowered_state M st) (performs l (low j env st).at env (lowered_state M st) x what))) e

  -- a value is given to a name, and the run goes on
  bound-on : (j : ℕ) (env : Env) (st : State) (n : ℕ) (v : Value) → tick_of (low j env st) (gives (low j env st).at env (Some (local n)) (lowered_state M st) v (lowered_state M st)) ≡ On (low (j + 1) (slice_set env n (Some v)) st)
  bound-on j env st n v = ap (λ p. On (record { at = p; env = slice_set env n (Some v); waits = []; state = lowered_state M st })) (later j)

  module _ (j free : ℕ) (ds : List IntValue) (env : Env) (st : State) where
    abbrev v : Whole
    v = low j env st

    abbrev printed : Item → List Inst
    printed x = instructions ws free x

    -- behind so many instructions; what they give is the value of the name `at`, and the names below `free` keep theirs
    abbrev pub GivenAt : ℕ → List IntValue → Env → Type 0
    GivenAt at [] e = ⊤
    GivenAt at (i ∷ is) e = at_name e at ≡ Some (value.Int i)

    pub record Passed (steps at : ℕ) (new : List IntValue) (st' : State) : Type 0 where
      pub env' : Env
      pub goes : GoesBy l steps v (low (j + steps) env' st')
      pub given : GivenAt at new env'
      pub others : (y : ℕ) → y < free → at_name env' y ≡ at_name env y
      pub long : length env' ≡ length env

    abbrev pub Runs : ℕ → ℕ → Did → Type 0
    Runs steps at (Gave new st') = Passed steps at new st'
    Runs steps at (Stopped stop st') = (i : ℕ) × (i < steps) × (before : Whole) × GoesBy l i v before × (tick l before ≡ Off (Ended (named_end M (end_of stop)) (lowered_state M st')))
    Runs steps at Senseless = ⊤

    at-once : (at : ℕ) (stop : Stop) (st' : State) → tick l v ≡ Off (Ended (named_end M (end_of stop)) (lowered_state M st')) → Runs 1 at (Stopped stop st')
    at-once at stop st' e = (0, omega arith, v, refl, e)

    abbrev gives-here : Value → run.Move
    gives-here u = gives v.at env (Some (local free)) v.state u v.state

    -- the item's one instruction gives an integer
    gives-int : free < length env → (i : IntValue) → tick l v ≡ tick_of v (gives-here (value.Int i)) → Passed 1 free (i ∷ []) st
    gives-int room i e = record {
      env' = slice_set env free (Some (value.Int i));
      goes = (low (j + 1) (slice_set env free (Some (value.Int i))) st, e ∙ bound-on j env st free (value.Int i), refl);
      given = ap value_at (set-here env free (Some (value.Int i)) room);
      others = λ y lt. ap value_at (set-elsewhere env free y (Some (value.Int i)) (λ q. absurd (omega (arith, q, lt))));
      long = set-long env free (Some (value.Int i));
    }

    abbrev opnd : Val → Operand
    opnd a = operand_of ws a

    abbrev given-value : Val → Value
    given-value a = named_value ws (valued ds a)

    one-value : (a : Val) → Has ws ds env a → values_of env (opnd a ∷ []) ≡ Some (given-value a ∷ [])
    one-value a i = ap (λ o. one_more o (Some [])) (operand-has ws ds env a i)

    two-values : (a p : Val) → Has ws ds env a → Has ws ds env p → values_of env (opnd a ∷ opnd p ∷ []) ≡ Some (given-value a ∷ given-value p ∷ [])
    two-values a p i h = ap (λ o. one_more o (values_of env (opnd p ∷ []))) (operand-has ws ds env a i) ∙ ap (one_more (Some (given-value a))) (one-value p h)

    three-values : (a p q : Val) → Has ws ds env a → Has ws ds env p → Has ws ds env q → values_of env (opnd a ∷ opnd p ∷ opnd q ∷ []) ≡ Some (given-value a ∷ given-value p ∷ given-value q ∷ [])
    three-values a p q i h g = ap (λ o. one_more o (values_of env (opnd p ∷ opnd q ∷ []))) (operand-has ws ds env a i) ∙ ap (one_more (Some (given-value a))) (two-values p q h g)

    -- integer instructions
    pub binary-item : free < length env → (d : Dyn) (o : BinOp) (flags : Flags) (w : Width) (p q : Val) → Has ws ds env p → Has ws ds env q → StandAt b.insts j (printed (item.Binary d o flags w p q)) → Runs 1 free (did ds st (item.Binary d o flags w p q))
    binary-item room d o flags w p q i i' s = by-values (valued ds p) (valued ds q) (performed j env st (Some (local free)) (kind.Binary o flags (ty.Int w) (opnd p) (opnd q)) (given-value p ∷ given-value q ∷ []) s.0 (two-values p q i i'))
      where
        by-computed : (res : Result IntValue Cause) → tick l v ≡ tick_of v (computes l v.at env v.state (Some (local free)) res) → Runs 1 free (computed ds st res)
        by-computed (Ok i) e = gives-int room i e
        by-computed (Err why) e = at-once free (Trap why) st e

        by-values : (x y : Value) → tick l v ≡ tick_of v (performs l v.at env v.state (Some (local free)) (kind.Binary o flags (ty.Int w) (opnd p) (opnd q)) (named_value ws x ∷ named_value ws y ∷ [])) → Runs 1 free (binary_did ds st o flags x y)
        by-values (value.Int i) (value.Int n) e = by-computed (binary_of o flags i n) e
        by-values x y e = tt

    pub icmp-item : free < length env → (d : Dyn) (o : Pred) (w : Width) (p q : Val) → Has ws ds env p → Has ws ds env q → StandAt b.insts j (printed (item.Icmp d o w p q)) → Runs 1 free (did ds st (item.Icmp d o w p q))
    icmp-item room d o w p q i i' s = by-values (valued ds p) (valued ds q) (performed j env st (Some (local free)) (kind.Icmp o (ty.Int w) (opnd p) (opnd q)) (given-value p ∷ given-value q ∷ []) s.0 (two-values p q i i'))
      where
        by-values : (x y : Value) → tick l v ≡ tick_of v (performs l v.at env v.state (Some (local free)) (kind.Icmp o (ty.Int w) (opnd p) (opnd q)) (named_value ws x ∷ named_value ws y ∷ [])) → Runs 1 free (icmp_did ds st o x y)
        by-values (value.Int i) (value.Int n) e = gives-int room (bit_int (compare_of o i n)) e
        by-values x y e = tt

    pub convert-item : free < length env → (d : Dyn) (o : Conv) (w to : Width) (p : Val) → Has ws ds env p → StandAt b.insts j (printed (item.Convert d o w p to)) → Runs 1 free (did ds st (item.Convert d o w p to))
    convert-item room d o w to p i s = by-value (valued ds p) (performed j env st (Some (local free)) (kind.Convert o (ty.Int w) (opnd p) (ty.Int to)) (given-value p ∷ []) s.0 (one-value p i))
      where
        by-value : (x : Value) → tick l v ≡ tick_of v (performs l v.at env v.state (Some (local free)) (kind.Convert o (ty.Int w) (opnd p) (ty.Int to)) (named_value ws x ∷ [])) → Runs 1 free (convert_did ds st o to x)
        by-value (value.Int i) e = gives-int room (convert_of o i to) e
        by-value x e = tt

    pub select-item : free < length env → (d : Dyn) (w : Width) (p q u : Val) → Has ws ds env p → Has ws ds env q → Has ws ds env u → StandAt b.insts j (printed (item.Select d w p q u)) → Runs 1 free (did ds st (item.Select d w p q u))
    select-item room d w p q u i i' i'' s = by-values (valued ds p) (valued ds q) (valued ds u) (performed j env st (Some (local free)) (kind.Select (opnd p) (ty.Int w) (opnd q) (ty.Int w) (opnd u)) (given-value p ∷ given-value q ∷ given-value u ∷ []) s.0 (three-values p q u i i' i''))
      where
        by-bit : (t : Bool) (i n : IntValue) → tick l v ≡ tick_of v (gives-here (if t then value.Int i else value.Int n)) → Runs 1 free (Gave ((if t then i else n) ∷ []) st)
        by-bit true i n e = gives-int room i e
        by-bit false i n e = gives-int room n e

        by-values : (x y z : Value) → tick l v ≡ tick_of v (performs l v.at env v.state (Some (local free)) (kind.Select (opnd p) (ty.Int w) (opnd q) (ty.Int w) (opnd u)) (named_value ws x ∷ named_value ws y ∷ named_value ws z ∷ [])) → Runs 1 free (select_did ds st x y z)
        by-values (value.Int t) (value.Int i) (value.Int n) e = by-bit (is_one t) i n e
        by-values x y z e = tt

    -- a read of a result
    pub read-item : free < length env → BitsBelow ws.results st.bits → (d : Dyn) (a : Value) → ValueBelow ws.results a → Declares l (ws.function read_name) read_name class.Read → StandAt b.insts j (printed (item.Read d a)) → Runs 1 free (did ds st (item.Read d a))
    read-item room bits d a below dec s = by-result st (λ g. Runs 1 free (read_did ds st g (λ x. Gave (bit_int x ∷ []) st))) a (λ is. by-bit (bit_read st a)
        (inst-tick l f c b j _ v here s.0 refl
        ∙ ap (tick_of v) (declared-does l v.at env v.state (Some (local free)) (ty.Int W1) (ws.function read_name) ((ty.Res, operand.Const (named_value ws a)) ∷ []) read_name class.Read (named_value ws a ∷ []) dec refl
        ∙ reads-alike ws st a is below bits (λ x. gives-here (bit_value x))))) tt
      where
        by-bit : (g : Got) → tick l v ≡ tick_of v (by_got v.state g (λ x. gives-here (bit_value x))) → Runs 1 free (read_did ds st g (λ x. Gave (bit_int x ∷ []) st))
        by-bit (Bit x) e = gives-int room (bit_int x) e
        by-bit Unset e = at-once free (Trap cause.ReadUnset) st e
        by-bit NoResult e = tt

    -- operations and records give nothing
    passes : (st' : State) → tick l v ≡ tick_of v (goes_on v.at env None v.state (lowered_state M st')) → Runs 1 free (Gave [] st')
    passes st' e = record {
      env' = env;
      goes = (low (j + 1) env st', e ∙ ap (λ p. On (record { at = p; env = env; waits = []; state = lowered_state M st' })) (later j), refl);
      given = tt;
      others = λ y lt. refl;
      long = refl;
    }

    gate-runs : (op : Op) (ans : List Answer) → tick l v ≡ tick_of v (gate v.at env None v.state (named_op M op) ans) → Runs 1 free (gate_did ds st op ans)
    gate-runs op [] e = at-once free (Ask op) st e
    gate-runs op (answer.Done ∷ rest) e = passes (with_event st op answer.Done rest) (e ∙ ap (λ s. tick_of v (goes_on v.at env None v.state s)) (event-lowered ws st op answer.Done rest))
    gate-runs op (answer.Bit x ∷ rest) e = at-once free (Ask op) st e

    measure-runs : (op : Op) (q : ResultRef) (ans : List Answer) → tick l v ≡ tick_of v (measure v.at env None v.state (named_op M op) (M.result q) ans (goes_on v.at env None v.state)) → Runs 1 free (measure_did ds st op q ans)
    measure-runs op q [] e = at-once free (Ask op) st e
    measure-runs op q (answer.Done ∷ rest) e = at-once free (Ask op) st e
    measure-runs op q (answer.Bit x ∷ rest) e = passes (with_bit (with_event st op (answer.Bit x) rest) q x) (e ∙ ap (λ s. tick_of v (goes_on v.at env None v.state (with_bit s (M.result q) x))) (event-lowered ws st op (answer.Bit x) rest))

    abbrev call-move : List ℕ → Class → List (Ty × Val) → run.Move
    call-move name cl args = declared_call v.at env None v.state name (map (λ a. a.0) args) cl (map (λ a. named_value ws (valued ds a.1)) args)

    operation-runs : (name : List ℕ) (args : List (Ty × Val)) (m : Bool) (as_ : Option (List Arg)) → args_of ds st args ≡ as_ → Agree m as_ → tick l v ≡ tick_of v (call-move name (op_class m) args) → Runs 1 free (issued ds st name as_)
    operation-runs name args m None h a e = tt
    operation-runs name args false (Some as_) h a e =
        by-none (first_result as_) a (e ∙ ap (tick_of v) (lowered-arguments ws ds st args as_ (λ xs. gate v.at env None v.state (operation name xs) v.state.answers) h))
      where
        by-none : (o : Option ResultRef) → AgreeOn false o → tick l v ≡ tick_of v (gate v.at env None v.state (named_op M (operation name as_)) v.state.answers) → Runs 1 free (operation_did ds st (operation name as_) o)
        by-none None a e = gate-runs (operation name as_) st.answers e
        by-none (Some q) a e = absurd a
    operation-runs name args true (Some as_) h a e =
        let q = named-result ws as_ a in
        subst (λ o. Runs 1 free (operation_did ds st (operation name as_) o)) (sym q.1)
        (measure-runs (operation name as_) q.0 st.answers
        (e ∙ ap (tick_of v) (lowered-arguments ws ds st args as_ (λ xs. measure_into v.at env None v.state name xs (first_result xs)) h ∙ ap (measure_into v.at env None v.state name (map (named_arg M) as_)) q.2)))

    types-are : (args : List (Ty × Val)) → map (λ a. a.0) (map (typed_operand ws) args) ≡ map (λ a. a.0) args
    types-are [] = refl
    types-are (a ∷ args) = ap (λ ts. a.0 ∷ ts) (types-are args)

    -- the tick of a call that gives nothing
    call-tick : (name : List ℕ) (cl : Class) (args : List (Ty × Val)) → AllHave ws ds env args → Declares l (ws.function name) name cl → slice_get b.insts j ≡ Some (record { result = None; what = kind.Call ty.Void (callee.Func (ws.function name)) (map (typed_operand ws) args) }) → tick l v ≡ tick_of v (call-move name cl args)
    call-tick name cl args i d s =
        inst-tick l f c b j _ v here s refl
        ∙ ap (tick_of v) (declared-does l v.at env v.state None ty.Void (ws.function name) (map (typed_operand ws) args) name cl (map (λ a. named_value ws (valued ds a.1)) args) d (operands-have ws ds env args i)
        ∙ ap (λ ts. declared_call v.at env None v.state name ts cl (map (λ a. named_value ws (valued ds a.1)) args)) (types-are args))

    pub operation-item : (name : List ℕ) (args : List (Ty × Val)) → AllHave ws ds env args → Declares l (ws.function name) name (op_class (measures args)) → StandAt b.insts j (printed (item.Operation name args)) → Runs 1 free (did ds st (item.Operation name args))
    operation-item name args i d s = operation-runs name args (measures args) (args_of ds st args) refl (agrees ds st args) (call-tick name (op_class (measures args)) args i d s.0)

    -- a record
    record-runs : (what : Shown) (a : Value) → tick l v ≡ tick_of v (recorded v.at env None v.state (named_value ws a) what) → Runs 1 free (recorded_did ds st a what)
    record-runs what (value.Label g) e = passes (with_record st (record { shown = what; label = Some g })) e
    record-runs what value.NoLabel e = passes (with_record st (record { shown = what; label = None })) e
    record-runs what a e = tt

    named-values : (args : List (Ty × Val)) → map (λ a. named_value ws (valued ds a.1)) args ≡ map (named_value ws) (map (λ a. valued ds a.1) args)
    named-values [] = refl
    named-values (a ∷ args) = ap (λ vs. named_value ws (valued ds a.1) ∷ vs) (named-values args)

    output-runs : BitsBelow ws.results st.bits → (name : List ℕ) (ts : List Ty) (cl : Class) (us : List Value) → RecordBelow ws.results cl us → tick l v ≡ tick_of v (declared_call v.at env None v.state name ts cl (map (named_value ws) us)) → Runs 1 free (output_did ds st cl us)
    output-runs bits name ts class.Tuple (value.Int i ∷ a ∷ []) h e = record-runs (shown.Tuple (signed i)) a e
    output-runs bits name ts class.Array (value.Int i ∷ a ∷ []) h e = record-runs (shown.Array (signed i)) a e
    output-runs bits name ts class.ResRecord (u ∷ a ∷ []) h e = by-result st (λ g. Runs 1 free (read_did ds st g (λ x. recorded_did ds st a (shown.Res x)))) u (λ is. by-bit (bit_read st u) (e ∙ ap (tick_of v) (reads-alike ws st u is h bits (λ x. recorded v.at env None v.state (named_value ws a) (shown.Res x))))) tt
      where
        by-bit : (g : Got) → tick l v ≡ tick_of v (by_got v.state g (λ x. recorded v.at env None v.state (named_value ws a) (shown.Res x))) → Runs 1 free (read_did ds st g (λ x. recorded_did ds st a (shown.Res x)))
        by-bit (Bit x) e = record-runs (shown.Res x) a e
        by-bit Unset e = at-once free (Trap cause.ReadUnset) st e
        by-bit NoResult e = tt
    output-runs bits name ts class.BoolRecord (value.Int i ∷ a ∷ []) h e = record-runs (shown.Bool (is_one i)) a e
    output-runs bits name ts class.IntRecord (value.Int i ∷ a ∷ []) h e = record-runs (shown.Int (signed i)) a e
    output-runs bits name ts class.DoubleRecord (value.Double d ∷ a ∷ []) h e = record-runs (shown.Double d) a e
    output-runs bits name ts cl us h e = tt

    pub output-item : BitsBelow ws.results st.bits → (cl : Class) (args : List (Ty × Val)) → AllHave ws ds env args → RecordBelow ws.results cl (map (λ a. valued ds a.1) args) → Declares l (ws.function (record_name cl)) (record_name cl) cl → StandAt b.insts j (printed (item.Output cl args)) → Runs 1 free (did ds st (item.Output cl args))
    output-item bits cl args i h d s =
        output-runs bits (record_name cl) (map (λ a. a.0) args) cl (map (λ a. valued ds a.1) args) h
        (call-tick (record_name cl) cl args i d s.0
        ∙ ap (λ vs. tick_of v (declared_call v.at env None v.state (record_name cl) (map (λ a. a.0) args) cl vs)) (named-values args))

    -- a comparison of two results: each that isn't one or zero is read into a name of its own
    module _ (j' free' : ℕ) (env1 : Env) (room : free' < length env1) (bits : BitsBelow ws.results st.bits) where
      -- behind the reads of one side, whose operand then has the bit
      pub record Looked (a : Value) (x : Bool) : Type 0 where
        pub env2 : Env
        pub goes : GoesBy l (reads a) (low j' env1 st) (low (j' + reads a) env2 st)
        pub operand_is : value_of env2 (side_operand free' a) ≡ Some (bit_value x)
        pub others : (y : ℕ) → (free' ≡ y → ⊥) → at_name env2 y ≡ at_name env1 y
        pub long : length env2 ≡ length env1

      abbrev Side : Value → Got → Type 0
      Side a (Bit x) = Looked a x
      Side a Unset = (reads a ≡ 1) × (tick l (low j' env1 st) ≡ Off (Ended (named_end M (end_of (Trap cause.ReadUnset))) (lowered_state M st)))
      Side a NoResult = ⊤

      constant-side : (a : Value) (x : Bool) → reads a ≡ 0 → value_of env1 (side_operand free' a) ≡ Some (bit_value x) → Looked a x
      constant-side a x z e = record {
        env2 = env1;
        goes = subst (λ n. GoesBy l n (low j' env1 st) (low (j' + n) env1 st)) (sym z) (ap (λ n. low n env1 st) (let q : j' ≡ j' + 0 = omega arith in q));
        operand_is = e;
        others = λ y h. refl;
        long = refl;
      }

      read-side : (a : Value) → Declares l (ws.function read_name) read_name class.Read → reads a ≡ 1 → IsResult a → ValueBelow ws.results a → side_operand free' a ≡ operand.Local (local free') → slice_get b.insts j' ≡ Some (read_into ws free' a) → Side a (bit_read st a)
      read-side a dec one is below o s = by-bit (bit_read st a)
          (inst-tick l f c b j' _ (low j' env1 st) here s refl
          ∙ ap (tick_of (low j' env1 st)) (declared-does l (low j' env1 st).at env1 (lowered_state M st) (Some (local free')) (ty.Int W1) (ws.function read_name) ((ty.Res, operand.Const (named_value ws a)) ∷ []) read_name class.Read (named_value ws a ∷ []) dec refl
          ∙ reads-alike ws st a is below bits (λ x. gives (low j' env1 st).at env1 (Some (local free')) (lowered_state M st) (bit_value x) (lowered_state M st))))
        where
          by-bit : (g : Got) → tick l (low j' env1 st) ≡ tick_of (low j' env1 st) (by_got (lowered_state M st) g (λ x. gives (low j' env1 st).at env1 (Some (local free')) (lowered_state M st) (bit_value x) (lowered_state M st))) → Side a g
          by-bit (Bit x) e = record {
            env2 = slice_set env1 free' (Some (bit_value x));
            goes = subst (λ n. GoesBy l n (low j' env1 st) (low (j' + n) (slice_set env1 free' (Some (bit_value x))) st)) (sym one) (low (j' + 1) (slice_set env1 free' (Some (bit_value x))) st, e ∙ bound-on j' env1 st free' (bit_value x), refl);
            operand_is = ap (value_of (slice_set env1 free' (Some (bit_value x)))) o ∙ ap value_at (set-here env1 free' (Some (bit_value x)) room);
            others = λ y h. ap value_at (set-elsewhere env1 free' y (Some (bit_value x)) h);
            long = set-long env1 free' (Some (bit_value x));
          }
          by-bit Unset e = (one, e)
          by-bit NoResult e = tt

      side-runs : (a : Value) → ReadDeclared l ws a → ValueBelow ws.results a → StandAt b.insts j' (side_reads ws free' a) → Side a (bit_read st a)
      side-runs value.One dec below s = constant-side value.One true refl refl
      side-runs value.Zero dec below s = constant-side value.Zero false refl refl
      side-runs (value.Id i) dec below s = read-side (value.Id i) dec refl tt below refl s.0
      side-runs (value.Measured i) dec below s = read-side (value.Measured i) dec refl tt below refl s.0
      side-runs a dec below s = tt

    same-bits : (x y : Bool) → compare_of pred.Eq (bit_int x) (bit_int y) ≡ same_bit x y
    unfolding compare_of
    same-bits true true = refl
    same-bits true false = refl
    same-bits false true = refl
    same-bits false false = refl

    side-length : (n : ℕ) (a : Value) → length (side_reads ws n a) ≡ reads a
    side-length n value.One = refl
    side-length n value.Zero = refl
    side-length n (value.Id i) = refl
    side-length n (value.Measured i) = refl
    side-length n (value.Int i) = refl
    side-length n (value.Double i) = refl
    side-length n (value.Alloc i) = refl
    side-length n (value.Label i) = refl
    side-length n value.NoLabel = refl
    side-length n (value.Func i) = refl

    pub equal-item : (d : Dyn) (a u : Value) → free + reads a + reads u < length env → BitsBelow ws.results st.bits → ValueBelow ws.results a → ValueBelow ws.results u → ReadDeclared l ws a → ReadDeclared l ws u → StandAt b.insts j (printed (item.Equal d a u)) → Runs (reads a + reads u + 1) (free + reads a + reads u) (did ds st (item.Equal d a u))
    equal-item d a u room bits below below' dec dec' s = by-first (bit_read st a) (side-runs j free env (omega (arith, room)) bits a dec below first)
      where
        is-a : List Inst
        is-a = side_reads ws free a

        is-u : List Inst
        is-u = side_reads ws (free + reads a) u

        test : List Inst
        test = equal_test free a u ∷ []

        first : StandAt b.insts j is-a
        first = stand-front b.insts j is-a (is-u ++ test) s

        rest : StandAt b.insts (j + reads a) (is-u ++ test)
        rest = stand-rest b.insts j is-a (is-u ++ test) (j + reads a) (let q = side-length free a in omega (arith, q)) s

        last : StandAt b.insts (j + reads a + reads u) test
        last = stand-rest b.insts (j + reads a) is-u test (j + reads a + reads u) (let q = side-length (free + reads a) u in omega (arith, q)) rest

        -- the first operand keeps its bit while the second is read
        kept : (a : Value) (x : Bool) (env2 env3 : Env) → value_of env2 (side_operand free a) ≡ Some (bit_value x) → ((y : ℕ) → (free + reads a ≡ y → ⊥) → at_name env3 y ≡ at_name env2 y) → value_of env3 (side_operand free a) ≡ Some (bit_value x)
        kept value.One x env2 env3 e h = e
        kept value.Zero x env2 env3 e h = e
        kept (value.Int i) x env2 env3 e h = h free (λ q. absurd (omega (arith, q))) ∙ e
        kept (value.Double i) x env2 env3 e h = h free (λ q. absurd (omega (arith, q))) ∙ e
        kept (value.Id i) x env2 env3 e h = h free (λ q. absurd (omega (arith, q))) ∙ e
        kept (value.Alloc i) x env2 env3 e h = h free (λ q. absurd (omega (arith, q))) ∙ e
        kept (value.Measured i) x env2 env3 e h = h free (λ q. absurd (omega (arith, q))) ∙ e
        kept (value.Label i) x env2 env3 e h = h free (λ q. absurd (omega (arith, q))) ∙ e
        kept value.NoLabel x env2 env3 e h = h free (λ q. absurd (omega (arith, q))) ∙ e
        kept (value.Func i) x env2 env3 e h = h free (λ q. absurd (omega (arith, q))) ∙ e

        tested : (x y : Bool) (p : Looked j free env (omega (arith, room)) bits a x) (q : Looked (j + reads a) (free + reads a) p.env2 (let z = p.long in omega (arith, room, z)) bits u y) → Runs (reads a + reads u + 1) (free + reads a + reads u) (Gave (bit_int (same_bit x y) ∷ []) st)
        tested x y p q =
            let n : ℕ = free + reads a + reads u in
            let m : ℕ = j + reads a + reads u in
            let i : IntValue = bit_int (same_bit x y) in
            let long : length q.env2 ≡ length env = q.long ∙ p.long in
            let env4 : Env = slice_set q.env2 n (Some (value.Int i)) in
            let done : tick l (low m q.env2 st) ≡ On (low (m + 1) env4 st) =
            performed m q.env2 st (Some (local n)) (kind.Icmp pred.Eq (ty.Int W1) (side_operand free a) (side_operand (free + reads a) u)) (bit_value x ∷ bit_value y ∷ []) last.0 (ap (λ o. one_more o (values_of q.env2 (side_operand (free + reads a) u ∷ []))) (kept a x p.env2 q.env2 p.operand_is q.others) ∙ ap (λ o. one_more (Some (bit_value x)) (one_more o (Some []))) q.operand_is)
            ∙ ap (λ t. tick_of (low m q.env2 st) (gives (low m q.env2 st).at q.env2 (Some (local n)) (lowered_state M st) (bit_value t) (lowered_state M st))) (same-bits x y)
            ∙ bound-on m q.env2 st n (value.Int i) in
            let walked : GoesBy l (reads a + reads u) v (low m q.env2 st) = goes-on-by l (reads a) (reads u) (reads a + reads u) v (low (j + reads a) p.env2 st) (low m q.env2 st) p.goes q.goes refl in
            record {
              env' = env4;
              goes = goes-on-by l (reads a + reads u) 1 (reads a + reads u + 1) v (low m q.env2 st) (low (j + (reads a + reads u + 1)) env4 st) walked (low (m + 1) env4 st, done, ap (λ z. low z env4 st) (let z : m + 1 ≡ j + (reads a + reads u + 1) = omega arith in z)) refl;
              given = ap value_at (set-here q.env2 n (Some (value.Int i)) (omega (arith, long, room)));
              others = λ y lt. ap value_at (set-elsewhere q.env2 n y (Some (value.Int i)) (λ e. absurd (omega (arith, e, lt)))) ∙ q.others y (λ e. absurd (omega (arith, e, lt))) ∙ p.others y (λ e. absurd (omega (arith, e, lt)));
              long = set-long q.env2 n (Some (value.Int i)) ∙ long;
            }

        by-second : (x : Bool) (p : Looked j free env (omega (arith, room)) bits a x) (g : Got) → Side (j + reads a) (free + reads a) p.env2 (let z = p.long in omega (arith, room, z)) bits u g → Runs (reads a + reads u + 1) (free + reads a + reads u) (read_did ds st g (λ y. Gave (bit_int (same_bit x y) ∷ []) st))
        by-second x p (Bit y) h = tested x y p h
        by-second x p Unset h = (reads a, omega arith, low (j + reads a) p.env2 st, p.goes, h.1)
        by-second x p NoResult h = tt

        by-first : (g : Got) → Side j free env (omega (arith, room)) bits a g → Runs (reads a + reads u + 1) (free + reads a + reads u) (read_did ds st g (λ x. read_did ds st (bit_read st u) (λ y. Gave (bit_int (same_bit x y) ∷ []) st)))
        by-first (Bit x) h = by-second x h (bit_read st u) (side-runs (j + reads a) (free + reads a) h.env2 (let z = h.long in omega (arith, room, z)) bits u dec' below' (stand-front b.insts (j + reads a) is-u test rest))
        by-first Unset h = (0, omega arith, v, refl, h.1)
        by-first NoResult h = tt
