-- Calls of declared functions.
use Rattle.std.proofs.Common.{◌≡◌, ℕ, ◌+◌, Bool, true, false, Option, None, Some, List, [], ◌∷◌, ◌++◌, length, map, filter, refl, sym, ap, ◌∙◌, subst}
use Rattle.std.specs.List.{list_any}
use Rattle.std.specs.Prelude.{◌==◌, ⊤, if◌then◌else◌, ◌||◌, not, codes}
use Rattle.backend_api.specs.declared.operation.Answer.{Answer}
use Rattle.backend_api.specs.declared.operation.Answer.TheVariants as answer
use Rattle.backend_api.specs.declared.operation.Arg.{Arg}
use Rattle.backend_api.specs.declared.operation.Arg.TheVariants as arg
use Rattle.backend_api.specs.declared.operation.Op.{Op}
use Rattle.backend_api.specs.declared.operation.QubitRef.TheVariants as qubit
use Rattle.backend_api.specs.declared.operation.ResultRef.{ResultRef}
use Rattle.backend_api.specs.declared.operation.ResultRef.TheVariants as result
use Rattle.ir_module.specs.declared.places.Point.{Point}
use Rattle.ir_module.specs.declared.tree.Function.{Function}
use Rattle.ir_values.specs.declared.cause.Cause.{Cause}
use Rattle.ir_values.specs.declared.cause.Cause.TheVariants as cause
use Rattle.ir_values.specs.declared.class.Class.{Class}
use Rattle.ir_values.specs.declared.class.Class.TheVariants as class
use Rattle.ir_values.specs.declared.ids.LocalId.{LocalId}
use Rattle.ir_values.specs.declared.ty.Ty.{Ty}
use Rattle.ir_values.specs.declared.ty.Ty.TheVariants as ty
use Rattle.ir_values.specs.declared.value.Value.{Value}
use Rattle.ir_values.specs.declared.value.Value.TheVariants as value
use Rattle.ir_values.specs.Calls.{qis}
use Rattle.ir_values.specs.Int.{IntValue, signed}
use Rattle.output_records.specs.declared.record.Shown.{Shown}
use Rattle.output_records.specs.declared.record.Shown.TheVariants as shown
use Rattle.qir_meaning.specs.Effects.{is_one, same_bit, recorded, argument, arguments, known_bit, reading, bit_value, gives, goes_on, releases, gate, measure, measure_into, measure_returning, declared_call, operation, first_result}
use Rattle.qir_meaning.specs.State.{Env, State, Stuck, bind, next, is_held, with_allocation, without, with_event, with_bit, with_record, bit_of}
use Rattle.qir_meaning.specs.State as run
use Rattle.qir_meaning.specs.Runs.{Trapped}
use Rattle.qir_meaning.specs.code.Steps.{Ended, Jam, Waiting, Whole, Tick, Off, tick_of}
use Rattle.kept_items.specs.declared.item.Choice.TheVariants.{One}
use Rattle.kept_items.specs.declared.item.Item.{Item}
use Rattle.kept_items.specs.declared.item.Item.TheVariants.{Read, Equal}
use Rattle.kept_items.specs.declared.target.Kind.TheVariants as kind
use Rattle.kept_items.specs.declared.val.Val.{Val}
use Rattle.kept_items.specs.declared.val.Val.TheVariants.{Known, Dynamic}
use Rattle.kept_items.specs.Items.{output_did, recorded_did, Did, Gave, Got, Bit, Unset, NoResult, got, bit_int, bit_read, arg_of, args_of, one_arg, read_did, gate_did, measure_did, operation_did, issued, did, valued}
use Rattle.kept_items.specs.Targets.{has_ints, is_base}
use Rattle.static_steps.specs.declared.phase.Phase.{Phase}
use Rattle.static_steps.specs.declared.phase.Phase.TheVariants as phase
use Rattle.static_steps.specs.declared.turn.Turn.{Turn}
use Rattle.static_steps.specs.declared.turn.Turn.TheVariants.{Bad, Lost}
use Rattle.static_steps.specs.declared.work.Work.{Work}
use Rattle.static_steps.specs.Calls.{class_turn, silent_turn}
use Rattle.static_steps.specs.Operations.{issues, issues_in, is_irreversible, is_res, measures, one_more_arg, operates, operates_on, or_cause, phase_after, returning_on, returning_turn, returns_in, typed_args, wrong_arg, wrong_args}
use Rattle.static_steps.specs.Records.{count_output, int_output, outputs, result_output, value_output}
use Rattle.static_steps.specs.Results as results
use Rattle.static_steps.specs.Results.{both_bits, const_bit, equals, held_in, reads, releases_known}
use Rattle.static_steps.specs.Settings.{Setting, bound, gives_dynamic, gives_known, goes, move_to, passed, silent}
use Rattle.runs_follow_steps.specs.Describes.{Fits, IsNot, ResultInRange}
use Rattle.runs_follow_steps.specs.Meets.{DidMeets, TrapsOrJams, TurnMeets, jams, traps}
use Rattle.runs_follow_steps.proofs.Bound.{reached, bound-with, passed-with, gives-known, gives-fresh, whole}

abbrev pub by_args : Option (List Arg) → (List Arg → run.Move) → run.Move
by_args None go = Stuck
by_args (Some args) go = go args

abbrev by_arg : Option Arg → (Arg → run.Move) → run.Move
by_arg None go = Stuck
by_arg (Some a) go = go a

abbrev pub by_got : State → Got → (Bool → run.Move) → run.Move
by_got st (Bit b) go = go b
by_got st Unset go = run.Halt (run.Trap cause.ReadUnset) st
by_got st NoResult go = Stuck

pub reading-is : (st : State) (v : Value) (go : Bool → run.Move) → reading st v go ≡ by_got st (bit_read st v) go
reading-is st value.One go = refl
reading-is st value.Zero go = refl
reading-is st (value.Id i) go = known-is (bit_of st (result.Id i))
  where
    known-is : (o : Option Bool) → known_bit st o go ≡ by_got st (got o) go
    known-is None = refl
    known-is (Some b) = refl
reading-is st (value.Measured i) go = known-is (bit_of st (result.Measured i))
  where
    known-is : (o : Option Bool) → known_bit st o go ≡ by_got st (got o) go
    known-is None = refl
    known-is (Some b) = refl
reading-is st v go = refl

abbrev IsRecord : Class → Type 0
IsRecord class.Tuple = ⊤
IsRecord class.Array = ⊤
IsRecord class.ResRecord = ⊤
IsRecord class.BoolRecord = ⊤
IsRecord class.IntRecord = ⊤
IsRecord class.DoubleRecord = ⊤
IsRecord other = ⊥

abbrev GivesNothing : Class → Type 0
GivesNothing class.Alloc = ⊥
GivesNothing class.One = ⊥
GivesNothing class.Zero = ⊥
GivesNothing class.Read = ⊥
GivesNothing class.Equal = ⊥
GivesNothing class.Returning = ⊥
GivesNothing other = ⊤

-- arguments that the static step lets pass
module _ (ds : List IntValue) (st : State) (held : List ℕ) (same : st.held ≡ held) where
  argument-is : (t : Ty) (a : Val) (go : Arg → run.Move) → wrong_arg held t a ≡ None → argument st t (valued ds a) go ≡ by_arg (arg_of t (valued ds a)) go
  argument-is ty.Qubit (Known (value.Alloc j)) go h = by-held (held_in held j) refl h
    where
      by-held : (b : Bool) → held_in held j ≡ b → (if b then None else Some cause.Released) ≡ None → (if is_held st j then go (arg.Qubit (qubit.Alloc j)) else run.Halt (run.Trap cause.Released) st) ≡ go (arg.Qubit (qubit.Alloc j))
      by-held true e h = ap (λ b. if b then go (arg.Qubit (qubit.Alloc j)) else run.Halt (run.Trap cause.Released) st) (ap (λ hs. list_any (λ i. i == j) hs) same ∙ e)
      by-held false e h = cc
  argument-is ty.Res (Known value.One) go h = cc
  argument-is ty.Res (Known value.Zero) go h = cc
  argument-is ty.Double (Known (value.Double d)) go h = refl
  argument-is (ty.Int w) (Known (value.Int i)) go h = refl
  argument-is t a go h = refl

  arguments-are : (ts : List Ty) (vs : List Val) (args : List (Ty × Val)) (go : List Arg → run.Move) → typed_args ts vs ≡ Some args → wrong_args held args ≡ None → arguments st ts (map (valued ds) vs) go ≡ by_args (args_of ds st args) go
  arguments-are [] [] args go e h = subst (λ as_. go [] ≡ by_args (args_of ds st as_) go) (let s : [] ≡ args = cc in s) refl
  arguments-are [] (v ∷ vs) args go e h = cc
  arguments-are (t ∷ ts) [] args go e h = cc
  arguments-are (t ∷ ts) (v ∷ vs) args go e h = rest (typed_args ts vs) (λ as_ go' e' h'. arguments-are ts vs as_ go' e' h') e
    where
      rest : (o : Option (List (Ty × Val))) → ((as_ : List (Ty × Val)) (go' : List Arg → run.Move) → o ≡ Some as_ → wrong_args held as_ ≡ None → arguments st ts (map (valued ds) vs) go' ≡ by_args (args_of ds st as_) go') → one_more_arg t v o ≡ Some args → argument st t (valued ds v) (λ a. arguments st ts (map (valued ds) vs) (λ as_. go (a ∷ as_))) ≡ by_args (args_of ds st args) go
      rest None ih e = cc
      rest (Some as_) ih e =
          let s : ((t, v) ∷ as_) ≡ args = cc in
          let k : or_cause (wrong_arg held t v) (wrong_args held as_) ≡ None = subst (λ z. wrong_args held z ≡ None) (sym s) h in
          subst (λ z. argument st t (valued ds v) (λ a. arguments st ts (map (valued ds) vs) (λ as_. go (a ∷ as_))) ≡ by_args (args_of ds st z) go) s (
          argument-is t v (λ a. arguments st ts (map (valued ds) vs) (λ as_. go (a ∷ as_))) (first (wrong_arg held t v) (wrong_args held as_) k)
          ∙ by-first (arg_of t (valued ds v)) as_ (λ a. ih as_ (λ as_. go (a ∷ as_)) refl (second (wrong_arg held t v) (wrong_args held as_) k))
          )
        where
          first : (c d : Option Cause) → or_cause c d ≡ None → c ≡ None
          first None d h = refl
          first (Some c) d h = cc

          second : (c d : Option Cause) → or_cause c d ≡ None → d ≡ None
          second None d h = h
          second (Some c) d h = cc

          by-first : (o : Option Arg) (as_ : List (Ty × Val)) → ((a : Arg) → arguments st ts (map (valued ds) vs) (λ as_. go (a ∷ as_)) ≡ by_args (args_of ds st as_) (λ as_. go (a ∷ as_))) → by_arg o (λ a. arguments st ts (map (valued ds) vs) (λ as_. go (a ∷ as_))) ≡ by_args (one_arg o (args_of ds st as_)) go
          by-first None as_ ih = refl
          by-first (Some a) as_ ih = ih a ∙ by-second (args_of ds st as_)
            where
              by-second : (p : Option (List Arg)) → by_args p (λ as_. go (a ∷ as_)) ≡ by_args (one_arg (Some a) p) go
              by-second None = refl
              by-second (Some as_) = refl

-- an operation that is refused traps so, where no argument before the wrong one is of another type
pub data Refused (st : State) (why : Cause) (mv : run.Move) : Type 0 where
  trapped : mv ≡ run.Halt (run.Trap why) st → Refused st why mv
  stuck : mv ≡ Stuck → Refused st why mv

pub refused : {st : State} {mv : run.Move} (tick : run.Move → Tick) (why : Cause) → Refused st why mv
    → tick (run.Halt (run.Trap why) st) ≡ Off (Ended (Trapped why) st) → tick Stuck ≡ Off Jam → TrapsOrJams (tick mv) why st
refused tick why (trapped e) a b = traps (ap tick e ∙ a)
refused tick why (stuck e) a b = jams (ap tick e ∙ b)

module _ (ds : List IntValue) (st : State) (held : List ℕ) (same : st.held ≡ held) where
  wrong-argument : (t : Ty) (a : Val) (go : Arg → run.Move) (why : Cause) → wrong_arg held t a ≡ Some why
      → argument st t (valued ds a) go ≡ run.Halt (run.Trap why) st
  wrong-argument ty.Qubit (Known (value.Alloc j)) go why h = by-held (held_in held j) refl h
    where
      halts : Cause → run.Move
      halts c = run.Halt (run.Trap c) st

      by-held : (b : Bool) → held_in held j ≡ b → (if b then None else Some cause.Released) ≡ Some why
          → (if is_held st j then go (arg.Qubit (qubit.Alloc j)) else run.Halt (run.Trap cause.Released) st) ≡ run.Halt (run.Trap why) st
      by-held true e h = cc
      by-held false e h =
          let q : cause.Released ≡ why = cc in
          ap (λ b. if b then go (arg.Qubit (qubit.Alloc j)) else run.Halt (run.Trap cause.Released) st) (ap (λ hs. list_any (λ i. i == j) hs) same ∙ e)
          ∙ ap (λ c. run.Halt (run.Trap c) st) q
  wrong-argument ty.Res (Known value.One) go why h = let q : cause.ConstResult ≡ why = cc in ap (λ c. run.Halt (run.Trap c) st) q
  wrong-argument ty.Res (Known value.Zero) go why h = let q : cause.ConstResult ≡ why = cc in ap (λ c. run.Halt (run.Trap c) st) q
  wrong-argument t a go why h = cc

  pub wrong-arguments : (ts : List Ty) (vs : List Val) (args : List (Ty × Val)) (go : List Arg → run.Move) (why : Cause)
      → typed_args ts vs ≡ Some args → wrong_args held args ≡ Some why → Refused st why (arguments st ts (map (valued ds) vs) go)
  wrong-arguments [] [] args go why e h = let s : [] ≡ args = cc in let k : wrong_args held [] ≡ Some why = subst (λ z. wrong_args held z ≡ Some why) (sym s) h in cc
  wrong-arguments [] (v ∷ vs) args go why e h = cc
  wrong-arguments (t ∷ ts) [] args go why e h = cc
  wrong-arguments (t ∷ ts) (v ∷ vs) args go why e h = rest (typed_args ts vs) (λ as_ go' e' h'. wrong-arguments ts vs as_ go' why e' h') e
    where
      rest : (o : Option (List (Ty × Val)))
          → ((as_ : List (Ty × Val)) (go' : List Arg → run.Move) → o ≡ Some as_ → wrong_args held as_ ≡ Some why → Refused st why (arguments st ts (map (valued ds) vs) go'))
          → one_more_arg t v o ≡ Some args
          → Refused st why (argument st t (valued ds v) (λ a. arguments st ts (map (valued ds) vs) (λ as_. go (a ∷ as_))))
      rest None ih e = cc
      rest (Some as_) ih e =
          let s : ((t, v) ∷ as_) ≡ args = cc in
          by-cause (wrong_arg held t v) refl (subst (λ z. wrong_args held z ≡ Some why) (sym s) h)
        where
          others : Arg → run.Move
          others a = arguments st ts (map (valued ds) vs) (λ as_. go (a ∷ as_))

          by-arg : (o : Option Arg) → wrong_args held as_ ≡ Some why → Refused st why (by_arg o others)
          by-arg None k = stuck refl
          by-arg (Some a) k = ih as_ (λ as_. go (a ∷ as_)) refl k

          by-cause : (c : Option Cause) → wrong_arg held t v ≡ c → or_cause c (wrong_args held as_) ≡ Some why
              → Refused st why (argument st t (valued ds v) (λ a. arguments st ts (map (valued ds) vs) (λ as_. go (a ∷ as_))))
          by-cause (Some c) w k = let q : c ≡ why = cc in trapped (wrong-argument t v others why (w ∙ ap Some q))
          by-cause None w k =
              subst (Refused st why) (sym (argument-is ds st held same t v others w)) (by-arg (arg_of t (valued ds v)) k)

-- an operation is a measurement where it has a result among its arguments
abbrev pub AgreeOn : Bool → Option ResultRef → Type 0
AgreeOn true None = ⊥
AgreeOn true (Some r) = ⊤
AgreeOn false None = ⊤
AgreeOn false (Some r) = ⊥

abbrev pub Agree : Bool → Option (List Arg) → Type 0
Agree b None = ⊤
Agree b (Some args) = AgreeOn b (first_result args)

pub agrees : (ds : List IntValue) (st : State) (args : List (Ty × Val)) → Agree (measures args) (args_of ds st args)
agrees ds st [] = tt
agrees ds st (a ∷ args) = join a.0 (valued ds a.1) (args_of ds st args) (agrees ds st args)
  where
    join : (t : Ty) (v : Value) (o : Option (List Arg)) → Agree (measures args) o → Agree (is_res t || measures args) (one_arg (arg_of t v) o)
    join ty.Qubit (value.Id i) None h = tt
    join ty.Qubit (value.Id i) (Some as_) h = h
    join ty.Qubit (value.Alloc i) None h = tt
    join ty.Qubit (value.Alloc i) (Some as_) h = h
    join ty.Res (value.Id i) None h = tt
    join ty.Res (value.Id i) (Some as_) h = tt
    join ty.Res (value.Measured i) None h = tt
    join ty.Res (value.Measured i) (Some as_) h = tt
    join ty.Double (value.Double d) None h = tt
    join ty.Double (value.Double d) (Some as_) h = h
    join (ty.Int w) (value.Int i) None h = tt
    join (ty.Int w) (value.Int i) (Some as_) h = h
    join t v o h = tt

abbrev with_result : ResultRef → Option (List Arg) → Option (List Arg)
with_result r None = None
with_result r (Some args) = Some (args ++ arg.Res r ∷ [])

args-and-result : (ds : List IntValue) (st : State) (i : ℕ) (args : List (Ty × Val)) → args_of ds st (args ++ (ty.Res, Known (value.Measured i)) ∷ []) ≡ with_result (result.Measured i) (args_of ds st args)
args-and-result ds st i [] = refl
args-and-result ds st i (a ∷ args) = ap (one_arg (arg_of a.0 (valued ds a.1))) (args-and-result ds st i args) ∙ join (arg_of a.0 (valued ds a.1)) (args_of ds st args)
  where
    join : (o : Option Arg) (p : Option (List Arg)) → one_arg o (with_result (result.Measured i) p) ≡ with_result (result.Measured i) (one_arg o p)
    join None p = refl
    join (Some a) None = refl
    join (Some a) (Some as_) = refl

last-result : (args : List Arg) (r : ResultRef) → AgreeOn false (first_result args) → first_result (args ++ arg.Res r ∷ []) ≡ Some r
last-result [] r h = refl
last-result (arg.Res q ∷ args) r h = absurd h
last-result (arg.Qubit q ∷ args) r h = last-result args r h
last-result (arg.Double d ∷ args) r h = last-result args r h
last-result (arg.Int i ∷ args) r h = last-result args r h

module _ (s : Setting) (ds : List IntValue) (env : Env) (us : List Waiting) (st : State) (fits : Fits s.m s.live ds s.w env us st) (counted : s.fresh.0 ≡ length ds) where
  abbrev here : Point
  here = s.w.top.at

  abbrev v : Whole
  v = whole s.w env us st

  module _ (x : Option LocalId) (passes : (y : LocalId) → s.live (next here) y ≡ true → IsNot x y → s.live here y ≡ true) (range : ResultInRange s.m here.func x) where
    abbrev Meets : run.Move → Turn → Type 0
    Meets mv u = TurnMeets s.m s.live (tick_of v mv) ds st u

    abbrev after : Val → Work
    after a = bound s x a

    -- an allocation
    pub alloc-meets : Meets (gives here env x st (value.Alloc st.allocated) (with_allocation st)) (goes s (record (after (Known (value.Alloc s.w.allocated))) { allocated = s.w.allocated + 1; held = s.w.held ++ s.w.allocated ∷ [] }))
    alloc-meets =
        let u : Work = record (after (Known (value.Alloc s.w.allocated))) { allocated = s.w.allocated + 1; held = s.w.held ++ s.w.allocated ∷ [] } in
        let n = fits.allocated in (
          move_to s.live u,
          refl,
          reached s ds env us st fits counted (ds ++ []) u (bind env x (value.Alloc st.allocated)) us (with_allocation st) st _ refl
              (bound-with s ds env us st fits counted x passes range [] (Known (value.Alloc s.w.allocated)) (value.Alloc st.allocated) u refl refl (ap (λ k. Some (value.Alloc k)) n) (with_allocation st) (ap (λ k. k + 1) n) (ap (λ h. h ++ st.allocated ∷ []) fits.held ∙ ap (λ k. s.w.held ++ k ∷ []) n) fits.returned)
              refl,
        )

    module _ (none : x ≡ None) where
      -- a release
      releases-meets : (a : Value) → Meets (releases here env x st a) (releases_known s a)
      releases-meets (value.Id i) = traps refl
      releases-meets (value.Alloc j) = by-held (held_in s.w.held j) refl
        where
          by-held : (b : Bool) → held_in s.w.held j ≡ b
              → Meets (if is_held st j then goes_on here env x st (without st j) else run.Halt (run.Trap cause.Released) st)
              (if b then goes s (record (passed s) { held = results.without s.w.held j }) else Bad (kind.Traps cause.Released))
          by-held false e =
              let k : is_held st j ≡ false = ap (λ h. list_any (λ i. i == j) h) fits.held ∙ e in
              traps (ap (λ b. tick_of v (if b then goes_on here env x st (without st j) else run.Halt (run.Trap cause.Released) st)) k)
          by-held true e =
              let u : Work = record (passed s) { held = results.without s.w.held j } in
              let k : is_held st j ≡ true = ap (λ h. list_any (λ i. i == j) h) fits.held ∙ e in (
                move_to s.live u,
                refl,
                reached s ds env us st fits counted (ds ++ []) u env us (without st j) st _
                    (ap (λ b. tick_of v (if b then goes_on here env x st (without st j) else run.Halt (run.Trap cause.Released) st)) k)
                    (passed-with s ds env us st fits counted x passes range none u refl refl [] (without st j) fits.allocated (ap (λ h. filter (λ i. not (i == j)) h) fits.held) fits.returned)
                    refl,
              )
      releases-meets a = tt

      -- a call without an effect
      pub passed-meets : Meets (goes_on here env x st st) (goes s (passed s))
      passed-meets = (move_to s.live (passed s), refl, reached s ds env us st fits counted (ds ++ []) (passed s) env us st st _ refl (passed-with s ds env us st fits counted x passes range none (passed s) refl refl [] st fits.allocated fits.held fits.returned) refl)

      module _ (name : List ℕ) (ph : Phase) where
        abbrev after-op : Work
        after-op = record (passed s) { phase = ph }

        abbrev OpMeets : run.Move → Did → Type 0
        OpMeets mv d = DidMeets s.m s.live (tick_of v mv) (move_to s.live after-op ∷ []) One ds d

        on-to : (st' : State) → st'.allocated ≡ st.allocated → st'.held ≡ st.held → st'.measured ≡ st.measured → OpMeets (goes_on here env x st st') (Gave [] st')
        on-to st' e1 e2 e3 =
            (move_to s.live after-op, refl, reached s ds env us st fits counted (ds ++ []) after-op env us st' st' _ refl (passed-with s ds env us st fits counted x passes range none after-op refl refl [] st' (e1 ∙ fits.allocated) (e2 ∙ fits.held) (e3 ∙ fits.returned)) refl)

        gate-answered : (op : Op) (ans : List Answer) → OpMeets (gate here env x st op ans) (gate_did ds st op ans)
        gate-answered op [] = (st, refl, refl)
        gate-answered op (answer.Done ∷ rest) = on-to (with_event st op answer.Done rest) refl refl refl
        gate-answered op (answer.Bit b ∷ rest) = (st, refl, refl)

        measure-answered : (op : Op) (r : ResultRef) (ans : List Answer) → OpMeets (measure here env x st op r ans (goes_on here env x st)) (measure_did ds st op r ans)
        measure-answered op r [] = (st, refl, refl)
        measure-answered op r (answer.Done ∷ rest) = (st, refl, refl)
        measure-answered op r (answer.Bit b ∷ rest) = on-to (with_bit (with_event st op (answer.Bit b) rest) r b) refl refl refl

        gate-issued : (o : Option (List Arg)) → Agree false o → OpMeets (by_args o (λ args. gate here env x st (operation name args) st.answers)) (issued ds st name o)
        gate-issued None h = refl
        gate-issued (Some args) h = by-result (first_result args) h
          where
            by-result : (r : Option ResultRef) → AgreeOn false r → OpMeets (gate here env x st (operation name args) st.answers) (operation_did ds st (operation name args) r)
            by-result None h = gate-answered (operation name args) st.answers
            by-result (Some r) h = absurd h

        measure-issued : (o : Option (List Arg)) → Agree true o → OpMeets (by_args o (λ args. measure_into here env x st name args (first_result args))) (issued ds st name o)
        measure-issued None h = refl
        measure-issued (Some args) h = by-result (first_result args) h
          where
            by-result : (r : Option ResultRef) → AgreeOn true r → OpMeets (measure_into here env x st name args r) (operation_did ds st (operation name args) r)
            by-result None h = absurd h
            by-result (Some r) h = measure-answered (operation name args) r st.answers

    silent-meets : (r : Option LocalId) (tk : Tick) (go : Turn) → (r ≡ None → TurnMeets s.m s.live tk ds st go) → TurnMeets s.m s.live tk ds st (silent r go)
    silent-meets None tk go h = h refl
    silent-meets (Some y) tk go h = tt

    module _ (none : x ≡ None) where
      -- an operation whose arguments pass
      operation-meets : (name : List ℕ) (irreversible : Bool) (ts : List Ty) (vs : List Val) (args : List (Ty × Val)) (go : List Arg → run.Move) → typed_args ts vs ≡ Some args
          → ((ph : Phase) → Meets (by_args (args_of ds st args) go) (issues_in s (Some ph) name args))
          → Meets (arguments st ts (map (valued ds) vs) go) (operates_on s name irreversible args)
      operation-meets name irreversible ts vs args go e h = by-cause (wrong_args s.w.held args) refl
        where
          by-phase : (o : Option Phase) → Meets (by_args (args_of ds st args) go) (issues_in s o name args)
          by-phase None = tt
          by-phase (Some ph) = h ph

          by-cause : (c : Option Cause) → wrong_args s.w.held args ≡ c → Meets (arguments st ts (map (valued ds) vs) go) (issues s c irreversible name args)
          by-cause (Some why) k = refused (tick_of v) why (wrong-arguments ds st s.w.held fits.held ts vs args go why e k) refl refl
          by-cause None k =
              subst (λ mv. Meets mv (issues s None irreversible name args)) (sym (arguments-are ds st s.w.held fits.held ts vs args go e k)) (by-phase (phase_after s irreversible))

      -- a gate
      gates-meet : (name : List ℕ) (irreversible : Bool) (ts : List Ty) (vs : List Val) → Meets (arguments st ts (map (valued ds) vs) (λ args. gate here env x st (operation name args) st.answers)) (operates s name false irreversible (typed_args ts vs))
      gates-meet name irreversible ts vs = by-typed (typed_args ts vs) refl
        where
          go : List Arg → run.Move
          go args = gate here env x st (operation name args) st.answers

          by-measures : (args : List (Ty × Val)) → typed_args ts vs ≡ Some args → (b : Bool) → Agree b (args_of ds st args) → Meets (arguments st ts (map (valued ds) vs) go) (if not b then operates_on s name irreversible args else Lost)
          by-measures args e true a = tt
          by-measures args e false a = operation-meets name irreversible ts vs args go e (λ ph. gate-issued none name ph (args_of ds st args) a)

          by-typed : (o : Option (List (Ty × Val))) → typed_args ts vs ≡ o → Meets (arguments st ts (map (valued ds) vs) go) (operates s name false irreversible o)
          by-typed None e = tt
          by-typed (Some args) e = by-measures args e (measures args) (agrees ds st args)

      -- a measurement into a result that is given
      measures-meet : (name : List ℕ) (irreversible : Bool) (ts : List Ty) (vs : List Val) → Meets (arguments st ts (map (valued ds) vs) (λ args. measure_into here env x st name args (first_result args))) (operates s name true irreversible (typed_args ts vs))
      measures-meet name irreversible ts vs = by-typed (typed_args ts vs) refl
        where
          go : List Arg → run.Move
          go args = measure_into here env x st name args (first_result args)

          by-measures : (args : List (Ty × Val)) → typed_args ts vs ≡ Some args → (b : Bool) → Agree b (args_of ds st args) → Meets (arguments st ts (map (valued ds) vs) go) (if b then operates_on s name irreversible args else Lost)
          by-measures args e false a = tt
          by-measures args e true a = operation-meets name irreversible ts vs args go e (λ ph. measure-issued none name ph (args_of ds st args) a)

          by-typed : (o : Option (List (Ty × Val))) → typed_args ts vs ≡ o → Meets (arguments st ts (map (valued ds) vs) go) (operates s name true irreversible o)
          by-typed None e = tt
          by-typed (Some args) e = by-measures args e (measures args) (agrees ds st args)

    -- a measurement that returns a result
    abbrev mz : List ℕ
    mz = qis (codes "mz__body")

    module _ (ph : Phase) where
      abbrev after-result : Work
      after-result = record (after (Known (value.Measured s.w.returned))) { returned = s.w.returned + 1; phase = ph }

      abbrev ReturnMeets : run.Move → Did → Type 0
      ReturnMeets mv d = DidMeets s.m s.live (tick_of v mv) (move_to s.live after-result ∷ []) One ds d

      abbrev own : ResultRef
      own = result.Measured st.measured

      abbrev returned-answer : Op → List Answer → run.Move
      returned-answer op ans = measure here env x st op own ans (λ st'. gives here env x st (value.Measured st.measured) (record st' { measured = st.measured + 1 }))

      return-answered : (op : Op) (ans : List Answer) → ReturnMeets (returned-answer op ans) (measure_did ds st op own ans)
      return-answered op [] = (st, refl, refl)
      return-answered op (answer.Done ∷ rest) = (st, refl, refl)
      return-answered op (answer.Bit b ∷ rest) =
          let st' : State = with_bit (with_event st op (answer.Bit b) rest) own b in
          let n = fits.returned in (
            move_to s.live after-result,
            refl,
            reached s ds env us st fits counted (ds ++ []) after-result (bind env x (value.Measured st.measured)) us (record st' { measured = st.measured + 1 }) st' _ refl
                (bound-with s ds env us st fits counted x passes range [] (Known (value.Measured s.w.returned)) (value.Measured st.measured) after-result refl refl (ap (λ k. Some (value.Measured k)) n) (record st' { measured = st.measured + 1 }) fits.allocated fits.held (ap (λ k. k + 1) n))
                refl,
          )

      return-issued : (o : Option (List Arg)) → Agree false o → ReturnMeets (by_args o (measure_returning here env x st)) (issued ds st mz (with_result own o))
      return-issued None h = refl
      return-issued (Some args) h =
          subst (λ r. ReturnMeets (measure_returning here env x st args) (operation_did ds st (operation mz (args ++ arg.Res own ∷ [])) r)) (sym (last-result args own h)) (return-answered (operation mz (args ++ arg.Res own ∷ [])) st.answers)

    returns-on : (ts : List Ty) (vs : List Val) (args : List (Ty × Val)) → typed_args ts vs ≡ Some args → Agree false (args_of ds st args)
        → Meets (arguments st ts (map (valued ds) vs) (measure_returning here env x st)) (returning_on s x (wrong_args s.w.held args) args)
    returns-on ts vs args e a = by-cause (wrong_args s.w.held args) refl
      where
        by-phase : (o : Option Phase) → Meets (by_args (args_of ds st args) (measure_returning here env x st)) (returns_in s x o args)
        by-phase None = tt
        by-phase (Some ph) =
            subst (λ d. ReturnMeets ph (by_args (args_of ds st args) (measure_returning here env x st)) d)
            (sym (ap (issued ds st mz) (args-and-result ds st s.w.returned args ∙ ap (λ n. with_result (result.Measured n) (args_of ds st args)) (sym fits.returned))))
            (return-issued ph (args_of ds st args) a)

        by-cause : (c : Option Cause) → wrong_args s.w.held args ≡ c → Meets (arguments st ts (map (valued ds) vs) (measure_returning here env x st)) (returning_on s x c args)
        by-cause (Some why) k =
            refused (tick_of v) why (wrong-arguments ds st s.w.held fits.held ts vs args (measure_returning here env x st) why e k) refl refl
        by-cause None k =
            subst (λ mv. Meets mv (returning_on s x None args)) (sym (arguments-are ds st s.w.held fits.held ts vs args (measure_returning here env x st) e k)) (by-phase (phase_after s true))

    returns-meet : (ts : List Ty) (vs : List Val) → Meets (arguments st ts (map (valued ds) vs) (measure_returning here env x st)) (returning_turn s x (typed_args ts vs))
    returns-meet ts vs = by-typed (typed_args ts vs) refl
      where
        by-measures : (args : List (Ty × Val)) → typed_args ts vs ≡ Some args → (b : Bool) → Agree b (args_of ds st args) → Meets (arguments st ts (map (valued ds) vs) (measure_returning here env x st)) (if b then Lost else returning_on s x (wrong_args s.w.held args) args)
        by-measures args e true a = tt
        by-measures args e false a = returns-on ts vs args e a

        by-typed : (o : Option (List (Ty × Val))) → typed_args ts vs ≡ o → Meets (arguments st ts (map (valued ds) vs) (measure_returning here env x st)) (returning_turn s x o)
        by-typed None e = tt
        by-typed (Some args) e = by-measures args e (measures args) (agrees ds st args)

    -- a bit of constants is known, and another is read
    abbrev Kept : run.Move → Did → Type 0
    Kept mv d = DidMeets s.m s.live (tick_of v mv) (move_to s.live (after (Dynamic s.fresh)) ∷ []) One ds d

    by-const : (o : Option Bool) (item : Item) (mv : run.Move) → ((b : Bool) → o ≡ Some b → mv ≡ gives here env x st (bit_value b) st) → Kept mv (did ds st item) → Meets mv (results.by_const s x o item)
    by-const (Some b) item mv h k = subst (λ z. Meets z (gives_known s x (bit_value b))) (sym (h b refl)) (gives-known s ds env us st fits counted x passes range (bit_value b))
    by-const None item mv h k = by-target (is_base s.t)
      where
        by-target : (z : Bool) → Meets mv (if z then Bad kind.Forbidden else gives_dynamic s x item)
        by-target true = tt
        by-target false = k

    const-reads : (a : Value) (b : Bool) (go : Bool → run.Move) → const_bit a ≡ Some b → reading st a go ≡ go b
    const-reads value.One b go h = let s : true ≡ b = cc in ap go s
    const-reads value.Zero b go h = let s : false ≡ b = cc in ap go s
    const-reads a b go h = cc

    gives-bit : (b : Bool) → Kept (gives here env x st (bit_value b) st) (Gave (bit_int b ∷ []) st)
    gives-bit b = gives-fresh s ds env us st fits counted x passes range (bit_int b)

    got-meets : (g : Got) (go : Bool → run.Move) (go' : Bool → Did) → ((b : Bool) → Kept (go b) (go' b)) → Kept (by_got st g go) (read_did ds st g go')
    got-meets (Bit b) go go' h = h b
    got-meets Unset go go' h = (st, refl, refl)
    got-meets NoResult go go' h = refl

    reads-meet : (a : Value) → Meets (reading st a (λ b. gives here env x st (bit_value b) st)) (reads s x (Known a))
    reads-meet a =
        let go : Bool → run.Move = λ b. gives here env x st (bit_value b) st in
        by-const (const_bit a) (Read s.fresh a) (reading st a go) (λ b e. const-reads a b go e)
        (subst (λ mv. Kept mv (did ds st (Read s.fresh a))) (sym (reading-is st a go)) (got-meets (bit_read st a) go (λ b. Gave (bit_int b ∷ []) st) gives-bit))

    -- whether two results are equal
    equals-meet : (a c : Value) → Meets (reading st a (λ p. reading st c (λ q. gives here env x st (bit_value (same_bit p q)) st))) (equals s x (Known a) (Known c))
    equals-meet a c =
        let go : Bool → Bool → run.Move = λ p q. gives here env x st (bit_value (same_bit p q)) st in
        by-const (both_bits (const_bit a) (const_bit c)) (Equal s.fresh a c) (reading st a (λ p. reading st c (go p))) (λ b e. both (const_bit a) refl (const_bit c) refl b e)
        (subst (λ mv. Kept mv (did ds st (Equal s.fresh a c))) (sym (reading-is st a (λ p. reading st c (go p))))
        (got-meets (bit_read st a) (λ p. reading st c (go p)) (λ p. read_did ds st (bit_read st c) (λ q. Gave (bit_int (same_bit p q) ∷ []) st)) (λ p.
        subst (λ mv. Kept mv (read_did ds st (bit_read st c) (λ q. Gave (bit_int (same_bit p q) ∷ []) st))) (sym (reading-is st c (go p))) (got-meets (bit_read st c) (go p) (λ q. Gave (bit_int (same_bit p q) ∷ []) st) (λ q. gives-bit (same_bit p q))))))
      where
        both : (o : Option Bool) → const_bit a ≡ o → (o' : Option Bool) → const_bit c ≡ o' → (b : Bool) → both_bits o o' ≡ Some b → reading st a (λ p. reading st c (λ q. gives here env x st (bit_value (same_bit p q)) st)) ≡ gives here env x st (bit_value b) st
        both None e o' e' b h = cc
        both (Some p) e None e' b h = cc
        both (Some p) e (Some q) e' b h =
            let s : same_bit p q ≡ b = cc in
            const-reads a p (λ p. reading st c (λ q. gives here env x st (bit_value (same_bit p q)) st)) e ∙ const-reads c q (λ q. gives here env x st (bit_value (same_bit p q)) st) e' ∙ ap (λ z. gives here env x st (bit_value z) st) s

    module _ (none : x ≡ None) (ph : Phase) where
      -- a record
      abbrev Recorded : run.Move → Did → Type 0
      Recorded mv d = OpMeets none [] ph mv d

      record-meets : (what : Shown) (a : Value) → Recorded (recorded here env x st a what) (recorded_did ds st a what)
      record-meets what (value.Label g) = on-to none [] ph (with_record st (record { shown = what; label = Some g })) refl refl refl
      record-meets what value.NoLabel = on-to none [] ph (with_record st (record { shown = what; label = None })) refl refl refl
      record-meets what a = refl

      got-records : (g : Got) (go : Bool → run.Move) (go' : Bool → Did) → ((b : Bool) → Recorded (go b) (go' b)) → Recorded (by_got st g go) (read_did ds st g go')
      got-records (Bit b) go go' h = h b
      got-records Unset go go' h = (st, refl, refl)
      got-records NoResult go go' h = refl

      output-meets : (name : List ℕ) (ts : List Ty) (c : Class) (us : List Value) → IsRecord c → Recorded (declared_call here env x st name ts c us) (output_did ds st c us)
      output-meets name ts class.Tuple (value.Int i ∷ l ∷ []) h = record-meets (shown.Tuple (signed i)) l
      output-meets name ts class.Array (value.Int i ∷ l ∷ []) h = record-meets (shown.Array (signed i)) l
      output-meets name ts class.ResRecord (a ∷ l ∷ []) h =
          subst (λ mv. Recorded mv (output_did ds st class.ResRecord (a ∷ l ∷ []))) (sym (reading-is st a (λ b. recorded here env x st l (shown.Res b))))
          (got-records (bit_read st a) (λ b. recorded here env x st l (shown.Res b)) (λ b. recorded_did ds st l (shown.Res b)) (λ b. record-meets (shown.Res b) l))
      output-meets name ts class.BoolRecord (value.Int i ∷ l ∷ []) h = record-meets (shown.Bool (is_one i)) l
      output-meets name ts class.IntRecord (value.Int i ∷ l ∷ []) h = record-meets (shown.Int (signed i)) l
      output-meets name ts class.DoubleRecord (value.Double d ∷ l ∷ []) h = record-meets (shown.Double d) l
      output-meets name ts class.Tuple vs h = refl
      output-meets name ts class.Array vs h = refl
      output-meets name ts class.ResRecord vs h = refl
      output-meets name ts class.BoolRecord vs h = refl
      output-meets name ts class.IntRecord vs h = refl
      output-meets name ts class.DoubleRecord vs h = refl
      output-meets name ts c vs h = absurd h

    typed-values : (ts : List Ty) (vs : List Val) (args : List (Ty × Val)) → typed_args ts vs ≡ Some args → map (λ a. valued ds a.1) args ≡ map (valued ds) vs
    typed-values [] [] args e = let s : [] ≡ args = cc in ap (map (λ a. valued ds a.1)) (sym s)
    typed-values [] (a ∷ vs) args e = cc
    typed-values (t' ∷ ts) [] args e = cc
    typed-values (t' ∷ ts) (a ∷ vs) args e = rest (typed_args ts vs) (λ as_ e'. typed-values ts vs as_ e') e
      where
        rest : (o : Option (List (Ty × Val))) → ((as_ : List (Ty × Val)) → o ≡ Some as_ → map (λ a. valued ds a.1) as_ ≡ map (valued ds) vs) → one_more_arg t' a o ≡ Some args → map (λ a. valued ds a.1) args ≡ valued ds a ∷ map (valued ds) vs
        rest None ih e = cc
        rest (Some as_) ih e = let s : ((t', a) ∷ as_) ≡ args = cc in ap (map (λ a. valued ds a.1)) (sym s) ∙ ap (λ l. valued ds a ∷ l) (ih as_ refl)

    outputs-meet : x ≡ None → (name : List ℕ) (c : Class) (ts : List Ty) (vs : List Val) → IsRecord c → Meets (declared_call here env x st name ts c (map (valued ds) vs)) (outputs s c (typed_args ts vs))
    outputs-meet none name c ts vs h = by-typed (typed_args ts vs) refl
      where
        by-typed : (o : Option (List (Ty × Val))) → typed_args ts vs ≡ o → Meets (declared_call here env x st name ts c (map (valued ds) vs)) (outputs s c o)
        by-typed None e = tt
        by-typed (Some args) e =
            subst (λ ws. OpMeets none [] after-phase (declared_call here env x st name ts c (map (valued ds) vs)) (output_did ds st c ws)) (sym (typed-values ts vs args e))
            (output-meets none after-phase name ts c (map (valued ds) vs) h)
          where
            after-phase : Phase
            after-phase = if is_base s.t then phase.Output else s.w.phase

    choose : (b : Bool) (mv : run.Move) (u u' : Turn) → Meets mv u → Meets mv u' → Meets mv (if b then u else u')
    choose true mv u u' h k = h
    choose false mv u u' h k = k

    abbrev call-of : List ℕ → Class → List Ty → List Val → run.Move
    call-of name c ts vs = declared_call here env x st name ts c (map (valued ds) vs)

    module _ (none : x ≡ None) (name : List ℕ) where
      outputs-of : (c : Class) (ts : List Ty) (vs : List Val) → IsRecord c → Meets (call-of name c ts vs) (outputs s c (typed_args ts vs))
      outputs-of c ts vs h = outputs-meet none name c ts vs h

      counts-meet : (c : Class) (ts : List Ty) (vs : List Val) → IsRecord c → Meets (call-of name c ts vs) (count_output s c ts vs)
      counts-meet c ts (Dynamic d ∷ vs) h = tt
      counts-meet c ts vs h = outputs-of c ts vs h

      results-meet : (ts : List Ty) (vs : List Val) → Meets (call-of name class.ResRecord ts vs) (result_output s ts vs)
      results-meet ts (Known value.One ∷ vs) = tt
      results-meet ts (Known value.Zero ∷ vs) = tt
      results-meet ts vs = outputs-of class.ResRecord ts vs tt

      values-meet : (c : Class) (ts : List Ty) (vs : List Val) → IsRecord c → Meets (call-of name c ts vs) (value_output s c ts vs)
      values-meet c ts vs h = choose (is_base s.t) (call-of name c ts vs) (Bad kind.Forbidden) (outputs s c (typed_args ts vs)) tt (outputs-of c ts vs h)

      ints-meet : (ts : List Ty) (vs : List Val) → Meets (call-of name class.IntRecord ts vs) (int_output s ts vs)
      ints-meet ts vs =
          let mv : run.Move = call-of name class.IntRecord ts vs in
          let u : Turn = outputs s class.IntRecord (typed_args ts vs) in
          choose (is_base s.t) mv (Bad kind.Forbidden) (if has_ints s.t then u else Bad kind.Capability) tt
          (choose (has_ints s.t) mv u (Bad kind.Capability) (outputs-of class.IntRecord ts vs tt) tt)

      release-meets : (ts : List Ty) (vs : List Val) → Meets (call-of name class.Release ts vs) (results.release_turn s vs)
      release-meets ts (a ∷ []) = by-val a
        where
          by-val : (a : Val) → Meets (releases here env x st (valued ds a)) (results.releases s a)
          by-val (Known p) = releases-meets none p
          by-val (Dynamic d) = tt
      release-meets ts vs = tt

      -- a call that gives nothing
      silent-call : (f : Function) (c : Class) (ts : List Ty) (vs : List Val) → GivesNothing c → Meets (call-of name c ts vs) (silent_turn s f name c ts vs)
      silent-call f class.Init ts vs h = passed-meets none
      silent-call f class.Count ts vs h = passed-meets none
      silent-call f class.Release ts vs h = release-meets ts vs
      silent-call f class.Gate ts vs h = gates-meet none name (is_irreversible f class.Gate) ts vs
      silent-call f class.Measure ts vs h = measures-meet none name true ts vs
      silent-call f class.Tuple ts vs h = counts-meet class.Tuple ts vs tt
      silent-call f class.Array ts vs h = counts-meet class.Array ts vs tt
      silent-call f class.ResRecord ts vs h = results-meet ts vs
      silent-call f class.BoolRecord ts vs h = values-meet class.BoolRecord ts vs tt
      silent-call f class.IntRecord ts vs h = ints-meet ts vs
      silent-call f class.DoubleRecord ts vs h = values-meet class.DoubleRecord ts vs tt
      silent-call f c ts vs h = absurd h

    read-meets : (name : List ℕ) (ts : List Ty) (vs : List Val) → Meets (call-of name class.Read ts vs) (results.read_turn s x vs)
    read-meets name ts (a ∷ []) = by-val a
      where
        by-val : (a : Val) → Meets (reading st (valued ds a) (λ b. gives here env x st (bit_value b) st)) (reads s x a)
        by-val (Known p) = reads-meet p
        by-val (Dynamic d) = tt
    read-meets name ts vs = tt

    equal-meets : (name : List ℕ) (ts : List Ty) (vs : List Val) → Meets (call-of name class.Equal ts vs) (results.equal_turn s x vs)
    equal-meets name ts (a ∷ c ∷ []) = by-vals a c
      where
        by-vals : (a c : Val) → Meets (reading st (valued ds a) (λ p. reading st (valued ds c) (λ q. gives here env x st (bit_value (same_bit p q)) st))) (equals s x a c)
        by-vals (Known p) (Known q) = equals-meet p q
        by-vals (Known p) (Dynamic d) = tt
        by-vals (Dynamic d) a = tt
    equal-meets name ts vs = tt

    by-silence : (f : Function) (name : List ℕ) (c : Class) (ts : List Ty) (vs : List Val) → GivesNothing c → Meets (call-of name c ts vs) (silent x (silent_turn s f name c ts vs))
    by-silence f name c ts vs h = silent-meets x (tick_of v (call-of name c ts vs)) (silent_turn s f name c ts vs) (λ n. silent-call n name f c ts vs h)

    -- a call of a declared function
    pub class-meets : (f : Function) (name : List ℕ) (c : Class) (ts : List Ty) (vs : List Val) → Meets (call-of name c ts vs) (class_turn s x f name c ts vs)
    class-meets f name class.Alloc ts vs = alloc-meets
    class-meets f name class.One ts vs = gives-known s ds env us st fits counted x passes range value.One
    class-meets f name class.Zero ts vs = gives-known s ds env us st fits counted x passes range value.Zero
    class-meets f name class.Read ts vs = read-meets name ts vs
    class-meets f name class.Equal ts vs = equal-meets name ts vs
    class-meets f name class.Returning ts vs = returns-meet ts vs
    class-meets f name class.Init ts vs = by-silence f name class.Init ts vs tt
    class-meets f name class.Count ts vs = by-silence f name class.Count ts vs tt
    class-meets f name class.Release ts vs = by-silence f name class.Release ts vs tt
    class-meets f name class.Gate ts vs = by-silence f name class.Gate ts vs tt
    class-meets f name class.Measure ts vs = by-silence f name class.Measure ts vs tt
    class-meets f name class.Tuple ts vs = by-silence f name class.Tuple ts vs tt
    class-meets f name class.Array ts vs = by-silence f name class.Array ts vs tt
    class-meets f name class.ResRecord ts vs = by-silence f name class.ResRecord ts vs tt
    class-meets f name class.BoolRecord ts vs = by-silence f name class.BoolRecord ts vs tt
    class-meets f name class.IntRecord ts vs = by-silence f name class.IntRecord ts vs tt
    class-meets f name class.DoubleRecord ts vs = by-silence f name class.DoubleRecord ts vs tt
