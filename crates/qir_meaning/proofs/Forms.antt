-- A run by cases and a run by steps of a stack of frames are one.
use Rattle.std.proofs.Common.{◌≡◌, ℕ, zero, suc, ◌≤◌, Option, None, Some, List, [], ◌∷◌, refl, sym, ap, ◌∙◌, subst, arith}
use Rattle.std.specs.Prelude.{◌↔◌}
use Rattle.backend_api.specs.declared.operation.Answer.{Answer}
use Rattle.backend_api.specs.declared.operation.Event.{Event}
use Rattle.ir_module.specs.declared.places.Point.{Point}
use Rattle.ir_module.specs.declared.tree.Module.{Module}
use Rattle.ir_values.specs.declared.ids.LocalId.{LocalId}
use Rattle.ir_values.specs.declared.value.Value.{Value}
use Rattle.ir_values.specs.declared.value.Value.TheVariants as value
use Rattle.output_records.specs.declared.record.Record.{Record}
use Rattle.ir_module.specs.Entry.{Entry, entry_of}
use Rattle.qir_meaning.specs.Moves.{move, first_point}
use Rattle.qir_meaning.specs.Runs.{RunEnd, Cut, end_of, Result, Gave, Over, bind_result, Body, cut, halts, back, next_point, calls, ends_in, Ends, start, Runs}
use Rattle.qir_meaning.specs.State.{Env, State, Move, Next, Enter, Back, Halt, Stuck, next, frame}
use Rattle.qir_meaning.specs.code.Steps.{Waiting, Whole, Outcome, Ended, Jam, returned, gives_back, tick_of, tick, goes, run, whole_start, run_by_steps, Finished}

-- A third form, by fuel: k bounds how deep the calls of the definition go, and k = n is enough, since each takes a step.
data Found : Type 0 where
  Got : Result → Found
  Lost : Found

abbrev follow : (Point → Env → ℕ → State → Found) → Point → Env → Option LocalId → Found → Found
follow go p env x (Got (Gave v n st)) = go p (bind_result env x v) n st
follow go p env x (Got (Over e st)) = Got (Over e st)
follow go p env x Lost = Lost

abbrev acts : (Point → Env → ℕ → State → Found) → Point → Env → ℕ → State → Move → Found
acts go p env n st (Next p' env' st') = go p' env' n st'
acts go p env n st (Enter q env' x st') = follow go (next p) env x (go q env' n st')
acts go p env n st (Back v) = Got (Gave v n st)
acts go p env n st (Halt stop st') = Got (Over (end_of stop) st')
acts go p env n st Stuck = Lost

body_by : ℕ → Module → Point → Env → ℕ → State → Found
body_by k m p env zero st = Got (Over Cut st)
body_by zero m p env (suc n) st = Lost
body_by (suc k) m p env (suc n) st = acts (body_by k m) p env n st (move m p env st)

abbrev whole : Point → Env → List Waiting → State → Whole
whole p env ws st = record { at = p; env = env; waits = ws; state = st }

-- what a stack of frames makes of a body's result
abbrev met : Module → List Waiting → Found → Outcome
met m ws (Got (Gave v n st)) = goes (run m n) (gives_back ws v st)
met m ws (Got (Over e st)) = Ended e st
met m ws Lost = Jam

-- the steps left don't rise
abbrev Within : ℕ → Found → Type 0
Within n (Got (Gave v n' st)) = n' ≤ n
Within n (Got (Over e st)) = Unit {0}
Within n Lost = Unit {0}

weaken : (f : Found) (a b : ℕ) → a ≤ b → Within a f → Within b f
weaken (Got (Gave v n' st)) a b le h = omega arith
weaken (Got (Over e st)) a b le h = tt
weaken Lost a b le h = tt

module _ (go : Point → Env → ℕ → State → Found) (ih : (p : Point) (env : Env) (n : ℕ) (st : State) → Within n (go p env n st)) where
  follow-within : (p : Point) (env : Env) (x : Option LocalId) (n : ℕ) (f : Found) → Within n f → Within (suc n) (follow go p env x f)
  follow-within p env x n (Got (Gave v n' st)) h = weaken (go p (bind_result env x v) n' st) n' (suc n) (omega arith) (ih p (bind_result env x v) n' st)
  follow-within p env x n (Got (Over e st)) h = tt
  follow-within p env x n Lost h = tt

  acts-within : (p : Point) (env : Env) (n : ℕ) (st : State) (mv : Move) → Within (suc n) (acts go p env n st mv)
  acts-within p env n st (Next p' env' st') = weaken (go p' env' n st') n (suc n) (omega arith) (ih p' env' n st')
  acts-within p env n st (Enter q env' x st') = follow-within (next p) env x n (go q env' n st') (ih q env' n st')
  acts-within p env n st (Back v) = omega arith
  acts-within p env n st (Halt stop st') = tt
  acts-within p env n st Stuck = tt

within : (m : Module) (k : ℕ) (p : Point) (env : Env) (n : ℕ) (st : State) → Within n (body_by k m p env n st)
unfolding body_by
within m zero p env zero st = tt
within m zero p env (suc n) st = tt
within m (suc k) p env zero st = tt
within m (suc k) p env (suc n) st = acts-within (body_by k m) (within m k) p env n st (move m p env st)

module _ (m : Module) (k : ℕ) (ih : (n : ℕ) → n ≤ k → (p : Point) (env : Env) (ws : List Waiting) (st : State) → run m n (whole p env ws st) ≡ met m ws (body_by k m p env n st)) where
  -- after a call
  follow-same : (p : Point) (env : Env) (x : Option LocalId) (n : ℕ) (ws : List Waiting) → n ≤ k → (f : Found) → Within n f → met m ((record { at = p; env = env; result = x }) ∷ ws) f ≡ met m ws (follow (body_by k m) p env x f)
  follow-same p env x n ws le (Got (Gave v n' st)) h = ih n' (omega arith) p (bind_result env x v) ws st
  follow-same p env x n ws le (Got (Over e st)) h = refl
  follow-same p env x n ws le Lost h = refl

  acts-same : (n : ℕ) → n ≤ k → (p : Point) (env : Env) (ws : List Waiting) (st : State) (mv : Move) → goes (run m n) (tick_of (whole p env ws st) mv) ≡ met m ws (acts (body_by k m) p env n st mv)
  acts-same n le p env ws st (Next p' env' st') = ih n le p' env' ws st'
  acts-same n le p env ws st (Enter q env' x st') = ih n le q env' _ st' ∙ follow-same (next p) env x n ws le (body_by k m q env' n st') (within m k q env' n st')
  acts-same n le p env ws st (Back v) = refl
  acts-same n le p env ws st (Halt stop st') = refl
  acts-same n le p env ws st Stuck = refl

-- with fuel for each step, the form by fuel is the form by steps
same-by : (m : Module) (k n : ℕ) → n ≤ k → (p : Point) (env : Env) (ws : List Waiting) (st : State) → run m n (whole p env ws st) ≡ met m ws (body_by k m p env n st)
unfolding body_by run tick
same-by m zero zero le p env ws st = refl
same-by m zero (suc n) le p env ws st = absurd (omega arith)
same-by m (suc k) zero le p env ws st = refl
same-by m (suc k) (suc n) le p env ws st = acts-same m k (same-by m k) n (omega arith) p env ws st (move m p env st)

one : (m : Module) (n : ℕ) (p : Point) (env : Env) (ws : List Waiting) (st : State) (mv : Move) → move m p env st ≡ mv → run m (suc n) (whole p env ws st) ≡ goes (run m n) (tick_of (whole p env ws st) mv)
unfolding run tick
one m n p env ws st mv e = ap (λ x. goes (run m n) (tick_of (whole p env ws st) x)) e

none : (m : Module) (p : Point) (env : Env) (ws : List Waiting) (st : State) → run m zero (whole p env ws st) ≡ Ended Cut st
unfolding run
none m p env ws st = refl

-- a derivation says what the steps do
sound : {m : Module} {p : Point} {env : Env} {n : ℕ} {st : State} {r : Result} → Body m p env n st r → (ws : List Waiting) → run m n (whole p env ws st) ≡ met m ws (Got r)
sound {m} {p} {env} {n} {st} cut ws = none m p env ws st
sound {m} {p} {env} {n} {st} (halts {n = j} e) ws = one m j p env ws st _ e
sound {m} {p} {env} {n} {st} (back {n = j} e) ws = one m j p env ws st _ e
sound {m} {p} {env} {n} {st} (next_point {n = j} e b) ws = one m j p env ws st _ e ∙ sound b ws
sound {m} {p} {env} {n} {st} (calls {n = j} {x = x} e b c) ws = one m j p env ws st _ e ∙ sound b ((record { at = next p; env = env; result = x }) ∷ ws) ∙ sound c ws
sound {m} {p} {env} {n} {st} (ends_in {n = j} {x = x} e b) ws = one m j p env ws st _ e ∙ sound b ((record { at = next p; env = env; result = x }) ∷ ws)

abbrev Built : Module → Point → Env → ℕ → State → Found → Type 0
Built m p env n st (Got r) = Body m p env n st r
Built m p env n st Lost = Unit {0}

-- and the form by fuel finds a derivation
module _ (m : Module) (k : ℕ) (ih : (n : ℕ) (p : Point) (env : Env) (st : State) → Built m p env n st (body_by k m p env n st)) where
  goes-on : (p : Point) (env : Env) (n : ℕ) (st : State) (p' : Point) (env' : Env) (st' : State) → move m p env st ≡ Next p' env' st' → (f : Found) → Built m p' env' n st' f → Built m p env (suc n) st f
  goes-on p env n st p' env' st' e (Got r) b = next_point e b
  goes-on p env n st p' env' st' e Lost b = tt

  returns : (p : Point) (env : Env) (n : ℕ) (st : State) (q : Point) (env' : Env) (x : Option LocalId) (st' : State) (v : Option Value) (n' : ℕ) (st'' : State) → move m p env st ≡ Enter q env' x st' → Body m q env' n st' (Gave v n' st'') → (f : Found) → Built m (next p) (bind_result env x v) n' st'' f → Built m p env (suc n) st f
  returns p env n st q env' x st' v n' st'' e b (Got r) c = calls e b c
  returns p env n st q env' x st' v n' st'' e b Lost c = tt

  called : (p : Point) (env : Env) (n : ℕ) (st : State) (q : Point) (env' : Env) (x : Option LocalId) (st' : State) → move m p env st ≡ Enter q env' x st' → (f : Found) → Built m q env' n st' f → Built m p env (suc n) st (follow (body_by k m) (next p) env x f)
  called p env n st q env' x st' e (Got (Gave v n' st'')) b =
      returns p env n st q env' x st' v n' st'' e b (body_by k m (next p) (bind_result env x v) n' st'') (ih n' (next p) (bind_result env x v) st'')
  called p env n st q env' x st' e (Got (Over o st'')) b = ends_in e b
  called p env n st q env' x st' e Lost b = tt

  acted : (p : Point) (env : Env) (n : ℕ) (st : State) (mv : Move) → move m p env st ≡ mv → Built m p env (suc n) st (acts (body_by k m) p env n st mv)
  acted p env n st (Next p' env' st') e = goes-on p env n st p' env' st' e (body_by k m p' env' n st') (ih n p' env' st')
  acted p env n st (Enter q env' x st') e = called p env n st q env' x st' e (body_by k m q env' n st') (ih n q env' st')
  acted p env n st (Back v) e = back e
  acted p env n st (Halt stop st') e = halts e
  acted p env n st Stuck e = tt

built : (m : Module) (k n : ℕ) (p : Point) (env : Env) (st : State) → Built m p env n st (body_by k m p env n st)
unfolding body_by
built m zero zero p env st = cut
built m zero (suc n) p env st = tt
built m (suc k) zero p env st = cut
built m (suc k) (suc n) p env st = acted m k (built m k) p env n st (move m p env st) refl

-- the end of the entry's body is that of the run
ends-returned : (v : Option Value) (n : ℕ) (st : State) (e : RunEnd) (es : List Event) (rs : List Record) → Ends (Gave v n st) e es rs → Finished (returned v st) e es rs
ends-returned None n st e es rs h = h
ends-returned (Some (value.Int i)) n st e es rs h = h
ends-returned (Some v) n st e es rs h = absurd h.0

returned-ends : (v : Option Value) (n : ℕ) (st : State) (e : RunEnd) (es : List Event) (rs : List Record) → Finished (returned v st) e es rs → Ends (Gave v n st) e es rs
returned-ends None n st e es rs h = h
returned-ends (Some (value.Int i)) n st e es rs h = h
returned-ends (Some v) n st e es rs h = absurd h

ends-finished : (m : Module) (r : Result) (e : RunEnd) (es : List Event) (rs : List Record) → Ends r e es rs → Finished (met m [] (Got r)) e es rs
ends-finished m (Gave v n st) e es rs h = ends-returned v n st e es rs h
ends-finished m (Over e' st) e es rs h = h

finished-ends : (m : Module) (r : Result) (e : RunEnd) (es : List Event) (rs : List Record) → Finished (met m [] (Got r)) e es rs → Ends r e es rs
finished-ends m (Gave v n st) e es rs h = returned-ends v n st e es rs h
finished-ends m (Over e' st) e es rs h = h

-- the run of an entry
abbrev pub run_of : Module → ℕ → List Answer → Entry → Outcome
run_of m n a e = run m n (whole_start e a)

abbrev pub run_of_entry : Module → ℕ → List Answer → Option Entry → Outcome
run_of_entry m n a None = Jam
run_of_entry m n a (Some e) = run_of m n a e

pub run-by-steps-is : (m : Module) (n : ℕ) (a : List Answer) (o : Option Entry) → entry_of m ≡ o → run_by_steps m a n ≡ run_of_entry m n a o
run-by-steps-is m n a o h = ap (run_of_entry m n a) h

pub runs-steps : (m : Module) (a : List Answer) (n : ℕ) (es : List Event) (rs : List Record) (e : RunEnd) → Runs m a n es rs e → Finished (run_by_steps m a n) e es rs
runs-steps m a n es rs e r = subst (λ o. Finished o e es rs) (sym (run-by-steps-is m n a (Some r.entry) r.is_entry ∙ sound r.body [])) (ends-finished m r.result e es rs r.ends)

pub steps-runs : (m : Module) (a : List Answer) (n : ℕ) (es : List Event) (rs : List Record) (e : RunEnd) → Finished (run_by_steps m a n) e es rs → Runs m a n es rs e
steps-runs m a n es rs e h = by-entry (entry_of m) refl
  where
    by-found : (i : Entry) → entry_of m ≡ Some i → (f : Found) → Built m (first_point (record { 0 = i.number })) (frame i.function []) n (start a) f → Finished (met m [] f) e es rs → Runs m a n es rs e
    by-found i hi (Got r) b k = record { entry = i; is_entry = hi; result = r; body = b; ends = finished-ends m r e es rs k }
    by-found i hi Lost b k = absurd k

    by-entry : (o : Option Entry) → entry_of m ≡ o → Runs m a n es rs e
    by-entry None hi = absurd (subst (λ o. Finished o e es rs) (run-by-steps-is m n a None hi) h)
    by-entry (Some i) hi =
        let p = first_point (record { 0 = i.number }) in
        let env = frame i.function [] in
        let s = run-by-steps-is m n a (Some i) hi ∙ same-by m n n (omega arith) p env [] (start a) in
        by-found i hi (body_by n m p env n (start a)) (built m n n p env (start a)) (subst (λ o. Finished o e es rs) s h)

pub runs-are-steps : (m : Module) (a : List Answer) (n : ℕ) (es : List Event) (rs : List Record) (e : RunEnd) → Runs m a n es rs e ↔ Finished (run_by_steps m a n) e es rs
runs-are-steps m a n es rs e = (runs-steps m a n es rs e, steps-runs m a n es rs e)
