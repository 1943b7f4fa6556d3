-- What answered and refused operations do.
use Rattle.std.proofs.Common.{◌≡◌, ◌∙◌, ℕ, ◌+◌, Bool, List, [], ◌∷◌, ◌++◌, refl, sym, ap, subst, append-nil, cond}
use Rattle.std.specs.Prelude.{Option, None, Some, ⊤, count_by, codes}
use Rattle.backend_api.specs.declared.operation.Answer.{Answer}
use Rattle.backend_api.specs.declared.operation.Answer.TheVariants as answer
use Rattle.backend_api.specs.declared.operation.Arg.{Arg}
use Rattle.backend_api.specs.declared.operation.Arg.TheVariants as arg
use Rattle.backend_api.specs.declared.operation.Event.{Event}
use Rattle.backend_api.specs.declared.operation.Op.{Op}
use Rattle.backend_api.specs.declared.operation.ResultRef.{ResultRef}
use Rattle.backend_api.specs.declared.operation.ResultRef.TheVariants as result
use Rattle.backend_api.specs.declared.backend.Turned.{Turned}
use Rattle.backend_api.specs.Backend.{Answered, BackendState, Keeps, Refused}
use Rattle.backend_api.specs.Operations.{is_result, same_result}
use Rattle.ir_values.specs.declared.ids.LocalId.{LocalId}
use Rattle.ir_values.specs.declared.value.Value.TheVariants as value
use Rattle.ir_values.specs.Calls.{qis}
use Rattle.machine_frames.specs.declared.flow.Flow.{Flow}
use Rattle.machine_frames.specs.declared.flow.Flow.TheVariants as flow
use Rattle.machine_frames.specs.declared.frames.Frames.{Frames}
use Rattle.machine_frames.specs.Frames.{given, gone_on, meant}
use Rattle.machine_tables.specs.code.Reads.{Sets, Shows, Table, bit_at}
use Rattle.machine_tables.proofs.Behind.{first-behind}
use Rattle.qir_machine.specs.declared.machine.Machine.{Machine}
use Rattle.qir_machine.specs.Heard.{answers_of, Heard}
use Rattle.qir_machine.specs.code.Machines.{Asked, asked, bits_after, Does, DoesMove, EndsAsking, Knows, SameBut, state, whole_of, writes, written}
use Rattle.qir_machine.proofs.Hearing.{caused-by, heard-one, heard-refused}
use Rattle.qir_meaning.specs.declared.end.End.TheVariants as end
use Rattle.qir_meaning.specs.Effects.{first_result, gate, gives, measure, measure_into, measure_returning, operation}
use Rattle.qir_meaning.specs.State.{Env, State, Move, Ask, Halt, bind, bit_in, next}
use Rattle.qir_meaning.specs.code.Steps.{Ended as Over, Tick, On, Off, tick_of}

-- ---- the bits after one event more

bits-behind : (bits : List (ResultRef × Bool)) (es : List Event) (e : Event) → bits_after bits (es ++ e ∷ []) ≡ written e ++ bits_after bits es
bits-behind bits [] e = refl
bits-behind bits (d ∷ es) e = bits-behind (written d ++ bits) es e

writes-none : (o : Option ResultRef) → writes o answer.Done ≡ []
writes-none None = refl
writes-none (Some r) = refl

bits-gate : (op : Op) (es : List Event) → bits_after [] (es ++ (record { op = op; answer = answer.Done }) ∷ []) ≡ bits_after [] es
bits-gate op es = bits-behind [] es _ ∙ ap (λ l. l ++ bits_after [] es) (writes-none (first_result op.args))

bits-measure : (op : Op) (r : ResultRef) (b : Bool) (es : List Event) → first_result op.args ≡ Some r → bits_after [] (es ++ (record { op = op; answer = answer.Bit b }) ∷ []) ≡ (r, b) ∷ bits_after [] es
bits-measure op r b es e = bits-behind [] es _ ∙ ap (λ o. writes o (answer.Bit b) ++ bits_after [] es) e

-- ---- gates

module _ (s : Machine) (x : Option LocalId) (op : Op) (old now : BackendState) where
  abbrev asks_gate : State → Move
  asks_gate st = gate s.frames.at s.frames.env x st op st.answers

  pub gate-does : Answered op answer.Done old now → Keeps old now → Does s (record s { frames = gone_on s.frames }) flow.Goes old now asks_gate
  gate-does h k = record {
    new = (record { op = op; answer = answer.Done }) ∷ [];
    heard = heard-one op answer.Done old now h k;
    caused = tt;
    does = λ a es knows. (
      λ r. knows r ∙ ap (λ bits. bit_in bits r) (sym (bits-gate op es)),
      ap (λ bits. On (record {
        at = (gone_on s.frames).at;
        env = s.frames.env;
        waits = (whole_of s a es).waits;
        state = record {
          answers = a;
          bits = bits;
          allocated = s.allocations.count;
          held = s.allocations.held;
          measured = s.measured;
          events = es ++ (record { op = op; answer = answer.Done }) ∷ [];
          records = s.records;
        };
      })) (sym (bits-gate op es)),
    );
  }

-- ---- refusals

-- a run that asks where no answer is left
pub refused-does : (s now : Machine) (op : Op) (turned : Turned) (fl : Flow) (old after : BackendState) (move : State → Move) → SameBut s now → ((es : List Event) → move (state s [] es) ≡ Halt (Ask op) (state s [] es)) → Refused op turned old after → Keeps old after → EndsAsking turned fl → Does s now fl old after move
refused-does s now op turned fl old after move same e r k asks =
    subst (λ f. Does s now f old after move) (sym asks.1) (record {
      new = [];
      heard = heard-refused op turned old after r k;
      caused = caused-by op turned old after asks.0 r;
      does = λ es knows.
          ap (tick_of (whole_of s [] es)) (e es)
          ∙ ap (λ o. Off (Over (meant (end.Asks o (asked turned.why))) (state s [] es))) (sym r.back)
          ∙ ap (λ n. Off (Over (meant (end.Asks turned.op (asked turned.why))) (state n [] es))) (sym same)
          ∙ ap (λ l. Off (Over (meant (end.Asks turned.op (asked turned.why))) (state now [] l))) (sym (append-nil es));
    })

pub gate-refused : (s : Machine) (x : Option LocalId) (op : Op) (turned : Turned) (fl : Flow) (old now : BackendState) → Refused op turned old now → Keeps old now → EndsAsking turned fl → Does s s fl old now (λ st. gate s.frames.at s.frames.env x st op st.answers)
gate-refused s x op turned fl old now r k asks = refused-does s s op turned fl old now _ refl (λ es. refl) r k asks

-- ---- measurements

module _ (s : Machine) (t : Table) (op : Op) (r : ResultRef) (is : first_result op.args ≡ Some r) (old after : BackendState) (b : Bool) (h : Answered op (answer.Bit b) old after) (k : Keeps old after) (sets : Sets r b s.results t) where
  abbrev event : Event
  event = record { op = op; answer = answer.Bit b }

  -- the bits of the run and of the table are the same after it
  knows-bit : (es : List Event) → Knows s es → Shows t (bits_after [] (es ++ event ∷ []))
  knows-bit es knows q =
      sets q ∙ ap (cond (same_result r q) (Some b)) (knows q) ∙ ap (λ bits. bit_in bits q) (sym (bits-measure op r b es is))

  abbrev after_bit : ℕ → List Answer → List Event → List (ResultRef × Bool) → State
  after_bit n a es bits = record {
    answers = a;
    bits = bits;
    allocated = s.allocations.count;
    held = s.allocations.held;
    measured = n;
    events = es ++ event ∷ [];
    records = s.records;
  }

  abbrev into : Option LocalId → State → Move
  into x st = measure_into s.frames.at s.frames.env x st op.name op.args (first_result op.args)

  -- into a result
  into-table : (x : Option LocalId) → Does s (record s { results = t; frames = gone_on s.frames }) flow.Goes old after (into x)
  into-table x = record {
    new = event ∷ [];
    heard = heard-one op (answer.Bit b) old after h k;
    caused = tt;
    does = λ a es knows. (
      knows-bit es knows,
      ap (λ o. tick_of (whole_of s (answer.Bit b ∷ a) es) (measure_into s.frames.at s.frames.env x (state s (answer.Bit b ∷ a) es) op.name op.args o)) is
          ∙ ap (λ bits. On (record { at = next s.frames.at; env = s.frames.env; waits = (whole_of s a es).waits; state = after_bit s.measured a es bits })) (sym (bits-measure op r b es is)),
    );
  }

  abbrev returned : Option LocalId → State → State → Move
  returned x st st' = gives s.frames.at s.frames.env x st (value.Measured st.measured) (record st' { measured = st.measured + 1 })

  -- the next result that is returned
  returning-table : (x : Option LocalId) (args : List Arg) → op ≡ operation (qis (codes "mz__body")) (args ++ arg.Res (result.Measured s.measured) ∷ []) → r ≡ result.Measured s.measured → Does s (record s { results = t; measured = s.measured + 1; frames = given s.frames x (value.Measured s.measured) }) flow.Goes old after (λ st. measure_returning s.frames.at s.frames.env x st args)
  returning-table x args eo er = record {
    new = event ∷ [];
    heard = heard-one op (answer.Bit b) old after h k;
    caused = tt;
    does = λ a es knows. (
      knows-bit es knows,
      ap (λ o. tick_of (whole_of s (answer.Bit b ∷ a) es) (measure s.frames.at s.frames.env x (state s (answer.Bit b ∷ a) es) o (result.Measured s.measured) (answer.Bit b ∷ a) (returned x (state s (answer.Bit b ∷ a) es)))) (sym eo)
          ∙ ap (λ q. tick_of (whole_of s (answer.Bit b ∷ a) es) (measure s.frames.at s.frames.env x (state s (answer.Bit b ∷ a) es) op q (answer.Bit b ∷ a) (returned x (state s (answer.Bit b ∷ a) es)))) (sym er)
          ∙ ap (λ bits. On (record { at = next s.frames.at; env = bind s.frames.env x (value.Measured s.measured); waits = (whole_of s a es).waits; state = after_bit (s.measured + 1) a es bits })) (sym (bits-measure op r b es is)),
    );
  }

pub into-does : (s now : Machine) (x : Option LocalId) (op : Op) (r : ResultRef) → first_result op.args ≡ Some r → (old after : BackendState) (b : Bool) → Answered op (answer.Bit b) old after → Keeps old after → Sets r b s.results now.results → SameBut s now → Does s (record now { frames = gone_on now.frames }) flow.Goes old after (λ st. measure_into s.frames.at s.frames.env x st op.name op.args (first_result op.args))
into-does s now x op r is old after b h k sets same =
    subst (λ n. Does s (record n { frames = gone_on n.frames }) flow.Goes old after (λ st. measure_into s.frames.at s.frames.env x st op.name op.args (first_result op.args))) (sym same) (into-table s now.results op r is old after b h k sets x)

pub returning-does : (s now : Machine) (x : Option LocalId) (op : Op) (args : List Arg) → op ≡ operation (qis (codes "mz__body")) (args ++ arg.Res (result.Measured s.measured) ∷ []) → count_by is_result args ≡ 0 → (old after : BackendState) (b : Bool) → Answered op (answer.Bit b) old after → Keeps old after → Sets (result.Measured s.measured) b s.results now.results → SameBut s now → Does s (record now { measured = s.measured + 1; frames = given now.frames x (value.Measured s.measured) }) flow.Goes old after (λ st. measure_returning s.frames.at s.frames.env x st args)
returning-does s now x op args eo none old after b h k sets same =
    let is : first_result op.args ≡ Some (result.Measured s.measured) = ap (λ (o : Op). first_result o.args) eo ∙ first-behind args (result.Measured s.measured) none in
    subst (λ n. Does s (record n { measured = s.measured + 1; frames = given n.frames x (value.Measured s.measured) }) flow.Goes old after (λ st. measure_returning s.frames.at s.frames.env x st args)) (sym same)
    (returning-table s now.results op (result.Measured s.measured) is old after b h k sets x args eo refl)

pub into-refused : (s now : Machine) (x : Option LocalId) (op : Op) (r : ResultRef) → first_result op.args ≡ Some r → (turned : Turned) (fl : Flow) (old after : BackendState) → SameBut s now → Refused op turned old after → Keeps old after → EndsAsking turned fl → Does s now fl old after (λ st. measure_into s.frames.at s.frames.env x st op.name op.args (first_result op.args))
into-refused s now x op r is turned fl old after same t k asks =
    refused-does s now op turned fl old after _ same (λ es. ap (measure_into s.frames.at s.frames.env x (state s [] es) op.name op.args) is) t k asks

pub returning-refused : (s now : Machine) (x : Option LocalId) (op : Op) (args : List Arg) → op ≡ operation (qis (codes "mz__body")) (args ++ arg.Res (result.Measured s.measured) ∷ []) → (turned : Turned) (fl : Flow) (old after : BackendState) → SameBut s now → Refused op turned old after → Keeps old after → EndsAsking turned fl → Does s now fl old after (λ st. measure_returning s.frames.at s.frames.env x st args)
returning-refused s now x op args eo turned fl old after same t k asks =
    refused-does s now op turned fl old after _ same (λ es. ap (λ o. Halt (Ask o) (state s [] es)) (sym eo)) t k asks
