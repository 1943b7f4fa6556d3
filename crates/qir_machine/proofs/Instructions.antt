-- From what one instruction did to what the machine did.
use Rattle.std.proofs.Common.{◌≡◌, ◌∙◌, ℕ, ◌+◌, ◌<◌, ◌==◌, Bool, true, false, List, [], ◌∷◌, ◌++◌, length, get_or, map, refl, sym, ap, subst, append-nil, arith}
use Rattle.std.specs.Cmp.{unsigned_Decides}
use Rattle.std.specs.Prelude.{Option, None, Some, Result, Ok, Err, OnErr, slice_get, ⊤}
use Rattle.backend_api.specs.declared.operation.Answer.{Answer}
use Rattle.backend_api.specs.declared.operation.Arg.{Arg}
use Rattle.backend_api.specs.declared.operation.Event.{Event}
use Rattle.backend_api.specs.Backend.{BackendState}
use Rattle.ir_module.specs.declared.places.Point.{Point}
use Rattle.ir_module.specs.declared.tree.Callee.{Callee}
use Rattle.ir_module.specs.declared.tree.Function.{Function}
use Rattle.ir_module.specs.declared.tree.Module.{Module}
use Rattle.ir_module.specs.declared.tree.Operand.{Operand}
use Rattle.ir_module.specs.Classes.{class_of_function}
use Rattle.ir_values.specs.declared.cause.Cause.{Cause}
use Rattle.ir_values.specs.declared.class.Class.{Class}
use Rattle.ir_values.specs.declared.class.Class.TheVariants as class
use Rattle.ir_values.specs.declared.ids.LocalId.{LocalId}
use Rattle.ir_values.specs.declared.ty.Ty.{Ty}
use Rattle.ir_values.specs.declared.value.Value.{Value}
use Rattle.machine_frames.specs.declared.flow.Flow.{Flow}
use Rattle.machine_frames.specs.declared.flow.Flow.TheVariants as flow
use Rattle.machine_frames.specs.declared.frames.Frames.{Frames}
use Rattle.machine_frames.specs.Frames.{IsOwn, Leads, Moves, meant, whole}
use Rattle.machine_frames.specs.code.Apt.{declared_apt, if_apt, issues}
use Rattle.machine_tables.specs.code.Reads.{bit_at}
use Rattle.qir_machine.specs.declared.machine.Machine.{Machine}
use Rattle.qir_machine.specs.Heard.{answers_of, Caused, Heard}
use Rattle.qir_machine.specs.code.Machines.{Acts, bits_after, Does, DoesMove, FlowCaused, IsRuntime, Knows, state, whole_of}
use Rattle.qir_machine.proofs.Hearing.{heard-none}
use Rattle.qir_meaning.specs.declared.end.End.{End}
use Rattle.qir_meaning.specs.declared.end.End.TheVariants as end
use Rattle.qir_meaning.specs.Effects.{declared_call}
use Rattle.qir_meaning.specs.Runs.{start}
use Rattle.qir_meaning.specs.State.{Env, State, Move, Trap, Halt, Stuck}
use Rattle.qir_meaning.specs.code.Steps.{Ended as Over, Jam, Tick, On, Off, tick_of}

own-caused : (e : End) (b : BackendState) → IsOwn e → Caused e b b
own-caused (end.Returned code) b h = tt
own-caused (end.Trapped why) b h = tt
own-caused (end.Asks op why) b h = absurd h
own-caused end.Cut b h = tt

module _ (s now : Machine) (b : BackendState) where
  -- what asks for no operation
  pub acts-does : (fl : Flow) (move : State → Move) → Acts s now fl move → now.results ≡ s.results → Does s now fl b b move
  acts-does flow.Goes move h same = record {
    new = [];
    heard = heard-none b;
    caused = tt;
    does = λ a es k. (
      subst (Knows now) (sym (append-nil es)) (λ r. ap (λ t. bit_at t r) same ∙ k r),
      h a es k ∙ ap (λ l. On (whole_of now a l)) (sym (append-nil es)),
    );
  }
  acts-does (flow.Ends e) move h same = record {
    new = [];
    heard = heard-none b;
    caused = own-caused e b h.0;
    does = λ es k. h.1 [] es k ∙ ap (λ l. Off (Over (meant e) (state now [] l))) (sym (append-nil es));
  }
  acts-does flow.Lost move h same = record { new = []; heard = heard-none b; caused = tt; does = λ es k. h [] es k }

module _ (s : Machine) (f : Frames) where
  -- what changes no more than frames
  pub moves-acts : (fl : Flow) (move : State → Move) → Moves s.frames f fl move → Acts s (record s { frames = f }) fl move
  moves-acts flow.Goes move h = λ a es k. h (state s a es)
  moves-acts (flow.Ends e) move h = ((h (start [])).0, λ a es k. (h (state s a es)).1)
  moves-acts flow.Lost move h = λ a es k. h (state s a es)

module _ (s now : Machine) (b c : BackendState) where
  -- moves that are equal in every state that the machine knows
  pub does-same : (fl : Flow) (move move' : State → Move) → ((a : List Answer) (es : List Event) → Knows s es → move' (state s a es) ≡ move (state s a es)) → Does s now fl b c move → Does s now fl b c move'
  does-same fl move move' e d = record { new = d.new; heard = d.heard; caused = d.caused; does = same fl d.new d.does }
    where
      same : (fl : Flow) (new : List Event) → DoesMove s now fl new move → DoesMove s now fl new move'
      same flow.Goes new h = λ a es k. ((h a es k).0, ap (tick_of (whole_of s (answers_of new ++ a) es)) (e (answers_of new ++ a) es k) ∙ (h a es k).1)
      same (flow.Ends o) new h = λ es k. ap (tick_of (whole_of s (answers_of new) es)) (e (answers_of new) es k) ∙ h es k
      same flow.Lost new h = λ es k. ap (tick_of (whole_of s (answers_of new) es)) (e (answers_of new) es k) ∙ h es k

module _ (s now : Machine) where
  pub acts-same : (fl : Flow) (move move' : State → Move) → ((a : List Answer) (es : List Event) → Knows s es → move' (state s a es) ≡ move (state s a es)) → Acts s now fl move → Acts s now fl move'
  acts-same flow.Goes move move' e h = λ a es k. ap (tick_of (whole_of s a es)) (e a es k) ∙ h a es k
  acts-same (flow.Ends o) move move' e h = (h.0, λ a es k. ap (tick_of (whole_of s a es)) (e a es k) ∙ h.1 a es k)
  acts-same flow.Lost move move' e h = λ a es k. ap (tick_of (whole_of s a es)) (e a es k) ∙ h a es k

module _ (s : Machine) (b : BackendState) where
  -- an instruction that ends the run, and one without a meaning
  pub traps-does : (why : Cause) (move : State → Move) → ((a : List Answer) (es : List Event) → Knows s es → move (state s a es) ≡ Halt (Trap why) (state s a es)) → Does s s (flow.Ends (end.Trapped why)) b b move
  traps-does why move e = acts-does s s b (flow.Ends (end.Trapped why)) move (tt, λ a es k. ap (tick_of (whole_of s a es)) (e a es k)) refl

  pub stuck-does : (move : State → Move) → ((a : List Answer) (es : List Event) → Knows s es → move (state s a es) ≡ Stuck) → Does s s flow.Lost b b move
  stuck-does move e = acts-does s s b flow.Lost move (λ a es k. ap (tick_of (whole_of s a es)) (e a es k)) refl

-- ---- the classes that ask for no operation

pub is-runtime : (c : Class) → (c ≡ class.Gate → ⊥) → (c ≡ class.Measure → ⊥) → (c ≡ class.Returning → ⊥) → IsRuntime c
is-runtime class.Gate g m r = g refl
is-runtime class.Measure g m r = m refl
is-runtime class.Returning g m r = r refl
is-runtime c g m r = tt

pub runtime-same : (c : Class) → IsRuntime c → (m : Module) (p : Point) (env : Env) (st : State) (x : Option LocalId) (name : List ℕ) (ts : List Ty) (vs : List Value) → declared_apt m p env st x name ts c vs ≡ declared_call p env x st name ts c vs
runtime-same class.Gate r m p env st x name ts vs = absurd r
runtime-same class.Measure r m p env st x name ts vs = absurd r
runtime-same class.Returning r m p env st x name ts vs = absurd r
runtime-same c r m p env st x name ts vs = refl

-- ---- operations with as many results as their class says

pub apt-count : (n k : ℕ) (move : Move) → n ≡ k → if_apt (n == k) move ≡ move
apt-count n k move e = ap (λ b. if_apt b move) ((unsigned_Decides n k).1 e)

pub not-apt : (n k : ℕ) (move : Move) → (n ≡ k → ⊥) → if_apt (n == k) move ≡ Stuck
not-apt n k move not = by-test (n == k) refl
  where
    by-test : (b : Bool) → (n == k) ≡ b → if_apt b move ≡ Stuck
    by-test true e = absurd (not ((unsigned_Decides n k).0 e))
    by-test false e = refl

pub no-issue : (c : Class) → (c ≡ class.Gate → ⊥) → (c ≡ class.Measure → ⊥) → (c ≡ class.Returning → ⊥) → (m : Module) (p : Point) (env : Env) (st : State) (x : Option LocalId) (name : List ℕ) (args : List Arg) → issues m p env st x name c args ≡ Stuck
no-issue class.Gate g m r mo p env st x name args = absurd (g refl)
no-issue class.Measure g m r mo p env st x name args = absurd (m refl)
no-issue class.Returning g m r mo p env st x name args = absurd (r refl)
no-issue c g m r mo p env st x name args = refl

-- ---- lists of one item and of two

pub one-item : {A : Type 0} (xs : List A) (v : A) → length xs < 2 → 0 < length xs → v ≡ get_or xs 0 v → xs ≡ v ∷ []
one-item [] v few some e = absurd (omega arith)
one-item (x ∷ []) v few some e = ap (λ y. y ∷ []) (sym e)
one-item (x ∷ y ∷ xs) v few some e = absurd (omega arith)

pub two-items : {A : Type 0} (xs : List A) (v w : A) → length xs < 3 → 1 < length xs → v ≡ get_or xs 0 v → w ≡ get_or xs 1 w → xs ≡ v ∷ w ∷ []
two-items [] v w few some e f = absurd (omega arith)
two-items (x ∷ []) v w few some e f = absurd (omega arith)
two-items (x ∷ y ∷ []) v w few some e f = ap (λ z. z ∷ y ∷ []) (sym e) ∙ ap (λ z. v ∷ z ∷ []) (sym f)
two-items (x ∷ y ∷ z ∷ xs) v w few some e f = absurd (omega arith)

pub on-err : {A X : Type 0} (r : Result A X) (P : Type 0) → P → OnErr r P
on-err (Ok x) P h = tt
on-err (Err e) P h = h
