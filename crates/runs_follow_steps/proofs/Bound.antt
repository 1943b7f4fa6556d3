-- Where an instruction leads: its result has a name, or it gives nothing.
use Rattle.std.proofs.Common.{◌≡◌, ℕ, ◌≤◌, Bool, true, false, Option, None, Some, List, [], ◌∷◌, ◌++◌, length, refl, sym, subst, arith}
use Rattle.ir_module.specs.declared.places.Point.{Point}
use Rattle.ir_module.specs.declared.tree.Module.{Module}
use Rattle.ir_values.specs.declared.ids.LocalId.{LocalId}
use Rattle.ir_values.specs.declared.value.Value.{Value}
use Rattle.ir_values.specs.declared.value.Value.TheVariants as value
use Rattle.ir_values.specs.Int.{IntValue}
use Rattle.qir_meaning.specs.Effects.{gives}
use Rattle.qir_meaning.specs.State.{Env, State, bind, next}
use Rattle.qir_meaning.specs.code.Steps.{Waiting, Whole, Tick, On, tick_of}
use Rattle.kept_items.specs.declared.item.Choice.TheVariants.{One}
use Rattle.kept_items.specs.declared.item.Item.{Item}
use Rattle.kept_items.specs.declared.val.Val.{Val}
use Rattle.kept_items.specs.declared.val.Val.TheVariants.{Known, Dynamic}
use Rattle.kept_items.specs.Items.{Gave, did, valued}
use Rattle.static_steps.specs.declared.turn.Move.{Move}
use Rattle.static_steps.specs.declared.turn.Turn.{Turn}
use Rattle.static_steps.specs.declared.turn.Turn.TheVariants.{Goes}
use Rattle.static_steps.specs.declared.work.Work.{Work}
use Rattle.static_steps.specs.declared.work.WorkFrame.{WorkFrame}
use Rattle.static_steps.specs.Settings.{Setting, bound, kept_if, move_to, passed, settled}
use Rattle.static_steps.specs.Values.{keep, look}
use Rattle.runs_follow_steps.specs.Describes.{Fit, FrameFits, AllWait, Fits, IsNot, ResultInRange, at_name, locals_in}
use Rattle.runs_follow_steps.specs.Meets.{Reached, DidMeets, TurnMeets, shared}
use Rattle.runs_follow_steps.proofs.Frames.{In, Within, fit-more, fit-fresh, fit-value, put-fits}
use Rattle.runs_follow_steps.proofs.Looks.{set-long, look-keep}
use Rattle.runs_follow_steps.proofs.Packing.{fits-packed, move-number}

-- the state of a run where the frame that goes on stands as the configuration says
abbrev pub whole : Work → Env → List Waiting → State → Whole
whole w env waits st = record { at = w.top.at; env = env; waits = waits; state = st }

pub within : (m : Module) (p : Point) (n : ℕ) (r : Option LocalId) → ResultInRange m p.func r → locals_in m p.func ≤ n → Within n r
within m p n None h le = tt
within m p n (Some x) h le = omega (arith, h, le)

pub bind-long : (env : Env) (r : Option LocalId) (u : Value) → length (bind env r u) ≡ length env
bind-long env None u = refl
bind-long env (Some x) u = set-long env x.0 (Some u)

module _ (s : Setting) (ds : List IntValue) (env : Env) (us : List Waiting) (st : State) (fits : Fits s.m s.live ds s.w env us st) (counted : s.fresh.0 ≡ length ds) where
  abbrev v : Whole
  v = whole s.w env us st

  abbrev Meets : Tick → Turn → Type 0
  Meets tk u = TurnMeets s.m s.live tk ds st u

  -- a working state that fits is reached in its packed form
  pub reached : (D : List IntValue) (u : Work) (env' : Env) (us' : List Waiting) (st' end : State) (tk : Tick) → tk ≡ On (whole u env' us' st') → Fits s.m s.live D (settled s.live u) env' us' st' → shared st' ≡ shared end → Reached s.m s.live D (move_to s.live u) tk end
  reached D u env' us' st' end tk e h same = record {
    whole = whole u env' us' st';
    goes = e;
    describes = record {
      at = refl;
      fits = fits-packed s.m s.live D (settled s.live u) env' us' st' h;
      count = move-number s.live D u;
    };
    same = same;
  }

  pub all-wait-more : (new : List IntValue) (fs : List (WorkFrame)) (ws : List Waiting) → AllWait s.m s.live ds fs ws → AllWait s.m s.live (ds ++ new) fs ws
  all-wait-more new [] [] h = h
  all-wait-more new [] (x ∷ xs) h = absurd h
  all-wait-more new (f ∷ fs) [] h = absurd h
  all-wait-more new (f ∷ fs) (x ∷ xs) h = (
    record { at = h.0.at; result = h.0.result; range = h.0.range; names = λ y l n. fit-more ds new (look y f.names) (at_name x.env y) (h.0.names y l n); long = h.0.long },
    all-wait-more new fs xs h.1,
  )

  -- an instruction stands here, and x is its result
  module _ (x : Option LocalId) (passes : (y : LocalId) → s.live (next s.w.top.at) y ≡ true → IsNot x y → s.live s.w.top.at y ≡ true) (range : ResultInRange s.m s.w.top.at.func x) where
    abbrev after : Val → Work
    after a = bound s x a

    -- also where counters have changed
    pub bound-with : (new : List IntValue) (a : Val) (u : Value) (to : Work) → to.top ≡ (after a).top → to.below ≡ s.w.below → Fit (ds ++ new) (Some a) (Some u) → (st' : State) → st'.allocated ≡ to.allocated → st'.held ≡ to.held → st'.measured ≡ to.returned → Fits s.m s.live (ds ++ new) (settled s.live to) (bind env x u) us st'
    bound-with new a u to is-top is-below h st' e1 e2 e3 = record {
      top = subst (λ f. FrameFits s.m s.live (ds ++ new) (record { at = f.at; names = keep (s.live f.at) f.names }) (bind env x u)) (sym is-top)
          (record {
            names = put-fits (ds ++ new) a u s.w.top.names env (s.live (next s.w.top.at)) x (within s.m s.w.top.at (length env) x range fits.top.long) h (λ y l n. fit-more ds new (look y s.w.top.names) (at_name env y) (fits.top.names y (passes y l n)));
            long = let e = bind-long env x u in let le = fits.top.long in omega (arith, e, le);
          });
      below = subst (λ fs. AllWait s.m s.live (ds ++ new) fs us) (sym is-below) (all-wait-more new s.w.below us fits.below);
      allocated = e1;
      held = e2;
      returned = e3;
    }

    pub bound-fits : (new : List IntValue) (a : Val) (u : Value) → Fit (ds ++ new) (Some a) (Some u) → Fits s.m s.live (ds ++ new) (settled s.live (after a)) (bind env x u) us st
    bound-fits new a u h = bound-with new a u (after a) refl refl h st fits.allocated fits.held fits.returned

    -- a call that gives nothing
    pub passed-with : x ≡ None → (to : Work) → to.top ≡ (passed s).top → to.below ≡ s.w.below → (new : List IntValue) (st' : State) → st'.allocated ≡ to.allocated → st'.held ≡ to.held → st'.measured ≡ to.returned → Fits s.m s.live (ds ++ new) (settled s.live to) env us st'
    passed-with none to is-top is-below new st' e1 e2 e3 = record {
      top = subst (λ f. FrameFits s.m s.live (ds ++ new) (record { at = f.at; names = keep (s.live f.at) f.names }) env) (sym is-top)
          (record {
            names = λ y l. subst (λ o. Fit (ds ++ new) o (at_name env y)) (sym (look-keep (s.live (next s.w.top.at)) y l s.w.top.names)) (fit-more ds new (look y s.w.top.names) (at_name env y) (fits.top.names y (passes y l (subst (λ r. IsNot r y) (sym none) tt))));
            long = fits.top.long;
          });
      below = subst (λ fs. AllWait s.m s.live (ds ++ new) fs us) (sym is-below) (all-wait-more new s.w.below us fits.below);
      allocated = e1;
      held = e2;
      returned = e3;
    }

    -- a result that is known
    pub gives-known : (u : Value) → Meets (tick_of v (gives s.w.top.at env x st u st)) (Goes (move_to s.live (after (Known u)) ∷ []) None One)
    gives-known u = (move_to s.live (after (Known u)), refl, reached (ds ++ []) (after (Known u)) (bind env x u) us st st _ refl (bound-fits [] (Known u) u refl) refl)

    abbrev pub kept-moves : List Move
    kept-moves = move_to s.live (after (Dynamic s.fresh)) ∷ []

    -- a result that the lowered program computes too
    pub gives-fresh : (i : IntValue) → DidMeets s.m s.live (tick_of v (gives s.w.top.at env x st (value.Int i) st)) kept-moves One ds (Gave (i ∷ []) st)
    gives-fresh i = (move_to s.live (after (Dynamic s.fresh)), refl, reached (ds ++ i ∷ []) (after (Dynamic s.fresh)) (bind env x (value.Int i)) us st st _ refl (bound-fits (i ∷ []) (Dynamic s.fresh) (value.Int i) (fit-fresh ds i s.fresh.0 counted)) refl)

    pub kept-if : (ok : Bool) (item : Item) (tk : Tick) → DidMeets s.m s.live tk kept-moves One ds (did ds st item) → Meets tk (kept_if s x ok item)
    kept-if true item tk h = h
    kept-if false item tk h = tt

    -- a value of the configuration, with a name more
    pub gives-val : (a : Val) → In ds a → Meets (tick_of v (gives s.w.top.at env x st (valued ds a) st)) (Goes (move_to s.live (after a) ∷ []) None One)
    gives-val a i = (
      move_to s.live (after a),
      refl,
      reached (ds ++ []) (after a) (bind env x (valued ds a)) us st st _ refl
          (bound-fits [] a (valued ds a) (fit-more ds [] (Some a) (Some (valued ds a)) (fit-value ds a i))) refl,
    )
