-- A call of a function with a body, and its return.
use Rattle.std.proofs.Common.{◌≡◌, ℕ, ◌+◌, ◌-◌, ◌≤◌, Bool, true, false, Option, None, Some, List, [], ◌∷◌, ◌++◌, length, map, replicate, refl, sym, ap, ◌∙◌, subst, arith, length-append}
use Rattle.std.proofs.lemmas.List.{length-map, length-replicate}
use Rattle.std.specs.Prelude.{◌==◌, if◌then◌else◌, ◌||◌, slice_get}
use Rattle.ir_module.specs.declared.places.Point.{Point}
use Rattle.ir_module.specs.declared.tree.Function.{Function}
use Rattle.ir_module.specs.declared.tree.Inst.{Inst}
use Rattle.ir_module.specs.declared.tree.Module.{Module}
use Rattle.ir_module.specs.Steps.{InstAt, step_in_module}
use Rattle.ir_values.specs.declared.ids.FuncId.{FuncId}
use Rattle.ir_values.specs.declared.ids.LocalId.{LocalId}
use Rattle.ir_values.specs.declared.value.Value.{Value}
use Rattle.ir_values.specs.declared.value.Value.TheVariants as value
use Rattle.ir_values.specs.Int.{IntValue, signed}
use Rattle.qir_meaning.specs.Moves.{first_point}
use Rattle.qir_meaning.specs.State.{Env, State, Enter, bind, next, frame}
use Rattle.qir_meaning.specs.code.Steps.{Waiting, Whole, On, tick_of, gives_back}
use Rattle.kept_items.specs.declared.item.Code.TheVariants as code
use Rattle.kept_items.specs.declared.target.Kind.TheVariants as kind
use Rattle.kept_items.specs.declared.val.Val.{Val}
use Rattle.kept_items.specs.declared.val.Val.TheVariants.{Known, Dynamic}
use Rattle.kept_items.specs.Items.{valued}
use Rattle.kept_items.specs.Targets.{has_returns}
use Rattle.static_steps.specs.declared.turn.Turn.TheVariants.{Exits, Bad}
use Rattle.static_steps.specs.declared.work.Work.{Work}
use Rattle.static_steps.specs.declared.work.WorkFrame.{WorkFrame}
use Rattle.static_steps.specs.Calls.{enters, parameters}
use Rattle.static_steps.specs.Returns.{back_turn, call_result, exits, resumes, result_at}
use Rattle.static_steps.specs.Settings.{Setting, move_to}
use Rattle.static_steps.specs.Values.{Names, drop_result, keep, look, put_result}
use Rattle.runs_follow_steps.specs.Describes.{Fit, WaitFits, AllWait, Fits, IsNot, ResultInRange, at_name, locals_in_some}
use Rattle.runs_follow_steps.specs.Meets.{TurnMeets}
use Rattle.runs_follow_steps.proofs.Bound.{all-wait-more, bind-long, reached, whole, within}
use Rattle.runs_follow_steps.proofs.Frames.{AllIn, In, fit-more, fit-value, put-fits, parameters-fit}
use Rattle.runs_follow_steps.proofs.Looks.{look-keep, look-drop-other}

pub drop-result-other : (r : Option LocalId) (y : LocalId) (ns : Names Val) → IsNot r y → look y (drop_result r ns) ≡ look y ns
drop-result-other None y ns h = refl
drop-result-other (Some x) y ns h = look-drop-other x y ns h

-- the call before the next point is the one that stands here
pub call-here : (m : Module) (p : Point) (i : Inst) → step_in_module m p ≡ InstAt i → call_result m (next p) ≡ Some i.result
call-here m p i e =
    let k : p.index + 1 - 1 ≡ p.index = omega arith in
    ap (λ n. result_at (step_in_module m (record p { index = n }))) k ∙ ap result_at e

module _ (s : Setting) (ds : List IntValue) (env : Env) (us : List Waiting) (st : State) (fits : Fits s.m s.live ds s.w env us st) (counted : s.fresh.0 ≡ length ds) where
  abbrev here : Point
  here = s.w.top.at

  abbrev v : Whole
  v = whole s.w env us st

  abbrev ds' : List IntValue
  ds' = ds ++ []

  module _ (x : Option LocalId) (passes : (y : LocalId) → s.live (next here) y ≡ true → IsNot x y → s.live here y ≡ true) (range : ResultInRange s.m here.func x) (before : call_result s.m (next here) ≡ Some x) where
    waiting : Waiting
    waiting = record { at = next here; env = env; result = x }

    left : WorkFrame
    left = record { at = next here; names = keep (s.live (next here)) (drop_result x s.w.top.names) }

    waits-fit : WaitFits s.m s.live ds' left waiting
    unfolding waiting left
    waits-fit = record {
      at = refl;
      result = before;
      range = range;
      names = λ y l n. subst (λ o. Fit ds' o (at_name env y)) (sym (look-keep (s.live (next here)) y l (drop_result x s.w.top.names) ∙ drop-result-other x y s.w.top.names n)) (fit-more ds [] (look y s.w.top.names) (at_name env y) (fits.top.names y (passes y l n)));
      long = fits.top.long;
    }

    -- a new frame above the one that waits
    pub enters-meets : (g : FuncId) (f : Function) (vs : List Val) → slice_get s.m.funcs g.0 ≡ Some f → AllIn ds vs → TurnMeets s.m s.live (tick_of v (Enter (first_point g) (frame f (map (valued ds) vs)) x st)) ds st (enters s x g vs)
    unfolding waiting left
    enters-meets g f vs hf all =
        let u : Work = record s.w { top = record { at = first_point g; names = parameters 0 vs }; below = left ∷ s.w.below } in
        let e : Env = frame f (map (valued ds) vs) in
        let k : ℕ = length f.locals - length (map (valued ds) vs) in (
          move_to s.live u,
          refl,
          reached s ds env us st fits counted ds' u e (waiting ∷ us) st st _ refl
              (record {
                top = record {
                  names = λ y l. subst (λ o. Fit ds' o (at_name e y)) (sym (look-keep (s.live (first_point g)) y l (parameters 0 vs))) (fit-more ds [] (look y (parameters 0 vs)) (at_name e y) (parameters-fit ds vs 0 y.0 y k (omega arith) all));
                  long = subst (λ n. n ≤ length e) (sym (ap locals_in_some hf)) (long-enough (map (valued ds) vs) (length f.locals));
                };
                below = (waits-fit, all-wait-more s ds env us st fits counted [] s.w.below us fits.below);
                allocated = fits.allocated;
                held = fits.held;
                returned = fits.returned;
              })
              refl,
        )
      where
        long-enough : (us : List Value) (n : ℕ) → n ≤ length (map Some us ++ replicate (n - length us) None)
        long-enough us n =
            let a = length-append (map Some us) (replicate (n - length us) None) in
            let b = length-map us Some in
            let z : Option Value = None in
            let c = length-replicate (n - length us) z in
            omega (arith, a, b, c)

  -- a return into the frame that waits, with a value
  resumes-meets : (f : WorkFrame) (fs : List (WorkFrame)) (u : Waiting) (us' : List Waiting) (a : Val) → WaitFits s.m s.live ds f u → AllWait s.m s.live ds fs us' → In ds a → TurnMeets s.m s.live (gives_back (u ∷ us') (Some (valued ds a)) st) ds st (resumes s f fs (call_result s.m f.at) (Some a))
  resumes-meets f fs u us' a h k i =
      let w' : Work = record s.w { top = record { at = f.at; names = put_result u.result a f.names }; below = fs } in
      let e : Env = bind u.env u.result (valued ds a) in
      subst (λ r. TurnMeets s.m s.live (gives_back (u ∷ us') (Some (valued ds a)) st) ds st (resumes s f fs r (Some a))) (sym h.result) (
        move_to s.live w',
        refl,
        reached s ds env us st fits counted ds' w' e us' st st _ (ap (λ p. On (record { at = p; env = e; waits = us'; state = st })) h.at)
            (record {
              top = record {
                names = put-fits ds' a (valued ds a) f.names u.env (s.live f.at) u.result (within s.m f.at (length u.env) u.result h.range h.long) (fit-more ds [] (Some a) (Some (valued ds a)) (fit-value ds a i)) (λ y l n. fit-more ds [] (look y f.names) (at_name u.env y) (h.names y l n));
                long = let l = bind-long u.env u.result (valued ds a) in let le = h.long in omega (arith, l, le);
              };
              below = all-wait-more s ds env us st fits counted [] fs us' k;
              allocated = fits.allocated;
              held = fits.held;
              returned = fits.returned;
            })
            refl,
      )

  -- the return of the entry
  exits-meets : (a : Val) → TurnMeets s.m s.live (gives_back [] (Some (valued ds a)) st) ds st (exits s (Some a))
  exits-meets (Known (value.Int i)) = permitted (has_returns s.t || (i.bits == 0))
    where
      permitted : (b : Bool) → TurnMeets s.m s.live (gives_back [] (Some (value.Int i)) st) ds st (if b then Exits (code.Known (signed i)) else Bad kind.Capability)
      permitted true = refl
      permitted false = tt
  exits-meets (Known u) = tt
  exits-meets (Dynamic d) = permitted (has_returns s.t)
    where
      permitted : (b : Bool) → TurnMeets s.m s.live (gives_back [] (Some (valued ds (Dynamic d))) st) ds st (if b then Exits (code.Dynamic d) else Bad kind.Capability)
      permitted true = refl
      permitted false = tt

  pub back-meets : (fs : List (WorkFrame)) (ws : List Waiting) (a : Val) → AllWait s.m s.live ds fs ws → In ds a → TurnMeets s.m s.live (gives_back ws (Some (valued ds a)) st) ds st (back_turn s fs (Some a))
  back-meets [] [] a h i = exits-meets a
  back-meets [] (u ∷ ws) a h i = absurd h
  back-meets (f ∷ fs) [] a h i = absurd h
  back-meets (f ∷ fs) (u ∷ ws) a h i = resumes-meets f fs u ws a h.0 h.1 i

  -- a return without a value
  resumes-void : (f : WorkFrame) (fs : List (WorkFrame)) (u : Waiting) (us' : List Waiting) (r : Option LocalId) → u.result ≡ r → WaitFits s.m s.live ds f u → AllWait s.m s.live ds fs us' → TurnMeets s.m s.live (gives_back (u ∷ us') None st) ds st (resumes s f fs (Some r) None)
  resumes-void f fs u us' (Some x) e h k = tt
  resumes-void f fs u us' None e h k =
      let w' : Work = record s.w { top = f; below = fs } in (
        move_to s.live w',
        refl,
        reached s ds env us st fits counted ds' w' u.env us' st st _ (ap (λ p. On (record { at = p; env = u.env; waits = us'; state = st })) h.at)
            (record {
              top = record {
                names = λ y l. subst (λ o. Fit ds' o (at_name u.env y)) (sym (look-keep (s.live f.at) y l f.names)) (fit-more ds [] (look y f.names) (at_name u.env y) (h.names y l (subst (λ r. IsNot r y) (sym e) tt)));
                long = h.long;
              };
              below = all-wait-more s ds env us st fits counted [] fs us' k;
              allocated = fits.allocated;
              held = fits.held;
              returned = fits.returned;
            })
            refl,
      )

  pub back-void : (fs : List (WorkFrame)) (ws : List Waiting) → AllWait s.m s.live ds fs ws → TurnMeets s.m s.live (gives_back ws None st) ds st (back_turn s fs None)
  back-void [] [] h = refl
  back-void [] (u ∷ ws) h = absurd h
  back-void (f ∷ fs) [] h = absurd h
  back-void (f ∷ fs) (u ∷ ws) h =
      subst (λ r. TurnMeets s.m s.live (gives_back (u ∷ ws) None st) ds st (resumes s f fs r None)) (sym h.0.result) (resumes-void f fs u ws u.result refl h.0 h.1)
