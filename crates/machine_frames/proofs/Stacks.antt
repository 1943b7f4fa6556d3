-- The frames that wait, pushed and popped at the end of their list.
use Rattle.std.proofs.Common.{◌≡◌, ◌∙◌, List, [], ◌∷◌, ◌++◌, Option, refl, sym, ap, subst}
use Rattle.machine_frames.specs.declared.frames.Waiting.{Waiting as Paused}
use Rattle.ir_module.specs.declared.places.Point.{Point}
use Rattle.ir_values.specs.declared.ids.LocalId.{LocalId}
use Rattle.ir_values.specs.declared.value.Value.{Value}
use Rattle.machine_frames.specs.declared.flow.Flow.{Flow}
use Rattle.machine_frames.specs.declared.flow.Flow.TheVariants as flow
use Rattle.machine_frames.specs.declared.frames.Frames.{Frames}
use Rattle.machine_frames.specs.Frames.{Ended, Leads, paused, stacked, whole}
use Rattle.qir_meaning.specs.Runs.{bind_result}
use Rattle.qir_meaning.specs.State.{Env, State, Enter, next}
use Rattle.qir_meaning.specs.code.Steps.{Waiting, returned, On, Off, gives_back, tick_of}

pub stacked-push : (ws : List Paused) (w : Paused) (above : List Waiting) → stacked (ws ++ w ∷ []) above ≡ paused w ∷ stacked ws above
stacked-push [] w above = refl
stacked-push (u ∷ ws) w above = stacked-push ws w (paused u ∷ above)

-- the one that waits last goes on with what comes back
pub pop-back : (old new : List Paused) (w : Paused) (v : Option Value) (st : State) (env : Env) → old ≡ new ++ w ∷ [] → env ≡ bind_result w.env w.result v → gives_back (stacked old []) v st ≡ On (record { at = w.at; env = env; waits = stacked new []; state = st })
pop-back old new w v st env e h =
    ap (λ ws. gives_back (stacked ws []) v st) e
    ∙ ap (λ ws. gives_back ws v st) (stacked-push new w [])
    ∙ ap (λ n. On (record { at = w.at; env = n; waits = stacked new []; state = st })) (sym h)

ended-leads : (f : Frames) (v : Option Value) (st : State) (fl : Flow) → Ended v st fl → Leads f st fl (Off (returned v st))
ended-leads f v st flow.Goes h = absurd h
ended-leads f v st (flow.Ends e) h = (h.0, ap Off h.1)
ended-leads f v st flow.Lost h = ap Off h

-- where none waits the run is over
pub none-back : (f : Frames) (old : List Paused) (v : Option Value) (st : State) (fl : Flow) → old ≡ [] → Ended v st fl → Leads f st fl (gives_back (stacked old []) v st)
none-back f old v st fl e h = subst (λ ws. Leads f st fl (gives_back (stacked ws []) v st)) (sym e) (ended-leads f v st fl h)

-- a call pushes the frame that waits
pub enter-push : (f : Frames) (q : Point) (env : Env) (x : Option LocalId) (st : State) (ws : List Paused) (w : Paused) → ws ≡ f.waiting ++ w ∷ [] → paused w ≡ record { at = next f.at; env = f.env; result = x } → tick_of (whole f st) (Enter q env x st) ≡ On (record { at = q; env = env; waits = stacked ws []; state = st })
enter-push f q env x st ws w e h =
    ap (λ p. On (record { at = q; env = env; waits = p ∷ stacked f.waiting []; state = st })) (sym h)
    ∙ ap (λ l. On (record { at = q; env = env; waits = l; state = st })) (sym (stacked-push f.waiting w []))
    ∙ ap (λ l. On (record { at = q; env = env; waits = stacked l []; state = st })) (sym e)
