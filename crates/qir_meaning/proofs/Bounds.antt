-- Runs at two bounds.
use Rattle.std.proofs.Common.{◌≡◌, ◌⊎◌, inl, inr, ℕ, ◌≤◌, Some, List, ◌++◌, refl, sym, ap, ◌∙◌, subst}
use Rattle.std.specs.Prelude.{◌≢◌}
use Rattle.backend_api.specs.declared.operation.Answer.{Answer}
use Rattle.backend_api.specs.declared.operation.Event.{Event}
use Rattle.ir_module.specs.declared.tree.Module.{Module}
use Rattle.output_records.specs.declared.record.Record.{Record}
use Rattle.ir_module.specs.Entry.{Entry, entry_of}
use Rattle.qir_meaning.specs.Runs.{RunEnd, Returned, Trapped, Asks, Cut, Runs}
use Rattle.qir_meaning.specs.Same.{Prefix}
use Rattle.qir_meaning.specs.State.{State}
use Rattle.qir_meaning.specs.code.Steps.{Outcome, Ended, Jam, run_by_steps, Finished, run, whole_start}
use Rattle.qir_meaning.proofs.Forms.{run-by-steps-is, runs-steps, steps-runs}
use Rattle.qir_meaning.proofs.Grow.{IsOverEnd, longer, later-grows, OutGrows}

-- what a whole run comes to
abbrev pub EndsSo : Outcome → RunEnd → List Event → List Record → Type 0
EndsSo o e es rs = (st : State) × (o ≡ Ended e st) × (st.events ≡ es) × (st.records ≡ rs)

pub ends-so : (o : Outcome) (e : RunEnd) (es : List Event) (rs : List Record) → Finished o e es rs → EndsSo o e es rs
ends-so (Ended e' st) e es rs h = (st, ap (λ k. Ended k st) (sym h.0), h.1, h.2)
ends-so Jam e es rs h = absurd h

pub finished-so : (o : Outcome) (e : RunEnd) (st : State) (es : List Event) (rs : List Record) → o ≡ Ended e st → st.events ≡ es → st.records ≡ rs → Finished o e es rs
finished-so o e st es rs h he hr = subst (λ k. Finished k e es rs) (sym h) (refl, he, hr)

-- the run of a module whose entry is known
pub run-from : (m : Module) (i : Entry) → entry_of m ≡ Some i → (a : List Answer) (n : ℕ) (es : List Event) (rs : List Record) (e : RunEnd) → Runs m a n es rs e → EndsSo (run m n (whole_start i a)) e es rs
run-from m i hi a n es rs e r = ends-so (run m n (whole_start i a)) e es rs (subst (λ o. Finished o e es rs) (run-by-steps-is m n a (Some i) hi) (runs-steps m a n es rs e r))

pub runs-from : (m : Module) (i : Entry) → entry_of m ≡ Some i → (a : List Answer) (n : ℕ) (es : List Event) (rs : List Record) (e : RunEnd) (st : State) → run m n (whole_start i a) ≡ Ended e st → st.events ≡ es → st.records ≡ rs → Runs m a n es rs e
runs-from m i hi a n es rs e st h he hr = steps-runs m a n es rs e (subst (λ o. Finished o e es rs) (sym (run-by-steps-is m n a (Some i) hi)) (finished-so (run m n (whole_start i a)) e st es rs h he hr))

pub cut-or-over : (e : RunEnd) → (e ≡ Cut) ⊎ IsOverEnd e
cut-or-over (Returned code) = inr tt
cut-or-over (Trapped c) = inr tt
cut-or-over (Asks op) = inr tt
cut-or-over Cut = inl refl

pub over-of : (e : RunEnd) → e ≢ Cut → IsOverEnd e
over-of (Returned code) h = tt
over-of (Trapped c) h = tt
over-of (Asks op) h = tt
over-of Cut h = absurd (h refl)

same-finish : (o : Outcome) (es es' : List Event) (rs rs' : List Record) (e e' : RunEnd) → Finished o e es rs → Finished o e' es' rs' → (es ≡ es') × (rs ≡ rs') × (e ≡ e')
same-finish (Ended e'' st) es es' rs rs' e e' h h' = (sym h.1 ∙ h'.1, sym h.2 ∙ h'.2, h.0 ∙ sym h'.0)
same-finish Jam es es' rs rs' e e' h h' = absurd h

-- a module has one run for each list of answers and each bound
pub one-run : (m : Module) (a : List Answer) (n : ℕ) (es es' : List Event) (rs rs' : List Record) (e e' : RunEnd) → Runs m a n es rs e → Runs m a n es' rs' e' → (es ≡ es') × (rs ≡ rs') × (e ≡ e')
one-run m a n es es' rs rs' e e' r r' = same-finish (run_by_steps m a n) es es' rs rs' e e' (runs-steps m a n es rs e r) (runs-steps m a n es' rs' e' r')

pub ended-stays : (m : Module) (a : List Answer) (n k : ℕ) (es : List Event) (rs : List Record) (e : RunEnd) → n ≤ k → e ≢ Cut → Runs m a n es rs e → Runs m a k es rs e
ended-stays m a n k es rs e le not r =
    let s = run-from m r.entry r.is_entry a n es rs e r in
    runs-from m r.entry r.is_entry a k es rs e s.0 (longer m n k (whole_start r.entry a) (Ended e s.0) le (over-of e not) s.1) s.2 s.3

pub prefix-at : {A : Type 0} (xs ys xs' ys' : List A) → xs ≡ xs' → ys ≡ ys' → Prefix xs ys → Prefix xs' ys'
prefix-at xs ys xs' ys' e f h = (h.0, sym f ∙ h.1 ∙ ap (λ l. l ++ h.0) e)

pub only-grow : (m : Module) (a : List Answer) (n k : ℕ) (es es' : List Event) (rs rs' : List Record) (e e' : RunEnd) → n ≤ k → Runs m a n es rs e → Runs m a k es' rs' e' → Prefix es es' × Prefix rs rs'
only-grow m a n k es es' rs rs' e e' le r r' =
    let s = run-from m r.entry r.is_entry a n es rs e r in
    let s' = run-from m r.entry r.is_entry a k es' rs' e' r' in
    let g = subst (OutGrows s.0) s'.1 (later-grows m n k (whole_start r.entry a) e s.0 le s.1) in
    (prefix-at s.0.events s'.0.events es es' s.2 s'.2 g.0, prefix-at s.0.records s'.0.records rs rs' s.3 s'.3 g.1)
