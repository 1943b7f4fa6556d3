-- From modules of which one follows the other to the same behaviour.
use Rattle.std.proofs.Common.{◌≡◌, ◌⊎◌, inl, inr, ℕ, zero, suc, ◌+◌, ◌-◌, ◌*◌, ◌<◌, ◌≤◌, List, refl, sym, ap, ◌∙◌, subst, arith, ⊎_elim}
use Rattle.std.proofs.Math.Nat.{add-mul}
use Rattle.std.proofs.lemmas.Bool.{cases_lt}
use Rattle.std.specs.Prelude.{◌≢◌}
use Rattle.backend_api.specs.declared.operation.Answer.{Answer}
use Rattle.backend_api.specs.declared.operation.Event.{Event}
use Rattle.ir_module.specs.declared.tree.Module.{Module}
use Rattle.output_records.specs.declared.record.Record.{Record}
use Rattle.qir_meaning.specs.Runs.{HasRun}
use Rattle.backend_api.specs.Naming.{Naming, named_events}
use Rattle.qir_meaning.specs.Naming.{named_end}
use Rattle.qir_meaning.specs.Runs.{RunEnd, Cut, Runs}
use Rattle.qir_meaning.specs.Same.{Prefix, SameBehaviour}
use Rattle.qir_meaning.specs.code.Simulation.{GoesBy, Alike, EndsBy, Meets, Follows, Started, Simulation}
use Rattle.qir_meaning.specs.State.{State}
use Rattle.qir_meaning.specs.code.Steps.{Outcome, Ended, Jam, Whole, Tick, On, Off, tick, run, whole_start, goes}
use Rattle.qir_meaning.proofs.Bounds.{EndsSo, run-from, runs-from, cut-or-over, over-of, prefix-at}
use Rattle.qir_meaning.proofs.Grow.{Grows, OutGrows, IsOver, IsOverEnd, run-suc, run-zero, run-grows, later-grows, longer, off-over, same-ends}

-- further steps after so many
pub after-steps : (l : Module) (j k i : ℕ) (v u : Whole) → GoesBy l j v u → i ≡ j + k → run l i v ≡ run l k u
after-steps l zero k i v u h e = let s : i ≡ k = omega arith in ap (λ x. run l x v) s ∙ ap (run l k) h
after-steps l (suc j) k i v u h e =
    let s : i ≡ suc (j + k) = omega arith in
    ap (λ x. run l x v) s ∙ run-suc l (j + k) v ∙ ap (goes (run l (j + k))) h.1 ∙ after-steps l j k (j + k) h.0 u h.2 refl

pub goes-on-by : (l : Module) (i j k : ℕ) (u v w : Whole) → GoesBy l i u v → GoesBy l j v w → k ≡ i + j → GoesBy l k u w
goes-on-by l zero j k u v w h g e = let s : j ≡ k = omega arith in subst (λ x. GoesBy l x u w) s (subst (λ x. GoesBy l j x w) (sym h) g)
goes-on-by l (suc i) j zero u v w h g e = absurd (omega arith)
goes-on-by l (suc i) j (suc k) u v w h g e = (h.0, h.1, goes-on-by l i j k h.0 v w h.2 g (omega arith))

-- the run ends so, with any number of steps from j on
pub record Finishes (N : Naming) (l : Module) (b : ℕ) (v : Whole) (e : RunEnd) (st : State) : Type 0 where
  pub steps : ℕ
  pub few : steps ≤ b
  pub state : State
  pub by : (k : ℕ) → steps ≤ k → run l k v ≡ Ended (named_end N e) state
  pub alike : Alike N st state

ends-finishes : (N : Naming) (l : Module) (j b : ℕ) (v : Whole) (e : RunEnd) (st : State) → j < b → EndsBy N l j v e st → Finishes N l b v e st
ends-finishes N l j b v e st lt h = record {
  steps = suc j;
  few = lt;
  state = h.state;
  alike = h.alike;
  by = λ k le. after-steps l j (suc (k - suc j)) k v h.before h.goes (omega arith) ∙ run-suc l (k - suc j) h.before ∙ ap (goes (run l (k - suc j))) h.ends;
}

finishes-after : (N : Naming) (l : Module) (j b c : ℕ) (v u : Whole) (e : RunEnd) (st : State) → GoesBy l j v u → Finishes N l b u e st → j + b ≤ c → Finishes N l c v e st
finishes-after N l j b c v u e st g h le = record {
  steps = j + h.steps;
  few = omega (arith, h.few);
  state = h.state;
  alike = h.alike;
  by = λ k le. after-steps l j (k - j) k v u g (omega arith) ∙ h.by (k - j) (omega arith);
}

-- the run goes on in at most b steps, and k are no more than the rank and W for each of them
pub record Continues (N : Naming) (l : Module) (W k b r : ℕ) (v : Whole) (st : State) : Type 0 where
  pub steps : ℕ
  pub few : steps ≤ b
  pub after : Whole
  pub goes : GoesBy l steps v after
  pub bound : k ≤ r + steps * W
  pub alike : Alike N st after.state

module _ (N : Naming) (m l : Module) (W : ℕ) where
  finish-tick : (n r : ℕ) (w v : Whole) (e : RunEnd) (st : State) → ((r : ℕ) (w v : Whole) → Follows N m l W n r w v → run m n w ≡ Ended e st → Finishes N l (4 * n) v e st) → (t : Tick) → Meets N l W (Follows N m l W n) r v t → goes (run m n) t ≡ Ended e st → Finishes N l (4 * suc n) v e st
  finish-tick n r w v e st ih (On w') f h = finishes-after N l f.steps (4 * n) (4 * suc n) v f.after e st f.goes (ih f.rank w' f.after f.follows h) (omega (arith, f.few))
  finish-tick n r w v e st ih (Off (Ended e' st')) f h =
      let q = same-ends st' st e' e h in
      ends-finishes N l f.0 (4 * suc n) v e st (omega (arith, f.1)) (subst (λ x. EndsBy N l f.0 v x st) q.0 (subst (λ x. EndsBy N l f.0 v e' x) q.1 f.2))
  finish-tick n r w v e st ih (Off Jam) f h = absurd f

  -- where m ends, l ends within four times the steps
  finish : (n r : ℕ) (w v : Whole) (e : RunEnd) (st : State) → IsOverEnd e → Follows N m l W n r w v → run m n w ≡ Ended e st → Finishes N l (4 * n) v e st
  finish zero r w v e st over f h = absurd (subst IsOver (sym h ∙ run-zero m w) over)
  finish (suc n) r w v e st over f h = finish-tick n r w v e st (λ r w v f h. finish n r w v e st over f h) (tick m w) f.2 (sym (run-suc m n w) ∙ h)

  continue-tick : (k r : ℕ) (w v : Whole) (st : State) → ((r : ℕ) (w v : Whole) → Follows N m l W k r w v → run m k w ≡ Ended Cut st → Continues N l W k (4 * k) r v st) → (t : Tick) → tick m w ≡ t → Meets N l W (Follows N m l W k) r v t → goes (run m k) t ≡ Ended Cut st → Continues N l W (suc k) (4 * suc k) r v st
  continue-tick k r w v st ih (On w') t f h =
      let b = ih f.rank w' f.after f.follows h in
      let d = add-mul f.steps b.steps W in record {
        steps = f.steps + b.steps;
        few = omega (arith, f.few, b.few);
        after = b.after;
        goes = goes-on-by l f.steps b.steps (f.steps + b.steps) v f.after b.after f.goes b.goes refl;
        bound = omega (arith, f.falls, b.bound, d);
        alike = b.alike;
      }
  continue-tick k r w v st ih (Off (Ended e' st')) t f h = absurd (subst IsOverEnd (same-ends st' st e' Cut h).0 (off-over m w e' st' t))
  continue-tick k r w v st ih (Off Jam) t f h = absurd f

  -- where m goes on, l goes on, and not much slower
  continue : (k r : ℕ) (w v : Whole) (st : State) → Follows N m l W k r w v → run m k w ≡ Ended Cut st → Continues N l W k (4 * k) r v st
  continue zero r w v st f h = record {
    steps = 0;
    few = omega arith;
    after = v;
    goes = refl;
    bound = omega arith;
    alike = subst (λ s. Alike N s v.state) (same-ends w.state st Cut Cut (sym (run-zero m w) ∙ h)).1 f.0;
  }
  continue (suc k) r w v st f h = continue-tick k r w v st (λ r w v f h. continue k r w v st f h) (tick m w) refl f.2 (sym (run-suc m k w) ∙ h)

  total-tick : (n r : ℕ) (v : Whole) → ((r : ℕ) (w v : Whole) → Follows N m l W n r w v → (e : RunEnd) × (st : State) × (run m n w ≡ Ended e st)) → (t : Tick) → Meets N l W (Follows N m l W n) r v t → (e : RunEnd) × (st : State) × (goes (run m n) t ≡ Ended e st)
  total-tick n r v ih (On w') f = ih f.rank w' f.after f.follows
  total-tick n r v ih (Off (Ended e st)) f = (e, st, refl)
  total-tick n r v ih (Off Jam) f = absurd f

  -- m never jams
  total : (n r : ℕ) (w v : Whole) → Follows N m l W n r w v → (e : RunEnd) × (st : State) × (run m n w ≡ Ended e st)
  total zero r w v f = (Cut, w.state, run-zero m w)
  total (suc n) r w v f = let t = total-tick n r v (λ r w v f. total n r w v f) (tick m w) f.2 in (t.0, t.1, run-suc m n w ∙ t.2)

  follows-rank : (n r : ℕ) (w v : Whole) → Follows N m l W n r w v → r < W
  follows-rank zero r w v f = f.1
  follows-rank (suc n) r w v f = f.1

mul-le : (a b c : ℕ) → a ≤ b → a * c ≤ b * c
mul-le a b c h =
    let e : (a + (b - a)) * c ≡ a * c + (b - a) * c = add-mul a (b - a) c in
    let s : a + (b - a) ≡ b = omega arith in
    let e' : b * c ≡ a * c + (b - a) * c = ap (λ x. x * c) (sym s) ∙ e in
    omega (arith, e')

more-than : (n r J W : ℕ) → r < W → (n + 1) * W ≤ r + J * W → n < J
more-than n r J W lt h = ⊎_elim (λ l. l) (λ le. let a = mul-le J n W le in let b : (n + 1) * W ≡ n * W + 1 * W = add-mul n 1 W in let c : 1 * W ≡ W = omega arith in absurd (omega (arith, a, b, c))) (cases_lt n J)

some-end : (o : Outcome) → o ≢ Jam → (e : RunEnd) × (st : State) × (o ≡ Ended e st)
some-end (Ended e st) h = (e, st, refl)
some-end Jam h = absurd (h refl)

jam-ended : (e : RunEnd) (st : State) → Jam ≡ Ended e st → ⊥
jam-ended e st h = cc

module _ (m l : Module) (N : Naming) (W : ℕ) (sim : Simulation m l N W) (a : List Answer) where
  abbrev M : Whole
  M = whole_start sim.entry a

  abbrev L : Whole
  L = whole_start sim.lowered_entry a

  abbrev begun : Started N m l W M L
  begun = sim.started a

  ended : (n : ℕ) (e : RunEnd) (st : State) → IsOverEnd e → run m n M ≡ Ended e st → Finishes N l (4 * n + 16) L e st
  ended n e st over h =
      let b = begun in
      let f = b.follows n in
      finishes-after N l b.steps (4 * n) (4 * n + 16) L b.after e st b.goes (finish N m l W n f.0 M b.after e st over f.1 h) (omega (arith, b.few))

  going : (n : ℕ) (st : State) → run m n M ≡ Ended Cut st → (r : ℕ) × (r < W) × Continues N l W n (4 * n + 16) r L st
  going n st h =
      let b = begun in
      let f = b.follows n in
      let c = continue N m l W n f.0 M b.after st f.1 h in
      let le = mul-le c.steps (b.steps + c.steps) W (omega arith) in (
        f.0,
        follows-rank N m l W n f.0 M b.after f.1,
        record {
          steps = b.steps + c.steps;
          few = omega (arith, b.few, c.few);
          after = c.after;
          goes = goes-on-by l b.steps c.steps (b.steps + c.steps) L b.after c.after b.goes c.goes refl;
          bound = omega (arith, c.bound, le);
          alike = c.alike;
        },
      )

  at-least : (k : ℕ) (u : Whole) (j : ℕ) → GoesBy l j L u → j ≤ k → run l k L ≡ run l (k - j) u
  at-least k u j g le = after-steps l j (k - j) k L u g (omega arith)

  forth : (n : ℕ) (es : List Event) (rs : List Record) (e : RunEnd) → Runs m a n es rs e → e ≢ Cut → Runs l a (4 * n + 16) (named_events N es) rs (named_end N e)
  forth n es rs e r not =
      let s = run-from m sim.entry sim.is_entry a n es rs e r in
      let f = ended n e s.0 (over-of e not) s.1 in
      runs-from l sim.lowered_entry sim.is_lowered_entry a (4 * n + 16) (named_events N es) rs (named_end N e) f.state (f.by (4 * n + 16) f.few) (sym f.alike.events ∙ ap (named_events N) s.2) (sym f.alike.records ∙ s.3)

  back : (n : ℕ) (es' : List Event) (rs : List Record) (e' : RunEnd) → Runs l a n es' rs e' → e' ≢ Cut → (es : List Event) × (e : RunEnd) × (named_events N es ≡ es') × (named_end N e ≡ e') × Runs m a ((n + 1) * W) es rs e
  back n es' rs e' r not = by-case (cut-or-over t.0)
    where
      t : (e : RunEnd) × (st : State) × (run m ((n + 1) * W) M ≡ Ended e st)
      t = let f = begun.follows ((n + 1) * W) in total N m l W ((n + 1) * W) f.0 M begun.after f.1

      s : EndsSo (run l n L) e' es' rs
      s = run-from l sim.lowered_entry sim.is_lowered_entry a n es' rs e' r

      by-case : (t.0 ≡ Cut) ⊎ IsOverEnd t.0 → (es : List Event) × (e : RunEnd) × (named_events N es ≡ es') × (named_end N e ≡ e') × Runs m a ((n + 1) * W) es rs e
      by-case (inl c) =
          let g = going ((n + 1) * W) t.1 (t.2 ∙ ap (λ e. Ended e t.1) c) in
          let f = g.2 in
          let lt = more-than n g.0 f.steps W g.1 f.bound in
          let h = longer l n f.steps L (Ended e' s.0) (omega arith) (over-of e' not) s.1 in
          let o = after-steps l f.steps 0 f.steps L f.after f.goes (omega arith) ∙ run-zero l f.after in
          absurd (not (same-ends s.0 f.after.state e' Cut (sym h ∙ o)).0)
      by-case (inr o) =
          let f = ended ((n + 1) * W) t.0 t.1 o t.2 in
          let h = longer l n (f.steps + n) L (Ended e' s.0) (omega arith) (over-of e' not) s.1 in
          let q = same-ends f.state s.0 (named_end N t.0) e' (sym (f.by (f.steps + n) (omega arith)) ∙ h) in (
            t.1.events,
            t.0,
            f.alike.events ∙ ap (λ z. z.events) q.1 ∙ s.2,
            q.0,
            runs-from m sim.entry sim.is_entry a ((n + 1) * W) t.1.events rs t.0 t.1 t.2 refl (f.alike.records ∙ ap (λ z. z.records) q.1 ∙ s.3),
          )

  cut-forth : (n : ℕ) (es es' : List Event) (rs rs' : List Record) (e' : RunEnd) → Runs m a n es rs Cut → Runs l a (4 * n + 16) es' rs' e' → Prefix (named_events N es) es' × Prefix rs rs'
  cut-forth n es es' rs rs' e' r r' =
      let s = run-from m sim.entry sim.is_entry a n es rs Cut r in
      let s' = run-from l sim.lowered_entry sim.is_lowered_entry a (4 * n + 16) es' rs' e' r' in
      let f = (going n s.0 s.1).2 in
      let k = 4 * n + 16 - f.steps in
      let o : run l k f.after ≡ Ended e' s'.0 = sym (at-least (4 * n + 16) f.after f.steps f.goes f.few) ∙ s'.1 in
      let g : Grows f.after.state s'.0 = subst (OutGrows f.after.state) o (run-grows l k f.after) in
      (prefix-at f.after.state.events s'.0.events _ es' (sym f.alike.events ∙ ap (named_events N) s.2) s'.2 g.0, prefix-at f.after.state.records s'.0.records rs rs' (sym f.alike.records ∙ s.3) s'.3 g.1)

  cut-back : (n : ℕ) (es es' : List Event) (rs rs' : List Record) (e : RunEnd) → Runs l a n es' rs' Cut → Runs m a ((n + 1) * W) es rs e → Prefix es' (named_events N es) × Prefix rs' rs
  cut-back n es es' rs rs' e r r' = by-case (cut-or-over e)
    where
      s : EndsSo (run m ((n + 1) * W) M) e es rs
      s = run-from m sim.entry sim.is_entry a ((n + 1) * W) es rs e r'

      s' : EndsSo (run l n L) Cut es' rs'
      s' = run-from l sim.lowered_entry sim.is_lowered_entry a n es' rs' Cut r

      by-case : (e ≡ Cut) ⊎ IsOverEnd e → Prefix es' (named_events N es) × Prefix rs' rs
      by-case (inl c) =
          let i = going ((n + 1) * W) s.0 (s.1 ∙ ap (λ k. Ended k s.0) c) in
          let f = i.2 in
          let lt = more-than n i.0 f.steps W i.1 f.bound in
          let o = after-steps l f.steps 0 f.steps L f.after f.goes (omega arith) ∙ run-zero l f.after in
          let g : Grows s'.0 f.after.state = subst (OutGrows s'.0) o (later-grows l n f.steps L Cut s'.0 (omega arith) s'.1) in
          (prefix-at s'.0.events f.after.state.events es' _ s'.2 (sym f.alike.events ∙ ap (named_events N) s.2) g.0, prefix-at s'.0.records f.after.state.records rs' rs s'.3 (sym f.alike.records ∙ s.3) g.1)
      by-case (inr o) =
          let f = ended ((n + 1) * W) e s.0 o s.1 in
          let g : Grows s'.0 f.state = subst (OutGrows s'.0) (f.by (f.steps + n) (omega arith)) (later-grows l n (f.steps + n) L Cut s'.0 (omega arith) s'.1) in
          (prefix-at s'.0.events f.state.events es' _ s'.2 (sym f.alike.events ∙ ap (named_events N) s.2) g.0, prefix-at s'.0.records f.state.records rs' rs s'.3 (sym f.alike.records ∙ s.3) g.1)

  m-total : (n : ℕ) → (e : RunEnd) × (st : State) × (run m n M ≡ Ended e st)
  m-total n = let f = begun.follows n in total N m l W n f.0 M begun.after f.1

  m-run : (n : ℕ) → HasRun m a n
  m-run n = let t = m-total n in (t.1.events, t.1.records, t.0, runs-from m sim.entry sim.is_entry a n t.1.events t.1.records t.0 t.1 t.2 refl refl)

  -- a run that comes to an end with more steps is not lost before
  l-run-by : (n k : ℕ) (e : RunEnd) (st : State) → n ≤ k → run l k L ≡ Ended e st → HasRun l a n
  l-run-by n k e st le h =
      let t = some-end (run l n L) (λ j. jam-ended e st (sym (longer l n k L Jam le tt j) ∙ h)) in
      (t.1.events, t.1.records, t.0, runs-from l sim.lowered_entry sim.is_lowered_entry a n t.1.events t.1.records t.0 t.1 t.2 refl refl)

  l-run : (n : ℕ) → HasRun l a n
  l-run n = by-case (m-total ((n + 1) * W))
    where
      by-end : (e : RunEnd) (st : State) → run m ((n + 1) * W) M ≡ Ended e st → (e ≡ Cut) ⊎ IsOverEnd e → HasRun l a n
      by-end e st h (inl c) =
          let g = going ((n + 1) * W) st (h ∙ ap (λ k. Ended k st) c) in
          let f = g.2 in
          let lt = more-than n g.0 f.steps W g.1 f.bound in
          l-run-by n f.steps Cut f.after.state (omega arith) (after-steps l f.steps 0 f.steps L f.after f.goes (omega arith) ∙ run-zero l f.after)
      by-end e st h (inr o) =
          let f = ended ((n + 1) * W) e st o h in
          l-run-by n (f.steps + n) (named_end N e) f.state (omega arith) (f.by (f.steps + n) (omega arith))

      by-case : (e : RunEnd) × (st : State) × (run m ((n + 1) * W) M ≡ Ended e st) → HasRun l a n
      by-case t = by-end t.0 t.1 t.2 (cut-or-over t.0)

pub same-behaviour : (m l : Module) (N : Naming) (W : ℕ) → Simulation m l N W → SameBehaviour m l N W
same-behaviour m l N W sim = record {
  forth = λ a. forth m l N W sim a;
  back = λ a. back m l N W sim a;
  cut_forth = λ a. cut-forth m l N W sim a;
  cut_back = λ a. cut-back m l N W sim a;
}

pub both-run : (m l : Module) (N : Naming) (W : ℕ) → Simulation m l N W → (a : List Answer) (n : ℕ) → HasRun m a n × HasRun l a n
both-run m l N W sim a n = (m-run m l N W sim a n, l-run m l N W sim a n)
