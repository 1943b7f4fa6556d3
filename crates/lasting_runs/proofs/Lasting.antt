-- Two modules of the same behaviour, of which each always has a run.
use Rattle.std.proofs.Common.{◌≡◌, ℕ, ◌+◌, ◌*◌, List, [], ◌∷◌, ◌++◌, refl, sym, ap, ◌∙◌, subst, append_assoc}
use Rattle.std.specs.Prelude.{◌≢◌}
use Rattle.std.proofs.lemmas.List.{map-append}
use Rattle.backend_api.specs.declared.operation.Answer.{Answer}
use Rattle.backend_api.specs.declared.operation.Event.{Event}
use Rattle.backend_api.specs.Naming.{Naming, named_event, named_events}
use Rattle.ir_module.specs.declared.tree.Module.{Module}
use Rattle.output_records.specs.declared.record.Record.{Record}
use Rattle.qir_meaning.specs.Naming.{named_end}
use Rattle.qir_meaning.specs.Runs.{RunEnd, Returned, Trapped, Asks, Cut, Runs, AlwaysRuns}
use Rattle.qir_meaning.specs.Same.{Prefix, SameBehaviour}
use Rattle.qir_meaning.proofs.Bounds.{one-run}
use Rattle.lasting_runs.specs.Lasting.{DoesInTime, EndsSo, GoesOn, HasDone, LastsAlike}

-- an end is cut, or isn't
pub data IsCutOrOver (e : RunEnd) : Type 0 where
  is_cut : e ≡ Cut → IsCutOrOver e
  is_over : e ≢ Cut → IsCutOrOver e

pub cut-or-not : (e : RunEnd) → IsCutOrOver e
cut-or-not (Returned code) = is_over (λ q. cc)
cut-or-not (Trapped why) = is_over (λ q. cc)
cut-or-not (Asks op) = is_over (λ q. cc)
cut-or-not Cut = is_cut refl

-- names don't turn an end into a cut
pub cut-named : (N : Naming) (e : RunEnd) → named_end N e ≡ Cut → e ≡ Cut
cut-named N (Returned code) q = cc
cut-named N (Trapped why) q = cc
cut-named N (Asks op) q = cc
cut-named N Cut q = refl

prefix-trans : {A : Type 0} (xs ys zs : List A) → Prefix xs ys → Prefix ys zs → Prefix xs zs
prefix-trans xs ys zs p q = (p.0 ++ q.0, q.1 ∙ ap (λ l. l ++ q.0) p.1 ∙ append_assoc xs p.0 q.0)

named-prefix : (N : Naming) (xs ys : List Event) → Prefix xs ys → Prefix (named_events N xs) (named_events N ys)
named-prefix N xs ys p = (named_events N p.0, ap (named_events N) p.1 ∙ map-append (named_event N) xs p.0)

-- a beginning of events with other names is that of a beginning of them
abbrev BeginsNamed : Naming → List Event → List Event → Type 0
BeginsNamed N es' es = (xs : List Event) × (named_events N xs ≡ es') × Prefix xs es

begins-cons : (N : Naming) (y : Event) (ys : List Event) (e : Event) (es : List Event) → named_event N e ≡ y → BeginsNamed N ys es → BeginsNamed N (y ∷ ys) (e ∷ es)
begins-cons N y ys e es first r = (e ∷ r.0, (λ i. first i ∷ r.1 i), (r.2.0, ap (λ l. e ∷ l) r.2.1))

begins-named : (N : Naming) (es' es : List Event) → Prefix es' (named_events N es) → BeginsNamed N es' es
begins-named N [] es p = ([], refl, (es, refl))
begins-named N (y ∷ ys) [] p = absurd (no-more p.1)
  where
    no-more : [] ≡ y ∷ (ys ++ p.0) → ⊥
    no-more q = cc
begins-named N (y ∷ ys) (e ∷ es) p =
    let first : named_event N e ≡ y = cc p.1 in
    let more : named_events N es ≡ ys ++ p.0 = cc p.1 in
    begins-cons N y ys e es first (begins-named N ys es (p.0, more))

module _ (m l : Module) (N : Naming) (W : ℕ) (source : AlwaysRuns m) (lowered : AlwaysRuns l) (same : SameBehaviour m l N W) where
  -- ---- neither ends where the other goes on

  follows-source : (a : List Answer) (n : ℕ) → GoesOn m a ((n + 1) * W) → GoesOn l a n
  follows-source a n g = by (cut-or-not end)
    where
      events : List Event
      events = (lowered a n).0

      records : List Record
      records = (lowered a n).1

      end : RunEnd
      end = (lowered a n).2

      run : Runs l a n events records end
      run = (lowered a n).3

      by : IsCutOrOver end → GoesOn l a n
      by (is_cut q) = (events, records, subst (λ e. Runs l a n events records e) q run)
      by (is_over not) =
          let b = same.back a n events records end run not in
          let one = one-run m a ((n + 1) * W) b.0 g.0 records g.1 b.1 Cut b.4 g.2 in
          absurd (not (sym b.3 ∙ ap (named_end N) one.2))

  follows-lowered : (a : List Answer) (n : ℕ) → GoesOn l a (4 * n + 16) → GoesOn m a n
  follows-lowered a n g = by (cut-or-not end)
    where
      events : List Event
      events = (source a n).0

      records : List Record
      records = (source a n).1

      end : RunEnd
      end = (source a n).2

      run : Runs m a n events records end
      run = (source a n).3

      by : IsCutOrOver end → GoesOn m a n
      by (is_cut q) = (events, records, subst (λ e. Runs m a n events records e) q run)
      by (is_over not) =
          let f = same.forth a n events records end run not in
          let one = one-run l a (4 * n + 16) (named_events N events) g.0 records g.1 (named_end N end) Cut f g.2 in
          absurd (not (cut-named N end one.2))

  pub lasts-alike : LastsAlike m l W
  lasts-alike = record {
    source_goes_on = follows-source;
    lowered_goes_on = follows-lowered;
    for_ever = λ a. (λ g n. follows-source a n (g ((n + 1) * W)), λ g n. follows-lowered a n (g (4 * n + 16)));
  }

  -- ---- what they do in time

  done-forth : (a : List Answer) (es : List Event) (rs : List Record) → HasDone m a es rs → HasDone l a (named_events N es) rs
  done-forth a es rs d = by (cut-or-not d.end)
    where
      issued : Prefix (named_events N es) (named_events N d.events)
      issued = named-prefix N es d.events d.issued

      by : IsCutOrOver d.end → HasDone l a (named_events N es) rs
      by (is_cut q) =
          let r = lowered a (4 * d.steps + 16) in
          let p = same.cut_forth a d.steps d.events r.0 d.records r.1 r.2 (subst (λ e. Runs m a d.steps d.events d.records e) q d.run) r.3 in
          record {
            steps = 4 * d.steps + 16;
            events = r.0;
            records = r.1;
            end = r.2;
            run = r.3;
            issued = prefix-trans (named_events N es) (named_events N d.events) r.0 issued p.0;
            written = prefix-trans rs d.records r.1 d.written p.1;
          }
      by (is_over not) = record {
        steps = 4 * d.steps + 16;
        events = named_events N d.events;
        records = d.records;
        end = named_end N d.end;
        run = same.forth a d.steps d.events d.records d.end d.run not;
        issued = issued;
        written = d.written;
      }

  done-back : (a : List Answer) (es' : List Event) (rs : List Record) → HasDone l a es' rs → (es : List Event) × (named_events N es ≡ es') × HasDone m a es rs
  done-back a es' rs d = by (cut-or-not d.end)
    where
      bound : ℕ
      bound = (d.steps + 1) * W

      -- the run of the source that has done as much
      from : (events : List Event) (records : List Record) (end : RunEnd) → Runs m a bound events records end → Prefix es' (named_events N events) → Prefix rs records
          → (es : List Event) × (named_events N es ≡ es') × HasDone m a es rs
      from events records end run issued written =
          let b = begins-named N es' events issued in
          (b.0, b.1, record { steps = bound; events = events; records = records; end = end; run = run; issued = b.2; written = written })

      by : IsCutOrOver d.end → (es : List Event) × (named_events N es ≡ es') × HasDone m a es rs
      by (is_cut q) =
          let r = source a bound in
          let p = same.cut_back a d.steps r.0 d.events r.1 d.records r.2 (subst (λ e. Runs l a d.steps d.events d.records e) q d.run) r.3 in
          from r.0 r.1 r.2 r.3 (prefix-trans es' d.events (named_events N r.0) d.issued p.0) (prefix-trans rs d.records r.1 d.written p.1)
      by (is_over not) =
          let b = same.back a d.steps d.events d.records d.end d.run not in
          from b.0 d.records b.1 b.4 (subst (Prefix es') (sym b.2) d.issued) d.written

  ends-forth : (a : List Answer) (es : List Event) (rs : List Record) (e : RunEnd) → EndsSo m a es rs e → EndsSo l a (named_events N es) rs (named_end N e)
  ends-forth a es rs e d = record {
    steps = 4 * d.steps + 16;
    run = same.forth a d.steps es rs e d.run d.over;
    over = λ q. d.over (cut-named N e q);
  }

  ends-back : (a : List Answer) (es' : List Event) (rs : List Record) (e' : RunEnd) → EndsSo l a es' rs e'
      → (es : List Event) × (e : RunEnd) × (named_events N es ≡ es') × (named_end N e ≡ e') × EndsSo m a es rs e
  ends-back a es' rs e' d =
      let b = same.back a d.steps es' rs e' d.run d.over in
      (b.0, b.1, b.2, b.3, record { steps = (d.steps + 1) * W; run = b.4; over = λ q. d.over (sym b.3 ∙ ap (named_end N) q) })

  pub does-in-time : DoesInTime m l N
  does-in-time = record { done_forth = done-forth; done_back = done-back; ends_forth = ends-forth; ends_back = ends-back }
