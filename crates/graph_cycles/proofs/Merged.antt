-- The search after an edge leads back to an open node.
use Rattle.std.proofs.Common.{◌≡◌, ℕ, ◌<◌, ◌≤◌, true, List, [], ◌∷◌, ◌++◌, length, refl, sym, ◌∙◌, subst, arith, inl, inr, slice_get, Some}
use Rattle.graph_cycles.specs.declared.search.Mark.{Mark}
use Rattle.graph_cycles.specs.declared.search.Mark.TheVariants as mark
use Rattle.graph_cycles.specs.declared.search.Search.{Search}
use Rattle.graph_cycles.specs.declared.search.Start.{Start}
use Rattle.graph_cycles.specs.Cycles.{Graph, Reaches, LeadsTo}
use Rattle.graph_cycles.specs.code.Search.{IsMet, done, inside, waits, IsComponent, AreComponents, first_member, IsSearch, MergesAt}
use Rattle.graph_cycles.proofs.Lists.{get-within, get-some, get-left, push-cases}
use Rattle.graph_cycles.proofs.Walks.{leads-on, then-leads, reaches-of}
use Rattle.graph_cycles.proofs.Components.{first-member-push, join, split, change}
use Rattle.graph_cycles.proofs.Begins.{led}

-- while later components are taken away
pub record Merging (g : Graph) (marks : List Mark) (opens targets : List ℕ) (k p : ℕ) (starts : List Start) : Type 0 where
  pub below : ℕ
  pub wait_below : ℕ
  pub has : p < below
  pub within : below ≤ length opens
  pub waits_within : wait_below ≤ k
  pub components : AreComponents g marks opens targets below wait_below starts
  pub first : first_member below starts ≡ 0

module _ (g : Graph) (marks : List Mark) (opens targets : List ℕ) (k p : ℕ) where
  pub Merging-start : (ss : List Start) → p < length opens → first_member (length opens) ss ≡ 0 → AreComponents g marks opens targets (length opens) k ss → Merging g marks opens targets k p ss
  Merging-start ss l f c = record { below = length opens; wait_below = k; has = l; within = omega arith; waits_within = omega arith; components = c; first = f }

  pub Merging-less : (ss : List Start) (s : Start) → p < s.members → Merging g marks opens targets k p (ss ++ s ∷ []) → Merging g marks opens targets k p ss
  Merging-less ss s l m =
      let h = split g marks opens targets m.below m.wait_below ss s m.components in
      let a = h.1.nonempty in
      let b = h.1.fits in
      let c = m.within in
      let d = m.waits_within in
      record {
        below = s.members;
        wait_below = s.targets;
        has = l;
        within = omega (arith, a, c);
        waits_within = omega (arith, b, d);
        components = h.0;
        first = sym (first-member-push m.below ss s) ∙ m.first;
      }

  pub Merging-none : Merging g marks opens targets k p [] → ⊥
  Merging-none m = let a = m.has in let b = m.first in absurd (omega (arith, a, b))

pub MergesAt-end : (g : Graph) (old new : Search) (targets : List ℕ) (k p : ℕ) (ss : List Start) (s : Start) → s.members ≤ p → new.starts ≡ ss ++ record { members = s.members; targets = s.targets; cyclic = true } ∷ [] → Merging g old.marks old.opens targets k p (ss ++ s ∷ []) → MergesAt g targets k p old new
MergesAt-end g old new targets k p ss s l e m =
    let h = split g old.marks old.opens targets m.below m.wait_below ss s m.components in
    record {
      before = ss;
      last = s;
      below = m.below;
      wait_below = m.wait_below;
      is = e;
      starts_at = l;
      has = m.has;
      within = m.within;
      waits_within = m.waits_within;
      component = h.1;
      components = h.0;
      first = sym (first-member-push m.below ss s) ∙ m.first;
    }

module _ (g : Graph) (marks : List Mark) (opens targets : List ℕ) (t : ℕ) (ss : List Start) (fits : (before : List Start) (last : Start) → ss ≡ before ++ last ∷ [] → last.targets ≤ length targets) (s : IsSearch g marks opens (targets ++ t ∷ []) ss) where
  abbrev wait : List ℕ
  wait = targets ++ t ∷ []

  module _ (p : ℕ) (at-t : slice_get marks t ≡ Some (mark.Open p)) (before : List Start) (last : Start) (below wait_below : ℕ) (starts_at : last.members ≤ p) (has : p < below) (within : below ≤ length opens) (waits_within : wait_below ≤ length targets) (c : IsComponent g marks opens wait last below wait_below) (cs : AreComponents g marks opens wait last.members last.targets before) (zero_first : first_member last.members before ≡ 0) where
    led-to : (j u : ℕ) → slice_get opens j ≡ Some u → LeadsTo g u t
    led-to j u e = led g marks opens targets t ss fits s j u (get-within opens j u e) e

    root : (r : ℕ) × (slice_get opens last.members ≡ Some r)
    root = get-some opens last.members (omega (arith, starts_at, has, within))

    to-root : (r : ℕ) → slice_get opens last.members ≡ Some r → Reaches g t r
    to-root r e = c.back p r t starts_at has e (s.numbered.opened t p at-t)

    led-root : (j u r : ℕ) → slice_get opens j ≡ Some u → slice_get opens last.members ≡ Some r → LeadsTo g u r
    led-root j u r e f = leads-on g u t r (led-to j u e) (to-root r f)

    t-is : (w : ℕ) → t ≡ w → slice_get marks w ≡ Some (mark.Open p)
    t-is w e = subst (λ z. slice_get marks z ≡ Some (mark.Open p)) e at-t

    abbrev merged : Start
    merged = record { members = last.members; targets = last.targets; cyclic = true }

    met-merged : (w : ℕ) → IsMet marks wait last w → IsMet marks targets merged w
    met-merged w (done d) = done d
    met-merged w (inside n e m h) = inside n e m (inl refl)
    met-merged w (waits q le e) = elim (push-cases targets t q w e) [ inl h ↦ waits q le h.1 | inr h ↦ inside p (t-is w h.1) starts_at (inl refl) ]

    met-before : (x : Start) (w : ℕ) → x.members < last.members → IsMet marks wait x w → IsMet marks targets x w
    met-before x w l (done d) = done d
    met-before x w l (inside n e m h) = inside n e m h
    met-before x w l (waits q le e) = elim (push-cases targets t q w e) [ inl h ↦ waits q le h.1 | inr h ↦ inside p (t-is w h.1) (omega (arith, l, starts_at)) (inr (omega (arith, l, starts_at))) ]

    waits-still : (q w : ℕ) → slice_get targets q ≡ Some w → slice_get wait q ≡ Some w
    waits-still q w e = get-left targets (t ∷ []) q (get-within targets q w e) ∙ e

    one : IsComponent g marks opens targets merged (length opens) (length targets)
    one =
        let ne = c.nonempty in
        let fi = c.fits in
        record {
          nonempty = omega (arith, ne, within);
          fits = omega (arith, fi, waits_within);
          back = λ j r u mj ja er eu. reaches-of g u r (led-root j u r eu er);
          cyclic = λ f j u mj ja eu. leads-on g u root.0 u (led-root j u root.0 eu root.1) (s.ahead last.members j root.0 u mj root.1 eu);
          single = λ f. cc;
          ahead = λ q j u w lq ja eu et. then-leads g u root.0 w (reaches-of g u root.0 (led-root j u root.0 eu root.1)) (c.ahead q last.members root.0 w lq ne root.1 (waits-still q w et));
          met = λ j u w mj eu cw. met-merged w (c.met j u w mj eu cw);
        }

    still : (x : Start) (a b : ℕ) → a ≤ last.members → b ≤ last.targets → IsComponent g marks opens wait x a b → IsComponent g marks opens targets x a b
    still x a b la lb d =
        let ne = d.nonempty in
        record {
          nonempty = d.nonempty;
          fits = d.fits;
          back = d.back;
          cyclic = d.cyclic;
          single = d.single;
          ahead = λ q j u w lq ja eu et. d.ahead q j u w lq ja eu (waits-still q w et);
          met = λ j u w mj eu cw. met-before x w (omega (arith, ne, la)) (d.met j u w mj eu cw);
        }

    pub IsSearch-merged : IsSearch g marks opens targets (before ++ merged ∷ [])
    IsSearch-merged = record {
      sized = s.sized;
      numbered = s.numbered;
      ahead = s.ahead;
      closed = s.closed;
      right = s.right;
      components = join g marks opens targets (length opens) (length targets) before merged (change g marks opens wait marks opens targets last.members last.targets still before cs) one;
      first = first-member-push (length opens) before merged ∙ zero_first;
    }
