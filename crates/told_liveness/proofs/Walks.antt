-- Points of a level are those that a walk leads from to a use, with no definition before it; and the test of one function.
use Rattle.std.proofs.Common.{◌≡◌, ◌∙◌, ◌⊎◌, ◌↔◌, inl, inr, ⊎_elim, ℕ, zero, suc, ◌==◌, Bool, true, false, not, List, [], ◌∷◌, refl, sym, ap, subst, Contains, eqb-true, eq-eqb, true≢false}
use Rattle.std.specs.List.{list_any}
use Rattle.std.proofs.lemmas.Bool.{not-true}
use Rattle.ir_values.specs.declared.ids.FuncId.{FuncId}
use Rattle.ir_values.specs.declared.ids.LocalId.{LocalId}
use Rattle.ir_module.specs.declared.places.Point.{Point}
use Rattle.ir_module.specs.declared.tree.Function.{Function}
use Rattle.ir_module.specs.Operands.{step_defines}
use Rattle.ir_module.specs.Steps.{NoStep, step_of_point}
use Rattle.name_flow.specs.Uses.{step_reads}
use Rattle.name_flow.specs.Walks.{successors, IsLive, IsWalk, ReadsFirst}
use Rattle.told_liveness.proofs.Levels.{IsOnward, IsSilent, all-within, by-read, by-step, closed-level, within, within-cases}
use Rattle.told_liveness.proofs.Lists.{any-has, has-any}
use Rattle.told_liveness.proofs.Points.{func-stays, point-listed, points_of}

-- whether a name is one of the list
abbrev is_among : LocalId → List LocalId → Bool
is_among x ys = list_any (λ (y : LocalId). y.0 == x.0) ys

-- names of one number are one name
same-name : (x y : LocalId) → y.0 ≡ x.0 → y ≡ x
same-name x y e = ap (λ n. let z : LocalId = record { 0 = n } in z) e

-- the test finds names of the list alone
among-contains : (x : LocalId) (ys : List LocalId) → is_among x ys ≡ true → Contains ys x
among-contains x ys e = let h = any-has (λ (y : LocalId). y.0 == x.0) ys e in subst (Contains ys) (same-name x h.of (eqb-true h.of.0 x.0 h.passes)) h.within

-- and each of them
contains-among : (x : LocalId) (ys : List LocalId) → Contains ys x → is_among x ys ≡ true
contains-among x ys c = has-any (λ (y : LocalId). y.0 == x.0) ys x c (eq-eqb x.0 x.0 refl)

-- what it doesn't find isn't there
outside : (x : LocalId) (ys : List LocalId) → not (is_among x ys) ≡ true → ¬ Contains ys x
outside x ys e c = absurd (true≢false (sym (contains-among x ys c) ∙ not-true (is_among x ys) e))

-- and what isn't there it doesn't find
not-among : (x : LocalId) (ys : List LocalId) → ¬ Contains ys x → not (is_among x ys) ≡ true
not-among x ys n = by (is_among x ys) refl
  where
    by : (b : Bool) → is_among x ys ≡ b → not b ≡ true
    by true e = absurd (n (among-contains x ys e))
    by false e = refl

module _ (f : Function) (x : LocalId) where
  -- whether the step at a point reads the name
  abbrev reads_here : Point → Bool
  reads_here p = is_among x (step_reads f p.block (step_of_point f p))

  -- whether it defines the name
  abbrev defines_here : Point → Bool
  defines_here p = is_among x (step_defines (step_of_point f p))

  -- the points that it leads to
  abbrev leads_to : Point → List Point
  leads_to p = successors p (step_of_point f p)

  -- some walk of fewer than n steps reads the name first
  abbrev live_within : ℕ → Point → Bool
  live_within = within reads_here defines_here leads_to

  -- from a point of a level leads such a walk
  level-walks : (n : ℕ) (p : Point) → live_within n p ≡ true → IsLive f p x
  level-walks zero p e = absurd (true≢false (sym e))
  level-walks (suc n) p e = ⊎_elim read (λ o. onward (λ q h. level-walks n q h) o) (within-cases reads_here defines_here leads_to n p e)
    where
      read : reads_here p ≡ true → IsLive f p x
      read r = record { walk = []; follows = tt; reads = among-contains x (step_reads f p.block (step_of_point f p)) r }

      onward : ((q : Point) → live_within n q ≡ true → IsLive f q x) → IsOnward reads_here defines_here leads_to n p → IsLive f p x
      onward more o =
          let h = any-has (live_within n) (leads_to p) o.1 in
          let w = more h.of h.passes in
          record { walk = h.of ∷ w.walk; follows = (h.within, w.follows); reads = (outside x (step_defines (step_of_point f p)) o.0, w.reads) }

  -- a point that such a walk leads from is of a level
  walk-level : (walk : List Point) (p : Point) → IsWalk f p walk → ReadsFirst f x p walk → (n : ℕ) × (live_within n p ≡ true)
  walk-level [] p w r = (1, by-read reads_here defines_here leads_to 0 p (contains-among x (step_reads f p.block (step_of_point f p)) r))
  walk-level (q ∷ qs) p w r =
      let h = walk-level qs q w.1 r.1 in
      (suc h.0, by-step reads_here defines_here leads_to h.0 p (not-among x (step_defines (step_of_point f p)) r.0) (has-any (live_within h.0) (leads_to p) q w.0 h.1))

  -- the points of a function number
  module _ (g : FuncId) where
    abbrev IsIn : Point → Type 0
    IsIn p = p.func ≡ g

    -- walks stay in the function
    stays : (p q : Point) → IsIn p → Contains (leads_to p) q → IsIn q
    stays p q i c = func-stays p (step_of_point f p) q c ∙ i

    -- a point without a step is silent
    silent : (p : Point) → step_of_point f p ≡ NoStep → IsSilent reads_here defines_here leads_to p
    silent p e = (ap (λ s. is_among x (step_reads f p.block s)) e, ap (successors p) e)

    -- all other points of the function are listed
    listed : (p : Point) → IsIn p → Contains (points_of g f) p ⊎ IsSilent reads_here defines_here leads_to p
    listed p i = ⊎_elim (λ c. inl (subst (λ h. Contains (points_of h f) p) i c)) (λ e. inr (silent p e)) (point-listed f p)

    -- the level where no more points come in
    abbrev level : ℕ
    level = (closed-level reads_here defines_here leads_to IsIn stays (points_of g f) listed).0

    -- so each point where the name is live is in it
    walk-at-level : (p : Point) → IsIn p → IsLive f p x → live_within level p ≡ true
    walk-at-level p i l =
        let h = walk-level l.walk p l.follows l.reads in
        all-within reads_here defines_here leads_to IsIn stays (points_of g f) listed level
        (closed-level reads_here defines_here leads_to IsIn stays (points_of g f) listed).1 h.0 p i h.1

-- whether the name is live at the point of this function
pub live_at : Function → Point → LocalId → Bool
live_at f p x = live_within f x (level f x p.func) p

-- the test tells exactly the live names
pub live-exactly : (f : Function) (p : Point) (x : LocalId) → (live_at f p x ≡ true) ↔ IsLive f p x
unfolding live_at
live-exactly f p x = ((λ e. level-walks f x (level f x p.func) p e), (λ l. walk-at-level f x p.func p refl l))
