-- The search after the last component is closed.
use Rattle.std.proofs.Common.{◌≡◌, ℕ, ◌<◌, ◌≤◌, nat_le, Bool, true, false, if◌then◌else◌, List, [], ◌∷◌, ◌++◌, take, length, refl, sym, ap, ◌∙◌, subst, arith, inl, inr, Contains, slice_get, Some, None, Option}
use Rattle.std.proofs.lemmas.Bool.Decides.{nat_tests}
use Rattle.graph_cycles.specs.declared.search.Mark.{Mark}
use Rattle.graph_cycles.specs.declared.search.Mark.TheVariants as mark
use Rattle.graph_cycles.specs.declared.search.Start.{Start}
use Rattle.graph_cycles.specs.Cycles.{Graph, successors, IsWalk, IsOnCycle}
use Rattle.graph_cycles.specs.code.Search.{is_done, closed_from, IsMet, done, inside, waits, IsComponent, AreComponents, first_member, IsSearch}
use Rattle.graph_cycles.proofs.Lists.{get-within, get-past, get-take, take-cases, length-take}
use Rattle.graph_cycles.proofs.Components.{first-member-push, split, change}

-- what is done leads to what is done
pub done-walk : (g : Graph) (marks : List Mark) → ((v w : ℕ) → is_done (slice_get marks v) ≡ true → Contains (successors g v) w → is_done (slice_get marks w) ≡ true) → (u v : ℕ) (ws : List ℕ) → IsWalk g u ws v → is_done (slice_get marks u) ≡ true → is_done (slice_get marks v) ≡ true
done-walk g marks h u v [] a d = subst (λ z. is_done (slice_get marks z) ≡ true) a d
done-walk g marks h u v (w ∷ ws) a d = done-walk g marks h w v ws a.1 (h u w d a.0)

mark-bool : (b c : Bool) → Some (mark.Closed b) ≡ Some (mark.Closed c) → b ≡ c
mark-bool b c e = cc

mark-open : (p q : ℕ) → Some (mark.Open p) ≡ Some (mark.Open q) → p ≡ q
mark-open p q e = cc

module _ (g : Graph) (marks new : List Mark) (opens targets : List ℕ) (ss : List Start) (last : Start) (s : IsSearch g marks opens targets (ss ++ last ∷ [])) (none_waits : length targets ≤ last.targets) (sized : length new ≡ length marks) (is : (w : ℕ) → slice_get new w ≡ closed_from last.members last.cyclic (slice_get marks w)) where
  parts : AreComponents g marks opens targets last.members last.targets ss × IsComponent g marks opens targets last (length opens) (length targets)
  parts = split g marks opens targets (length opens) (length targets) ss last s.components

  abbrev O : List ℕ
  O = take last.members opens

  within : last.members ≤ length opens
  within = let h = parts.1.nonempty in omega (arith, h)

  closes : (w p : ℕ) → slice_get marks w ≡ Some (mark.Open p) → last.members ≤ p → slice_get new w ≡ Some (mark.Closed last.cyclic)
  closes w p e l = is w ∙ (ap (closed_from last.members last.cyclic) e ∙ at (nat_le last.members p) (grind (arith, nat_tests)))
    where
      at : (b : Bool) → b ≡ true → (if b then Some (mark.Closed last.cyclic) else Some (mark.Open p)) ≡ Some (mark.Closed last.cyclic)
      at true f = refl
      at false f = cc

  stays-open : (w p : ℕ) → slice_get marks w ≡ Some (mark.Open p) → p < last.members → slice_get new w ≡ Some (mark.Open p)
  stays-open w p e l = is w ∙ (ap (closed_from last.members last.cyclic) e ∙ at (nat_le last.members p) (grind (arith, nat_tests)))
    where
      at : (b : Bool) → b ≡ false → (if b then Some (mark.Closed last.cyclic) else Some (mark.Open p)) ≡ Some (mark.Open p)
      at true f = cc
      at false f = refl

  -- what the mark was
  pub data Was (w : ℕ) (o n : Option Mark) : Type 0 where
    same : n ≡ o → Was w o n
    shut : (p : ℕ) → o ≡ Some (mark.Open p) → last.members ≤ p → n ≡ Some (mark.Closed last.cyclic) → Was w o n

  was-open : (w p : ℕ) (b : Bool) → nat_le last.members p ≡ b → Was w (Some (mark.Open p)) (if b then Some (mark.Closed last.cyclic) else Some (mark.Open p))
  was-open w p true e = shut p refl (grind (arith, nat_tests)) refl
  was-open w p false e = same refl

  was-any : (w : ℕ) (o : Option Mark) → Was w o (closed_from last.members last.cyclic o)
  was-any w None = same refl
  was-any w (Some mark.Unseen) = same refl
  was-any w (Some (mark.Open p)) = was-open w p (nat_le last.members p) refl
  was-any w (Some (mark.Closed b)) = same refl

  was : (w : ℕ) → Was w (slice_get marks w) (slice_get new w)
  was w = subst (λ n. Was w (slice_get marks w) n) (sym (is w)) (was-any w (slice_get marks w))

  done-after : (o n : Option Mark) (w : ℕ) → Was w o n → is_done o ≡ true → is_done n ≡ true
  done-after o n w (same e) d = ap is_done e ∙ d
  done-after o n w (shut p e l f) d = ap is_done f

  done-still : (w : ℕ) → is_done (slice_get marks w) ≡ true → is_done (slice_get new w) ≡ true
  done-still w d = done-after (slice_get marks w) (slice_get new w) w (was w) d

  -- what the last component leads to is done now
  met-last : (w : ℕ) → IsMet marks targets last w → is_done (slice_get new w) ≡ true
  met-last w (done d) = done-still w d
  met-last w (inside p e m h) = ap is_done (closes w p e m)
  met-last w (waits q le e) = absurd (get-past targets q w (omega (arith, le, none_waits)) e)

  met-still : (x : Start) (w : ℕ) → IsMet marks targets x w → IsMet new targets x w
  met-still x w (done d) = done (done-still w d)
  met-still x w (inside p e m h) = at (slice_get marks w) (slice_get new w) refl refl (was w)
    where
      at : (o n : Option Mark) → slice_get marks w ≡ o → slice_get new w ≡ n → Was w o n → IsMet new targets x w
      at o n eo en (same q) = inside p (en ∙ (q ∙ (sym eo ∙ e))) m h
      at o n eo en (shut p' q l f) = done (ap is_done (en ∙ f))
  met-still x w (waits q le e) = waits q le e

  still : (x : Start) (a b : ℕ) → a ≤ last.members → b ≤ last.targets → IsComponent g marks opens targets x a b → IsComponent g new O targets x a b
  still x a b la lb c =
      let ne = c.nonempty in
      record {
        nonempty = c.nonempty;
        fits = c.fits;
        back = λ j r u mj ja er eu. c.back j r u mj ja (take-cases last.members opens x.members r er).1 (take-cases last.members opens j u eu).1;
        cyclic = λ f j u mj ja eu. c.cyclic f j u mj ja (take-cases last.members opens j u eu).1;
        single = c.single;
        ahead = λ q j u w lq ja eu et. c.ahead q j u w lq ja (take-cases last.members opens j u eu).1 et;
        met = λ j u w mj eu cw. met-still x w (c.met j u w mj (take-cases last.members opens j u eu).1 cw);
      }

  closed-at : (v w : ℕ) (o n : Option Mark) → slice_get marks v ≡ o → Was v o n → is_done n ≡ true → Contains (successors g v) w → is_done (slice_get new w) ≡ true
  closed-at v w o n eo (same e) d c = done-still w (s.closed v w (ap is_done eo ∙ (ap is_done (sym e) ∙ d)) c)
  closed-at v w o n eo (shut p e l f) d c = met-last w (parts.1.met p v w l (s.numbered.opened v p (eo ∙ e)) c)

  -- a component that isn't cyclic
  no-cycle : (v p : ℕ) → last.cyclic ≡ false → slice_get marks v ≡ Some (mark.Open p) → last.members ≤ p → IsOnCycle g v → ⊥
  no-cycle v p f e l h = from (parts.1.met p v h.first l (s.numbered.opened v p e) h.edge)
    where
      from-done : is_done (slice_get marks h.first) ≡ true → ⊥
      from-done d = let z = done-walk g marks s.closed h.first v h.rest.walk h.rest.is d in absurd (cc)

      from : IsMet marks targets last h.first → ⊥
      from (done d) = from-done d
      from (inside n k m (inl c)) = absurd (cc)
      from (inside n k m (inr c)) = let z = parts.1.single f in let y = get-within opens n h.first (s.numbered.opened h.first n k) in absurd (omega (arith, z, y, c))
      from (waits q le k) = absurd (get-past targets q h.first (omega (arith, le, none_waits)) k)

  right-shut : (v p : ℕ) → slice_get marks v ≡ Some (mark.Open p) → last.members ≤ p → (c : Bool) → last.cyclic ≡ c → (last.cyclic ≡ true → IsOnCycle g v) × (IsOnCycle g v → last.cyclic ≡ true)
  right-shut v p e l true f = ((λ t. parts.1.cyclic t p v l (get-within opens p v (s.numbered.opened v p e)) (s.numbered.opened v p e)), (λ h. f))
  right-shut v p e l false f = ((λ t. absurd (cc)), (λ h. absurd (no-cycle v p f e l h)))

  right-at : (v : ℕ) (b : Bool) (o n : Option Mark) → slice_get marks v ≡ o → Was v o n → n ≡ Some (mark.Closed b) → (b ≡ true → IsOnCycle g v) × (IsOnCycle g v → b ≡ true)
  right-at v b o n eo (same e) f = s.right v b (eo ∙ (sym e ∙ f))
  right-at v b o n eo (shut p e l q) f = subst (λ z. (z ≡ true → IsOnCycle g v) × (IsOnCycle g v → z ≡ true)) (mark-bool last.cyclic b (sym q ∙ f)) (right-shut v p (eo ∙ e) l last.cyclic refl)

  opened-at : (v p : ℕ) (o n : Option Mark) → slice_get marks v ≡ o → slice_get new v ≡ n → Was v o n → n ≡ Some (mark.Open p) → slice_get O p ≡ Some v
  opened-at v p o n eo en (same e) f = below-at (nat_le last.members p) refl
    where
      was-it : slice_get marks v ≡ Some (mark.Open p)
      was-it = eo ∙ (sym e ∙ f)

      below-at : (b : Bool) → nat_le last.members p ≡ b → slice_get O p ≡ Some v
      below-at true l = let z = closes v p was-it (grind (arith, nat_tests)) in absurd (let y : Some (mark.Closed last.cyclic) ≡ Some (mark.Open p) = sym z ∙ (en ∙ f) in cc)
      below-at false l = get-take last.members opens p (grind (arith, nat_tests)) ∙ s.numbered.opened v p was-it
  opened-at v p o n eo en (shut p' e l q) f = absurd (let y : Some (mark.Closed last.cyclic) ≡ Some (mark.Open p) = sym q ∙ f in cc)

  pub IsSearch-closed : IsSearch g new O targets ss
  IsSearch-closed =
      let lt = length-take last.members opens within in
      record {
        sized = sized ∙ s.sized;
        numbered = record {
          opened = λ v p e. opened-at v p (slice_get marks v) (slice_get new v) refl refl (was v) e;
          marked = λ v p e. let h = take-cases last.members opens p v e in stays-open v p (s.numbered.marked v p h.1) h.0;
        };
        ahead = λ i j u w ij eu ew. s.ahead i j u w ij (take-cases last.members opens i u eu).1 (take-cases last.members opens j w ew).1;
        closed = λ v w d c. closed-at v w (slice_get marks v) (slice_get new v) refl (was v) d c;
        right = λ v b e. right-at v b (slice_get marks v) (slice_get new v) refl (was v) e;
        components = subst (λ n. AreComponents g new O targets n (length targets) ss) (sym lt) (refitted parts.0);
        first = ap (λ n. first_member n ss) lt ∙ (sym (first-member-push (length opens) ss last) ∙ s.first);
      }
    where
      refitted : AreComponents g marks opens targets last.members last.targets ss → AreComponents g new O targets last.members (length targets) ss
      refitted c =
          let f = parts.1.fits in
          let e : last.targets ≡ length targets = omega (arith, f, none_waits) in
          subst (λ k. AreComponents g new O targets last.members k ss) e (change g marks opens targets new O targets last.members last.targets still ss c)
