-- With the tables of cycles and of calls that lead back the list has exactly the violations of the Adaptive Profile.
use Rattle.std.proofs.Common.{◌≡◌, ◌⊎◌, ◌↔◌, inl, inr, ℕ, Bool, true, false, not, ◌&&◌, ◌==◌, if◌then◌else◌, Option, None, Some, List, [], ◌∷◌, ◌++◌, slice_get, refl, sym, subst, Contains}
use Rattle.ir_module.specs.declared.places.Point.{Point}
use Rattle.ir_module.specs.declared.places.Spot.{Spot}
use Rattle.ir_module.specs.declared.places.Spot.TheVariants as spot
use Rattle.ir_module.specs.declared.tree.Function.{Function}
use Rattle.ir_module.specs.declared.tree.Module.{Module}
use Rattle.ir_module.specs.Steps.{Step, PhiAt, InstAt, TermAt, NoStep, step_of_point}
use Rattle.graph_cycles.specs.Cycles.{IsOnCycle}
use Rattle.profile_rules.specs.code.Tables.{AreTables}
use Rattle.profile_rules.specs.Adaptive.{adaptive_rules_by, ViolatesAdaptive, LoopsAt, CallsAt, ReturnsFrom, block_graph, number_called, ends_block, is_on, is_switch, is_later_return, computes_integers, selects_no_integers, calls_other_function, records_integer, passes_computed_handle, passes_computed_label, backwards_key, switches_key, returns_key, integers_key}
use Rattle.profile_rules.specs.Shared.{initializes_late}
use Rattle.profile_rules.specs.code.Listed.{findings}
use Rattle.profile_rules.specs.Findings.{Rules, Breaks, broken, broken_by_function, broken_by_step, broken_at_point, AreFindings}
use Rattle.profile_rules.proofs.Numbers.{adaptive-numbered}
use Rattle.profile_rules.proofs.Order.{list-exact}
use Rattle.profile_rules.proofs.Positions.{here, there, cases, none}

module _ {A : Type 0} (is : A → Bool) where
  cons-cases : (n : ℕ) (t : A) (rs : List (ℕ × A)) (r : ℕ) → Contains (broken is ((n, t) ∷ rs)) r → ((n ≡ r) × (is t ≡ true)) ⊎ Contains (broken is rs) r
  cons-cases n t rs r h = at (is t) refl h
    where
      at : (b : Bool) → is t ≡ b → Contains (if b then n ∷ broken is rs else broken is rs) r → ((n ≡ r) × (is t ≡ true)) ⊎ Contains (broken is rs) r
      at true e c = elim (cases n r (broken is rs) c) [ inl q ↦ inl (q, e) | inr k ↦ inr k ]
      at false e c = inr c

  cons-has : (n : ℕ) (t : A) (rs : List (ℕ × A)) (r : ℕ) → n ≡ r → is t ≡ true → Contains (broken is ((n, t) ∷ rs)) r
  cons-has n t rs r q e = subst (λ b. Contains (if b then n ∷ broken is rs else broken is rs) r) (sym e) (subst (Contains (n ∷ broken is rs)) q (here n (broken is rs)))

  cons-there : (n : ℕ) (t : A) (rs : List (ℕ × A)) (r : ℕ) → Contains (broken is rs) r → Contains (broken is ((n, t) ∷ rs)) r
  cons-there n t rs r h = at (is t)
    where
      at : (b : Bool) → Contains (if b then n ∷ broken is rs else broken is rs) r
      at true = there n r (broken is rs) h
      at false = h

  last-cases : (rs : List (ℕ × A)) (n : ℕ) (t : A) (r : ℕ) → Contains (broken is (rs ++ (n, t) ∷ [])) r → Contains (broken is rs) r ⊎ ((n ≡ r) × (is t ≡ true))
  last-cases [] n t r h = elim (cons-cases n t [] r h) [ inl k ↦ inr k | inr k ↦ inl k ]
  last-cases (x ∷ rs) n t r h = elim (cons-cases x.0 x.1 (rs ++ (n, t) ∷ []) r h) [ inl k ↦ inl (cons-has x.0 x.1 rs r k.0 k.1) | inr k ↦ (elim (last-cases rs n t r k) [ inl j ↦ inl (cons-there x.0 x.1 rs r j) | inr j ↦ inr j ]) ]

  last-there : (rs : List (ℕ × A)) (n : ℕ) (t : A) (r : ℕ) → Contains (broken is rs) r → Contains (broken is (rs ++ (n, t) ∷ [])) r
  last-there [] n t r h = absurd (none r h)
  last-there (x ∷ rs) n t r h = elim (cons-cases x.0 x.1 rs r h) [ inl k ↦ cons-has x.0 x.1 (rs ++ (n, t) ∷ []) r k.0 k.1 | inr k ↦ cons-there x.0 x.1 (rs ++ (n, t) ∷ []) r (last-there rs n t r k) ]

  last-has : (rs : List (ℕ × A)) (n : ℕ) (t : A) (r : ℕ) → n ≡ r → is t ≡ true → Contains (broken is (rs ++ (n, t) ∷ [])) r
  last-has [] n t r q e = cons-has n t [] r q e
  last-has (x ∷ rs) n t r q e = cons-there x.0 x.1 (rs ++ (n, t) ∷ []) r (last-has rs n t r q e)

three : (a b c : Bool) → ((b && c) && not a) ≡ true → (a ≡ false) × (b ≡ true) × (c ≡ true)
three a false c e = cc
three a true false e = cc
three true true true e = cc
three false true true e = (refl, refl, refl)

of-three : (a b c : Bool) → a ≡ false → b ≡ true → c ≡ true → ((b && c) && not a) ≡ true
of-three a b c e f g = rw (e, f, g) refl

abbrev no_cycle : Point → Bool
no_cycle = λ p. false

abbrev no_return : Point → Step → Bool
no_return = λ p s. false

module _ (m : Module) (e : ℕ) (cyclic : Point → Bool) (returning : Point → Step → Bool) (tables : AreTables m cyclic returning) where
  abbrev Test : Type 0
  Test = Function → Point → Step → Bool

  abbrev first-test : (Point → Bool) → Test
  first-test c f p s = (ends_block s && c p) && not (is_on backwards_key m)

  abbrev last-test : (Point → Step → Bool) → Test
  last-test c f p s = c p s

  -- the rules that need no table
  abbrev plain : List (ℕ × Test)
  plain =
      (7, λ f p s. is_switch s && not (is_on switches_key m))
      ∷ (8, λ f p s. is_later_return f p s && not (is_on returns_key m))
      ∷ (9, λ f p s. computes_integers f s && not (is_on integers_key m))
      ∷ (10, λ f p s. selects_no_integers f s)
      ∷ (11, λ f p s. calls_other_function m s)
      ∷ (12, λ f p s. records_integer m s && not (is_on integers_key m))
      ∷ (13, λ f p s. passes_computed_handle (p.func.0 == e) f s)
      ∷ (14, λ f p s. passes_computed_label m (p.func.0 == e) f s)
      ∷ (15, λ f p s. initializes_late m e p s)
      ∷ []

  abbrev steps : (Point → Bool) → (Point → Step → Bool) → List (ℕ × Test)
  steps c d = (6, first-test c) ∷ (plain ++ (16, last-test d) ∷ [])

  abbrev full : Rules
  full = adaptive_rules_by cyclic returning m e

  abbrev bare : Rules
  bare = adaptive_rules_by no_cycle no_return m e

  module _ (p : Point) (r : ℕ) where
    -- what is broken at a step, by the definition
    abbrev Told : Function → Step → Type 0
    Told f s =
        Contains (broken_by_step bare f p s) r
        ⊎ (((r ≡ 6) × (is_on backwards_key m ≡ false) × ((ends_block s ≡ true) × IsOnCycle (block_graph f) p.block.0))
        ⊎ ((r ≡ 16) × ReturnsFrom m p.func.0 (number_called s)))

    module _ (f : Function) (s : Step) (loops : (cyclic p ≡ true) ↔ IsOnCycle (block_graph f) p.block.0) (calls : (returning p s ≡ true) ↔ ReturnsFrom m p.func.0 (number_called s)) where
      abbrev is : Test → Bool
      is t = t f p s

      abbrev ToldHere : Type 0
      ToldHere =
          Contains (broken is (steps no_cycle no_return)) r
          ⊎ (((r ≡ 6) × (is_on backwards_key m ≡ false) × ((ends_block s ≡ true) × IsOnCycle (block_graph f) p.block.0))
          ⊎ ((r ≡ 16) × ReturnsFrom m p.func.0 (number_called s)))

      told : Contains (broken is (steps cyclic returning)) r → ToldHere
      told h = elim (cons-cases is 6 (first-test cyclic) (plain ++ (16, last-test returning) ∷ []) r h) [ inl k ↦ (let t = three (is_on backwards_key m) (ends_block s) (cyclic p) k.1 in inr (inl (sym k.0, t.0, (t.1, loops.0 t.2)))) | inr k ↦ (elim (last-cases is plain 16 (last-test returning) r k) [ inl j ↦ inl (cons-there is 6 (first-test no_cycle) (plain ++ (16, last-test no_return) ∷ []) r (last-there is plain 16 (last-test no_return) r j)) | inr j ↦ inr (inr (sym j.0, calls.0 j.1)) ]) ]

      plainly : Contains (broken is plain) r → Contains (broken is (steps cyclic returning)) r
      plainly j = cons-there is 6 (first-test cyclic) (plain ++ (16, last-test returning) ∷ []) r (last-there is plain 16 (last-test returning) r j)

      untold : ToldHere → Contains (broken is (steps cyclic returning)) r
      untold (inl h) = elim (cons-cases is 6 (first-test no_cycle) (plain ++ (16, last-test no_return) ∷ []) r h) [ inl k ↦ absurd (let t = three (is_on backwards_key m) (ends_block s) false k.1 in let z : false ≡ true = t.2 in cc) | inr k ↦ (elim (last-cases is plain 16 (last-test no_return) r k) [ inl j ↦ plainly j | inr j ↦ absurd (let z : false ≡ true = j.1 in cc) ]) ]
      untold (inr (inl h)) = cons-has is 6 (first-test cyclic) (plain ++ (16, last-test returning) ∷ []) r (sym h.0) (of-three (is_on backwards_key m) (ends_block s) (cyclic p) h.1 h.2.0 (loops.1 h.2.1))
      untold (inr (inr h)) = cons-there is 6 (first-test cyclic) (plain ++ (16, last-test returning) ∷ []) r (last-has is plain 16 (last-test returning) r (sym h.0) (calls.1 h.1))

    at-step : (f : Function) (s : Step) → ((cyclic p ≡ true) ↔ IsOnCycle (block_graph f) p.block.0) → ((returning p s ≡ true) ↔ ReturnsFrom m p.func.0 (number_called s)) → Contains (broken_by_step full f p s) r ↔ Told f s
    at-step f (PhiAt x) l c = (told f (PhiAt x) l c, untold f (PhiAt x) l c)
    at-step f (InstAt x) l c = (told f (InstAt x) l c, untold f (InstAt x) l c)
    at-step f (TermAt x) l c = (told f (TermAt x) l c, untold f (TermAt x) l c)
    at-step f NoStep l c = ((λ h. absurd (none r h)), back)
      where
        back : Told f NoStep → Contains (broken_by_step full f p NoStep) r
        back (inl h) = h
        back (inr (inl h)) = absurd (let z : false ≡ true = h.2.0 in cc)
        back (inr (inr h)) = absurd h.1

    abbrev ToldAt : Option Function → Type 0
    ToldAt o = Contains (broken_at_point bare o p) r ⊎ (((r ≡ 6) × (is_on backwards_key m ≡ false) × LoopsAt o p) ⊎ ((r ≡ 16) × CallsAt m o p))

    at-point : (o : Option Function) → slice_get m.funcs p.func.0 ≡ o → Contains (broken_at_point full o p) r ↔ ToldAt o
    at-point None q = ((λ h. absurd (none r h)), back)
      where
        back : ToldAt None → Contains (broken_at_point full None p) r
        back (inl h) = h
        back (inr (inl h)) = absurd h.2
        back (inr (inr h)) = absurd h.1
    at-point (Some f) q = at-step f (step_of_point f p) (tables.loops p f q) (tables.calls p f q)

  violation : (s : Spot) (r : ℕ) → Breaks full m s r ↔ ViolatesAdaptive m e s r
  violation spot.Module r = ((λ h. inl h), back)
    where
      back : ViolatesAdaptive m e spot.Module r → Breaks full m spot.Module r
      back (inl h) = h
      back (inr (inl h)) = absurd h.2
      back (inr (inr h)) = absurd h.1
  violation (spot.Func g) r = ((λ h. inl h), back)
    where
      back : ViolatesAdaptive m e (spot.Func g) r → Breaks full m (spot.Func g) r
      back (inl h) = at (slice_get m.funcs g.0) h
        where
          at : (o : Option Function) → Contains (broken_by_function bare g.0 o) r → Contains (broken_by_function full g.0 o) r
          at None k = k
          at (Some f) k = k
      back (inr (inl h)) = absurd h.2
      back (inr (inr h)) = absurd h.1
  violation (spot.At p) r = at-point p r (slice_get m.funcs p.func.0) refl

  -- exactly the violations of the Adaptive Profile
  pub adaptive-exact : AreFindings (ViolatesAdaptive m e) (findings full m)
  adaptive-exact =
      let h = list-exact full (adaptive-numbered cyclic returning m e) m in
      record {
        ordered = h.ordered;
        exact = λ s r. ((λ c. (violation s r).0 ((h.exact s r).0 c)), (λ c. (h.exact s r).1 ((violation s r).1 c)));
      }
