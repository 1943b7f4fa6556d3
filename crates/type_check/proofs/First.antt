-- What the search finds is the first fault, and where it finds none there is none.
use Rattle.std.proofs.Common.{◌≡◌, ◌⊎◌, inl, inr, ⊎_elim, ℕ, ◌<◌, ◌≤◌, Bool, true, false, not, cond, Option, None, Some, is_none, find, List, [], ◌∷◌, refl, sym, ap, ◌∙◌, subst, arith}
use Rattle.std.proofs.lemmas.Bool.{ltb-true}
use Rattle.std.specs.Cmp.{unsigned_Decides}
use Rattle.std.specs.List.{list_all}
use Rattle.std.specs.Prelude.{⊤, nat_lt, ◌==◌, ◌&&◌}
use Rattle.ir_module.specs.declared.places.Spot.{Spot}
use Rattle.ir_module.specs.declared.tree.Module.{Module}
use Rattle.ir_module.specs.Places.{IsBefore}
use Rattle.type_check.specs.declared.code.TypeCode.{TypeCode}
use Rattle.type_check.specs.declared.code.TypeCode.TheVariants as code
use Rattle.type_check.specs.Faults.{keeps_rule, EntryIsRight, Fault, Typed, group, number, IsFirstFault}
use Rattle.ir_module.specs.Spots.{spots}
use Rattle.type_check.specs.code.Search.{broken, first_at, first_in, entry_rules, other_rules, or_else, entry_fault, first_fault}
use Rattle.std.proofs.lemmas.Bool.{and_parts}
use Rattle.type_check.proofs.Spots.{Among, Ascends, covers, spots-ascend}

before-both : (a b : Spot) → IsBefore a b → IsBefore b a → ⊥
before-both a b h i = omega (arith, h, i)

before-itself : (a : Spot) → IsBefore a a → ⊥
before-itself a h = before-both a a h h

differ : (b : Bool) → b ≡ true → b ≡ false → ⊥
differ true e h = cc
differ false e h = cc

-- ---- the rules at one spot

abbrev Rises : List TypeCode → Type 0
Rises [] = ⊤
Rises (c ∷ cs) = ((d : TypeCode) → Among cs d → number c < number d) × Rises cs

module _ (keeps : TypeCode → Bool) where
  abbrev found : List TypeCode → Option TypeCode
  found cs = find (λ c. not (keeps c)) cs

  not-true : (b : Bool) → not b ≡ false → b ≡ true
  not-true true e = refl
  not-true false e = cc

  none-at : (c : TypeCode) (cs : List TypeCode) (b : Bool) → keeps c ≡ b → cond (not b) (Some c) (found cs) ≡ None → (found cs ≡ None → (d : TypeCode) → Among cs d → keeps d ≡ true) → (d : TypeCode) → Among (c ∷ cs) d → keeps d ≡ true
  none-at c cs true e h rest d (inl z) = subst (λ x. keeps x ≡ true) (sym z) e
  none-at c cs true e h rest d (inr a) = rest h d a
  none-at c cs false e h rest d a = cc

  none-broken : (cs : List TypeCode) → found cs ≡ None → (d : TypeCode) → Among cs d → keeps d ≡ true
  none-broken [] h d a = absurd a
  none-broken (c ∷ cs) h d a = none-at c cs (keeps c) refl h (none-broken cs) d a

  record BreaksFirst (cs : List TypeCode) (c : TypeCode) : Type 0 where
    pub breaks : keeps c ≡ false
    pub among : Among cs c
    pub first : (d : TypeCode) → Among cs d → keeps d ≡ false → number d < number c → ⊥

  some-at : (x : TypeCode) (cs : List TypeCode) (c : TypeCode) (b : Bool) → Rises (x ∷ cs) → keeps x ≡ b → cond (not b) (Some x) (found cs) ≡ Some c → (found cs ≡ Some c → BreaksFirst cs c) → BreaksFirst (x ∷ cs) c
  some-at x cs c false r e h rest =
      let z : x ≡ c = cc in
      subst (BreaksFirst (x ∷ cs)) z
      (record {
        breaks = e;
        among = inl refl;
        first = λ d a f lt. ⊎_elim (λ (q : d ≡ x). let n = ap number q in absurd (omega (arith, lt, n))) (λ q. let n = r.0 d q in absurd (omega (arith, lt, n))) a;
      })
  some-at x cs c true r e h rest =
      let q = rest h in record {
        breaks = q.breaks;
        among = inr q.among;
        first = λ d a f lt. ⊎_elim (λ z. differ (keeps d) (subst (λ y. keeps y ≡ true) (sym z) e) f) (λ i. q.first d i f lt) a;
      }

  some-broken : (cs : List TypeCode) (c : TypeCode) → Rises cs → found cs ≡ Some c → BreaksFirst cs c
  some-broken [] c r h = cc
  some-broken (x ∷ cs) c r h = some-at x cs c (keeps x) r refl h (some-broken cs c r.1)

-- ---- the spots

module _ (m : Module) (limit : ℕ) (cs : List TypeCode) (rises : Rises cs) where
  abbrev keeps : Spot → TypeCode → Bool
  keeps s c = keeps_rule m limit s c

  none-spot : (s : Spot) (ss : List Spot) (o : Option TypeCode) → broken m limit cs s ≡ o → first_at s o (first_in m limit cs ss) ≡ None → (first_in m limit cs ss ≡ None → (t : Spot) (d : TypeCode) → Among ss t → Among cs d → keeps t d ≡ true) → (t : Spot) (d : TypeCode) → Among (s ∷ ss) t → Among cs d → keeps t d ≡ true
  none-spot s ss None e h rest t d (inl z) a = subst (λ x. keeps x d ≡ true) (sym z) (none-broken (keeps s) cs e d a)
  none-spot s ss None e h rest t d (inr i) a = rest h t d i a
  none-spot s ss (Some c) e h rest t d i a = cc

  none-in : (ss : List Spot) → first_in m limit cs ss ≡ None → (t : Spot) (d : TypeCode) → Among ss t → Among cs d → keeps t d ≡ true
  none-in [] h t d i a = absurd i
  none-in (s ∷ ss) h t d i a = none-spot s ss (broken m limit cs s) refl h (none-in ss) t d i a

  record IsFirstIn (ss : List Spot) (x : Spot × TypeCode) : Type 0 where
    pub breaks : keeps x.0 x.1 ≡ false
    pub among : Among cs x.1
    pub at : Among ss x.0
    pub first : (t : Spot) (d : TypeCode) → Among ss t → Among cs d → keeps t d ≡ false → IsBefore t x.0 ⊎ ((t ≡ x.0) × (number d < number x.1)) → ⊥

  some-spot : (s : Spot) (ss : List Spot) (x : Spot × TypeCode) (o : Option TypeCode) → Ascends (s ∷ ss) → broken m limit cs s ≡ o → first_at s o (first_in m limit cs ss) ≡ Some x → (first_in m limit cs ss ≡ Some x → IsFirstIn ss x) → IsFirstIn (s ∷ ss) x
  some-spot s ss x (Some c) up e h rest =
      let b = some-broken (keeps s) cs c rises e in
      let z : ◌≡◌ {A = Spot × TypeCode} (s, c) x = cc in
      subst (IsFirstIn (s ∷ ss)) z
      (record {
        breaks = b.breaks;
        among = b.among;
        at = inl refl;
        first = λ t d i a f.
            ⊎_elim
            (λ (q : IsBefore t s).
            ⊎_elim (λ (y : t ≡ s). before-itself s (subst (λ u. IsBefore u s) y q)) (λ y. before-both s t (up.0 t y) q) i)
            (λ (q : (t ≡ s) × (number d < number c)). b.first d a (subst (λ u. keeps u d ≡ false) q.0 f) q.1);
      })
  some-spot s ss x None up e h rest =
      let r = rest h in record {
        breaks = r.breaks;
        among = r.among;
        at = inr r.at;
        first = λ t d i a f q. ⊎_elim (λ y. differ (keeps t d) (subst (λ u. keeps u d ≡ true) (sym y) (none-broken (keeps s) cs e d a)) f) (λ y. r.first t d y a f q) i;
      }

  some-in : (ss : List Spot) (x : Spot × TypeCode) → Ascends ss → first_in m limit cs ss ≡ Some x → IsFirstIn ss x
  some-in [] x up h = cc
  some-in (s ∷ ss) x up h = some-spot s ss x (broken m limit cs s) up refl h (some-in ss x up.1)

-- ---- the two groups

abbrev rises : List TypeCode → Bool
rises [] = true
rises (c ∷ cs) = list_all (λ d. nat_lt (number c) (number d)) cs && rises cs

each-above : (n : ℕ) (cs : List TypeCode) → list_all (λ d. nat_lt n (number d)) cs ≡ true → (d : TypeCode) → Among cs d → n < number d
each-above n [] h d a = absurd a
each-above n (c ∷ cs) h d (inl z) = subst (λ x. n < number x) (sym z) (ltb-true n (number c) (and_parts (nat_lt n (number c)) (list_all (λ d. nat_lt n (number d)) cs) h).0)
each-above n (c ∷ cs) h d (inr a) = each-above n cs (and_parts (nat_lt n (number c)) (list_all (λ d. nat_lt n (number d)) cs) h).1 d a

rise : (cs : List TypeCode) → rises cs ≡ true → Rises cs
rise [] h = tt
rise (c ∷ cs) h = let p = and_parts (list_all (λ d. nat_lt (number c) (number d)) cs) (rises cs) h in (each-above (number c) cs p.0, rise cs p.1)

entry-rise : Rises entry_rules
entry-rise = rise entry_rules refl

other-rise : (b : Bool) → Rises (other_rules b)
other-rise true = rise (other_rules true) refl
other-rise false = rise (other_rules false) refl

-- the group of the rules of a list
abbrev in_group : ℕ → List TypeCode → Bool
in_group n cs = list_all (λ d. group d == n) cs

each-in : (n : ℕ) (cs : List TypeCode) → in_group n cs ≡ true → (d : TypeCode) → Among cs d → group d ≡ n
each-in n [] h d a = absurd a
each-in n (c ∷ cs) h d (inl z) = ap group z ∙ (unsigned_Decides (group c) n).0 (and_parts (group c == n) (in_group n cs) h).0
each-in n (c ∷ cs) h d (inr a) = each-in n cs (and_parts (group c == n) (in_group n cs) h).1 d a

other-group : (b : Bool) (d : TypeCode) → Among (other_rules b) d → group d ≡ 1
other-group true d a = each-in 1 (other_rules true) refl d a
other-group false d a = each-in 1 (other_rules false) refl d a

entry-group : (d : TypeCode) → Among entry_rules d → group d ≡ 2
entry-group d a = each-in 2 entry_rules refl d a

least-group : (c : TypeCode) → 1 ≤ group c
least-group code.NoEntry = omega arith
least-group code.BadNumberAttr = omega arith
least-group code.EntrySignature = omega arith
least-group c = omega arith

abbrev Placed : Bool → TypeCode → Type 0
Placed b c = Among entry_rules c ⊎ Among (other_rules b) c ⊎ ((b ≡ false) × (c ≡ code.IdRange))

placed : (b : Bool) (c : TypeCode) → Placed b c
placed true code.Types = inr (inl (inl refl))
placed true code.PhiEntries = inr (inl (inr (inl refl)))
placed true code.EntryBlock = inr (inl (inr (inr (inl refl))))
placed true code.SwitchCase = inr (inl (inr (inr (inr (inl refl)))))
placed true code.IdRange = inr (inl (inr (inr (inr (inr (inl refl))))))
placed true code.UnknownDecl = inr (inl (inr (inr (inr (inr (inr (inl refl)))))))
placed true code.ReservedName = inr (inl (inr (inr (inr (inr (inr (inr (inl refl))))))))
placed false code.Types = inr (inl (inl refl))
placed false code.PhiEntries = inr (inl (inr (inl refl)))
placed false code.EntryBlock = inr (inl (inr (inr (inl refl))))
placed false code.SwitchCase = inr (inl (inr (inr (inr (inl refl)))))
placed false code.IdRange = inr (inr (refl, refl))
placed false code.UnknownDecl = inr (inl (inr (inr (inr (inr (inl refl))))))
placed false code.ReservedName = inr (inl (inr (inr (inr (inr (inr (inl refl)))))))
placed b code.NoEntry = inl (inl refl)
placed b code.BadNumberAttr = inl (inr (inl refl))
placed b code.EntrySignature = inl (inr (inr (inl refl)))

no-id : Among (other_rules false) code.IdRange → ⊥
no-id a = absurd (differ-in (other_rules false) refl a)
  where
    is_id : TypeCode → Bool
    is_id code.IdRange = true
    is_id c = false

    differ-in : (cs : List TypeCode) → list_all (λ c. not (is_id c)) cs ≡ true → Among cs code.IdRange → ⊥
    differ-in [] h a = a
    differ-in (c ∷ cs) h (inl z) = differ (not (is_id c)) (and_parts (not (is_id c)) _ h).0 (ap (λ x. not (is_id x)) (sym z))
    differ-in (c ∷ cs) h (inr a) = differ-in cs (and_parts (not (is_id c)) _ h).1 a

module _ (m : Module) (limit : ℕ) where
  pub fault-breaks : (s : Spot) (c : TypeCode) → Fault m limit s c → keeps_rule m limit s c ≡ false
  fault-breaks s code.IdRange h = h.1
  fault-breaks s c h = h

  -- a rule that is broken is a fault, of numbers where the entry is right
  breaks-fault : (s : Spot) (c : TypeCode) → (c ≡ code.IdRange → EntryIsRight m limit) → keeps_rule m limit s c ≡ false → Fault m limit s c
  breaks-fault s code.IdRange right h = (right refl, h)
  breaks-fault s c right h = h

  all-keep : (cs : List TypeCode) → Rises cs → first_in m limit cs (spots m) ≡ None → (s : Spot) (c : TypeCode) → Among cs c → keeps_rule m limit s c ≡ false → ⊥
  all-keep cs r h s c a f = differ (keeps_rule m limit s c) (none-in m limit cs r (spots m) h s c (covers m limit s c f) a) f

  true-of : (b : Bool) → (b ≡ false → ⊥) → b ≡ true
  true-of true h = refl
  true-of false h = absurd (h refl)

  entry-right : entry_fault m limit ≡ None → EntryIsRight m limit
  unfolding keeps_rule
  entry-right h s code.NoEntry = true-of (keeps_rule m limit s code.NoEntry) (all-keep entry_rules entry-rise h s code.NoEntry (inl refl))
  entry-right h s code.BadNumberAttr = true-of (keeps_rule m limit s code.BadNumberAttr) (all-keep entry_rules entry-rise h s code.BadNumberAttr (inr (inl refl)))
  entry-right h s code.EntrySignature = true-of (keeps_rule m limit s code.EntrySignature) (all-keep entry_rules entry-rise h s code.EntrySignature (inr (inr (inl refl))))
  entry-right h s c = refl

  right-keeps : EntryIsRight m limit → (s : Spot) (c : TypeCode) → Among entry_rules c → keeps_rule m limit s c ≡ true
  unfolding keeps_rule
  right-keeps r s c (inl z) = subst (λ x. keeps_rule m limit s x ≡ true) (sym z) (r s code.NoEntry)
  right-keeps r s c (inr (inl z)) = subst (λ x. keeps_rule m limit s x ≡ true) (sym z) (r s code.BadNumberAttr)
  right-keeps r s c (inr (inr (inl z))) = subst (λ x. keeps_rule m limit s x ≡ true) (sym z) (r s code.EntrySignature)
  right-keeps r s c (inr (inr (inr a))) = absurd a

  not-right : (x : Spot × TypeCode) → entry_fault m limit ≡ Some x → EntryIsRight m limit → ⊥
  not-right x h r = let f = some-in m limit entry_rules entry-rise (spots m) x (spots-ascend m) h in differ (keeps_rule m limit x.0 x.1) (right-keeps r x.0 x.1 f.among) f.breaks

  abbrev others : Bool → Option (Spot × TypeCode)
  others b = first_in m limit (other_rules b) (spots m)

  no-fault : entry_fault m limit ≡ None → others true ≡ None → Typed m limit
  no-fault h g s c f =
      ⊎_elim (λ a. all-keep entry_rules entry-rise h s c a (fault-breaks s c f))
      (λ q. ⊎_elim (λ a. all-keep (other_rules true) (other-rise true) g s c a (fault-breaks s c f)) (λ z. true-false z.0) q) (placed true c)
    where
      true-false : true ≡ false → ⊥
      true-false e = cc

  -- a fault among the other rules
  other-first : (b : Bool) (x : Spot × TypeCode) → (b ≡ true → EntryIsRight m limit) → (b ≡ false → EntryIsRight m limit → ⊥) → others b ≡ Some x → IsFirstFault m limit x.0 x.1
  other-first b x right wrong h =
      let f = some-in m limit (other_rules b) (other-rise b) (spots m) x (spots-ascend m) h in
      let g = other-group b x.1 f.among in record {
        fault = breaks-fault x.0 x.1 (λ z. by-flag b right (subst (Among (other_rules b)) z f.among)) f.breaks;
        first = λ s c q p.
            ⊎_elim (λ (lt : group c < group x.1). let k = least-group c in absurd (omega (arith, lt, g, k)))
            (λ (e : (group c ≡ group x.1) × (IsBefore s x.0 ⊎ ((s ≡ x.0) × (number c < number x.1)))).
            ⊎_elim (λ a. let n = entry-group c a in absurd (omega (arith, e.0, g, n)))
            (λ r. ⊎_elim (λ a. f.first s c (covers m limit s c (fault-breaks s c q)) a (fault-breaks s c q) e.1) (λ z. wrong z.0 (of-number s (subst (Fault m limit s) z.1 q))) r)
            (placed b c))
            p;
      }
    where
      by-flag : (b : Bool) → (b ≡ true → EntryIsRight m limit) → Among (other_rules b) code.IdRange → EntryIsRight m limit
      by-flag true right a = right refl
      by-flag false right a = absurd (no-id a)

      of-number : (s : Spot) → Fault m limit s code.IdRange → EntryIsRight m limit
      of-number s q = q.0

  -- a fault of the entry, where the others are kept
  entry-first : (x : Spot × TypeCode) → entry_fault m limit ≡ Some x → others false ≡ None → IsFirstFault m limit x.0 x.1
  entry-first x h g =
      let f = some-in m limit entry_rules entry-rise (spots m) x (spots-ascend m) h in
      let n = entry-group x.1 f.among in
      record {
        fault = breaks-fault x.0 x.1 (λ z. absurd (no-entry x.1 z n)) f.breaks;
        first = λ s c q p.
            ⊎_elim (λ a.
            let k = entry-group c a in
            ⊎_elim (λ (lt : group c < group x.1). absurd (omega (arith, lt, n, k)))
            (λ (e : (group c ≡ group x.1) × (IsBefore s x.0 ⊎ ((s ≡ x.0) × (number c < number x.1)))). f.first s c (covers m limit s c (fault-breaks s c q)) a (fault-breaks s c q) e.1)
            p)
            (λ r. ⊎_elim (λ a. all-keep (other_rules false) (other-rise false) g s c a (fault-breaks s c q)) (λ z. not-right x h (of-number s (subst (Fault m limit s) z.1 q))) r)
            (placed false c);
      }
    where
      no-entry : (c : TypeCode) → c ≡ code.IdRange → group c ≡ 2 → ⊥
      no-entry c z n = let k = ap group z in absurd (omega (arith, k, n))

      of-number : (s : Spot) → Fault m limit s code.IdRange → EntryIsRight m limit
      of-number s q = q.0

  -- ---- both

  none-both : (a b : Option (Spot × TypeCode)) → or_else a b ≡ None → (a ≡ None) × (b ≡ None)
  none-both None b h = (refl, h)
  none-both (Some x) b h = cc

  typed-by : (o : Option (Spot × TypeCode)) → entry_fault m limit ≡ o → or_else (others (is_none o)) o ≡ None → Typed m limit
  typed-by None e h = no-fault e (none-both (others true) None h).0
  typed-by (Some x) e h = absurd (none-some (none-both (others false) (Some x) h).1)
    where
      none-some : ◌≡◌ {A = Option (Spot × TypeCode)} (Some x) None → ⊥
      none-some e = cc

  pub typed : first_fault m limit ≡ None → Typed m limit
  unfolding first_fault
  typed h = typed-by (entry_fault m limit) refl h

  first-by-other : (b : Bool) (o p : Option (Spot × TypeCode)) (x : Spot × TypeCode) → others b ≡ p → (b ≡ true → EntryIsRight m limit) → (b ≡ false → EntryIsRight m limit → ⊥) → (others b ≡ None → o ≡ Some x → IsFirstFault m limit x.0 x.1) → or_else p o ≡ Some x → IsFirstFault m limit x.0 x.1
  first-by-other b o None x e right wrong more h = more e h
  first-by-other b o (Some y) x e right wrong more h = let z : y ≡ x = cc in other-first b x right wrong (e ∙ ap Some z)

  first-by : (o : Option (Spot × TypeCode)) (x : Spot × TypeCode) → entry_fault m limit ≡ o → or_else (others (is_none o)) o ≡ Some x → IsFirstFault m limit x.0 x.1
  first-by None x e h = first-by-other true None (others true) x refl (λ t. entry-right e) (λ t. absurd (true-false t)) (λ n s. absurd (none-some s)) h
    where
      true-false : true ≡ false → ⊥
      true-false e = cc

      none-some : ◌≡◌ {A = Option (Spot × TypeCode)} None (Some x) → ⊥
      none-some e = cc
  first-by (Some y) x e h = first-by-other false (Some y) (others false) x refl (λ t. absurd (false-true t)) (λ t. not-right y e) (λ n s. entry-first x (e ∙ s) n) h
    where
      false-true : false ≡ true → ⊥
      false-true e = cc

  pub first : (x : Spot × TypeCode) → first_fault m limit ≡ Some x → IsFirstFault m limit x.0 x.1
  unfolding first_fault
  first x h = first-by (entry_fault m limit) x refl h

  by-first : (o : Option (Spot × TypeCode)) → first_fault m limit ≡ o → Typed m limit ⊎ ((s : Spot) × (c : TypeCode) × IsFirstFault m limit s c)
  by-first None e = inl (typed e)
  by-first (Some x) e = inr (x.0, x.1, first x e)

  pub typed-or-faulty : Typed m limit ⊎ ((s : Spot) × (c : TypeCode) × IsFirstFault m limit s c)
  typed-or-faulty = by-first (first_fault m limit) refl
