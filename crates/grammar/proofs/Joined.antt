-- Two grammars of one language: their answers joined are those of the union.
use Rattle.std.specs.Prelude.{Ok, Err, nat_lt}
use Rattle.std.proofs.Common.{◌≡◌, ℕ, ◌<◌, Bool, true, false, ◌||◌, cond, List, [], ◌∷◌, ◌++◌, length, ◌⊎◌, inl, inr, refl, sym, ap, ◌∙◌, subst, append_assoc, length-append, arith}
use Rattle.std.proofs.lemmas.Bool.Decides.{nat_tests}
use Rattle.grammar.specs.declared.fault.Fault.{Fault}
use Rattle.grammar.specs.declared.fault.Fault.TheVariants.{Unexpected, Broken}
use Rattle.grammar.specs.Grammar.{Alphabet, Grammar, alt}
use Rattle.grammar.specs.LookAhead.{LL1}
use Rattle.grammar.specs.Language.{Derives, Fine, Marked, Breaks, Front, IsFault, Misread, Answer, Holds}
use Rattle.grammar.specs.code.Reading.{Out, Got, Stop, read, answer}
use Rattle.grammar.specs.Union.{EitherDerives, EitherBreaks, IsEitherFault, EitherMisread, EitherHolds, join_faults, later, join, JoinHolds}
use Rattle.grammar.proofs.Basics.{append_none, or_cases, or_right, or_left}
use Rattle.grammar.proofs.Begin.{Ends}
use Rattle.grammar.proofs.Complete.{front_read}
use Rattle.grammar.proofs.Swap.{Swapped, swaps}
use Rattle.grammar.proofs.Answer.{derives_front, front_prefix, split_cases, last_same, answer_holds, spelled_answered, misread_answered}
use Rattle.grammar.proofs.Same.{fine_of}

module _ (L : Alphabet) {A : Type 0} (g : Grammar L A) (p : LL1 g) where
  marked_ends : (o : Out L A) → Ends L Marked o → Ends L Fine o
  marked_ends (Got x d rest) e = (e.0, tt)
  marked_ends (Stop (Unexpected d) rest) e = (e.0, tt)
  marked_ends (Stop (Broken r) rest) e = absurd e

  marked_fine : (us : List L.Token) → Front g Marked us → Front g Fine us
  marked_fine us h = fine_of L g p us (read g false us) (marked_ends (read g false us) (front_read L g p Marked us h false)) (swaps L g p false us)

  -- what stands before a token that breaks a side rule is fine
  breaks_fine : (us : List L.Token) (t : L.Token) (r : L.Rule) → Front g (Breaks r) (us ++ t ∷ []) → Front g Fine us
  breaks_fine us t r h = go (read g false (us ++ t ∷ [])) (front_read L g p (Breaks r) (us ++ t ∷ []) h false) (swaps L g p false (us ++ t ∷ []))
    where
      go : (o : Out L A) → Ends L (Breaks r) o → Swapped L (Derives g) (Front g) (read g) false (us ++ t ∷ []) o → Front g Fine us
      go (Got x d rest) e s = absurd e.1
      go (Stop (Unexpected d) rest) e s = absurd e.1
      go (Stop (Broken q) rest) e s = let b = e.1 in subst (Front g Fine) (sym (last_same L us s.0 t b.0 (s.1 ∙ ap (λ z. s.0 ++ z) b.1)).0) s.2

  breaks_one : (us : List L.Token) (r q : L.Rule) → Front g (Breaks r) us → Front g (Breaks q) us → r ≡ q
  breaks_one us r q h k = go (read g false us) (front_read L g p (Breaks r) us h false) (front_read L g p (Breaks q) us k false)
    where
      go : (o : Out L A) → Ends L (Breaks r) o → Ends L (Breaks q) o → r ≡ q
      go (Got x d rest) e f = absurd e.1
      go (Stop (Unexpected d) rest) e f = absurd e.1
      go (Stop (Broken b) rest) e f = e.0 ∙ sym f.0

  -- nothing goes on beyond a fault

  not_fine : (f : Fault L.Rule) (us : List L.Token) (t : L.Token) (v : List L.Token) → IsFault g us (t ∷ v) f → Front g Fine (us ++ t ∷ []) → ⊥
  not_fine (Unexpected d) us t v n = n.0.0
  not_fine (Broken r) us t v n = n.1

  beyond : (f : Fault L.Rule) (us rest : List L.Token) → IsFault g us rest f → (t : L.Token) (w v : List L.Token) → rest ≡ t ∷ v → Front g Fine (us ++ t ∷ w) → ⊥
  beyond f us rest n t w v e h = not_fine f us t v (subst (λ z. IsFault g us z f) e n) (front_prefix L g p (us ++ t ∷ []) w (subst (Front g Fine) (sym (append_assoc us (t ∷ []) w)) h))

  no_tree : (ts : List L.Token) (f : Fault L.Rule) (k : ℕ) → Misread g ts f k → (x : A) → Derives g ts x → ⊥
  no_tree ts f k m x w = let e = sym (spelled_answered L g p ts x w) ∙ misread_answered L g p ts f k m in cc

module _ (L : Alphabet) {A : Type 0} (g h : Grammar L A) (p : LL1 g) (q : LL1 h) where
  -- h goes further than g, or g further than h

  second_further : (us rest : List L.Token) (f : Fault L.Rule) → IsFault h us rest f → (Front g Fine us → ⊥) → IsEitherFault g h us rest f
  second_further us [] (Unexpected d) n k = (λ x. none x, λ i. inr (n.1 i), marked)
    where
      none : (x : A) → Derives g us x ⊎ Derives h us x → ⊥
      none x (inl w) = k (derives_front L g us x w)
      none x (inr w) = n.0 x w

      marked : Front g Marked us ⊎ Front h Marked us → d ≡ true
      marked (inl w) = absurd (k (marked_fine L g p us w))
      marked (inr w) = n.2 w
  second_further us (t ∷ v) (Unexpected d) n k = ((fine, λ r. breaks r), λ i. inr (n.1 i), marked)
    where
      fine : Front g Fine (us ++ t ∷ []) ⊎ Front h Fine (us ++ t ∷ []) → ⊥
      fine (inl w) = k (front_prefix L g p us (t ∷ []) w)
      fine (inr w) = n.0.0 w

      breaks : (r : L.Rule) → Front g (Breaks r) (us ++ t ∷ []) ⊎ Front h (Breaks r) (us ++ t ∷ []) → ⊥
      breaks r (inl w) = k (breaks_fine L g p us t r w)
      breaks r (inr w) = n.0.1 r w

      marked : Front g Marked us ⊎ Front h Marked us → d ≡ true
      marked (inl w) = absurd (k (marked_fine L g p us w))
      marked (inr w) = n.2 w
  second_further us [] (Broken r) n k = n
  second_further us (t ∷ v) (Broken r) n k = (inr (n.0, λ b w. k (breaks_fine L g p us t b w)), fine)
    where
      fine : Front g Fine (us ++ t ∷ []) ⊎ Front h Fine (us ++ t ∷ []) → ⊥
      fine (inl w) = k (front_prefix L g p us (t ∷ []) w)
      fine (inr w) = n.1 w

  first_further : (us rest : List L.Token) (f : Fault L.Rule) → IsFault g us rest f → (Front h Fine us → ⊥) → IsEitherFault g h us rest f
  first_further us [] (Unexpected d) n k = (λ x. none x, λ i. inl (n.1 i), marked)
    where
      none : (x : A) → Derives g us x ⊎ Derives h us x → ⊥
      none x (inl w) = n.0 x w
      none x (inr w) = k (derives_front L h us x w)

      marked : Front g Marked us ⊎ Front h Marked us → d ≡ true
      marked (inl w) = n.2 w
      marked (inr w) = absurd (k (marked_fine L h q us w))
  first_further us (t ∷ v) (Unexpected d) n k = ((fine, λ r. breaks r), λ i. inl (n.1 i), marked)
    where
      fine : Front g Fine (us ++ t ∷ []) ⊎ Front h Fine (us ++ t ∷ []) → ⊥
      fine (inl w) = n.0.0 w
      fine (inr w) = k (front_prefix L h q us (t ∷ []) w)

      breaks : (r : L.Rule) → Front g (Breaks r) (us ++ t ∷ []) ⊎ Front h (Breaks r) (us ++ t ∷ []) → ⊥
      breaks r (inl w) = n.0.1 r w
      breaks r (inr w) = k (breaks_fine L h q us t r w)

      marked : Front g Marked us ⊎ Front h Marked us → d ≡ true
      marked (inl w) = n.2 w
      marked (inr w) = absurd (k (marked_fine L h q us w))
  first_further us [] (Broken r) n k = n
  first_further us (t ∷ v) (Broken r) n k = (inl n.0, fine)
    where
      fine : Front g Fine (us ++ t ∷ []) ⊎ Front h Fine (us ++ t ∷ []) → ⊥
      fine (inl w) = n.1 w
      fine (inr w) = k (front_prefix L h q us (t ∷ []) w)

  -- both stop at one token

  both_marked : (us : List L.Token) (d e : Bool) → (d ≡ true → Front g Marked us) → (e ≡ true → Front h Marked us) → (d || e) ≡ true → Front g Marked us ⊎ Front h Marked us
  both_marked us d e i k b = go (or_cases d e b)
    where
      go : (d ≡ true) ⊎ (e ≡ true) → Front g Marked us ⊎ Front h Marked us
      go (inl c) = inl (i c)
      go (inr c) = inr (k c)

  marked_both : (us : List L.Token) (d e : Bool) → (Front g Marked us → d ≡ true) → (Front h Marked us → e ≡ true) → Front g Marked us ⊎ Front h Marked us → (d || e) ≡ true
  marked_both us d e i k (inl w) = or_left d e (i w)
  marked_both us d e i k (inr w) = or_right d e (k w)

  together : (us rest : List L.Token) (f c : Fault L.Rule) → IsFault g us rest f → IsFault h us rest c → IsEitherFault g h us rest (join_faults f c)
  together us [] (Unexpected d) (Unexpected e) n m = (λ x. none x, both_marked us d e n.1 m.1, marked_both us d e n.2 m.2)
    where
      none : (x : A) → Derives g us x ⊎ Derives h us x → ⊥
      none x (inl w) = n.0 x w
      none x (inr w) = m.0 x w
  together us (t ∷ v) (Unexpected d) (Unexpected e) n m = ((fine, λ r. breaks r), both_marked us d e n.1 m.1, marked_both us d e n.2 m.2)
    where
      fine : Front g Fine (us ++ t ∷ []) ⊎ Front h Fine (us ++ t ∷ []) → ⊥
      fine (inl w) = n.0.0 w
      fine (inr w) = m.0.0 w

      breaks : (r : L.Rule) → Front g (Breaks r) (us ++ t ∷ []) ⊎ Front h (Breaks r) (us ++ t ∷ []) → ⊥
      breaks r (inl w) = n.0.1 r w
      breaks r (inr w) = m.0.1 r w
  together us [] (Unexpected d) (Broken r) n m = m
  together us (t ∷ v) (Unexpected d) (Broken r) n m = (inr (m.0, λ b w. n.0.1 b w), fine)
    where
      fine : Front g Fine (us ++ t ∷ []) ⊎ Front h Fine (us ++ t ∷ []) → ⊥
      fine (inl w) = n.0.0 w
      fine (inr w) = m.1 w
  together us [] (Broken r) c n m = n
  together us (t ∷ v) (Broken r) c n m = (inl n.0, fine)
    where
      fine : Front g Fine (us ++ t ∷ []) ⊎ Front h Fine (us ++ t ∷ []) → ⊥
      fine (inl w) = n.1 w
      fine (inr w) = not_fine L h q c us t v m w

  -- the later fault is that of the union

  same_place : (us rest vs left : List L.Token) → us ++ rest ≡ vs ++ left → length us ≡ length vs → (us ≡ vs) × (rest ≡ left)
  same_place us rest vs left e l = go (split_cases L us rest vs left e)
    where
      go : ((us ≡ vs) × (rest ≡ left)) ⊎ (((t : L.Token) × (w : List L.Token) × (vs ≡ us ++ t ∷ w) × (rest ≡ t ∷ (w ++ left))) ⊎ ((t : L.Token) × (w : List L.Token) × (us ≡ vs ++ t ∷ w) × (left ≡ t ∷ (w ++ rest)))) → (us ≡ vs) × (rest ≡ left)
      go (inl i) = i
      go (inr (inl i)) = absurd (omega (arith, l, ap length i.2, length-append us (i.0 ∷ i.1)))
      go (inr (inr i)) = absurd (omega (arith, l, ap length i.2, length-append vs (i.0 ∷ i.1)))

  longer_place : (us rest vs left : List L.Token) → us ++ rest ≡ vs ++ left → length us < length vs → (t : L.Token) × (w : List L.Token) × (vs ≡ us ++ t ∷ w) × (rest ≡ t ∷ (w ++ left))
  longer_place us rest vs left e l = go (split_cases L us rest vs left e)
    where
      go : ((us ≡ vs) × (rest ≡ left)) ⊎ (((t : L.Token) × (w : List L.Token) × (vs ≡ us ++ t ∷ w) × (rest ≡ t ∷ (w ++ left))) ⊎ ((t : L.Token) × (w : List L.Token) × (us ≡ vs ++ t ∷ w) × (left ≡ t ∷ (w ++ rest)))) → (t : L.Token) × (w : List L.Token) × (vs ≡ us ++ t ∷ w) × (rest ≡ t ∷ (w ++ left))
      go (inl i) = absurd (omega (arith, l, ap length i.0))
      go (inr (inl i)) = i
      go (inr (inr i)) = absurd (omega (arith, l, ap length i.2, length-append vs (i.0 ∷ i.1)))

  later_holds : (ts : List L.Token) (f c : Fault L.Rule) (k m : ℕ) → Misread g ts f k → Misread h ts c m → EitherHolds g h ts (Err (later (f, k) (c, m)))
  later_holds ts f c k m a b = go (nat_lt k m) refl (nat_lt m k) refl
    where
      go : (x : Bool) → nat_lt k m ≡ x → (y : Bool) → nat_lt m k ≡ y → EitherHolds g h ts (Err (cond x (c, m) (cond y (f, k) (join_faults f c, k))))
      go true i y j =
          let s = longer_place a.0 a.1 b.0 b.1 (sym a.2 ∙ b.2) (grind (arith, nat_tests, a.3, b.3)) in
          (b.0, b.1, b.2, b.3, inr b.4, second_further b.0 b.1 c b.5 (λ w. beyond L g p f a.0 a.1 a.5 s.0 s.1 (s.1 ++ b.1) s.3 (subst (Front g Fine) s.2 w)))
      go false i true j =
          let s = longer_place b.0 b.1 a.0 a.1 (sym b.2 ∙ a.2) (grind (arith, nat_tests, a.3, b.3)) in
          (a.0, a.1, a.2, a.3, inl a.4, first_further a.0 a.1 f a.5 (λ w. beyond L h q c b.0 b.1 b.5 s.0 s.1 (s.1 ++ a.1) s.3 (subst (Front h Fine) s.2 w)))
      go false i false j =
          let s = same_place a.0 a.1 b.0 b.1 (sym a.2 ∙ b.2) (grind (arith, nat_tests, a.3, b.3)) in
          (a.0, a.1, a.2, a.3, inl a.4, together a.0 a.1 f c a.5 (subst (λ z. IsFault h z a.1 c) (sym s.0) (subst (λ z. IsFault h b.0 z c) (sym s.1) b.5)))

  join_holds : (ts : List L.Token) (a b : Answer L A) → Holds g ts a → Holds h ts b → EitherHolds g h ts (join a b)
  join_holds ts (Ok x) b i k = inl i
  join_holds ts (Err e) (Ok y) i k = inr (k, no_tree L g p ts e.0 e.1 i)
  join_holds ts (Err e) (Err f) i k = later_holds ts e.0 f.0 e.1 f.1 i k

  -- nothing else holds of the union

  no_place : (us vs : List L.Token) (t : L.Token) (w v rest : List L.Token) (f : Fault L.Rule) → IsEitherFault g h us rest f → rest ≡ t ∷ v → vs ≡ us ++ t ∷ w → Front (alt g h) Fine vs → ⊥
  no_place us vs t w v rest f n e i k = go (subst (λ z. Front (alt g h) Fine z) (i ∙ sym (append_assoc us (t ∷ []) w)) k)
    where
      not : (f : Fault L.Rule) → IsEitherFault g h us (t ∷ v) f → Front (alt g h) Fine (us ++ t ∷ []) → ⊥
      not (Unexpected d) n = n.0.0
      not (Broken r) n = n.1

      there : IsEitherFault g h us (t ∷ v) f
      there = subst (λ z. IsEitherFault g h us z f) e n

      go : Front g Fine ((us ++ t ∷ []) ++ w) ⊎ Front h Fine ((us ++ t ∷ []) ++ w) → ⊥
      go (inl x) = not f there (inl (front_prefix L g p (us ++ t ∷ []) w x))
      go (inr x) = not f there (inr (front_prefix L h q (us ++ t ∷ []) w x))

  either_tree : (ts : List L.Token) (x : A) (f : Fault L.Rule) (k : ℕ) → Derives g ts x ⊎ Derives h ts x → EitherMisread g h ts f k → ⊥
  either_tree ts x f k d m = go f m.1 m.2 m.5
    where
      fine : Derives g ts x ⊎ Derives h ts x → Front (alt g h) Fine ts
      fine (inl w) = inl (derives_front L g ts x w)
      fine (inr w) = inr (derives_front L h ts x w)

      go : (f : Fault L.Rule) (rest : List L.Token) → ts ≡ m.0 ++ rest → IsEitherFault g h m.0 rest f → ⊥
      go (Unexpected b) [] e n = n.0 x (subst (λ z. Derives g z x ⊎ Derives h z x) (e ∙ append_none m.0) d)
      go (Broken r) [] e n = n
      go f (t ∷ v) e n = no_place m.0 ts t v v (t ∷ v) f n refl e (fine d)

  one_place : (ts : List L.Token) (f c : Fault L.Rule) (k l : ℕ) (a : EitherMisread g h ts f k) (b : EitherMisread g h ts c l) → (a.0 ≡ b.0) × (a.1 ≡ b.1)
  one_place ts f c k l a b = go (split_cases L a.0 a.1 b.0 b.1 (sym a.2 ∙ b.2))
    where
      go : ((a.0 ≡ b.0) × (a.1 ≡ b.1)) ⊎ (((t : L.Token) × (w : List L.Token) × (b.0 ≡ a.0 ++ t ∷ w) × (a.1 ≡ t ∷ (w ++ b.1))) ⊎ ((t : L.Token) × (w : List L.Token) × (a.0 ≡ b.0 ++ t ∷ w) × (b.1 ≡ t ∷ (w ++ a.1)))) → (a.0 ≡ b.0) × (a.1 ≡ b.1)
      go (inl i) = i
      go (inr (inl i)) = absurd (no_place a.0 b.0 i.0 i.1 (i.1 ++ b.1) a.1 f a.5 i.3 i.2 b.4)
      go (inr (inr i)) = absurd (no_place b.0 a.0 i.0 i.1 (i.1 ++ a.1) b.1 c b.5 i.3 i.2 a.4)

  same_breaks : (us : List L.Token) (r s : L.Rule) → EitherBreaks g h us r → EitherBreaks g h us s → r ≡ s
  same_breaks us r s (inl a) (inl b) = breaks_one L g p us r s a b
  same_breaks us r s (inl a) (inr b) = absurd (b.1 r a)
  same_breaks us r s (inr a) (inl b) = absurd (a.1 s b)
  same_breaks us r s (inr a) (inr b) = breaks_one L h q us r s a.0 b.0

  in_either : (us : List L.Token) (r : L.Rule) → EitherBreaks g h us r → Front (alt g h) (Breaks r) us
  in_either us r (inl a) = inl a
  in_either us r (inr a) = inr a.0

  flags : (d e : Bool) → (d ≡ true → e ≡ true) → (e ≡ true → d ≡ true) → d ≡ e
  flags true e i k = sym (i refl)
  flags false true i k = k refl
  flags false false i k = refl

  same_fault : (us rest : List L.Token) (f c : Fault L.Rule) → IsEitherFault g h us rest f → IsEitherFault g h us rest c → f ≡ c
  same_fault us rest (Unexpected d) (Unexpected e) n m = ap Unexpected (flags d e (λ i. m.2 (n.1 i)) (λ i. n.2 (m.1 i)))
  same_fault us [] (Unexpected d) (Broken r) n m = absurd m
  same_fault us (t ∷ v) (Unexpected d) (Broken r) n m = absurd (n.0.1 r (in_either (us ++ t ∷ []) r m.0))
  same_fault us [] (Broken r) c n m = absurd n
  same_fault us (t ∷ v) (Broken r) (Unexpected d) n m = absurd (m.0.1 r (in_either (us ++ t ∷ []) r n.0))
  same_fault us (t ∷ v) (Broken r) (Broken s) n m = ap Broken (same_breaks (us ++ t ∷ []) r s n.0 m.0)

  one_fault : (ts : List L.Token) (f c : Fault L.Rule) (k l : ℕ) → EitherMisread g h ts f k → EitherMisread g h ts c l → (f ≡ c) × (k ≡ l)
  one_fault ts f c k l a b =
      let s = one_place ts f c k l a b in
      (same_fault a.0 a.1 f c a.5 (subst (λ z. IsEitherFault g h z a.1 c) (sym s.0) (subst (λ z. IsEitherFault g h b.0 z c) (sym s.1) b.5)), a.3 ∙ (ap length s.0 ∙ sym b.3))

  one_tree : (ts : List L.Token) (x y : A) → EitherDerives g h ts x → EitherDerives g h ts y → x ≡ y
  one_tree ts x y (inl a) (inl b) = let e = sym (spelled_answered L g p ts x a) ∙ spelled_answered L g p ts y b in cc
  one_tree ts x y (inl a) (inr b) = absurd (b.1 x a)
  one_tree ts x y (inr a) (inl b) = absurd (a.1 y b)
  one_tree ts x y (inr a) (inr b) = let e = sym (spelled_answered L h q ts x a.0) ∙ spelled_answered L h q ts y b.0 in cc

  of_either : (ts : List L.Token) (x : A) → EitherDerives g h ts x → Derives g ts x ⊎ Derives h ts x
  of_either ts x (inl a) = inl a
  of_either ts x (inr a) = inr a.0

  one_answer : (ts : List L.Token) (a b : Answer L A) → EitherHolds g h ts a → EitherHolds g h ts b → a ≡ b
  one_answer ts (Ok x) (Ok y) i k = ap Ok (one_tree ts x y i k)
  one_answer ts (Ok x) (Err e) i k = absurd (either_tree ts x e.0 e.1 (of_either ts x i) k)
  one_answer ts (Err e) (Ok y) i k = absurd (either_tree ts y e.0 e.1 (of_either ts y k) i)
  one_answer ts (Err e) (Err f) i k = let s = one_fault ts e.0 f.0 e.1 f.1 i k in ap (λ z. Err (z, e.1)) s.0 ∙ ap (λ z. Err (f.0, z)) s.1

  pub join_right : JoinHolds g h
  join_right ts =
      let i = join_holds ts (answer g ts) (answer h ts) (answer_holds L g p ts) (answer_holds L h q ts) in
      (i, λ a k. one_answer ts a (join (answer g ts) (answer h ts)) k i)
