-- What one token of look-ahead answers is right, and nothing else is.
use Rattle.std.specs.Prelude.{Ok, Err}
use Rattle.std.proofs.Common.{◌≡◌, ◌-◌, ℕ, Bool, true, false, Some, None, List, [], ◌∷◌, ◌++◌, length, ◌⊎◌, inl, inr, refl, sym, ap, ◌∙◌, subst, append_assoc, length-append, arith}
use Rattle.grammar.specs.declared.fault.Fault.{Fault}
use Rattle.grammar.specs.declared.fault.Fault.TheVariants.{Unexpected, Broken}
use Rattle.grammar.specs.Grammar.{Alphabet, Grammar, nothing, tok, seq, alt, opt, rep, as_tree, dep, grow, marked}
use Rattle.grammar.specs.LookAhead.{LL1}
use Rattle.grammar.specs.Language.{last_of, Derives, Ending, Fine, Marked, Breaks, one, Front, IsUnexpected, IsBroken, IsFault, Misread, Answer, Holds}
use Rattle.grammar.specs.code.Reading.{Out, Got, Stop, read, answered, answer}
use Rattle.grammar.specs.Laws.{HoldsOnce, OneTree, PrefixClosed, AnswersExactly}
use Rattle.grammar.proofs.Basics.{append_none}
use Rattle.grammar.proofs.Swap.{Swapped, MarkFact, swaps, alike}
use Rattle.grammar.proofs.Begin.{Ends}
use Rattle.grammar.proofs.Complete.{derives_read, front_read}

module _ (L : Alphabet) where
  -- a sentence is a viable prefix

  pub front_start : {A : Type 0} (g : Grammar L A) → Front g Fine []
  front_start (nothing y) = refl
  front_start (tok s q) = tt
  front_start (seq a b) = inl (front_start a)
  front_start (alt a b) = inl (front_start a)
  front_start (opt a) = front_start a
  front_start (rep a) = ([], [], [], refl, refl, front_start a)
  front_start (as_tree f a) = front_start a
  front_start (dep a s f) = inl (front_start a)
  front_start (grow x s f) = ([], [], [], refl, refl, front_start (f x))
  front_start (marked a) = inr (front_start a)

  pub derives_front : {A : Type 0} (g : Grammar L A) (us : List L.Token) (x : A) → Derives g us x → Front g Fine us
  derives_front (nothing y) us x w = w.0
  derives_front (tok s q) us x w = subst (one L s q Fine) (sym w.0) (w.1, w.2)
  derives_front (seq a b) us x w = inr (x.0, w.0, w.1, w.2, w.3, derives_front b w.1 x.1 w.4)
  derives_front (alt a b) us x (inl w) = inl (derives_front a us x w)
  derives_front (alt a b) us x (inr w) = inr (derives_front b us x w)
  derives_front (opt a) us None w = subst (Front a Fine) (sym w) (front_start a)
  derives_front (opt a) us (Some x) w = derives_front a us x w
  derives_front (rep a) us xs w = (xs, us, [], sym (append_none us), w, front_start a)
  derives_front (as_tree f a) us x w = derives_front a us w.0 w.1
  derives_front (dep a s f) us x w = inr (x.0, w.0, w.1, w.2, w.3, derives_front (f x.0) w.1 x.1 w.4)
  derives_front (grow x s f) us y w = (w.0, us, [], sym (append_none us), w.2, front_start (f (last_of x w.0)))
  derives_front (marked a) us x w = inr (derives_front a us x w)

  -- one list cut twice

  pub split_cases : (us rest vs left : List L.Token) → us ++ rest ≡ vs ++ left → ((us ≡ vs) × (rest ≡ left)) ⊎ (((t : L.Token) × (w : List L.Token) × (vs ≡ us ++ t ∷ w) × (rest ≡ t ∷ (w ++ left))) ⊎ ((t : L.Token) × (w : List L.Token) × (us ≡ vs ++ t ∷ w) × (left ≡ t ∷ (w ++ rest))))
  split_cases [] rest [] left e = inl (refl, e)
  split_cases [] rest (v ∷ vs) left e = inr (inl (v, vs, refl, e))
  split_cases (u ∷ us) rest [] left e = inr (inr (u, us, refl, sym e))
  split_cases (u ∷ us) rest (v ∷ vs) left e = go (split_cases us rest vs left (cc))
    where
      same : u ≡ v
      same = cc

      go : ((us ≡ vs) × (rest ≡ left)) ⊎ (((t : L.Token) × (w : List L.Token) × (vs ≡ us ++ t ∷ w) × (rest ≡ t ∷ (w ++ left))) ⊎ ((t : L.Token) × (w : List L.Token) × (us ≡ vs ++ t ∷ w) × (left ≡ t ∷ (w ++ rest)))) → ((u ∷ us ≡ v ∷ vs) × (rest ≡ left)) ⊎ (((t : L.Token) × (w : List L.Token) × (v ∷ vs ≡ (u ∷ us) ++ t ∷ w) × (rest ≡ t ∷ (w ++ left))) ⊎ ((t : L.Token) × (w : List L.Token) × (u ∷ us ≡ (v ∷ vs) ++ t ∷ w) × (left ≡ t ∷ (w ++ rest))))
      go (inl h) = inl (let i = h.0 in cc, h.1)
      go (inr (inl h)) = inr (inl (h.0, h.1, (let i = h.2 in let j = same in cc), h.3))
      go (inr (inr h)) = inr (inr (h.0, h.1, (let i = h.2 in let j = same in cc), h.3))

  pub last_same : (us vs : List L.Token) (t u : L.Token) → us ++ t ∷ [] ≡ vs ++ u ∷ [] → (us ≡ vs) × (t ≡ u)
  last_same [] [] t u e = (refl, cc)
  last_same [] (v ∷ vs) t u e = absurd (omega (arith, ap length e, length-append vs (u ∷ [])))
  last_same (x ∷ us) [] t u e = absurd (omega (arith, ap length e, length-append us (t ∷ [])))
  last_same (x ∷ us) (v ∷ vs) t u e = let h = last_same us vs t u (cc) in let i = h.0 in (cc, h.1)

  -- what is said of an outcome, apart from whether it is a tree

  module _ {A : Type 0} (g : Grammar L A) (p : LL1 g) where
    -- what ends wrongly before a token is no viable prefix with it
    no_front_got : (us : List L.Token) (x : A) (d : Bool) (t : L.Token) (m : Ending L) → read g false (us ++ t ∷ []) ≡ Got x d (t ∷ []) → Front g m (us ++ t ∷ []) → ⊥
    no_front_got us x d t m h f = let e = subst (Ends L m) h (front_read L g p m (us ++ t ∷ []) f false) in absurd (let i = e.0 in cc)

    no_front_wrong : (us : List L.Token) (d : Bool) (t : L.Token) (m : Ending L) → read g false (us ++ t ∷ []) ≡ Stop (Unexpected d) (t ∷ []) → Front g m (us ++ t ∷ []) → ⊥
    no_front_wrong us d t m h f = let e = subst (Ends L m) h (front_read L g p m (us ++ t ∷ []) f false) in absurd (let i = e.0 in cc)

    fine_broken : (us : List L.Token) (r : L.Rule) (t : L.Token) → read g false (us ++ t ∷ []) ≡ Stop (Broken r) (t ∷ []) → Front g Fine (us ++ t ∷ []) → ⊥
    fine_broken us r t h f = subst (Ends L Fine) h (front_read L g p Fine (us ++ t ∷ []) f false)

    -- where a marked part may begin next, the reading says so
    mark_got : (us : List L.Token) (x : A) (d : Bool) → read g false us ≡ Got x d [] → Front g Marked us → d ≡ true
    mark_got us x d h f = (subst (Ends L Marked) h (front_read L g p Marked us f false)).1

    mark_wrong : (us : List L.Token) (d : Bool) → read g false us ≡ Stop (Unexpected d) [] → Front g Marked us → d ≡ true
    mark_wrong us d h f = (subst (Ends L Marked) h (front_read L g p Marked us f false)).1

    pub mark_says : (us : List L.Token) (d : Bool) → MarkFact L (Front g) false us d → d ≡ true → Front g Marked us
    mark_says us d h e = go (h e)
      where
        go : ((us ≡ []) × (false ≡ true)) ⊎ Front g Marked us → Front g Marked us
        go (inl i) = absurd (let j = i.1 in cc)
        go (inr i) = i

    taken_length : (ts us rest : List L.Token) → ts ≡ us ++ rest → length ts - length rest ≡ length us
    taken_length ts us rest e = omega (arith, ap length e, length-append us rest)

    pub same_flag : (d e : Bool) → (d ≡ true → e ≡ true) → (e ≡ true → d ≡ true) → d ≡ e
    same_flag true e f k = sym (f refl)
    same_flag false true f k = k refl
    same_flag false false f k = refl

    sound : (ts : List L.Token) (o : Out L A) → Swapped L (Derives g) (Front g) (read g) false ts o → Holds g ts (answered ts o)
    sound ts (Got x d []) h = subst (λ z. Derives g z x) (sym (h.1 ∙ append_none h.0)) h.2
    sound ts (Got x d (t ∷ v)) h = (
      h.0,
      t ∷ v,
      h.1,
      taken_length ts h.0 (t ∷ v) h.1,
      derives_front g h.0 x h.2,
      (
        (no_front_got h.0 x d t Fine (h.4 (t ∷ []) refl), λ r. no_front_got h.0 x d t (Breaks r) (h.4 (t ∷ []) refl)),
        mark_says h.0 d h.3,
        mark_got h.0 x d (ap (read g false) (sym (append_none h.0)) ∙ h.4 [] tt),
      ),
    )
    sound ts (Stop (Unexpected d) []) h = (
      h.0,
      [],
      h.1,
      taken_length ts h.0 [] h.1,
      h.2,
      (not_derives h, mark_says h.0 d h.3, mark_wrong h.0 d (ap (read g false) (sym (append_none h.0)) ∙ h.4 [] tt)),
    )
      where
        not_derives : (h : Swapped L (Derives g) (Front g) (read g) false ts (Stop (Unexpected d) [])) → (x : A) → Derives g h.0 x → ⊥
        not_derives h x w = let i = derives_read L g p h.0 x w false [] refl in let j = sym (h.4 [] tt) ∙ i.1 in cc
    sound ts (Stop (Unexpected d) (t ∷ v)) h = (
      h.0,
      t ∷ v,
      h.1,
      taken_length ts h.0 (t ∷ v) h.1,
      h.2,
      (
        (no_front_wrong h.0 d t Fine (h.4 (t ∷ []) refl), λ r. no_front_wrong h.0 d t (Breaks r) (h.4 (t ∷ []) refl)),
        mark_says h.0 d h.3,
        mark_wrong h.0 d (ap (read g false) (sym (append_none h.0)) ∙ h.4 [] tt),
      ),
    )
    sound ts (Stop (Broken r) rest) h =
        let y = h.3 in
        let n : Front g Fine (h.0 ++ y.0 ∷ []) → ⊥ = fine_broken h.0 r y.0 (h.4 (y.0 ∷ []) (subst (λ z. alike L z (y.0 ∷ [])) (sym y.2) refl)) in
        (h.0, rest, h.1, taken_length ts h.0 rest h.1, h.2, subst (λ z. IsBroken g h.0 z r) (sym y.2) (y.3, n))

    -- What the reading answers holds.
    pub answer_holds : (ts : List L.Token) → Holds g ts (answer g ts)
    answer_holds ts = sound ts (read g false ts) (swaps L g p false ts)

    -- The tree of a sentence is answered.
    pub spelled_answered : (ts : List L.Token) (x : A) → Derives g ts x → answer g ts ≡ Ok x
    spelled_answered ts x w =
        let h = derives_read L g p ts x w false [] refl in
        ap (answered ts) (ap (read g false) (sym (append_none ts)) ∙ h.1)

    pub front_prefix : (xs ys : List L.Token) → Front g Fine (xs ++ ys) → Front g Fine xs
    front_prefix xs ys f = go (read g false xs) (swaps L g p false xs)
      where
        longer : (us : List L.Token) (t : L.Token) (v : List L.Token) → xs ≡ us ++ t ∷ v → Front g Fine (us ++ (t ∷ v ++ ys))
        longer us t v e = subst (Front g Fine) (ap (λ z. z ++ ys) e ∙ append_assoc us (t ∷ v) ys) f

        go : (o : Out L A) → Swapped L (Derives g) (Front g) (read g) false xs o → Front g Fine xs
        go (Got x d []) h = subst (Front g Fine) (sym (h.1 ∙ append_none h.0)) (derives_front g h.0 x h.2)
        go (Got x d (t ∷ v)) h = let e = subst (Ends L Fine) (h.4 (t ∷ v ++ ys) refl) (front_read L g p Fine (h.0 ++ (t ∷ v ++ ys)) (longer h.0 t v h.1) false) in absurd (let i = e.0 in cc)
        go (Stop (Unexpected d) []) h = subst (Front g Fine) (sym (h.1 ∙ append_none h.0)) h.2
        go (Stop (Unexpected d) (t ∷ v)) h = let e = subst (Ends L Fine) (h.4 (t ∷ v ++ ys) refl) (front_read L g p Fine (h.0 ++ (t ∷ v ++ ys)) (longer h.0 t v h.1) false) in absurd (let i = e.0 in cc)
        go (Stop (Broken r) rest) h =
            let y = h.3 in
            absurd (subst (Ends L Fine) (h.4 (y.0 ∷ y.1 ++ ys) (subst (λ z. alike L z (y.0 ∷ y.1 ++ ys)) (sym y.2) refl)) (front_read L g p Fine (h.0 ++ (y.0 ∷ y.1 ++ ys)) (longer h.0 y.0 y.1 (h.1 ∙ ap (λ z. h.0 ++ z) y.2)) false))

    -- the place of the first fault is one
    place : (us rest vs left : List L.Token) → us ++ rest ≡ vs ++ left → Front g Fine us → IsUnexpected g us rest → Front g Fine vs → ((t : L.Token) (v : List L.Token) → left ≡ t ∷ v → Front g Fine (vs ++ t ∷ []) → ⊥) → (us ≡ vs) × (rest ≡ left)
    place us rest vs left e f n k m = go (split_cases us rest vs left e)
      where
        shorter : (t : L.Token) (w : List L.Token) → vs ≡ us ++ t ∷ w → (r : List L.Token) → rest ≡ t ∷ r → ⊥
        shorter t w i r j = (subst (IsUnexpected g us) j n).0 (front_prefix (us ++ t ∷ []) w (subst (Front g Fine) (i ∙ sym (append_assoc us (t ∷ []) w)) k))

        further : (t : L.Token) (w : List L.Token) → us ≡ vs ++ t ∷ w → (r : List L.Token) → left ≡ t ∷ r → ⊥
        further t w i r j = m t r j (front_prefix (vs ++ t ∷ []) w (subst (Front g Fine) (i ∙ sym (append_assoc vs (t ∷ []) w)) f))

        go : ((us ≡ vs) × (rest ≡ left)) ⊎ (((t : L.Token) × (w : List L.Token) × (vs ≡ us ++ t ∷ w) × (rest ≡ t ∷ (w ++ left))) ⊎ ((t : L.Token) × (w : List L.Token) × (us ≡ vs ++ t ∷ w) × (left ≡ t ∷ (w ++ rest)))) → (us ≡ vs) × (rest ≡ left)
        go (inl h) = h
        go (inr (inl h)) = absurd (shorter h.0 h.1 h.2 _ h.3)
        go (inr (inr h)) = absurd (further h.0 h.1 h.2 _ h.3)

    unexpected_answered : (ts us rest : List L.Token) (b : Bool) → ts ≡ us ++ rest → Front g Fine us → IsFault g us rest (Unexpected b) → (o : Out L A) → Swapped L (Derives g) (Front g) (read g) false ts o → answered ts o ≡ Err (Unexpected b, length us)
    unexpected_answered ts us rest b e f n (Got x d left) h = go left h (place us rest h.0 left (sym e ∙ h.1) f n.0 (derives_front g h.0 x h.2) (λ t v j. no_front_got h.0 x d t Fine (h.4 (t ∷ []) (subst (λ z. alike L z (t ∷ [])) (sym j) refl))))
      where
        go : (left : List L.Token) (h : Swapped L (Derives g) (Front g) (read g) false ts (Got x d left)) → (us ≡ h.0) × (rest ≡ left) → answered {L = L} ts (Got x d left) ≡ Err (Unexpected b, length us)
        go [] h i = absurd (subst (λ z. IsUnexpected g us z) i.1 n.0 x (subst (λ z. Derives g z x) (sym i.0) h.2))
        go (t ∷ v) h i =
            let says = mark_says h.0 d h.3 in
            let got = mark_got h.0 x d (ap (read g false) (sym (append_none h.0)) ∙ h.4 [] tt) in
            let l : d ≡ b = same_flag d b (λ k. n.2 (subst (Front g Marked) (sym i.0) (says k))) (λ k. got (subst (Front g Marked) i.0 (n.1 k))) in
            let m : length ts - length (t ∷ v) ≡ length us = taken_length ts h.0 (t ∷ v) h.1 ∙ ap length (sym i.0) in
            ap (λ z. Err (Unexpected z, length ts - length (t ∷ v))) l ∙ ap (λ z. Err (Unexpected b, z)) m
    unexpected_answered ts us rest b e f n (Stop (Unexpected d) left) h =
        let i = place us rest h.0 left (sym e ∙ h.1) f n.0 h.2 (λ t v j. no_front_wrong h.0 d t Fine (h.4 (t ∷ []) (subst (λ z. alike L z (t ∷ [])) (sym j) refl))) in
        let says = mark_says h.0 d h.3 in
        let got = mark_wrong h.0 d (ap (read g false) (sym (append_none h.0)) ∙ h.4 [] tt) in
        let l : d ≡ b = same_flag d b (λ k. n.2 (subst (Front g Marked) (sym i.0) (says k))) (λ k. got (subst (Front g Marked) i.0 (n.1 k))) in
        let m : length ts - length left ≡ length us = taken_length ts h.0 left h.1 ∙ ap length (sym i.0) in
        ap (λ z. Err (Unexpected z, length ts - length left)) l ∙ ap (λ z. Err (Unexpected b, z)) m
    unexpected_answered ts us rest b e f n (Stop (Broken r) left) h =
        let y = h.3 in
        let i = place us rest h.0 left (sym e ∙ h.1) f n.0 h.2 (λ t v j. fine_broken h.0 r t (h.4 (t ∷ []) (subst (λ z. alike L z (t ∷ [])) (sym j) refl))) in
        absurd ((subst (IsUnexpected g us) (i.1 ∙ y.2) n.0).1 r (subst (λ z. Front g (Breaks r) (z ++ y.0 ∷ [])) (sym i.0) y.3))

    broken_read : (us : List L.Token) (r : L.Rule) (t : L.Token) (v : List L.Token) (o : Out L A) → Ends L (Breaks r) o → Swapped L (Derives g) (Front g) (read g) false (us ++ t ∷ []) o → read g false (us ++ t ∷ v) ≡ Stop (Broken r) (t ∷ v)
    broken_read us r t v (Got x d rest) e h = absurd e.1
    broken_read us r t v (Stop (Unexpected d) rest) e h = absurd e.1
    broken_read us r t v (Stop (Broken q) rest) e h =
        let b = e.1 in
        let s = last_same us h.0 t b.0 (h.1 ∙ ap (λ z. h.0 ++ z) b.1) in
        let i = h.4 (t ∷ v) (subst (λ z. alike L z (t ∷ v)) (sym b.1) s.1) in
        ap (λ z. read g false (z ++ t ∷ v)) s.0 ∙ i ∙ ap (λ z. Stop (Broken z) (t ∷ v)) (sym e.0)

    pub misread_answered : (ts : List L.Token) (c : Fault L.Rule) (k : ℕ) → Misread g ts c k → answer g ts ≡ Err (c, k)
    misread_answered ts c k m = go c m.0 m.1 m.2 m.3 m.4 m.5
      where
        go : (c : Fault L.Rule) (us rest : List L.Token) → ts ≡ us ++ rest → k ≡ length us → Front g Fine us → IsFault g us rest c → answer g ts ≡ Err (c, k)
        go (Broken r) us [] e l f b = absurd b
        go (Broken r) us (t ∷ v) e l f b =
            let i = broken_read us r t v (read g false (us ++ t ∷ [])) (front_read L g p (Breaks r) (us ++ t ∷ []) b.0 false) (swaps L g p false (us ++ t ∷ [])) in
            let n : length ts - length (t ∷ v) ≡ k = taken_length ts us (t ∷ v) e ∙ sym l in
            ap (answered ts) (ap (read g false) e ∙ i) ∙ ap (λ z. Err (Broken r, z)) n
        go (Unexpected d) us rest e l f b = unexpected_answered ts us rest d e f b (read g false ts) (swaps L g p false ts) ∙ ap (λ z. Err (Unexpected d, z)) (sym l)

    -- Exactly one thing holds.
    pub holds_once : HoldsOnce g
    holds_once ts = (answer g ts, answer_holds ts, only)
      where
        only : (q : Answer L A) → Holds g ts q → q ≡ answer g ts
        only (Ok x) h = sym (spelled_answered ts x h)
        only (Err e) h = sym (misread_answered ts e.0 e.1 h)

    pub one_tree : OneTree g
    one_tree ts x y w v = let e = sym (spelled_answered ts x w) ∙ spelled_answered ts y v in cc

    pub prefix_closed : PrefixClosed g
    prefix_closed = (λ ts x w. derives_front g ts x w, λ us vs h. front_prefix us vs h)

    pub answers_exactly : AnswersExactly g
    answers_exactly ts r = (there r, λ e. subst (Holds g ts) e (answer_holds ts))
      where
        there : (r : Answer L A) → Holds g ts r → answer g ts ≡ r
        there (Ok x) h = spelled_answered ts x h
        there (Err e) h = misread_answered ts e.0 e.1 h
