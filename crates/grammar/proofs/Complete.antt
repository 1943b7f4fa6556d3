-- Each sentence is read, and each viable prefix is read to its end.
use Rattle.std.proofs.Common.{◌≡◌, ℕ, zero, suc, ◌≤◌, Bool, true, false, ◌||◌, cond, Option, Some, None, List, [], ◌∷◌, ◌++◌, length, inl, inr, refl, sym, ap, ◌∙◌, subst, append_assoc, length-append, arith}
use Rattle.grammar.specs.Grammar.{Alphabet, Grammar, nothing, tok, seq, alt, opt, rep, as_tree, dep, grow, marked, is_in, begins_with}
use Rattle.grammar.specs.LookAhead.{nullable, firsts, extensions, marks, apart, within, LL1}
use Rattle.grammar.specs.Language.{Sentence, many, steps, last_of, Derives, Ending, Fine, Marked, Breaks, one, empty_front, mark_front, Front}
use Rattle.grammar.specs.code.Reading.{Got, Read, then_do, read_one, read_both, read_many, read_growth, read}
use Rattle.grammar.proofs.Basics.{or_false, begins-append, apart_one, within_one, append_none, or_right}
use Rattle.grammar.proofs.Begin.{Shows, Ends, then_ends, at_end, derives_none, never_none, derives_first, front_first, front_none, many_begin, many_front_first, shows_more, shows_eq, growth_begin, growth_front_first}

module _ (L : Alphabet) where
  abbrev IsRead : {A : Type 0} → Read L A → Bool → List L.Token → A → List L.Token → Type 0
  IsRead r c us x v = (d : Bool) × (r c (us ++ v) ≡ Got x d v)

  neither : (xs ys : List L.Kind) (ts : List L.Token) → begins_with L (xs ++ ys) ts ≡ false → (begins_with L xs ts ≡ false) × (begins_with L ys ts ≡ false)
  neither xs ys ts e = or_false _ _ (sym (begins-append L xs ys ts) ∙ e)

  not_begun : (s u : List L.Kind) (t : L.Token) → apart L s u ≡ true → is_in L t u ≡ true → is_in L t s ≡ false
  not_begun s u t e h = apart_one L s u _ e h

  begun : (s : List L.Kind) (us v : List L.Token) → ((t : L.Token) (ts : List L.Token) → us ≡ t ∷ ts → is_in L t s ≡ true) → (us ≡ [] → ⊥) → begins_with L s (us ++ v) ≡ true
  begun s [] v h n = absurd (n refl)
  begun s (t ∷ us) v h n = h t us refl

  one_read : (s : List L.Kind) (q : L.Token → Option L.Rule) (t : L.Token) → is_in L t s ≡ true → q t ≡ None → (c : Bool) (v : List L.Token) → read_one L s q c (t ∷ v) ≡ Got t false v
  one_read s q t e f c v = rw (e, f) refl

  both_read : {A B : Type 0} (ra : Read L A) (rb : A → Read L B) (c : Bool) (us vs v : List L.Token) (x : A) (y : B) → IsRead ra c us x (vs ++ v) → ((d : Bool) → IsRead (rb x) d vs y v) → IsRead (read_both ra rb) c (us ++ vs) (x, y) v
  both_read ra rb c us vs v x y h g =
      let i = g h.0 in
      (i.0, ap (read_both ra rb c) (append_assoc us vs v) ∙ ap (λ o. then_do o (λ x d us. then_do (rb x d us) (λ y e vs. Got (x, y) e vs))) h.1 ∙ ap (λ o. then_do o (λ y e vs. Got (x, y) e vs)) i.1)

  -- the first part can't go on into the second
  second_apart : (s u : List L.Kind) (vs v : List L.Token) → apart L s u ≡ true → ((t : L.Token) (ts : List L.Token) → vs ≡ t ∷ ts → is_in L t u ≡ true) → (vs ≡ [] → begins_with L s v ≡ false) → begins_with L s (vs ++ v) ≡ false
  second_apart s u [] v e h g = g refl
  second_apart s u (t ∷ vs) v e h g = not_begun s u t e (h t vs refl)

  module _ {A : Type 0} (s k : List L.Kind) (y : Bool) (wa : Sentence L.Token A) (ra : Read L A) (first : (x : A) (t : L.Token) (ts : List L.Token) → wa (t ∷ ts) x → is_in L t s ≡ true) (some : (x : A) → wa [] x → ⊥) (split : apart L k s ≡ true) (each : (us : List L.Token) (x : A) → wa us x → (c : Bool) (v : List L.Token) → begins_with L k v ≡ false → IsRead ra c us x v) where
    starts : (us : List L.Token) (x : A) (v : List L.Token) → wa us x → begins_with L s (us ++ v) ≡ true
    starts us x v w = begun s us v (λ t ts e. first x t ts (subst (λ z. wa z x) e w)) (λ e. some x (subst (λ z. wa z x) e w))

    many_goes : (us : List L.Token) (xs : List A) (v : List L.Token) → many wa us xs → begins_with L k v ≡ false → begins_with L k (us ++ v) ≡ false
    many_goes us xs v w e = second_apart k s us v split (λ t ts f. many_begin L s wa first some xs t ts (subst (λ z. many wa z xs) f w)) (λ f. e)

    -- one sentence, read before the rest of them
    one_step : (n : ℕ) (c : Bool) (us : List L.Token) (x : A) (ts : List L.Token) → wa us x → begins_with L k ts ≡ false → length (us ++ ts) ≤ n → (d : Bool) × (m : ℕ) × (length ts ≤ m) × (read_many s y ra n c (us ++ ts) ≡ then_do (read_many s y ra m d ts) (λ xs e vs. Got (x ∷ xs) e vs))
    one_step n c [] x ts w e le = absurd (some x w)
    one_step zero c (u ∷ us) x ts w e le = absurd (omega arith)
    one_step (suc n) c (u ∷ us) x ts w e le =
        let h = each (u ∷ us) x w c ts e in
        let b : begins_with L s ((u ∷ us) ++ ts) ≡ true = starts (u ∷ us) x ts w in
        let g : ra c ((u ∷ us) ++ ts) ≡ Got x h.0 ts = h.1 in
        (h.0, n, omega (arith, length-append us ts), rw (b, g) refl)

    many_none : (m : ℕ) (c : Bool) (v : List L.Token) → begins_with L s v ≡ false → read_many s y ra m c v ≡ Got [] (c || y) v
    many_none zero c v e = refl
    many_none (suc m) c v e = rw e refl

    many_read : (n : ℕ) (us : List L.Token) (xs : List A) → many wa us xs → (c : Bool) (v : List L.Token) → begins_with L s v ≡ false → begins_with L k v ≡ false → length (us ++ v) ≤ n → IsRead (read_many s y ra n) c us xs v
    many_read n us [] w c v e f le = ((c || y), ap (λ z. read_many s y ra n c (z ++ v)) w ∙ many_none n c v e)
    many_read n us (x ∷ xs) w c v e f le =
        let i = ap (λ z. z ++ v) w.2 ∙ append_assoc w.0 w.1 v in
        let g = one_step n c w.0 x (w.1 ++ v) w.3 (many_goes w.1 xs v w.4 f) (subst (λ z. length z ≤ n) i le) in
        let h = many_read g.1 w.1 xs w.4 g.0 v e f g.2 in
        (h.0, ap (read_many s y ra n c) i ∙ g.3 ∙ ap (λ o. then_do o (λ xs e vs. Got (x ∷ xs) e vs)) h.1)

    -- a viable prefix of repetitions
    module _ (m : Ending L) (P : List L.Token → Type 0) (starts_front : (t : L.Token) (ts : List L.Token) → P (t ∷ ts) → is_in L t s ≡ true) (none_front : P [] → Shows L m y) (each_front : (ts : List L.Token) → P ts → (c : Bool) → Ends L m (ra c ts)) where
      last_front : (n : ℕ) (c : Bool) (ts : List L.Token) → P ts → length ts ≤ n → Ends L m (read_many s y ra n c ts)
      last_front zero c [] h le = (refl, shows_eq L m y _ (none_front h) (or_right c y))
      last_front zero c (t ∷ ts) h le = absurd (omega arith)
      last_front (suc n) c [] h le = (refl, shows_eq L m y _ (none_front h) (or_right c y))
      last_front (suc n) c (t ∷ ts) h le =
          let b : is_in L t s ≡ true = starts_front t ts h in
          rw b (then_ends L m (ra c (t ∷ ts)) _ (each_front (t ∷ ts) h c) (λ x d i. then_ends L m (read_many s y ra n d []) _ (subst (Ends L m) (sym (many_none n d [] refl)) (refl, shows_more L m d y i)) (λ xs e j. (refl, j))))

      many_front_read : (n : ℕ) (us : List L.Token) (xs : List A) → many wa us xs → (vs : List L.Token) → P vs → (c : Bool) → length (us ++ vs) ≤ n → Ends L m (read_many s y ra n c (us ++ vs))
      many_front_read n us [] w vs h c le = subst (λ z. Ends L m (read_many s y ra n c (z ++ vs))) (sym w) (last_front n c vs h (subst (λ z. length (z ++ vs) ≤ n) w le))
      many_front_read n us (x ∷ xs) w vs h c le =
          let i = ap (λ z. z ++ vs) w.2 ∙ append_assoc w.0 w.1 vs in
          let quiet = second_apart k s (w.1 ++ vs) [] split (λ t ts f. many_front_first L s wa P first some starts_front xs t ts w.1 vs (sym f) w.4 h) (λ f. refl) in
          let quiet_too : begins_with L k (w.1 ++ vs) ≡ false = subst (λ z. begins_with L k z ≡ false) (append_none (w.1 ++ vs)) quiet in
          let g = one_step n c w.0 x (w.1 ++ vs) w.3 quiet_too (subst (λ z. length z ≤ n) i le) in
          subst (Ends L m) (sym (ap (read_many s y ra n c) i ∙ g.3)) (then_ends L m (read_many s y ra g.1 g.0 (w.1 ++ vs)) _ (many_front_read g.1 w.1 xs w.4 vs h g.0 g.2) (λ xs e j. (refl, j)))

  -- parts that are asked for by the tree so far

  module _ {A : Type 0} (s k : A → List L.Kind) (y : A → Bool) (wa : A → Sentence L.Token A) (ra : A → Read L A) (first : (z x : A) (t : L.Token) (ts : List L.Token) → wa z (t ∷ ts) x → is_in L t (s z) ≡ true) (some : (z x : A) → wa z [] x → ⊥) (split : (z x : A) → apart L (k z) (s x) ≡ true) (each : (z : A) (us : List L.Token) (x : A) → wa z us x → (c : Bool) (v : List L.Token) → begins_with L (k z) v ≡ false → IsRead (ra z) c us x v) where
    growth_starts : (z : A) (us : List L.Token) (x : A) (v : List L.Token) → wa z us x → begins_with L (s z) (us ++ v) ≡ true
    growth_starts z us x v w = begun (s z) us v (λ t ts e. first z x t ts (subst (λ q. wa z q x) e w)) (λ e. some z x (subst (λ q. wa z q x) e w))

    growth_goes : (z x : A) (xs : List A) (us v : List L.Token) → steps wa x xs us → begins_with L (k z) v ≡ false → begins_with L (k z) (us ++ v) ≡ false
    growth_goes z x xs us v w e = second_apart (k z) (s x) us v (split z x) (λ t ts f. growth_begin L s wa first some x xs t ts (subst (λ q. steps wa x xs q) f w)) (λ f. e)

    -- one part, read before the rest of them
    growth_step : (n : ℕ) (c : Bool) (z : A) (us : List L.Token) (x : A) (ts : List L.Token) → wa z us x → begins_with L (k z) ts ≡ false → length (us ++ ts) ≤ n → (d : Bool) × (m : ℕ) × (length ts ≤ m) × (read_growth s y ra n z c (us ++ ts) ≡ read_growth s y ra m x d ts)
    growth_step n c z [] x ts w e le = absurd (some z x w)
    growth_step zero c z (u ∷ us) x ts w e le = absurd (omega arith)
    growth_step (suc n) c z (u ∷ us) x ts w e le =
        let h = each z (u ∷ us) x w c ts e in
        let b : begins_with L (s z) ((u ∷ us) ++ ts) ≡ true = growth_starts z (u ∷ us) x ts w in
        let g : ra z c ((u ∷ us) ++ ts) ≡ Got x h.0 ts = h.1 in
        (h.0, n, omega (arith, length-append us ts), rw (b, g) refl)

    growth_none : (m : ℕ) (z : A) (c : Bool) (v : List L.Token) → begins_with L (s z) v ≡ false → read_growth s y ra m z c v ≡ Got z (c || y z) v
    growth_none zero z c v e = refl
    growth_none (suc m) z c v e = rw e refl

    growth_read : (n : ℕ) (z : A) (us : List L.Token) (xs : List A) → steps wa z xs us → (c : Bool) (v : List L.Token) → ((q : A) → begins_with L (s q) v ≡ false) → ((q : A) → begins_with L (k q) v ≡ false) → length (us ++ v) ≤ n → IsRead (read_growth s y ra n z) c us (last_of z xs) v
    growth_read n z us [] w c v e f le = ((c || y z), ap (λ q. read_growth s y ra n z c (q ++ v)) w ∙ growth_none n z c v (e z))
    growth_read n z us (x ∷ xs) w c v e f le =
        let i = ap (λ q. q ++ v) w.2 ∙ append_assoc w.0 w.1 v in
        let g = growth_step n c z w.0 x (w.1 ++ v) w.3 (growth_goes z x xs w.1 v w.4 (f z)) (subst (λ q. length q ≤ n) i le) in
        let h = growth_read g.1 x w.1 xs w.4 g.0 v e f g.2 in
        (h.0, ap (read_growth s y ra n z c) i ∙ g.3 ∙ h.1)

    -- a viable prefix of such parts
    module _ (m : Ending L) (P : A → List L.Token → Type 0) (starts_front : (z : A) (t : L.Token) (ts : List L.Token) → P z (t ∷ ts) → is_in L t (s z) ≡ true) (none_front : (z : A) → P z [] → Shows L m (y z)) (each_front : (z : A) (ts : List L.Token) → P z ts → (c : Bool) → Ends L m (ra z c ts)) where
      last_growth : (n : ℕ) (z : A) (c : Bool) (ts : List L.Token) → P z ts → length ts ≤ n → Ends L m (read_growth s y ra n z c ts)
      last_growth zero z c [] h le = (refl, shows_eq L m (y z) _ (none_front z h) (or_right c (y z)))
      last_growth zero z c (t ∷ ts) h le = absurd (omega arith)
      last_growth (suc n) z c [] h le = (refl, shows_eq L m (y z) _ (none_front z h) (or_right c (y z)))
      last_growth (suc n) z c (t ∷ ts) h le =
          let b : is_in L t (s z) ≡ true = starts_front z t ts h in
          rw b (then_ends L m (ra z c (t ∷ ts)) _ (each_front z (t ∷ ts) h c) (λ x d i. subst (Ends L m) (sym (growth_none n x d [] refl)) (refl, shows_more L m d (y x) i)))

      growth_front_read : (n : ℕ) (z : A) (us : List L.Token) (xs : List A) → steps wa z xs us → (vs : List L.Token) → P (last_of z xs) vs → (c : Bool) → length (us ++ vs) ≤ n → Ends L m (read_growth s y ra n z c (us ++ vs))
      growth_front_read n z us [] w vs h c le = subst (λ q. Ends L m (read_growth s y ra n z c (q ++ vs))) (sym w) (last_growth n z c vs h (subst (λ q. length (q ++ vs) ≤ n) w le))
      growth_front_read n z us (x ∷ xs) w vs h c le =
          let i = ap (λ q. q ++ vs) w.2 ∙ append_assoc w.0 w.1 vs in
          let quiet = second_apart (k z) (s x) (w.1 ++ vs) [] (split z x) (λ t ts f. growth_front_first L s wa P first some starts_front x xs t ts w.1 vs (sym f) w.4 h) (λ f. refl) in
          let quiet_too : begins_with L (k z) (w.1 ++ vs) ≡ false = subst (λ q. begins_with L (k z) q ≡ false) (append_none (w.1 ++ vs)) quiet in
          let g = growth_step n c z w.0 x (w.1 ++ vs) w.3 quiet_too (subst (λ q. length q ≤ n) i le) in
          subst (Ends L m) (sym (ap (read_growth s y ra n z c) i ∙ g.3)) (growth_front_read g.1 x w.1 xs w.4 vs h g.0 g.2)

  within_not : (xs s : List L.Kind) (v : List L.Token) → within L xs s ≡ true → begins_with L s v ≡ false → begins_with L xs v ≡ false
  within_not xs s [] e h = refl
  within_not xs s (t ∷ v) e h = within_one L xs s _ e h

  -- Each sentence is read, before a token that it can't go on with.
  pub derives_read : {A : Type 0} (g : Grammar L A) → LL1 g → (us : List L.Token) (x : A) → Derives g us x → (c : Bool) (v : List L.Token) → begins_with L (extensions g) v ≡ false → IsRead (read g) c us x v
  derives_read (nothing y) p us x w c v e = (c, ap (λ z. Got y c (z ++ v)) w.0 ∙ ap (λ z. Got z c v) (sym w.1))
  derives_read (tok s q) p us x w c v e = (false, ap (λ z. read_one L s q c (z ++ v)) w.0 ∙ one_read s q x w.1 w.2 c v)
  derives_read (seq a b) p us x w c v e =
      let n = neither (extensions b) (cond (nullable b) (extensions a) []) v e in
      let quiet = second_apart (extensions a) (firsts b) w.1 v p.2
      (λ t ts f. derives_first L b p.1 x.1 t ts (subst (λ z. Derives b z x.1) f w.4))
      (λ f. subst (λ z. begins_with L (cond z (extensions a) []) v ≡ false) (derives_none L b p.1 x.1 (subst (λ z. Derives b z x.1) f w.4)) n.1) in
      subst (λ z. IsRead (read (seq a b)) c z x v) (sym w.2) (both_read (read a) (λ _. read b) c w.0 w.1 v x.0 x.1 (derives_read a p.0 w.0 x.0 w.3 c (w.1 ++ v) quiet) (λ d. derives_read b p.1 w.1 x.1 w.4 d v n.0))
  derives_read (alt a b) p us x (inl w) c v e =
      let st : begins_with L (firsts a) (us ++ v) ≡ true = begun (firsts a) us v (λ t ts f. derives_first L a p.0 x t ts (subst (λ z. Derives a z x) f w)) (λ f. never_none L a p.0 p.3 x (subst (λ z. Derives a z x) f w)) in
      let h = derives_read a p.0 us x w c v (neither (extensions a) (extensions b) v e).0 in
      (h.0, rw st h.1)
  derives_read (alt a b) p us x (inr w) c v e =
      let i = second_apart (firsts a) (firsts b) us v p.2 (λ t ts f. derives_first L b p.1 x t ts (subst (λ z. Derives b z x) f w)) (λ f. absurd (never_none L b p.1 p.4 x (subst (λ z. Derives b z x) f w))) in
      let h = derives_read b p.1 us x w (c || marks a) v (neither (extensions a) (extensions b) v e).1 in
      (h.0, rw i h.1)
  derives_read (opt a) p us None w c v e = ((c || marks a), ap (λ z. read (opt a) c (z ++ v)) w ∙ (let i : begins_with L (firsts a) v ≡ false = (neither (firsts a) (extensions a) v e).0 in rw i refl))
  derives_read (opt a) p us (Some x) w c v e =
      let b : begins_with L (firsts a) (us ++ v) ≡ true = begun (firsts a) us v (λ t ts f. derives_first L a p.0 x t ts (subst (λ z. Derives a z x) f w)) (λ f. never_none L a p.0 p.1 x (subst (λ z. Derives a z x) f w)) in
      let h = derives_read a p.0 us x w c v (neither (firsts a) (extensions a) v e).1 in
      let g : read a c (us ++ v) ≡ Got x h.0 v = h.1 in
      (h.0, rw (b, g) refl)
  derives_read (rep a) p us xs w c v e = many_read (firsts a) (extensions a) (marks a) (Derives a) (read a) (λ x t ts. derives_first L a p.0 x t ts) (never_none L a p.0 p.1) p.2 (λ us x. derives_read a p.0 us x) (length (us ++ v)) us xs w c v (neither (firsts a) (extensions a) v e).0 (neither (firsts a) (extensions a) v e).1 (omega arith)
  derives_read (as_tree f a) p us x w c v e = let h = derives_read a p us w.0 w.1 c v e in (h.0, ap (λ o. then_do o (λ x d us. Got (f x) d us)) h.1 ∙ ap (λ z. Got z h.0 v) (sym w.2))
  derives_read (dep a s f) p us x w c v e =
      let q = p.2 x.0 in
      let quiet = second_apart (extensions a) (firsts (f x.0)) w.1 v q.1
      (λ t ts i. derives_first L (f x.0) q.0 x.1 t ts (subst (λ z. Derives (f x.0) z x.1) i w.4))
      (λ i. within_not (extensions a) s v (q.2 (derives_none L (f x.0) q.0 x.1 (subst (λ z. Derives (f x.0) z x.1) i w.4))) e) in
      subst (λ z. IsRead (read (dep a s f)) c z x v) (sym w.2) (both_read (read a) (λ x. read (f x)) c w.0 w.1 v x.0 x.1 (derives_read a p.0 w.0 x.0 w.3 c (w.1 ++ v) quiet) (λ d. derives_read (f x.0) q.0 w.1 x.1 w.4 d v (within_not (extensions (f x.0)) s v q.3 e)))
  derives_read (grow x s f) p us y w c v e =
      let h = growth_read (λ z. firsts (f z)) (λ z. extensions (f z)) (λ z. marks (f z)) (λ z. Derives (f z)) (λ z. read (f z)) (λ z q t ts. derives_first L (f z) (p z).0 q t ts) (λ z q. never_none L (f z) (p z).0 (p z).1 q) (λ z q. (p z).4 q) (λ z us q. derives_read (f z) (p z).0 us q)
      (length (us ++ v)) x us w.0 w.2 c v (λ q. within_not (firsts (f q)) s v (p q).2 e) (λ q. within_not (extensions (f q)) s v (p q).3 e) (omega arith) in
      subst (λ z. IsRead (read (grow x s f)) c us z v) (sym w.1) h
  derives_read (marked a) p us x w c v e = derives_read a p us x w true v e

  -- Each viable prefix is read to its end.

  one_ends : (s : List L.Kind) (q : L.Token → Option L.Rule) (m : Ending L) (ts : List L.Token) → one L s q m ts → (c : Bool) → Ends L m (read_one L s q c ts)
  one_ends s q Fine [] h c = (refl, tt)
  one_ends s q Fine (t ∷ []) h c = subst (Ends L Fine) (sym (one_read s q t h.0 h.1 c [])) (refl, tt)
  one_ends s q Fine (t ∷ u ∷ ts) h c = absurd h
  one_ends s q Marked [] h c = absurd h
  one_ends s q Marked (t ∷ ts) h c = absurd h
  one_ends s q (Breaks r) [] h c = absurd h
  one_ends s q (Breaks r) (t ∷ []) h c = let e = h.0 in let f = h.1 in rw (e, f) (refl, (t, refl))
  one_ends s q (Breaks r) (t ∷ u ∷ ts) h c = absurd h

  empty_ends : {A : Type 0} (x : A) (m : Ending L) (ts : List L.Token) → empty_front m ts → (c : Bool) → Ends L m (Got x c ts)
  empty_ends x Fine ts h c = (h, tt)
  empty_ends x Marked ts h c = absurd h
  empty_ends x (Breaks r) ts h c = absurd h

  both_ends : {A B : Type 0} (m : Ending L) (ra : Read L A) (rb : A → Read L B) (c : Bool) (us vs : List L.Token) (x : A) → IsRead ra c us x vs → ((d : Bool) → Ends L m (rb x d vs)) → Ends L m (read_both ra rb c (us ++ vs))
  both_ends m ra rb c us vs x h g = let i : ra c (us ++ vs) ≡ Got x h.0 vs = h.1 in rw i (then_ends L m (rb x h.0 vs) _ (g h.0) (λ y e j. (refl, j)))

  quiet_front : (s u : List L.Kind) (vs : List L.Token) → apart L s u ≡ true → ((t : L.Token) (ts : List L.Token) → vs ≡ t ∷ ts → is_in L t u ≡ true) → begins_with L s vs ≡ false
  quiet_front s u [] e h = refl
  quiet_front s u (t ∷ vs) e h = not_begun s u t e (h t vs refl)

  pub front_read : {A : Type 0} (g : Grammar L A) → LL1 g → (m : Ending L) (ts : List L.Token) → Front g m ts → (c : Bool) → Ends L m (read g c ts)
  front_read (nothing y) p m ts h c = empty_ends y m ts h c
  front_read (tok s q) p m ts h c = one_ends s q m ts h c
  front_read (seq a b) p m ts (inl h) c = then_ends L m (read a c ts) _ (front_read a p.0 m ts h c) (λ x d i. then_ends L m (read b d []) _ (at_end L b m d i) (λ y e j. (refl, j)))
  front_read (seq a b) p m ts (inr h) c =
      let quiet = quiet_front (extensions a) (firsts b) h.2 p.2 (λ t ts f. front_first L b p.1 m t ts (subst (λ z. Front b m z) f h.5)) in
      subst (λ z. Ends L m (read (seq a b) c z)) (sym h.3) (both_ends m (read a) (λ _. read b) c h.1 h.2 h.0 (derives_read a p.0 h.1 h.0 h.4 c h.2 quiet) (λ d. front_read b p.1 m h.2 h.5 d))
  front_read (alt a b) p m [] (inl h) c = at_end L b m (c || marks a) (shows_eq L m (marks a) _ (front_none L a p.0 m h) (or_right c (marks a)))
  front_read (alt a b) p m (t ∷ ts) (inl h) c = let i : is_in L t (firsts a) ≡ true = front_first L a p.0 m t ts h in rw i (front_read a p.0 m (t ∷ ts) h c)
  front_read (alt a b) p m [] (inr h) c = front_read b p.1 m [] h (c || marks a)
  front_read (alt a b) p m (t ∷ ts) (inr h) c = let i : is_in L t (firsts a) ≡ false = not_begun (firsts a) (firsts b) t p.2 (front_first L b p.1 m t ts h) in rw i (front_read b p.1 m (t ∷ ts) h (c || marks a))
  front_read (opt a) p m [] h c = (refl, shows_eq L m (marks a) _ (front_none L a p.0 m h) (or_right c (marks a)))
  front_read (opt a) p m (t ∷ ts) h c = let i : is_in L t (firsts a) ≡ true = front_first L a p.0 m t ts h in rw i (then_ends L m (read a c (t ∷ ts)) _ (front_read a p.0 m (t ∷ ts) h c) (λ x d j. (refl, j)))
  front_read (rep a) p m ts h c =
      subst (λ z. Ends L m (read (rep a) c z)) (sym h.3) (many_front_read (firsts a) (extensions a) (marks a) (Derives a) (read a) (λ x t ts. derives_first L a p.0 x t ts) (never_none L a p.0 p.1) p.2 (λ us x. derives_read a p.0 us x)
      m (λ ts. Front a m ts) (λ t ts. front_first L a p.0 m t ts) (front_none L a p.0 m) (λ ts h c. front_read a p.0 m ts h c) (length (h.1 ++ h.2)) h.1 h.0 h.4 h.2 h.5 c (omega arith))
  front_read (as_tree f a) p m ts h c = then_ends L m (read a c ts) _ (front_read a p m ts h c) (λ x d j. (refl, j))
  front_read (dep a s f) p m ts (inl h) c = then_ends L m (read a c ts) _ (front_read a p.0 m ts h c) (λ x d i. then_ends L m (read (f x) d []) _ (at_end L (f x) m d i) (λ y e j. (refl, j)))
  front_read (dep a s f) p m ts (inr h) c =
      let q = p.2 h.0 in
      let quiet = quiet_front (extensions a) (firsts (f h.0)) h.2 q.1 (λ t ts i. front_first L (f h.0) q.0 m t ts (subst (λ z. Front (f h.0) m z) i h.5)) in
      subst (λ z. Ends L m (read (dep a s f) c z)) (sym h.3) (both_ends m (read a) (λ x. read (f x)) c h.1 h.2 h.0 (derives_read a p.0 h.1 h.0 h.4 c h.2 quiet) (λ d. front_read (f h.0) q.0 m h.2 h.5 d))
  front_read (grow x s f) p m ts h c =
      subst (λ z. Ends L m (read (grow x s f) c z)) (sym h.3) (growth_front_read (λ z. firsts (f z)) (λ z. extensions (f z)) (λ z. marks (f z)) (λ z. Derives (f z)) (λ z. read (f z)) (λ z q t ts. derives_first L (f z) (p z).0 q t ts) (λ z q. never_none L (f z) (p z).0 (p z).1 q) (λ z q. (p z).4 q) (λ z us q. derives_read (f z) (p z).0 us q)
      m (λ z ts. Front (f z) m ts) (λ z t ts. front_first L (f z) (p z).0 m t ts) (λ z. front_none L (f z) (p z).0 m) (λ z ts h c. front_read (f z) (p z).0 m ts h c) (length (h.1 ++ h.2)) x h.1 h.0 h.4 h.2 h.5 c (omega arith))
  front_read (marked a) p m ts (inl h) c = subst (λ z. Ends L m (read a true z)) (sym (mark_nil m ts h)) (at_end L a m true (mark_none m ts h))
    where
      mark_nil : (m : Ending L) (ts : List L.Token) → mark_front m ts → ts ≡ []
      mark_nil Fine ts h = absurd h
      mark_nil Marked ts h = h
      mark_nil (Breaks r) ts h = absurd h

      mark_none : (m : Ending L) (ts : List L.Token) → mark_front m ts → Shows L m true
      mark_none Fine ts h = absurd h
      mark_none Marked ts h = refl
      mark_none (Breaks r) ts h = absurd h
  front_read (marked a) p m ts (inr h) c = front_read a p m ts h true
