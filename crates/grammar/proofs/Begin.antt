-- What sentences and viable prefixes begin with, and how readings end.
use Rattle.std.proofs.Common.{◌≡◌, Bool, true, false, ◌||◌, ◌&&◌, cond, Option, Some, None, List, [], ◌∷◌, ◌++◌, inl, inr, refl, sym, ap, ◌∙◌, subst}
use Rattle.grammar.specs.declared.fault.Fault.TheVariants.{Unexpected, Broken}
use Rattle.grammar.specs.Grammar.{Alphabet, Grammar, nothing, tok, seq, alt, opt, rep, as_tree, dep, grow, marked, has, is_in}
use Rattle.grammar.specs.LookAhead.{nullable, firsts, marks, LL1}
use Rattle.grammar.specs.Language.{Sentence, many, steps, last_of, Derives, Ending, Fine, Marked, Breaks, one, empty_front, mark_front, Front}
use Rattle.grammar.specs.code.Reading.{Out, Got, Stop, Read, then_do, read}
use Rattle.grammar.proofs.Basics.{no_parts, or_true, has-append, true_false, or_right, or_left}

module _ (L : Alphabet) where
  in_left : (t : L.Token) (xs ys : List L.Kind) → is_in L t xs ≡ true → is_in L t (xs ++ ys) ≡ true
  in_left t xs ys h = has-append L xs ys (L.kind t) ∙ ap (λ b. b || has L ys (L.kind t)) h

  in_right : (t : L.Token) (xs ys : List L.Kind) → is_in L t ys ≡ true → is_in L t (xs ++ ys) ≡ true
  in_right t xs ys h = has-append L xs ys (L.kind t) ∙ ap (λ b. has L xs (L.kind t) || b) h ∙ or_true (has L xs (L.kind t))

  abbrev pub Shows : Ending L → Bool → Type 0
  Shows Fine d = Unit
  Shows Marked d = d ≡ true
  Shows (Breaks r) d = ⊥

  pub shows_more : (m : Ending L) (d y : Bool) → Shows m d → Shows m (d || y)
  shows_more Fine d y h = tt
  shows_more Marked true y h = refl
  shows_more Marked false y h = absurd (cc)
  shows_more (Breaks r) d y h = h

  shows_true : (m : Ending L) (d : Bool) → Shows m d → Shows m true
  shows_true Fine d h = tt
  shows_true Marked d h = refl
  shows_true (Breaks r) d h = h

  abbrev pub EndsFor : Ending L → L.Rule → List L.Token → Type 0
  EndsFor (Breaks q) r rest = (q ≡ r) × ((t : L.Token) × (rest ≡ t ∷ []))
  EndsFor Fine r rest = ⊥
  EndsFor Marked r rest = ⊥

  -- The reading comes to the end of the tokens. Broken: to the last one.
  abbrev pub Ends : {A : Type 0} → Ending L → Out L A → Type 0
  Ends m (Got x d rest) = (rest ≡ []) × Shows m d
  Ends m (Stop (Unexpected d) rest) = (rest ≡ []) × Shows m d
  Ends m (Stop (Broken r) rest) = EndsFor m r rest

  pub then_ends : {A B : Type 0} (m : Ending L) (o : Out L A) (k : A → Read L B) → Ends m o → ((x : A) (d : Bool) → Shows m d → Ends m (k x d [])) → Ends m (then_do o k)
  then_ends m (Got x d rest) k h g = subst (λ z. Ends m (k x d z)) (sym h.0) (g x d h.1)
  then_ends m (Stop (Unexpected d) rest) k h g = h
  then_ends m (Stop (Broken r) rest) k h g = h

  -- at the end

  pub at_end : {A : Type 0} (g : Grammar L A) (m : Ending L) (c : Bool) → Shows m c → Ends m (read g c [])
  at_end (nothing x) m c h = (refl, h)
  at_end (tok s p) m c h = (refl, h)
  at_end (seq a b) m c h = then_ends m (read a c []) _ (at_end a m c h) (λ x d i. then_ends m (read b d []) _ (at_end b m d i) (λ y e j. (refl, j)))
  at_end (alt a b) m c h = at_end b m (c || marks a) (shows_more m c (marks a) h)
  at_end (opt a) m c h = (refl, shows_more m c (marks a) h)
  at_end (rep a) m c h = (refl, shows_more m c (marks a) h)
  at_end (as_tree f a) m c h = then_ends m (read a c []) _ (at_end a m c h) (λ x d i. (refl, i))
  at_end (dep a s f) m c h = then_ends m (read a c []) _ (at_end a m c h) (λ x d i. then_ends m (read (f x) d []) _ (at_end (f x) m d i) (λ y e j. (refl, j)))
  at_end (grow x s f) m c h = (refl, shows_more m c (marks (f x)) h)
  at_end (marked a) m c h = at_end a m true (shows_true m c h)

  -- what a sentence begins with

  pub derives_none : {A : Type 0} (g : Grammar L A) → LL1 g → (x : A) → Derives g [] x → nullable g ≡ true
  derives_none (nothing y) p x w = refl
  derives_none (tok s q) p x w = absurd (cc)
  derives_none (seq a b) p x w =
      let n = no_parts w.0 w.1 w.2 in
      let i : nullable a ≡ true = derives_none a p.0 x.0 (subst (λ z. Derives a z x.0) n.0 w.3) in
      let j : nullable b ≡ true = derives_none b p.1 x.1 (subst (λ z. Derives b z x.1) n.1 w.4) in
      rw (i, j) refl
  derives_none (alt a b) p x (inl w) = let i : nullable a ≡ true = derives_none a p.0 x w in rw i refl
  derives_none (alt a b) p x (inr w) = let i : nullable b ≡ true = derives_none b p.1 x w in rw i (or_true (nullable a))
  derives_none (opt a) p x w = refl
  derives_none (rep a) p x w = refl
  derives_none (as_tree f a) p x w = derives_none a p w.0 w.1
  derives_none (dep a s f) p x w = absurd (true_false (nullable a) (derives_none a p.0 x.0 (subst (λ z. Derives a z x.0) (no_parts w.0 w.1 w.2).0 w.3)) p.1)
  derives_none (grow x s f) p y w = refl
  derives_none (marked a) p x w = derives_none a p x w

  both_begin : {A : Type 0} (s u : List L.Kind) (n : Bool) (wa : Sentence L.Token A) (x : A) (P : List L.Token → Type 0) → ((t : L.Token) (ts : List L.Token) → wa (t ∷ ts) x → is_in L t s ≡ true) → (wa [] x → n ≡ true) → ((t : L.Token) (ts : List L.Token) → P (t ∷ ts) → is_in L t u ≡ true)
      → (t : L.Token) (ts us vs : List L.Token) → t ∷ ts ≡ us ++ vs → wa us x → P vs → is_in L t (s ++ cond n u []) ≡ true
  both_begin s u n wa x P ha hn hb t ts [] vs e w q = let i : n ≡ true = hn w in rw i (in_right t s u (hb t ts (subst P (sym e) q)))
  both_begin s u n wa x P ha hn hb t ts (v ∷ us) vs e w q =
      let f : t ≡ v = cc in
      in_left t s (cond n u []) (ha t us (subst (λ z. wa (z ∷ us) x) (sym f) w))

  first_begins : {A : Type 0} (s : List L.Kind) (wa : Sentence L.Token A) (x : A) → ((t : L.Token) (ts : List L.Token) → wa (t ∷ ts) x → is_in L t s ≡ true) → (wa [] x → ⊥)
      → (t : L.Token) (ts us vs : List L.Token) → t ∷ ts ≡ us ++ vs → wa us x → is_in L t s ≡ true
  first_begins s wa x ha hn t ts [] vs e w = absurd (hn w)
  first_begins s wa x ha hn t ts (v ∷ us) vs e w = let f : t ≡ v = cc in ha t us (subst (λ z. wa (z ∷ us) x) (sym f) w)

  pub never_none : {A : Type 0} (g : Grammar L A) → LL1 g → nullable g ≡ false → (x : A) → Derives g [] x → ⊥
  never_none g p e x w = true_false (nullable g) (derives_none g p x w) e

  pub many_begin : {A : Type 0} (s : List L.Kind) (wa : Sentence L.Token A) → ((x : A) (t : L.Token) (ts : List L.Token) → wa (t ∷ ts) x → is_in L t s ≡ true) → ((x : A) → wa [] x → ⊥) → (xs : List A) (t : L.Token) (ts : List L.Token) → many wa (t ∷ ts) xs → is_in L t s ≡ true
  many_begin s wa ha hn [] t ts w = absurd (cc)
  many_begin s wa ha hn (x ∷ xs) t ts w = first_begins s wa x (ha x) (hn x) t ts w.0 w.1 w.2 w.3

  pub growth_begin : {A : Type 0} (s : A → List L.Kind) (wa : A → Sentence L.Token A) → ((x y : A) (t : L.Token) (ts : List L.Token) → wa x (t ∷ ts) y → is_in L t (s x) ≡ true) → ((x y : A) → wa x [] y → ⊥) → (x : A) (ys : List A) (t : L.Token) (ts : List L.Token) → steps wa x ys (t ∷ ts) → is_in L t (s x) ≡ true
  growth_begin s wa ha hn x [] t ts w = absurd (cc)
  growth_begin s wa ha hn x (y ∷ ys) t ts w = first_begins (s x) (wa x) y (ha x y) (hn x y) t ts w.0 w.1 w.2 w.3

  pub no_steps : {A : Type 0} (wa : A → Sentence L.Token A) → ((x y : A) → wa x [] y → ⊥) → (x : A) (ys : List A) → steps wa x ys [] → ys ≡ []
  no_steps wa hn x [] w = refl
  no_steps wa hn x (y ∷ ys) w = absurd (hn x y (subst (λ z. wa x z y) (no_parts w.0 w.1 w.2).0 w.3))

  pub derives_first : {A : Type 0} (g : Grammar L A) → LL1 g → (x : A) (t : L.Token) (ts : List L.Token) → Derives g (t ∷ ts) x → is_in L t (firsts g) ≡ true
  derives_first (nothing y) p x t ts w = absurd (let e = w.0 in cc)
  derives_first (tok s q) p x t ts w = let e = w.0 in let f : t ≡ x = cc in subst (λ z. is_in L z s ≡ true) (sym f) w.1
  derives_first (seq a b) p x t ts w = both_begin (firsts a) (firsts b) (nullable a) (Derives a) x.0 (λ vs. Derives b vs x.1) (λ t ts. derives_first a p.0 x.0 t ts) (derives_none a p.0 x.0) (λ t ts. derives_first b p.1 x.1 t ts) t ts w.0 w.1 w.2 w.3 w.4
  derives_first (alt a b) p x t ts (inl w) = in_left t (firsts a) (firsts b) (derives_first a p.0 x t ts w)
  derives_first (alt a b) p x t ts (inr w) = in_right t (firsts a) (firsts b) (derives_first b p.1 x t ts w)
  derives_first (opt a) p None t ts w = absurd (cc)
  derives_first (opt a) p (Some x) t ts w = derives_first a p.0 x t ts w
  derives_first (rep a) p xs t ts w = many_begin (firsts a) (Derives a) (λ x t ts. derives_first a p.0 x t ts) (never_none a p.0 p.1) xs t ts w
  derives_first (as_tree f a) p x t ts w = derives_first a p w.0 t ts w.1
  derives_first (dep a s f) p x t ts w = first_begins (firsts a) (Derives a) x.0 (λ t ts. derives_first a p.0 x.0 t ts) (never_none a p.0 p.1 x.0) t ts w.0 w.1 w.2 w.3
  derives_first (grow x s f) p y t ts w = growth_begin (λ z. firsts (f z)) (λ z. Derives (f z)) (λ z y t ts. derives_first (f z) (p z).0 y t ts) (λ z y. never_none (f z) (p z).0 (p z).1 y) x w.0 t ts w.2
  derives_first (marked a) p x t ts w = derives_first a p x t ts w

  -- what a viable prefix begins with

  one_first : (s : List L.Kind) (q : L.Token → Option L.Rule) (m : Ending L) (t : L.Token) (ts : List L.Token) → one L s q m (t ∷ ts) → is_in L t s ≡ true
  one_first s q Fine t [] h = h.0
  one_first s q Fine t (u ∷ ts) h = absurd h
  one_first s q Marked t ts h = absurd h
  one_first s q (Breaks r) t [] h = h.0
  one_first s q (Breaks r) t (u ∷ ts) h = absurd h

  empty_first : (m : Ending L) (t : L.Token) (ts : List L.Token) → empty_front m (t ∷ ts) → ⊥
  empty_first Fine t ts h = cc
  empty_first Marked t ts h = h
  empty_first (Breaks r) t ts h = h

  mark_first : (m : Ending L) (t : L.Token) (ts : List L.Token) → mark_front m (t ∷ ts) → ⊥
  mark_first Fine t ts h = h
  mark_first Marked t ts h = cc
  mark_first (Breaks r) t ts h = h

  pub many_front_first : {A : Type 0} (s : List L.Kind) (wa : Sentence L.Token A) (P : List L.Token → Type 0) → ((x : A) (t : L.Token) (ts : List L.Token) → wa (t ∷ ts) x → is_in L t s ≡ true) → ((x : A) → wa [] x → ⊥) → ((t : L.Token) (ts : List L.Token) → P (t ∷ ts) → is_in L t s ≡ true)
      → (xs : List A) (t : L.Token) (ts us vs : List L.Token) → t ∷ ts ≡ us ++ vs → many wa us xs → P vs → is_in L t s ≡ true
  many_front_first s wa P ha hn hb xs t ts [] vs e w q = hb t ts (subst P (sym e) q)
  many_front_first s wa P ha hn hb xs t ts (v ∷ us) vs e w q = let f : t ≡ v = cc in many_begin s wa ha hn xs t us (subst (λ z. many wa (z ∷ us) xs) (sym f) w)

  pub growth_front_first : {A : Type 0} (s : A → List L.Kind) (wa : A → Sentence L.Token A) (P : A → List L.Token → Type 0) → ((x y : A) (t : L.Token) (ts : List L.Token) → wa x (t ∷ ts) y → is_in L t (s x) ≡ true) → ((x y : A) → wa x [] y → ⊥) → ((x : A) (t : L.Token) (ts : List L.Token) → P x (t ∷ ts) → is_in L t (s x) ≡ true)
      → (x : A) (ys : List A) (t : L.Token) (ts us vs : List L.Token) → t ∷ ts ≡ us ++ vs → steps wa x ys us → P (last_of x ys) vs → is_in L t (s x) ≡ true
  growth_front_first s wa P ha hn hb x ys t ts [] vs e w q = hb x t ts (subst (P x) (sym e) (subst (λ z. P (last_of x z) vs) (no_steps wa hn x ys w) q))
  growth_front_first s wa P ha hn hb x ys t ts (v ∷ us) vs e w q = let f : t ≡ v = cc in growth_begin s wa ha hn x ys t us (subst (λ z. steps wa x ys (z ∷ us)) (sym f) w)

  pub front_first : {A : Type 0} (g : Grammar L A) → LL1 g → (m : Ending L) (t : L.Token) (ts : List L.Token) → Front g m (t ∷ ts) → is_in L t (firsts g) ≡ true
  front_first (nothing y) p m t ts h = absurd (empty_first m t ts h)
  front_first (tok s q) p m t ts h = one_first s q m t ts h
  front_first (seq a b) p m t ts (inl h) = in_left t (firsts a) (cond (nullable a) (firsts b) []) (front_first a p.0 m t ts h)
  front_first (seq a b) p m t ts (inr h) = both_begin (firsts a) (firsts b) (nullable a) (Derives a) h.0 (λ vs. Front b m vs) (λ t ts. derives_first a p.0 h.0 t ts) (derives_none a p.0 h.0) (λ t ts. front_first b p.1 m t ts) t ts h.1 h.2 h.3 h.4 h.5
  front_first (alt a b) p m t ts (inl h) = in_left t (firsts a) (firsts b) (front_first a p.0 m t ts h)
  front_first (alt a b) p m t ts (inr h) = in_right t (firsts a) (firsts b) (front_first b p.1 m t ts h)
  front_first (opt a) p m t ts h = front_first a p.0 m t ts h
  front_first (rep a) p m t ts h = many_front_first (firsts a) (Derives a) (λ vs. Front a m vs) (λ x t ts. derives_first a p.0 x t ts) (never_none a p.0 p.1) (λ t ts. front_first a p.0 m t ts) h.0 t ts h.1 h.2 h.3 h.4 h.5
  front_first (as_tree f a) p m t ts h = front_first a p m t ts h
  front_first (dep a s f) p m t ts (inl h) = front_first a p.0 m t ts h
  front_first (dep a s f) p m t ts (inr h) = first_begins (firsts a) (Derives a) h.0 (λ t ts. derives_first a p.0 h.0 t ts) (never_none a p.0 p.1 h.0) t ts h.1 h.2 h.3 h.4
  front_first (grow x s f) p m t ts h = growth_front_first (λ z. firsts (f z)) (λ z. Derives (f z)) (λ z vs. Front (f z) m vs) (λ z y t ts. derives_first (f z) (p z).0 y t ts) (λ z y. never_none (f z) (p z).0 (p z).1 y) (λ z t ts. front_first (f z) (p z).0 m t ts) x h.0 t ts h.1 h.2 h.3 h.4 h.5
  front_first (marked a) p m t ts (inl h) = absurd (mark_first m t ts h)
  front_first (marked a) p m t ts (inr h) = front_first a p m t ts h

  -- what an empty viable prefix says

  one_none : (s : List L.Kind) (q : L.Token → Option L.Rule) (m : Ending L) (d : Bool) → one L s q m [] → Shows m d
  one_none s q Fine d h = tt
  one_none s q Marked d h = absurd h
  one_none s q (Breaks r) d h = absurd h

  empty_none : (m : Ending L) (d : Bool) → empty_front m [] → Shows m d
  empty_none Fine d h = tt
  empty_none Marked d h = absurd h
  empty_none (Breaks r) d h = absurd h

  mark_none : (m : Ending L) → mark_front m [] → Shows m true
  mark_none Fine h = absurd h
  mark_none Marked h = refl
  mark_none (Breaks r) h = absurd h

  pub shows_eq : (m : Ending L) (d e : Bool) → Shows m d → (d ≡ true → e ≡ true) → Shows m e
  shows_eq Fine d e h f = tt
  shows_eq Marked d e h f = f h
  shows_eq (Breaks r) d e h f = h

  pub front_none : {A : Type 0} (g : Grammar L A) → LL1 g → (m : Ending L) → Front g m [] → Shows m (marks g)
  front_none (nothing y) p m h = empty_none m false h
  front_none (tok s q) p m h = one_none s q m false h
  front_none (seq a b) p m (inl h) = shows_eq m (marks a) _ (front_none a p.0 m h) (or_left (marks a) (nullable a && marks b))
  front_none (seq a b) p m (inr h) =
      let n = no_parts h.1 h.2 h.3 in
      let i : nullable a ≡ true = derives_none a p.0 h.0 (subst (λ z. Derives a z h.0) n.0 h.4) in
      shows_eq m (marks b) _ (front_none b p.1 m (subst (λ z. Front b m z) n.1 h.5)) (λ e. or_right (marks a) (nullable a && marks b) (rw (i, e) refl))
  front_none (alt a b) p m (inl h) = shows_eq m (marks a) _ (front_none a p.0 m h) (or_left (marks a) (marks b))
  front_none (alt a b) p m (inr h) = shows_eq m (marks b) _ (front_none b p.1 m h) (or_right (marks a) (marks b))
  front_none (opt a) p m h = front_none a p.0 m h
  front_none (rep a) p m h = front_none a p.0 m (subst (λ z. Front a m z) (no_parts h.1 h.2 h.3).1 h.5)
  front_none (as_tree f a) p m h = front_none a p m h
  front_none (dep a s f) p m (inl h) = front_none a p.0 m h
  front_none (dep a s f) p m (inr h) = absurd (never_none a p.0 p.1 h.0 (subst (λ z. Derives a z h.0) (no_parts h.1 h.2 h.3).0 h.4))
  front_none (grow x s f) p m h =
      let n = no_parts h.1 h.2 h.3 in
      let i = no_steps (λ z. Derives (f z)) (λ z y. never_none (f z) (p z).0 (p z).1 y) x h.0 (subst (λ z. steps (λ q. Derives (f q)) x h.0 z) n.0 h.4) in
      front_none (f x) (p x).0 m (subst (λ z. Front (f (last_of x z)) m []) i (subst (λ z. Front (f (last_of x h.0)) m z) n.1 h.5))
  front_none (marked a) p m (inl h) = mark_none m h
  front_none (marked a) p m (inr h) = shows_eq m (marks a) true (front_none a p m h) (λ e. refl)
