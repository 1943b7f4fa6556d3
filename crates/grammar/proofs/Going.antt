-- How far a reading goes.
use Rattle.std.proofs.Common.{◌≡◌, ℕ, zero, suc, ◌<◌, ◌≤◌, Bool, true, false, ◌||◌, cond, Option, Some, None, List, [], ◌∷◌, ◌++◌, length, ◌⊎◌, inl, inr, refl, sym, ap, ◌∙◌, subst, arith}
use Rattle.grammar.specs.declared.fault.Fault.TheVariants.{Unexpected, Broken}
use Rattle.grammar.specs.Grammar.{Alphabet, Grammar, nothing, tok, seq, alt, opt, rep, as_tree, dep, grow, marked, is_in, begins_with}
use Rattle.grammar.specs.LookAhead.{nullable, firsts, marks, LL1}
use Rattle.grammar.specs.code.Reading.{Out, Got, Stop, Read, then_do, kept, read_one, read_both, read_maybe, read_many, read_growth, read}
use Rattle.grammar.proofs.Basics.{or_false, or_cases, and_cases, begins-append}

module _ (L : Alphabet) where
  -- what is left is no longer
  abbrev pub Shrunk : {A : Type 0} → List L.Token → Out L A → Type 0
  Shrunk ts (Got x d rest) = length rest ≤ length ts
  Shrunk ts (Stop w rest) = length rest ≤ length ts

  abbrev pub Shrinks : {A : Type 0} → Read L A → Type 0
  Shrinks r = (c : Bool) (ts : List L.Token) → Shrunk ts (r c ts)

  -- a reading goes on from what another one left
  then_shrunk : {A B : Type 0} (ts : List L.Token) (o : Out L A) (k : A → Read L B) → Shrunk ts o → ((x : A) → Shrinks (k x)) → Shrunk ts (then_do o k)
  then_shrunk ts (Stop w rest) k h g = h
  then_shrunk {A} {B} ts (Got x d mid) k h g = go (k x d mid) (g x d mid)
    where
      go : (o : Out L B) → Shrunk mid o → Shrunk ts o
      go (Got y e rest) i = omega arith
      go (Stop w rest) i = omega arith

  same_length : (vs : List L.Token) → length vs ≤ length vs
  same_length vs = omega arith

  either_shrinks : {A : Type 0} (ts : List L.Token) (b : Bool) (o p : Out L A) → Shrunk ts o → Shrunk ts p → Shrunk ts (cond b o p)
  either_shrinks ts true o p h i = h
  either_shrinks ts false o p h i = i

  both_shrinks : {A B : Type 0} (a : Read L A) (b : A → Read L B) → Shrinks a → ((x : A) → Shrinks (b x)) → Shrinks (read_both a b)
  both_shrinks {A} {B} a b ha hb c ts = then_shrunk ts (a c ts) _ (ha c ts) (λ x d us. then_shrunk us (b x d us) _ (hb x d us) (λ y e vs. same_length vs))

  many_shrinks : {A : Type 0} (s : List L.Kind) (y : Bool) (a : Read L A) → Shrinks a → (n : ℕ) → Shrinks (read_many s y a n)
  many_shrinks s y a h zero c ts = omega arith
  many_shrinks {A} s y a h (suc n) c ts = either_shrinks ts (begins_with L s ts) _ _ (then_shrunk ts (a c ts) _ (h c ts) (λ x d us. then_shrunk us (read_many s y a n d us) _ (many_shrinks s y a h n d us) (λ xs e vs. same_length vs))) (same_length ts)

  growth_shrinks : {A : Type 0} (s : A → List L.Kind) (y : A → Bool) (a : A → Read L A) → ((x : A) → Shrinks (a x)) → (n : ℕ) (x : A) → Shrinks (read_growth s y a n x)
  growth_shrinks s y a h zero x c ts = omega arith
  growth_shrinks s y a h (suc n) x c ts = either_shrinks ts (begins_with L (s x) ts) _ _ (then_shrunk ts (a x c ts) _ (h x c ts) (λ z d us. growth_shrinks s y a h n z d us)) (same_length ts)

  one_shrinks : (s : List L.Kind) (p : L.Token → Option L.Rule) → Shrinks (read_one L s p)
  one_shrinks s p c [] = omega arith
  one_shrinks s p c (t ∷ ts) = go (is_in L t s) (p t)
    where
      go : (b : Bool) (o : Option L.Rule) → Shrunk (t ∷ ts) (cond b (kept o t ts) (Stop (Unexpected c) (t ∷ ts)))
      go true None = omega arith
      go true (Some r) = omega arith
      go false o = omega arith

  maybe_shrinks : {A : Type 0} (s : List L.Kind) (y : Bool) (a : Read L A) → Shrinks a → Shrinks (read_maybe s y a)
  maybe_shrinks {A} s y a h c ts = go (begins_with L s ts)
    where
      go : (b : Bool) → Shrunk ts (cond b (then_do (a c ts) (λ x d us. Got (Some x) d us)) (Got None (c || y) ts))
      go true = then_shrunk ts (a c ts) _ (h c ts) (λ x e vs. same_length vs)
      go false = omega arith

  pub shrinks : {A : Type 0} (g : Grammar L A) → Shrinks (read g)
  shrinks (nothing x) = λ c ts. omega arith
  shrinks (tok s p) = one_shrinks s p
  shrinks (seq a b) = both_shrinks (read a) (λ _. read b) (shrinks a) (λ _. shrinks b)
  shrinks (alt a b) = λ c ts. either_shrinks ts (begins_with L (firsts a) ts) _ _ (shrinks a c ts) (shrinks b (c || marks a) ts)
  shrinks (opt a) = maybe_shrinks (firsts a) (marks a) (read a) (shrinks a)
  shrinks (rep a) = λ c ts. many_shrinks (firsts a) (marks a) (read a) (shrinks a) (length ts) c ts
  shrinks (as_tree f a) = λ c ts. then_shrunk ts (read a c ts) _ (shrinks a c ts) (λ x e vs. same_length vs)
  shrinks (dep a s f) = both_shrinks (read a) (λ x. read (f x)) (shrinks a) (λ x. shrinks (f x))
  shrinks (grow x s f) = λ c ts. growth_shrinks (λ y. firsts (f y)) (λ y. marks (f y)) (λ y. read (f y)) (λ y. shrinks (f y)) (length ts) x c ts
  shrinks (marked a) = λ c ts. shrinks a true ts

  -- Where none of its first tokens stands, what may be nothing is nothing.

  abbrev pub Skipped : {A : Type 0} → Read L A → Bool → List L.Token → Type 0
  Skipped {A} r c ts = (x : A) × (d : Bool) × (r c ts ≡ Got x d ts)

  both_skips : {A B : Type 0} (a : Read L A) (b : A → Read L B) (c : Bool) (ts : List L.Token) → Skipped a c ts → ((x : A) (d : Bool) → Skipped (b x) d ts) → Skipped (read_both a b) c ts
  both_skips a b c ts h g =
      let i = g h.0 h.1 in
      ((h.0, i.0), i.1, ap (λ o. then_do o (λ x d us. then_do (b x d us) (λ y e vs. Got (x, y) e vs))) h.2 ∙ ap (λ o. then_do o (λ y e vs. Got (h.0, y) e vs)) i.2)

  many_skips : {A : Type 0} (s : List L.Kind) (y : Bool) (a : Read L A) (n : ℕ) (c : Bool) (ts : List L.Token) → begins_with L s ts ≡ false → Skipped (read_many s y a n) c ts
  many_skips s y a zero c ts e = ([], (c || y), refl)
  many_skips s y a (suc n) c ts e = ([], (c || y), rw e refl)

  growth_skips : {A : Type 0} (s : A → List L.Kind) (y : A → Bool) (a : A → Read L A) (n : ℕ) (x : A) (c : Bool) (ts : List L.Token) → begins_with L (s x) ts ≡ false → Skipped (read_growth s y a n x) c ts
  growth_skips s y a zero x c ts e = (x, (c || y x), refl)
  growth_skips s y a (suc n) x c ts e = (x, (c || y x), rw e refl)

  begins_neither : (xs ys : List L.Kind) (ts : List L.Token) → begins_with L (xs ++ ys) ts ≡ false → (begins_with L xs ts ≡ false) × (begins_with L ys ts ≡ false)
  begins_neither xs ys ts e = or_false _ _ (sym (begins-append L xs ys ts) ∙ e)

  pub skips : {A : Type 0} (g : Grammar L A) → LL1 g → nullable g ≡ true → (c : Bool) (ts : List L.Token) → begins_with L (firsts g) ts ≡ false → Skipped (read g) c ts
  skips (nothing x) p e c ts h = (x, c, refl)
  skips (tok s q) p e c ts h = absurd (cc)
  skips (seq a b) p e c ts h =
      let both_empty = and_cases (nullable a) (nullable b) e in
      let neither = begins_neither (firsts a) (cond (nullable a) (firsts b) []) ts h in
      let second : begins_with L (firsts b) ts ≡ false = subst (λ z. begins_with L (cond z (firsts b) []) ts ≡ false) both_empty.0 neither.1 in
      both_skips (read a) (λ _. read b) c ts (skips a p.0 both_empty.0 c ts neither.0) (λ x d. skips b p.1 both_empty.1 d ts second)
  skips (alt a b) p e c ts h = absurd (grind (arith, or_cases (nullable a) (nullable b) e))
  skips (opt a) p e c ts h = (None, (c || marks a), rw h refl)
  skips (rep a) p e c ts h = many_skips (firsts a) (marks a) (read a) (length ts) c ts h
  skips (as_tree f a) p e c ts h = let i = skips a p e c ts h in (f i.0, i.1, ap (λ o. then_do o (λ x d us. Got (f x) d us)) i.2)
  skips (dep a s f) p e c ts h = absurd (cc)
  skips (grow x s f) p e c ts h = growth_skips (λ y. firsts (f y)) (λ y. marks (f y)) (λ y. read (f y)) (length ts) x c ts h
  skips (marked a) p e c ts h = skips a p e true ts h

  -- Where one of its first tokens stands, it is taken.

  abbrev pub Moved : {A : Type 0} → List L.Token → Out L A → Type 0
  Moved ts (Got x d rest) = length rest < length ts
  Moved ts (Stop (Unexpected d) rest) = length rest < length ts
  Moved ts (Stop (Broken r) rest) = Unit

  then_moved : {A B : Type 0} (ts : List L.Token) (o : Out L A) (k : A → Read L B) → Moved ts o → ((x : A) → Shrinks (k x)) → Moved ts (then_do o k)
  then_moved ts (Stop (Unexpected d) rest) k h g = h
  then_moved ts (Stop (Broken r) rest) k h g = tt
  then_moved {A} {B} ts (Got x d mid) k h g = go (k x d mid) (g x d mid)
    where
      go : (o : Out L B) → Shrunk mid o → Moved ts o
      go (Got y e rest) i = omega arith
      go (Stop (Unexpected e) rest) i = omega arith
      go (Stop (Broken r) rest) i = tt

  abbrev pub Moves : {A : Type 0} → List L.Kind → Read L A → Type 0
  Moves s r = (c : Bool) (ts : List L.Token) → begins_with L s ts ≡ true → Moved ts (r c ts)

  one_moves : (s : List L.Kind) (p : L.Token → Option L.Rule) → Moves s (read_one L s p)
  one_moves s p c [] h = absurd (cc)
  one_moves s p c (t ∷ ts) h = rw h (go (p t))
    where
      go : (o : Option L.Rule) → Moved (t ∷ ts) (kept o t ts)
      go None = omega arith
      go (Some r) = tt

  none_begins : (ts : List L.Token) → begins_with L [] ts ≡ true → ⊥
  none_begins [] i = cc
  none_begins (t ∷ ts) i = cc

  both_moves : {A B : Type 0} (s t : List L.Kind) (n : Bool) (a : Read L A) (b : Read L B) → Moves s a → (n ≡ true → (c : Bool) (ts : List L.Token) → begins_with L s ts ≡ false → Skipped a c ts) → Moves t b → Shrinks b → Moves (s ++ cond n t []) (read_both a (λ _. b))
  both_moves {A} {B} s t n a b ha skip hb shb c ts h = go (begins_with L s ts) refl n refl (or_cases _ _ (sym (begins-append L s (cond n t []) ts) ∙ h))
    where
      first : begins_with L s ts ≡ true → Moved ts (read_both a (λ _. b) c ts)
      first i = then_moved ts (a c ts) _ (ha c ts i) (λ x d us. then_shrunk us (b d us) _ (shb d us) (λ y e vs. same_length vs))

      go : (u : Bool) → begins_with L s ts ≡ u → (v : Bool) → n ≡ v → (begins_with L s ts ≡ true) ⊎ (begins_with L (cond n t []) ts ≡ true) → Moved ts (read_both a (λ _. b) c ts)
      go u e v f (inl i) = first i
      go true e v f (inr i) = first e
      go false e true f (inr i) =
          let s = skip f c ts e in
          let j : begins_with L t ts ≡ true = subst (λ z. begins_with L (cond z t []) ts ≡ true) f i in
          subst (Moved ts) (sym (ap (λ o. then_do o (λ x d us. then_do (b d us) (λ y e vs. Got (x, y) e vs))) s.2)) (then_moved ts (b s.1 ts) _ (hb s.1 ts j) (λ y e vs. same_length vs))
      go false e false f (inr i) = absurd (none_begins ts (subst (λ z. begins_with L (cond z t []) ts ≡ true) f i))

  either_moves : {A : Type 0} (s t : List L.Kind) (y : Bool) (a b : Read L A) → Moves s a → Moves t b → Moves (s ++ t) (λ c ts. cond (begins_with L s ts) (a c ts) (b (c || y) ts))
  either_moves {A} s t y a b ha hb c ts h = go (begins_with L s ts) refl
    where
      go : (u : Bool) → begins_with L s ts ≡ u → Moved ts (cond u (a c ts) (b (c || y) ts))
      go true e = ha c ts e
      go false e = hb (c || y) ts (sym (ap (λ z. z || begins_with L t ts) e) ∙ sym (begins-append L s t ts) ∙ h)

  pub moves : {A : Type 0} (g : Grammar L A) → LL1 g → Moves (firsts g) (read g)
  moves (nothing x) p c [] h = absurd (cc)
  moves (nothing x) p c (t ∷ ts) h = absurd (cc)
  moves (tok s q) p c ts h = one_moves s q c ts h
  moves (seq a b) p c ts h = both_moves (firsts a) (firsts b) (nullable a) (read a) (read b) (moves a p.0) (λ e c ts. skips a p.0 e c ts) (moves b p.1) (shrinks b) c ts h
  moves (alt a b) p c ts h = either_moves (firsts a) (firsts b) (marks a) (read a) (read b) (moves a p.0) (moves b p.1) c ts h
  moves (opt a) p c ts h = rw h (then_moved ts (read a c ts) _ (moves a p.0 c ts h) (λ x e vs. same_length vs))
  moves (rep a) p c [] h = absurd (cc)
  moves (rep a) p c (t ∷ ts) h = rw h (then_moved (t ∷ ts) (read a c (t ∷ ts)) _ (moves a p.0 c (t ∷ ts) h) (λ x d us. then_shrunk us (read_many (firsts a) (marks a) (read a) (length ts) d us) _ (many_shrinks (firsts a) (marks a) (read a) (shrinks a) (length ts) d us) (λ xs e vs. same_length vs)))
  moves (as_tree f a) p c ts h = then_moved ts (read a c ts) _ (moves a p c ts h) (λ x e vs. same_length vs)
  moves (dep a s f) p c ts h = then_moved ts (read a c ts) _ (moves a p.0 c ts h) (λ x d us. then_shrunk us (read (f x) d us) _ (shrinks (f x) d us) (λ y e vs. same_length vs))
  moves (grow x s f) p c [] h = absurd (cc)
  moves (grow x s f) p c (t ∷ ts) h = rw h (then_moved (t ∷ ts) (read (f x) c (t ∷ ts)) _ (moves (f x) (p x).0 c (t ∷ ts) h) (λ z d us. growth_shrinks (λ y. firsts (f y)) (λ y. marks (f y)) (λ y. read (f y)) (λ y. shrinks (f y)) (length ts) z d us))
  moves (marked a) p c ts h = moves a p true ts h
