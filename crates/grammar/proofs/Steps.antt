-- Turns of a repetition, as it is read.
use Rattle.std.proofs.Common.{◌≡◌, ℕ, zero, suc, ◌<◌, ◌≤◌, Bool, true, false, ◌||◌, cond, List, [], ◌∷◌, length, refl, sym, ap, ◌∙◌, subst, arith}
use Rattle.grammar.specs.declared.fault.Fault.{Fault}
use Rattle.grammar.specs.Grammar.{Alphabet, Grammar, rep, grow, is_in, begins_with}
use Rattle.grammar.specs.LookAhead.{firsts, marks, LL1}
use Rattle.grammar.specs.code.Reading.{Out, Got, Stop, Read, then_do, read_many, read_growth, read}
use Rattle.grammar.proofs.Going.{Moved, Moves, moves}

module _ (L : Alphabet) where
  many_none : {A : Type 0} (s : List L.Kind) (y : Bool) (ra : Read L A) (m : ℕ) (c : Bool) (v : List L.Token) → begins_with L s v ≡ false → read_many s y ra m c v ≡ Got [] (c || y) v
  many_none s y ra zero c v e = refl
  many_none s y ra (suc m) c v e = rw e refl

  -- more turns than tokens make no difference
  enough : {A : Type 0} (s : List L.Kind) (y : Bool) (ra : Read L A) → Moves L s ra → (n m : ℕ) (c : Bool) (ts : List L.Token) → length ts ≤ n → length ts ≤ m → read_many s y ra n c ts ≡ read_many s y ra m c ts
  enough s y ra h n m c [] i j = many_none s y ra n c [] refl ∙ sym (many_none s y ra m c [] refl)
  enough s y ra h zero m c (t ∷ ts) i j = absurd (omega arith)
  enough s y ra h (suc n) zero c (t ∷ ts) i j = absurd (omega arith)
  enough {A} s y ra h (suc n) (suc m) c (t ∷ ts) i j = by_test (is_in L t s) refl (λ d us k l. enough s y ra h n m d us k l)
    where
      by_out : (o : Out L A) → Moved L (t ∷ ts) o → ((d : Bool) (us : List L.Token) → length us ≤ n → length us ≤ m → read_many s y ra n d us ≡ read_many s y ra m d us) → then_do o (λ x d us. then_do (read_many s y ra n d us) (λ xs e vs. Got (x ∷ xs) e vs)) ≡ then_do o (λ x d us. then_do (read_many s y ra m d us) (λ xs e vs. Got (x ∷ xs) e vs))
      by_out (Got x d us) k g = ap (λ o. then_do o (λ xs e vs. Got (x ∷ xs) e vs)) (g d us (omega arith) (omega arith))
      by_out (Stop w us) k g = refl

      by_test : (b : Bool) → is_in L t s ≡ b → ((d : Bool) (us : List L.Token) → length us ≤ n → length us ≤ m → read_many s y ra n d us ≡ read_many s y ra m d us) → cond b (then_do (ra c (t ∷ ts)) (λ x d us. then_do (read_many s y ra n d us) (λ xs e vs. Got (x ∷ xs) e vs))) (Got [] (c || y) (t ∷ ts)) ≡ cond b (then_do (ra c (t ∷ ts)) (λ x d us. then_do (read_many s y ra m d us) (λ xs e vs. Got (x ∷ xs) e vs))) (Got [] (c || y) (t ∷ ts))
      by_test true e g = by_out (ra c (t ∷ ts)) (h c (t ∷ ts) e) g
      by_test false e g = refl

  pub turn : {A : Type 0} (g : Grammar L A) → LL1 g → (c : Bool) (ts : List L.Token) (x : A) (d : Bool) (us : List L.Token) → begins_with L (firsts g) ts ≡ true → read g c ts ≡ Got x d us → read (rep g) c ts ≡ then_do (read (rep g) d us) (λ xs e vs. Got (x ∷ xs) e vs)
  turn g p c [] x d us b e = absurd (cc)
  turn g p c (t ∷ ts) x d us b e =
      let m : length us < length (t ∷ ts) = subst (Moved L (t ∷ ts)) e (moves L g p c (t ∷ ts) b) in
      rw (b, e) (ap (λ o. then_do o (λ xs e vs. Got (x ∷ xs) e vs)) (enough (firsts g) (marks g) (read g) (moves L g p) (length ts) (length us) d us (omega arith) (omega arith)))

  pub shorter : {A : Type 0} (g : Grammar L A) → LL1 g → (c : Bool) (ts : List L.Token) (x : A) (d : Bool) (us : List L.Token) → begins_with L (firsts g) ts ≡ true → read g c ts ≡ Got x d us → length us < length ts
  shorter g p c ts x d us b e = subst (Moved L ts) e (moves L g p c ts b)

  pub no_turn : {A : Type 0} (g : Grammar L A) (c : Bool) (ts : List L.Token) → begins_with L (firsts g) ts ≡ false → read (rep g) c ts ≡ Got [] (c || marks g) ts
  no_turn g c ts e = many_none (firsts g) (marks g) (read g) (length ts) c ts e

  pub stopped_turn : {A : Type 0} (g : Grammar L A) (c : Bool) (ts : List L.Token) (w : Fault L.Rule) (us : List L.Token) → begins_with L (firsts g) ts ≡ true → read g c ts ≡ Stop w us → read (rep g) c ts ≡ Stop w us
  stopped_turn g c [] w us b e = absurd (cc)
  stopped_turn g c (t ∷ ts) w us b e = rw (b, e) refl

  -- the same of parts that are asked for by the tree so far

  growth_none : {A : Type 0} (s : A → List L.Kind) (y : A → Bool) (ra : A → Read L A) (m : ℕ) (z : A) (c : Bool) (v : List L.Token) → begins_with L (s z) v ≡ false → read_growth s y ra m z c v ≡ Got z (c || y z) v
  growth_none s y ra zero z c v e = refl
  growth_none s y ra (suc m) z c v e = rw e refl

  growth_enough : {A : Type 0} (s : A → List L.Kind) (y : A → Bool) (ra : A → Read L A) → ((z : A) → Moves L (s z) (ra z)) → (n m : ℕ) (z : A) (c : Bool) (ts : List L.Token) → length ts ≤ n → length ts ≤ m → read_growth s y ra n z c ts ≡ read_growth s y ra m z c ts
  growth_enough s y ra h n m z c [] i j = growth_none s y ra n z c [] refl ∙ sym (growth_none s y ra m z c [] refl)
  growth_enough s y ra h zero m z c (t ∷ ts) i j = absurd (omega arith)
  growth_enough s y ra h (suc n) zero z c (t ∷ ts) i j = absurd (omega arith)
  growth_enough {A} s y ra h (suc n) (suc m) z c (t ∷ ts) i j = by_test (is_in L t (s z)) refl (λ x d us k l. growth_enough s y ra h n m x d us k l)
    where
      by_out : (o : Out L A) → Moved L (t ∷ ts) o → ((x : A) (d : Bool) (us : List L.Token) → length us ≤ n → length us ≤ m → read_growth s y ra n x d us ≡ read_growth s y ra m x d us) → then_do o (λ x d us. read_growth s y ra n x d us) ≡ then_do o (λ x d us. read_growth s y ra m x d us)
      by_out (Got x d us) k g = g x d us (omega arith) (omega arith)
      by_out (Stop w us) k g = refl

      by_test : (b : Bool) → is_in L t (s z) ≡ b → ((x : A) (d : Bool) (us : List L.Token) → length us ≤ n → length us ≤ m → read_growth s y ra n x d us ≡ read_growth s y ra m x d us) → cond b (then_do (ra z c (t ∷ ts)) (λ x d us. read_growth s y ra n x d us)) (Got z (c || y z) (t ∷ ts)) ≡ cond b (then_do (ra z c (t ∷ ts)) (λ x d us. read_growth s y ra m x d us)) (Got z (c || y z) (t ∷ ts))
      by_test true e g = by_out (ra z c (t ∷ ts)) (h z c (t ∷ ts) e) g
      by_test false e g = refl

  module _ {A : Type 0} (s : List L.Kind) (f : A → Grammar L A) (p : (z : A) → LL1 (f z)) where
    pub growth_turn : (z : A) (c : Bool) (ts : List L.Token) (x : A) (d : Bool) (us : List L.Token) → begins_with L (firsts (f z)) ts ≡ true → read (f z) c ts ≡ Got x d us → read (grow z s f) c ts ≡ read (grow x s f) d us
    growth_turn z c [] x d us b e = absurd (cc)
    growth_turn z c (t ∷ ts) x d us b e =
        let m : length us < length (t ∷ ts) = subst (Moved L (t ∷ ts)) e (moves L (f z) (p z) c (t ∷ ts) b) in
        rw (b, e) (growth_enough (λ y. firsts (f y)) (λ y. marks (f y)) (λ y. read (f y)) (λ y. moves L (f y) (p y)) (length ts) (length us) x d us (omega arith) (omega arith))

    pub no_growth : (z : A) (c : Bool) (ts : List L.Token) → begins_with L (firsts (f z)) ts ≡ false → read (grow z s f) c ts ≡ Got z (c || marks (f z)) ts
    no_growth z c ts e = growth_none (λ y. firsts (f y)) (λ y. marks (f y)) (λ y. read (f y)) (length ts) z c ts e

    pub stopped_growth : (z : A) (c : Bool) (ts : List L.Token) (w : Fault L.Rule) (us : List L.Token) → begins_with L (firsts (f z)) ts ≡ true → read (f z) c ts ≡ Stop w us → read (grow z s f) c ts ≡ Stop w us
    stopped_growth z c [] w us b e = absurd (cc)
    stopped_growth z c (t ∷ ts) w us b e = rw (b, e) refl
