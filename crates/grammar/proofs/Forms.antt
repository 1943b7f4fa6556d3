-- The forms that grammars share: what they begin with, and how they are read.
use Rattle.std.specs.Prelude.{Result, Ok, Err}
use Rattle.std.proofs.Common.{◌≡◌, Bool, true, false, ◌||◌, ◌&&◌, Some, List, [], ◌∷◌, ◌++◌, refl, sym, ap, ◌∙◌}
use Rattle.grammar.specs.declared.fault.Fault.{Fault}
use Rattle.grammar.specs.declared.cursor.Cursor.{Cursor}
use Rattle.grammar.specs.declared.cursor.Halt.{Halt}
use Rattle.grammar.specs.declared.cursor.Halt.TheVariants.{Memory, At}
use Rattle.grammar.specs.Grammar.{Alphabet, Grammar, seq, opt, rep, as_tree, preceded, listed, cons, or_none, begins_with}
use Rattle.grammar.specs.LookAhead.{nullable, firsts, marks, LL1, Starts}
use Rattle.grammar.specs.code.Reading.{Out, Got, Stop, then_do, read}
use Rattle.grammar.specs.code.Gives.{Fails, Gives}
use Rattle.grammar.proofs.Basics.{append_none}

-- a part begins by its kinds
pub begun : {L : Alphabet} {A : Type 0} {g : Grammar L A} {kinds : List L.Kind} {mark : Bool} → Starts g kinds mark → (ts : List L.Token) → begins_with L (firsts g) ts ≡ begins_with L kinds ts
begun {L} s ts = ap (λ z. begins_with L z ts) s.begins

-- two productions that are read alike
pub gives_same : {L : Alphabet} {A : Type 0} (g h : Grammar L A) (a b d : Cursor L.Token) (r : Result A (Halt L.Token L.Rule)) → read g a.marked a.rest.now ≡ read h b.marked b.rest.now → Gives h b d r → Gives g a d r
gives_same g h a b d (Ok x) e i = e ∙ i
gives_same g h a b d (Err Memory) e i = tt
gives_same g h a b d (Err (At f rest)) e i = e ∙ i

pub preceded_firsts : {L : Alphabet} {A : Type 0} (s : L.Kind) (g : Grammar L A) → firsts (preceded (s ∷ []) g) ≡ s ∷ []
unfolding preceded
preceded_firsts s g = refl

pub preceded_marks : {L : Alphabet} {A : Type 0} (s : L.Kind) (g : Grammar L A) → marks (preceded (s ∷ []) g) ≡ false
unfolding preceded
preceded_marks s g = refl

pub preceded_decided : {L : Alphabet} {A : Type 0} (s : L.Kind) (g : Grammar L A) → LL1 g → LL1 (preceded (s ∷ []) g)
unfolding preceded
preceded_decided s g p = (tt, p, refl)

-- a test r of the separator tells whether one more item follows
pub preceded_begins : {L : Alphabet} {A : Type 0} (s : L.Kind) (g : Grammar L A) (ts : List L.Token) (r b : Bool) → r ≡ begins_with L (s ∷ []) ts → r ≡ b → begins_with L (firsts (preceded (s ∷ []) g)) ts ≡ b
preceded_begins {L} s g ts r b e f = ap (λ z. begins_with L z ts) (preceded_firsts s g) ∙ (sym e ∙ f)

-- a list with separators

and_none : (b : Bool) → (b && false) ≡ false
and_none true = refl
and_none false = refl

or_none_right : (b : Bool) → (b || false) ≡ b
or_none_right true = refl
or_none_right false = refl

module _ {L : Alphabet} {A B : Type 0} (g : Grammar L A) (r : Grammar L B) (some : nullable g ≡ false) where
  seq_firsts : firsts (seq g r) ≡ firsts g
  seq_firsts = rw some (append_none (firsts g))

  seq_marks : marks (seq g r) ≡ marks g
  seq_marks = rw some (or_none_right (marks g))

module _ {L : Alphabet} {A : Type 0} (g : Grammar L A) (r : Grammar L (List A)) (some : nullable g ≡ false) where
  abbrev list : Grammar L (List A)
  list = as_tree or_none (opt (as_tree cons (seq g r)))

  no_item : (c : Bool) (ts : List L.Token) → begins_with L (firsts g) ts ≡ false → read list c ts ≡ Got [] (c || marks g) ts
  no_item c ts b =
      let e : begins_with L (firsts (seq g r)) ts ≡ false = ap (λ z. begins_with L z ts) (seq_firsts g r some) ∙ b in
      rw e (ap (λ z. Got [] (c || z) ts) (seq_marks g r some))

  grouped : (x : A) (o : Out L (List A)) → then_do (then_do (then_do (then_do o (λ y e vs. Got (x, y) e vs)) (λ p d us. Got (cons p) d us)) (λ y d us. Got (Some y) d us)) (λ y d us. Got (or_none y) d us) ≡ then_do o (λ xs d us. Got ((x ∷ []) ++ xs) d us)
  grouped x (Got xs d us) = refl
  grouped x (Stop w us) = refl

  first_item : (c : Bool) (ts : List L.Token) (x : A) (d : Bool) (us : List L.Token) → begins_with L (firsts g) ts ≡ true → read g c ts ≡ Got x d us → read list c ts ≡ read (as_tree (λ xs. (x ∷ []) ++ xs) r) d us
  first_item c ts x d us b h =
      let e : begins_with L (firsts (seq g r)) ts ≡ true = ap (λ z. begins_with L z ts) (seq_firsts g r some) ∙ b in
      rw (e, h) (grouped x (read r d us))

  no_first : (c : Bool) (ts : List L.Token) (w : Fault L.Rule) (us : List L.Token) → begins_with L (firsts g) ts ≡ true → read g c ts ≡ Stop w us → read list c ts ≡ Stop w us
  no_first c ts w us b h =
      let e : begins_with L (firsts (seq g r)) ts ≡ true = ap (λ z. begins_with L z ts) (seq_firsts g r some) ∙ b in
      rw (e, h) refl

module _ {L : Alphabet} {A : Type 0} (s : L.Kind) (g : Grammar L A) (some : nullable g ≡ false) where
  pub listed_none : (c : Bool) (ts : List L.Token) → begins_with L (firsts g) ts ≡ false → read (listed (s ∷ []) g) c ts ≡ Got [] (c || marks g) ts
  unfolding listed
  listed_none c ts b = no_item g (rep (preceded (s ∷ []) g)) some c ts b

  pub listed_first : (c : Bool) (ts : List L.Token) (x : A) (d : Bool) (us : List L.Token) → begins_with L (firsts g) ts ≡ true → read g c ts ≡ Got x d us → read (listed (s ∷ []) g) c ts ≡ read (as_tree (λ xs. (x ∷ []) ++ xs) (rep (preceded (s ∷ []) g))) d us
  unfolding listed
  listed_first c ts x d us b h = first_item g (rep (preceded (s ∷ []) g)) some c ts x d us b h

  pub listed_stops : (c : Bool) (ts : List L.Token) (e : Halt L.Token L.Rule) → begins_with L (firsts g) ts ≡ true → Fails e (read g c ts) → Fails e (read (listed (s ∷ []) g) c ts)
  unfolding listed
  listed_stops c ts Memory b h = tt
  listed_stops c ts (At w rest) b h = no_first g (rep (preceded (s ∷ []) g)) some c ts w rest.now b h

  pub listed_fails : (c : Bool) (ts : List L.Token) (x : A) (d : Bool) (us : List L.Token) (e : Halt L.Token L.Rule) → begins_with L (firsts g) ts ≡ true → read g c ts ≡ Got x d us → Fails e (read (as_tree (λ xs. (x ∷ []) ++ xs) (rep (preceded (s ∷ []) g))) d us) → Fails e (read (listed (s ∷ []) g) c ts)
  listed_fails c ts x d us Memory b h i = tt
  listed_fails c ts x d us (At w rest) b h i = listed_first c ts x d us b h ∙ i
