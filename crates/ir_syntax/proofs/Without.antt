-- Kinds of tokens that no production of a grammar takes: no token of its viable prefixes is of them.
use Rattle.std.proofs.Common.{◌≡◌, true, false, Option, Some, None, List, [], ◌∷◌, ◌++◌, inl, inr, sym, subst}
use Rattle.grammar.specs.Grammar.{Alphabet, Grammar, nothing, tok, seq, alt, opt, rep, as_tree, dep, grow, marked, has}
use Rattle.grammar.specs.LookAhead.{apart}
use Rattle.grammar.specs.Language.{Sentence, many, steps, last_of, Derives, Fine, one, Front}
use Rattle.grammar.proofs.Basics.{apart_one, true_false}

-- no production takes a token of these kinds
abbrev pub Without : {L : Alphabet} → List L.Kind → {A : Type 0} → Grammar L A → Type 0
Without ks (nothing a) = Unit
Without {L} ks (tok s p) = apart L ks s ≡ true
Without ks (seq a b) = Without ks a × Without ks b
Without ks (alt a b) = Without ks a × Without ks b
Without ks (opt a) = Without ks a
Without ks (rep a) = Without ks a
Without ks (as_tree f a) = Without ks a
Without ks (dep a s f) = Without ks a × ((x : _) → Without ks (f x))
Without ks (grow x s f) = (y : _) → Without ks (f y)
Without ks (marked a) = Without ks a

-- no token is of these kinds
abbrev pub Absent : (L : Alphabet) → List L.Kind → List L.Token → Type 0
Absent L ks [] = Unit
Absent L ks (t ∷ ts) = (has L ks (L.kind t) ≡ false) × Absent L ks ts

module _ (L : Alphabet) (ks : List L.Kind) where
  absent_both : (us vs : List L.Token) → Absent L ks us → Absent L ks vs → Absent L ks (us ++ vs)
  absent_both [] vs h k = k
  absent_both (u ∷ us) vs h k = (h.0, absent_both us vs h.1 k)

  absent_split : (ts us vs : List L.Token) → ts ≡ us ++ vs → Absent L ks us → Absent L ks vs → Absent L ks ts
  absent_split ts us vs e h k = subst (λ z. Absent L ks z) (sym e) (absent_both us vs h k)

  absent_none : (ts : List L.Token) → ts ≡ [] → Absent L ks ts
  absent_none ts e = subst (λ z. Absent L ks z) (sym e) tt

  pub absent_last : (us : List L.Token) (t : L.Token) → Absent L ks (us ++ t ∷ []) → has L ks (L.kind t) ≡ true → ⊥
  absent_last [] t h e = true_false (has L ks (L.kind t)) e h.0
  absent_last (u ∷ us) t h e = absent_last us t h.1 e

  absent_many : {A : Type 0} (wa : Sentence L.Token A) → ((ts : List L.Token) (x : A) → wa ts x → Absent L ks ts) → (xs : List A) (ts : List L.Token) → many wa ts xs → Absent L ks ts
  absent_many wa h [] ts w = absent_none ts w
  absent_many wa h (x ∷ xs) ts w = absent_split ts w.0 w.1 w.2 (h w.0 x w.3) (absent_many wa h xs w.1 w.4)

  absent_steps : {A : Type 0} (wa : A → Sentence L.Token A) → ((z : A) (ts : List L.Token) (x : A) → wa z ts x → Absent L ks ts) → (z : A) (xs : List A) (ts : List L.Token) → steps wa z xs ts → Absent L ks ts
  absent_steps wa h z [] ts w = absent_none ts w
  absent_steps wa h z (x ∷ xs) ts w = absent_split ts w.0 w.1 w.2 (h z w.0 x w.3) (absent_steps wa h x xs w.1 w.4)

  pub absent_derived : {A : Type 0} (g : Grammar L A) → Without ks g → (ts : List L.Token) (x : A) → Derives g ts x → Absent L ks ts
  absent_derived (nothing y) w ts x d = absent_none ts d.0
  absent_derived (tok s p) w ts t d = subst (λ z. Absent L ks z) (sym d.0) (apart_one L ks s (L.kind t) w d.1, tt)
  absent_derived (seq a b) w ts x d = absent_split ts d.0 d.1 d.2 (absent_derived a w.0 d.0 x.0 d.3) (absent_derived b w.1 d.1 x.1 d.4)
  absent_derived (alt a b) w ts x (inl d) = absent_derived a w.0 ts x d
  absent_derived (alt a b) w ts x (inr d) = absent_derived b w.1 ts x d
  absent_derived (opt a) w ts None d = absent_none ts d
  absent_derived (opt a) w ts (Some x) d = absent_derived a w ts x d
  absent_derived (rep a) w ts xs d = absent_many (Derives a) (λ ts x. absent_derived a w ts x) xs ts d
  absent_derived (as_tree f a) w ts x d = absent_derived a w ts d.0 d.1
  absent_derived (dep a s f) w ts x d = absent_split ts d.0 d.1 d.2 (absent_derived a w.0 d.0 x.0 d.3) (absent_derived (f x.0) (w.1 x.0) d.1 x.1 d.4)
  absent_derived (grow z s f) w ts x d = absent_steps (λ y. Derives (f y)) (λ y ts x. absent_derived (f y) (w y) ts x) z d.0 ts d.2
  absent_derived (marked a) w ts x d = absent_derived a w ts x d

  absent_one : (s : List L.Kind) (p : L.Token → Option L.Rule) → apart L ks s ≡ true → (ts : List L.Token) → one L s p Fine ts → Absent L ks ts
  absent_one s p w [] h = tt
  absent_one s p w (t ∷ []) h = (apart_one L ks s (L.kind t) w h.0, tt)
  absent_one s p w (t ∷ u ∷ ts) h = absurd h

  pub absent_front : {A : Type 0} (g : Grammar L A) → Without ks g → (ts : List L.Token) → Front g Fine ts → Absent L ks ts
  absent_front (nothing y) w ts h = absent_none ts h
  absent_front (tok s p) w ts h = absent_one s p w ts h
  absent_front (seq a b) w ts (inl h) = absent_front a w.0 ts h
  absent_front (seq a b) w ts (inr h) = absent_split ts h.1 h.2 h.3 (absent_derived a w.0 h.1 h.0 h.4) (absent_front b w.1 h.2 h.5)
  absent_front (alt a b) w ts (inl h) = absent_front a w.0 ts h
  absent_front (alt a b) w ts (inr h) = absent_front b w.1 ts h
  absent_front (opt a) w ts h = absent_front a w ts h
  absent_front (rep a) w ts h = absent_split ts h.1 h.2 h.3 (absent_many (Derives a) (λ ts x. absent_derived a w ts x) h.0 h.1 h.4) (absent_front a w h.2 h.5)
  absent_front (as_tree f a) w ts h = absent_front a w ts h
  absent_front (dep a s f) w ts (inl h) = absent_front a w.0 ts h
  absent_front (dep a s f) w ts (inr h) = absent_split ts h.1 h.2 h.3 (absent_derived a w.0 h.1 h.0 h.4) (absent_front (f h.0) (w.1 h.0) h.2 h.5)
  absent_front (grow z s f) w ts h = absent_split ts h.1 h.2 h.3 (absent_steps (λ y. Derives (f y)) (λ y ts x. absent_derived (f y) (w y) ts x) z h.0 h.1 h.4) (absent_front (f (last_of z h.0)) (w (last_of z h.0)) h.2 h.5)
  absent_front (marked a) w ts (inl h) = absurd h
  absent_front (marked a) w ts (inr h) = absent_front a w ts h
