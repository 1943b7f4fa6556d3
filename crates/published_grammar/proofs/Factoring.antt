-- What factoring a production uses: laws of the order of grammars.
use Rattle.std.specs.Prelude.{nat_eq}
use Rattle.std.proofs.Common.{◌≡◌, Bool, true, false, ◌||◌, Option, Some, None, List, [], ◌∷◌, ◌++◌, ◌⊎◌, inl, inr, refl, sym, ap, ◌∙◌, subst, append_assoc}
use Rattle.std.proofs.lemmas.List.{append-nil}
use Rattle.grammar.specs.Grammar.{Alphabet, Grammar, tok, seq, alt, opt, as_tree, dep, marked, has}
use Rattle.grammar.specs.Language.{Derives, Ending, Fine, Marked, Breaks, Front, one}
use Rattle.published_grammar.proofs.Algebra.{Within, Same, within_itself, either}

-- trees

-- other trees, which are equal at the trees of sentences
pub within_alike : {L : Alphabet} {A B : Type 0} {a b : Grammar L A} (f g : A → B) → ((ts : List L.Token) (x : A) → Derives a ts x → f x ≡ g x) → Within a b → Within (as_tree f a) (as_tree g b)
within_alike f g e p = record { sentences = λ ts y w. (w.0, p.sentences ts w.0 w.1, w.2 ∙ e ts w.0 w.1); fronts = p.fronts }

pub same_alike : {L : Alphabet} {A B : Type 0} (a : Grammar L A) (f g : A → B) → ((ts : List L.Token) (x : A) → Derives a ts x → f x ≡ g x) → Same (as_tree f a) (as_tree g a)
same_alike a f g e = record { there = within_alike f g e (within_itself a); back = within_alike g f (λ ts x w. sym (e ts x w)) (within_itself a) }

-- a tree of a tree
pub trees_joined : {L : Alphabet} {A B C : Type 0} (f : B → C) (g : A → B) (a : Grammar L A) → Same (as_tree f (as_tree g a)) (as_tree (λ x. f (g x)) a)
trees_joined f g a = record {
  there = record { sentences = λ ts y w. (w.1.0, w.1.1, w.2 ∙ ap f w.1.2); fronts = λ m ts w. w };
  back = record { sentences = λ ts y w. (g w.0, (w.0, w.1, refl), w.2); fronts = λ m ts w. w };
}

pub trees_apart : {L : Alphabet} {A B : Type 0} (f : A → B) (a b : Grammar L A) → Same (as_tree f (alt a b)) (alt (as_tree f a) (as_tree f b))
trees_apart {L} {A} {B} f a b = record { there = record { sentences = there; fronts = λ m ts w. w }; back = record { sentences = back; fronts = λ m ts w. w } }
  where
    one : (ts : List L.Token) (y : B) (x : A) → y ≡ f x → Derives a ts x ⊎ Derives b ts x → Derives (as_tree f a) ts y ⊎ Derives (as_tree f b) ts y
    one ts y x e (inl w) = inl (x, w, e)
    one ts y x e (inr w) = inr (x, w, e)

    there : (ts : List L.Token) (y : B) → Derives (as_tree f (alt a b)) ts y → Derives (as_tree f a) ts y ⊎ Derives (as_tree f b) ts y
    there ts y w = one ts y w.0 w.2 w.1

    back : (ts : List L.Token) (y : B) → Derives (as_tree f a) ts y ⊎ Derives (as_tree f b) ts y → Derives (as_tree f (alt a b)) ts y
    back ts y (inl w) = (w.0, inl w.1, w.2)
    back ts y (inr w) = (w.0, inr w.1, w.2)

-- a tree of the first part, and one of the second
pub tree_first : {L : Alphabet} {A B C D : Type 0} (h : B × C → D) (f : A → B) (a : Grammar L A) (c : Grammar L C) → Same (as_tree h (seq (as_tree f a) c)) (as_tree (λ p. h (f p.0, p.1)) (seq a c))
tree_first {L} {A} {B} {C} {D} h f a c = record { there = record { sentences = there; fronts = fronts_there }; back = record { sentences = back; fronts = fronts_back } }
  where
    there : (ts : List L.Token) (y : D) → Derives (as_tree h (seq (as_tree f a) c)) ts y → Derives (as_tree (λ p. h (f p.0, p.1)) (seq a c)) ts y
    there ts y (x, (us, vs, e, (z, w, i), v), j) = ((z, x.1), (us, vs, e, w, v), j ∙ ap (λ k. h (k, x.1)) i)

    back : (ts : List L.Token) (y : D) → Derives (as_tree (λ p. h (f p.0, p.1)) (seq a c)) ts y → Derives (as_tree h (seq (as_tree f a) c)) ts y
    back ts y (x, (us, vs, e, w, v), j) = ((f x.0, x.1), (us, vs, e, (x.0, w, refl), v), j)

    fronts_there : (m : Ending L) (ts : List L.Token) → Front (seq (as_tree f a) c) m ts → Front (seq a c) m ts
    fronts_there m ts (inl w) = inl w
    fronts_there m ts (inr (x, us, vs, e, (z, w, i), v)) = inr (z, us, vs, e, w, v)

    fronts_back : (m : Ending L) (ts : List L.Token) → Front (seq a c) m ts → Front (seq (as_tree f a) c) m ts
    fronts_back m ts (inl w) = inl w
    fronts_back m ts (inr (x, us, vs, e, w, v)) = inr (f x, us, vs, e, (x, w, refl), v)

pub tree_second : {L : Alphabet} {A B C D : Type 0} (h : A × C → D) (f : B → C) (a : Grammar L A) (b : Grammar L B) → Same (as_tree h (seq a (as_tree f b))) (as_tree (λ p. h (p.0, f p.1)) (seq a b))
tree_second {L} {A} {B} {C} {D} h f a b = record { there = record { sentences = there; fronts = λ m ts w. w }; back = record { sentences = back; fronts = λ m ts w. w } }
  where
    there : (ts : List L.Token) (y : D) → Derives (as_tree h (seq a (as_tree f b))) ts y → Derives (as_tree (λ p. h (p.0, f p.1)) (seq a b)) ts y
    there ts y (x, (us, vs, e, w, (z, v, i)), j) = ((x.0, z), (us, vs, e, w, v), j ∙ ap (λ k. h (x.0, k)) i)

    back : (ts : List L.Token) (y : D) → Derives (as_tree (λ p. h (p.0, f p.1)) (seq a b)) ts y → Derives (as_tree h (seq a (as_tree f b))) ts y
    back ts y (x, (us, vs, e, w, v), j) = ((x.0, f x.1), (us, vs, e, w, (x.1, v, refl)), j)

-- of what the first part asks for
pub tree_asked : {L : Alphabet} {A B C : Type 0} (s : List L.Kind) (h : A → B → C) (a : Grammar L A) (f : A → Grammar L B) → Same (dep a s (λ x. as_tree (h x) (f x))) (as_tree (λ p. (p.0, h p.0 p.1)) (dep a s f))
tree_asked {L} {A} {B} {C} s h a f = record { there = record { sentences = there; fronts = λ m ts w. w }; back = record { sentences = back; fronts = λ m ts w. w } }
  where
    there : (ts : List L.Token) (y : A × C) → Derives (dep a s (λ x. as_tree (h x) (f x))) ts y → Derives (as_tree (λ p. (p.0, h p.0 p.1)) (dep a s f)) ts y
    there ts y (us, vs, e, w, (z, v, i)) = ((y.0, z), (us, vs, e, w, v), ap (λ k. (y.0, k)) i)

    back : (ts : List L.Token) (y : A × C) → Derives (as_tree (λ p. (p.0, h p.0 p.1)) (dep a s f)) ts y → Derives (dep a s (λ x. as_tree (h x) (f x))) ts y
    back ts y (x, (us, vs, e, w, v), i) = (us, vs, e, subst (Derives a us) (sym (ap (λ k. k.0) i)) w, subst (λ k. Derives (as_tree (h k.0) (f k.0)) vs k.1) (sym i) (x.1, v, refl))

-- tokens

has_append : (L : Alphabet) (s z : List L.Kind) (k : L.Kind) → has L (s ++ z) k ≡ (has L s k || has L z k)
has_append L [] z k = refl
has_append L (x ∷ s) z k = step (nat_eq (L.code x) (L.code k)) (has_append L s z k)
  where
    step : (b : Bool) → has L (s ++ z) k ≡ (has L s k || has L z k) → (b || has L (s ++ z) k) ≡ ((b || has L s k) || has L z k)
    step true e = refl
    step false e = e

-- more kinds
pub within_kinds : {L : Alphabet} (s z : List L.Kind) (p : L.Token → Option L.Rule) → ((k : L.Kind) → has L s k ≡ true → has L z k ≡ true) → Within {L = L} (tok s p) (tok z p)
within_kinds {L} s z p h = record { sentences = λ ts x w. (w.0, h (L.kind x) w.1, w.2); fronts = front }
  where
    front : (m : Ending L) (ts : List L.Token) → one L s p m ts → one L z p m ts
    front Fine [] w = tt
    front Fine (t ∷ []) w = (h (L.kind t) w.0, w.1)
    front Fine (t ∷ u ∷ ts) w = w
    front Marked ts w = w
    front (Breaks r) [] w = w
    front (Breaks r) (t ∷ []) w = (h (L.kind t) w.0, w.1)
    front (Breaks r) (t ∷ u ∷ ts) w = w

-- kinds in two parts
pub kinds_apart : {L : Alphabet} (s z : List L.Kind) (p : L.Token → Option L.Rule) → Within {L = L} (tok (s ++ z) p) (alt (tok s p) (tok z p))
kinds_apart {L} s z p = record { sentences = sentence; fronts = front }
  where
    cases : (k : L.Kind) → has L (s ++ z) k ≡ true → (has L s k ≡ true) ⊎ (has L z k ≡ true)
    cases k e = go (has L s k) (has L z k) (sym (has_append L s z k) ∙ e)
      where
        go : (a b : Bool) → (a || b) ≡ true → (a ≡ true) ⊎ (b ≡ true)
        go true b e = inl refl
        go false b e = inr e

    sentence : (ts : List L.Token) (x : L.Token) → Derives {L = L} (tok (s ++ z) p) ts x → Derives {L = L} (tok s p) ts x ⊎ Derives {L = L} (tok z p) ts x
    sentence ts x w = go (cases (L.kind x) w.1)
      where
        go : (has L s (L.kind x) ≡ true) ⊎ (has L z (L.kind x) ≡ true) → Derives {L = L} (tok s p) ts x ⊎ Derives {L = L} (tok z p) ts x
        go (inl e) = inl (w.0, e, w.2)
        go (inr e) = inr (w.0, e, w.2)

    front : (m : Ending L) (ts : List L.Token) → one L (s ++ z) p m ts → one L s p m ts ⊎ one L z p m ts
    front Fine [] w = inl tt
    front Fine (t ∷ []) w = go (cases (L.kind t) w.0)
      where
        go : (has L s (L.kind t) ≡ true) ⊎ (has L z (L.kind t) ≡ true) → one L s p Fine (t ∷ []) ⊎ one L z p Fine (t ∷ [])
        go (inl e) = inl (e, w.1)
        go (inr e) = inr (e, w.1)
    front Fine (t ∷ u ∷ ts) w = inl w
    front Marked ts w = inl w
    front (Breaks r) [] w = inl w
    front (Breaks r) (t ∷ []) w = go (cases (L.kind t) w.0)
      where
        go : (has L s (L.kind t) ≡ true) ⊎ (has L z (L.kind t) ≡ true) → one L s p (Breaks r) (t ∷ []) ⊎ one L z p (Breaks r) (t ∷ [])
        go (inl e) = inl (e, w.1)
        go (inr e) = inr (e, w.1)
    front (Breaks r) (t ∷ u ∷ ts) w = inl w

-- marks

pub within_mark : {L : Alphabet} {A : Type 0} (a : Grammar L A) → Within a (marked a)
within_mark a = record { sentences = λ ts x w. w; fronts = λ m ts w. inr w }

-- a mark within one at the same place
pub mark_again : {L : Alphabet} {A : Type 0} {a b : Grammar L A} → Within a (marked b) → Within (marked a) (marked b)
mark_again {L} {A} {a} {b} p = record { sentences = p.sentences; fronts = front }
  where
    front : (m : Ending L) (ts : List L.Token) → Front (marked a) m ts → Front (marked b) m ts
    front m ts (inl w) = inl w
    front m ts (inr w) = p.fronts m ts w

pub mark_of_tree : {L : Alphabet} {A B : Type 0} (f : A → B) (a : Grammar L A) → Within (as_tree f (marked a)) (marked (as_tree f a))
mark_of_tree f a = record { sentences = λ ts x w. w; fronts = λ m ts w. w }

-- sequences

-- a choice in the first part, and one in the second
pub choice_first : {L : Alphabet} {A B : Type 0} (s : List L.Kind) (a b : Grammar L A) (f : A → Grammar L B) → Same (dep (alt a b) s f) (alt (dep a s f) (dep b s f))
choice_first {L} {A} {B} s a b f = record {
  there = record { sentences = λ ts x w. there ts x w.0 w.1 w.2 w.3 w.4; fronts = fronts_there };
  back = either (record { sentences = λ ts x w. (w.0, w.1, w.2, inl w.3, w.4); fronts = from_left }) (record { sentences = λ ts x w. (w.0, w.1, w.2, inr w.3, w.4); fronts = from_right });
}
  where
    there : (ts : List L.Token) (x : A × B) (us vs : List L.Token) → ts ≡ us ++ vs → Derives a us x.0 ⊎ Derives b us x.0 → Derives (f x.0) vs x.1 → Derives (dep a s f) ts x ⊎ Derives (dep b s f) ts x
    there ts x us vs e (inl w) v = inl (us, vs, e, w, v)
    there ts x us vs e (inr w) v = inr (us, vs, e, w, v)

    fronts_there : (m : Ending L) (ts : List L.Token) → Front (dep (alt a b) s f) m ts → Front (dep a s f) m ts ⊎ Front (dep b s f) m ts
    fronts_there m ts (inl (inl w)) = inl (inl w)
    fronts_there m ts (inl (inr w)) = inr (inl w)
    fronts_there m ts (inr (x, us, vs, e, inl w, v)) = inl (inr (x, us, vs, e, w, v))
    fronts_there m ts (inr (x, us, vs, e, inr w, v)) = inr (inr (x, us, vs, e, w, v))

    from_left : (m : Ending L) (ts : List L.Token) → Front (dep a s f) m ts → Front (dep (alt a b) s f) m ts
    from_left m ts (inl w) = inl (inl w)
    from_left m ts (inr (x, us, vs, e, w, v)) = inr (x, us, vs, e, inl w, v)

    from_right : (m : Ending L) (ts : List L.Token) → Front (dep b s f) m ts → Front (dep (alt a b) s f) m ts
    from_right m ts (inl w) = inl (inr w)
    from_right m ts (inr (x, us, vs, e, w, v)) = inr (x, us, vs, e, inr w, v)

pub choice_asked : {L : Alphabet} {A B : Type 0} (s : List L.Kind) (a : Grammar L A) (f g : A → Grammar L B) → Same (dep a s (λ x. alt (f x) (g x))) (alt (dep a s f) (dep a s g))
choice_asked {L} {A} {B} s a f g = record {
  there = record { sentences = λ ts x w. there ts x w.0 w.1 w.2 w.3 w.4; fronts = fronts_there };
  back = either (record { sentences = λ ts x w. (w.0, w.1, w.2, w.3, inl w.4); fronts = from_left }) (record { sentences = λ ts x w. (w.0, w.1, w.2, w.3, inr w.4); fronts = from_right });
}
  where
    there : (ts : List L.Token) (x : A × B) (us vs : List L.Token) → ts ≡ us ++ vs → Derives a us x.0 → Derives (f x.0) vs x.1 ⊎ Derives (g x.0) vs x.1 → Derives (dep a s f) ts x ⊎ Derives (dep a s g) ts x
    there ts x us vs e w (inl v) = inl (us, vs, e, w, v)
    there ts x us vs e w (inr v) = inr (us, vs, e, w, v)

    fronts_there : (m : Ending L) (ts : List L.Token) → Front (dep a s (λ x. alt (f x) (g x))) m ts → Front (dep a s f) m ts ⊎ Front (dep a s g) m ts
    fronts_there m ts (inl w) = inl (inl w)
    fronts_there m ts (inr (x, us, vs, e, w, inl v)) = inl (inr (x, us, vs, e, w, v))
    fronts_there m ts (inr (x, us, vs, e, w, inr v)) = inr (inr (x, us, vs, e, w, v))

    from_left : (m : Ending L) (ts : List L.Token) → Front (dep a s f) m ts → Front (dep a s (λ x. alt (f x) (g x))) m ts
    from_left m ts (inl w) = inl w
    from_left m ts (inr (x, us, vs, e, w, v)) = inr (x, us, vs, e, w, inl v)

    from_right : (m : Ending L) (ts : List L.Token) → Front (dep a s g) m ts → Front (dep a s (λ x. alt (f x) (g x))) m ts
    from_right m ts (inl w) = inl w
    from_right m ts (inr (x, us, vs, e, w, v)) = inr (x, us, vs, e, w, inr v)

-- A part that asks for the same whatever its tree is, is a sequence: their meanings are one.
pub asked_always : {L : Alphabet} {A B : Type 0} (s : List L.Kind) (a : Grammar L A) (b : Grammar L B) → Same (dep a s (λ x. b)) (seq a b)
asked_always s a b = record { there = record { sentences = λ ts x w. w; fronts = λ m ts w. w }; back = record { sentences = λ ts x w. w; fronts = λ m ts w. w } }

-- brackets
pub brackets : {L : Alphabet} {A B C D : Type 0} (h : (A × B) × C → D) (a : Grammar L A) (b : Grammar L B) (c : Grammar L C) → Same (as_tree h (seq (seq a b) c)) (as_tree (λ p. h ((p.0, p.1.0), p.1.1)) (seq a (seq b c)))
brackets {L} {A} {B} {C} {D} h a b c = record { there = record { sentences = there; fronts = fronts_there }; back = record { sentences = back; fronts = fronts_back } }
  where
    there : (ts : List L.Token) (y : D) → Derives (as_tree h (seq (seq a b) c)) ts y → Derives (as_tree (λ p. h ((p.0, p.1.0), p.1.1)) (seq a (seq b c))) ts y
    there ts y (x, (us, vs, e, (qs, rs, i, w, v), u), j) = ((x.0.0, (x.0.1, x.1)), (qs, rs ++ vs, e ∙ ap (λ z. z ++ vs) i ∙ append_assoc qs rs vs, w, (rs, vs, refl, v, u)), j)

    back : (ts : List L.Token) (y : D) → Derives (as_tree (λ p. h ((p.0, p.1.0), p.1.1)) (seq a (seq b c))) ts y → Derives (as_tree h (seq (seq a b) c)) ts y
    back ts y (x, (us, vs, e, w, (qs, rs, i, v, u)), j) = (((x.0, x.1.0), x.1.1), (us ++ qs, rs, e ∙ ap (λ z. us ++ z) i ∙ sym (append_assoc us qs rs), (us, qs, refl, w, v), u), j)

    fronts_there : (m : Ending L) (ts : List L.Token) → Front (seq (seq a b) c) m ts → Front (seq a (seq b c)) m ts
    fronts_there m ts (inl (inl w)) = inl w
    fronts_there m ts (inl (inr (x, us, vs, e, w, v))) = inr (x, us, vs, e, w, inl v)
    fronts_there m ts (inr (x, us, vs, e, (qs, rs, i, w, v), u)) = inr (x.0, qs, rs ++ vs, e ∙ ap (λ z. z ++ vs) i ∙ append_assoc qs rs vs, w, inr (x.1, rs, vs, refl, v, u))

    fronts_back : (m : Ending L) (ts : List L.Token) → Front (seq a (seq b c)) m ts → Front (seq (seq a b) c) m ts
    fronts_back m ts (inl w) = inl (inl w)
    fronts_back m ts (inr (x, us, vs, e, w, inl v)) = inl (inr (x, us, vs, e, w, v))
    fronts_back m ts (inr (x, us, vs, e, w, inr (y, qs, rs, i, v, u))) = inr ((x, y), us ++ qs, rs, e ∙ ap (λ z. us ++ z) i ∙ sym (append_assoc us qs rs), (us, qs, refl, w, v), u)

-- an optional part first, and last
pub without_first : {L : Alphabet} {A B C : Type 0} (h : Option A × B → C) (a : Grammar L A) (b : Grammar L B) → Same (as_tree h (seq (opt a) b)) (alt (as_tree (λ p. h (Some p.0, p.1)) (seq a b)) (as_tree (λ y. h (None, y)) b))
without_first {L} {A} {B} {C} h a b = record {
  there = record { sentences = λ ts y w. there ts y w.0.0 w.0.1 w.1.0 w.1.1 w.1.2 w.1.3 w.1.4 w.2; fronts = fronts_there };
  back = either (record { sentences = with_it; fronts = fronts_with }) (record { sentences = λ ts y w. ((None, w.0), ([], ts, refl, refl, w.1), w.2); fronts = λ m ts w. inr (None, [], ts, refl, refl, w) });
}
  where
    there : (ts : List L.Token) (y : C) (o : Option A) (z : B) (us vs : List L.Token) → ts ≡ us ++ vs → Derives (opt a) us o → Derives b vs z → y ≡ h (o, z) → Derives (as_tree (λ p. h (Some p.0, p.1)) (seq a b)) ts y ⊎ Derives (as_tree (λ y. h (None, y)) b) ts y
    there ts y None z us vs e w v i = inr (z, subst (λ l. Derives b l z) (sym (e ∙ ap (λ l. l ++ vs) w)) v, i)
    there ts y (Some x) z us vs e w v i = inl ((x, z), (us, vs, e, w, v), i)

    fronts_asked : (m : Ending L) (ts : List L.Token) (o : Option A) (us vs : List L.Token) → ts ≡ us ++ vs → Derives (opt a) us o → Front b m vs → Front (seq a b) m ts ⊎ Front b m ts
    fronts_asked m ts None us vs e w v = inr (subst (Front b m) (sym (e ∙ ap (λ l. l ++ vs) w)) v)
    fronts_asked m ts (Some x) us vs e w v = inl (inr (x, us, vs, e, w, v))

    fronts_there : (m : Ending L) (ts : List L.Token) → Front (seq (opt a) b) m ts → Front (seq a b) m ts ⊎ Front b m ts
    fronts_there m ts (inl w) = inl (inl w)
    fronts_there m ts (inr w) = fronts_asked m ts w.0 w.1 w.2 w.3 w.4 w.5

    with_it : (ts : List L.Token) (y : C) → Derives (as_tree (λ p. h (Some p.0, p.1)) (seq a b)) ts y → Derives (as_tree h (seq (opt a) b)) ts y
    with_it ts y (x, (us, vs, e, w, v), i) = ((Some x.0, x.1), (us, vs, e, w, v), i)

    fronts_with : (m : Ending L) (ts : List L.Token) → Front (seq a b) m ts → Front (seq (opt a) b) m ts
    fronts_with m ts (inl w) = inl w
    fronts_with m ts (inr (x, us, vs, e, w, v)) = inr (Some x, us, vs, e, w, v)

pub without_last : {L : Alphabet} {A B C : Type 0} (h : A × Option B → C) (a : Grammar L A) (b : Grammar L B) → Same (as_tree h (seq a (opt b))) (alt (as_tree (λ x. h (x, None)) a) (as_tree (λ p. h (p.0, Some p.1)) (seq a b)))
without_last {L} {A} {B} {C} h a b = record {
  there = record { sentences = λ ts y w. there ts y w.0.0 w.0.1 w.1.0 w.1.1 w.1.2 w.1.3 w.1.4 w.2; fronts = λ m ts w. inr w };
  back = either (record { sentences = λ ts y w. ((w.0, None), (ts, [], sym (append-nil ts), w.1, refl), w.2); fronts = λ m ts w. inl w }) (record { sentences = with_it; fronts = λ m ts w. w });
}
  where
    there : (ts : List L.Token) (y : C) (x : A) (o : Option B) (us vs : List L.Token) → ts ≡ us ++ vs → Derives a us x → Derives (opt b) vs o → y ≡ h (x, o) → Derives (as_tree (λ x. h (x, None)) a) ts y ⊎ Derives (as_tree (λ p. h (p.0, Some p.1)) (seq a b)) ts y
    there ts y x None us vs e w v i = inl (x, subst (λ l. Derives a l x) (sym (e ∙ ap (λ l. us ++ l) v ∙ append-nil us)) w, i)
    there ts y x (Some z) us vs e w v i = inr ((x, z), (us, vs, e, w, v), i)

    with_it : (ts : List L.Token) (y : C) → Derives (as_tree (λ p. h (p.0, Some p.1)) (seq a b)) ts y → Derives (as_tree h (seq a (opt b))) ts y
    with_it ts y (x, (us, vs, e, w, v), i) = ((x.0, Some x.1), (us, vs, e, w, v), i)
