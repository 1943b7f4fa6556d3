-- A grammar and the same without its side rules.
use Rattle.std.proofs.Common.{◌≡◌, ℕ, zero, suc, Bool, true, false, ◌||◌, cond, Option, Some, None, List, [], ◌∷◌, length, ◌⊎◌, inl, inr, refl, sym, ap, ◌∙◌, subst}
use Rattle.grammar.specs.declared.fault.Fault.TheVariants.{Unexpected, Broken}
use Rattle.grammar.specs.Grammar.{Alphabet, Grammar, nothing, tok, seq, alt, opt, rep, as_tree, dep, grow, marked, any, is_in, begins_with}
use Rattle.grammar.specs.LookAhead.{nullable, firsts, extensions, marks, LL1}
use Rattle.grammar.specs.Language.{Sentence, many, steps, last_of, Derives, Ending, Fine, Marked, Breaks, one, empty_front, mark_front, Front}
use Rattle.grammar.specs.code.Reading.{Out, Got, Stop, Read, then_do, kept, read_one, read_many, read_growth, read}
use Rattle.grammar.specs.Aside.{bare}

-- the same look-ahead

pub bare_nullable : {L : Alphabet} {A : Type 0} (g : Grammar L A) → nullable (bare g) ≡ nullable g
bare_nullable (nothing x) = refl
bare_nullable (tok s p) = refl
bare_nullable (seq a b) = rw (bare_nullable a, bare_nullable b) refl
bare_nullable (alt a b) = rw (bare_nullable a, bare_nullable b) refl
bare_nullable (opt a) = refl
bare_nullable (rep a) = refl
bare_nullable (as_tree f a) = bare_nullable a
bare_nullable (dep a s f) = refl
bare_nullable (grow x s f) = refl
bare_nullable (marked a) = bare_nullable a

pub bare_firsts : {L : Alphabet} {A : Type 0} (g : Grammar L A) → firsts (bare g) ≡ firsts g
bare_firsts (nothing x) = refl
bare_firsts (tok s p) = refl
bare_firsts (seq a b) = rw (bare_firsts a, bare_nullable a, bare_firsts b) refl
bare_firsts (alt a b) = rw (bare_firsts a, bare_firsts b) refl
bare_firsts (opt a) = bare_firsts a
bare_firsts (rep a) = bare_firsts a
bare_firsts (as_tree f a) = bare_firsts a
bare_firsts (dep a s f) = bare_firsts a
bare_firsts (grow x s f) = bare_firsts (f x)
bare_firsts (marked a) = bare_firsts a

pub bare_extensions : {L : Alphabet} {A : Type 0} (g : Grammar L A) → extensions (bare g) ≡ extensions g
bare_extensions (nothing x) = refl
bare_extensions (tok s p) = refl
bare_extensions (seq a b) = rw (bare_extensions a, bare_extensions b, bare_nullable b) refl
bare_extensions (alt a b) = rw (bare_extensions a, bare_extensions b) refl
bare_extensions (opt a) = rw (bare_firsts a, bare_extensions a) refl
bare_extensions (rep a) = rw (bare_firsts a, bare_extensions a) refl
bare_extensions (as_tree f a) = bare_extensions a
bare_extensions (dep a s f) = refl
bare_extensions (grow x s f) = refl
bare_extensions (marked a) = bare_extensions a

pub bare_marks : {L : Alphabet} {A : Type 0} (g : Grammar L A) → marks (bare g) ≡ marks g
bare_marks (nothing x) = refl
bare_marks (tok s p) = refl
bare_marks (seq a b) = rw (bare_marks a, bare_nullable a, bare_marks b) refl
bare_marks (alt a b) = rw (bare_marks a, bare_marks b) refl
bare_marks (opt a) = bare_marks a
bare_marks (rep a) = bare_marks a
bare_marks (as_tree f a) = bare_marks a
bare_marks (dep a s f) = bare_marks a
bare_marks (grow x s f) = bare_marks (f x)
bare_marks (marked a) = refl

pub bare_decided : {L : Alphabet} {A : Type 0} (g : Grammar L A) → LL1 g → LL1 (bare g)
bare_decided (nothing x) p = tt
bare_decided (tok s q) p = tt
bare_decided (seq a b) p = (bare_decided a p.0, bare_decided b p.1, rw (bare_extensions a, bare_firsts b) p.2)
bare_decided (alt a b) p = (bare_decided a p.0, bare_decided b p.1, rw (bare_firsts a, bare_firsts b) p.2, rw (bare_nullable a) p.3, rw (bare_nullable b) p.4)
bare_decided (opt a) p = (bare_decided a p.0, rw (bare_nullable a) p.1)
bare_decided (rep a) p = (bare_decided a p.0, rw (bare_nullable a) p.1, rw (bare_extensions a, bare_firsts a) p.2)
bare_decided (as_tree f a) p = bare_decided a p
bare_decided (dep a s f) p = (
  bare_decided a p.0,
  rw (bare_nullable a) p.1,
  λ x. (bare_decided (f x) (p.2 x).0, rw (bare_extensions a, bare_firsts (f x)) (p.2 x).1, λ e. rw (bare_extensions a) ((p.2 x).2 (sym (bare_nullable (f x)) ∙ e)), rw (bare_extensions (f x)) (p.2 x).3),
)
bare_decided (grow x s f) p = λ y. (bare_decided (f y) (p y).0, rw (bare_nullable (f y)) (p y).1, rw (bare_firsts (f y)) (p y).2, rw (bare_extensions (f y)) (p y).3, λ z. rw (bare_extensions (f y), bare_firsts (f z)) ((p y).4 z))
bare_decided (marked a) p = bare_decided a p

-- sentences and viable prefixes stay

many_stays : {T A : Type 0} (wa wb : Sentence T A) → ((ts : List T) (x : A) → wa ts x → wb ts x) → (xs : List A) (ts : List T) → many wa ts xs → many wb ts xs
many_stays wa wb h [] ts w = w
many_stays wa wb h (x ∷ xs) ts w = (w.0, w.1, w.2, h w.0 x w.3, many_stays wa wb h xs w.1 w.4)

steps_stay : {T A : Type 0} (wa wb : A → Sentence T A) → ((z : A) (ts : List T) (x : A) → wa z ts x → wb z ts x) → (z : A) (xs : List A) (ts : List T) → steps wa z xs ts → steps wb z xs ts
steps_stay wa wb h z [] ts w = w
steps_stay wa wb h z (x ∷ xs) ts w = (w.0, w.1, w.2, h z w.0 x w.3, steps_stay wa wb h x xs w.1 w.4)

pub derives_bare : {L : Alphabet} {A : Type 0} (g : Grammar L A) (ts : List L.Token) (x : A) → Derives g ts x → Derives (bare g) ts x
derives_bare (nothing y) ts x w = w
derives_bare (tok s p) ts x w = (w.0, w.1, refl)
derives_bare (seq a b) ts x w = (w.0, w.1, w.2, derives_bare a w.0 x.0 w.3, derives_bare b w.1 x.1 w.4)
derives_bare (alt a b) ts x (inl w) = inl (derives_bare a ts x w)
derives_bare (alt a b) ts x (inr w) = inr (derives_bare b ts x w)
derives_bare (opt a) ts None w = w
derives_bare (opt a) ts (Some x) w = derives_bare a ts x w
derives_bare (rep a) ts xs w = many_stays (Derives a) (Derives (bare a)) (λ ts x. derives_bare a ts x) xs ts w
derives_bare (as_tree f a) ts x w = (w.0, derives_bare a ts w.0 w.1, w.2)
derives_bare (dep a s f) ts x w = (w.0, w.1, w.2, derives_bare a w.0 x.0 w.3, derives_bare (f x.0) w.1 x.1 w.4)
derives_bare (grow z s f) ts x w = (w.0, w.1, steps_stay (λ y. Derives (f y)) (λ y. Derives (bare (f y))) (λ y ts x. derives_bare (f y) ts x) z w.0 ts w.2)
derives_bare (marked a) ts x w = derives_bare a ts x w

module _ {L : Alphabet} where
  -- without side rules none is broken
  abbrev pub eased : Ending L → Ending L
  eased Fine = Fine
  eased Marked = Marked
  eased (Breaks r) = Fine

one_bare : (L : Alphabet) (s : List L.Kind) (p : L.Token → Option L.Rule) (m : Ending L) (ts : List L.Token) → one L s p m ts → one L s any (eased m) ts
one_bare L s p Fine [] h = tt
one_bare L s p Fine (t ∷ []) h = (h.0, refl)
one_bare L s p Fine (t ∷ u ∷ ts) h = h
one_bare L s p Marked ts h = h
one_bare L s p (Breaks r) [] h = tt
one_bare L s p (Breaks r) (t ∷ []) h = (h.0, refl)
one_bare L s p (Breaks r) (t ∷ u ∷ ts) h = h

empty_bare : {L : Alphabet} (m : Ending L) (ts : List L.Token) → empty_front m ts → empty_front (eased m) ts
empty_bare Fine ts h = h
empty_bare Marked ts h = h
empty_bare (Breaks r) ts h = absurd h

mark_bare : {L : Alphabet} (m : Ending L) (ts : List L.Token) → mark_front m ts → mark_front (eased m) ts
mark_bare Fine ts h = h
mark_bare Marked ts h = h
mark_bare (Breaks r) ts h = absurd h

pub front_bare : {L : Alphabet} {A : Type 0} (g : Grammar L A) (m : Ending L) (ts : List L.Token) → Front g m ts → Front (bare g) (eased m) ts
front_bare (nothing x) m ts h = empty_bare m ts h
front_bare {L} (tok s p) m ts h = one_bare L s p m ts h
front_bare (seq a b) m ts (inl h) = inl (front_bare a m ts h)
front_bare (seq a b) m ts (inr h) = inr (h.0, h.1, h.2, h.3, derives_bare a h.1 h.0 h.4, front_bare b m h.2 h.5)
front_bare (alt a b) m ts (inl h) = inl (front_bare a m ts h)
front_bare (alt a b) m ts (inr h) = inr (front_bare b m ts h)
front_bare (opt a) m ts h = front_bare a m ts h
front_bare (rep a) m ts h = (h.0, h.1, h.2, h.3, many_stays (Derives a) (Derives (bare a)) (λ ts x. derives_bare a ts x) h.0 h.1 h.4, front_bare a m h.2 h.5)
front_bare (as_tree f a) m ts h = front_bare a m ts h
front_bare (dep a s f) m ts (inl h) = inl (front_bare a m ts h)
front_bare (dep a s f) m ts (inr h) = inr (h.0, h.1, h.2, h.3, derives_bare a h.1 h.0 h.4, front_bare (f h.0) m h.2 h.5)
front_bare (grow z s f) m ts h = (h.0, h.1, h.2, h.3, steps_stay (λ y. Derives (f y)) (λ y. Derives (bare (f y))) (λ y ts x. derives_bare (f y) ts x) z h.0 h.1 h.4, front_bare (f (last_of z h.0)) m h.2 h.5)
front_bare (marked a) m ts (inl h) = inl (mark_bare m ts h)
front_bare (marked a) m ts (inr h) = inr (front_bare a m ts h)

-- the reading is the same, unless it comes to a token that breaks a side rule

module _ (L : Alphabet) where
  -- o without side rules, q with them
  abbrev pub SameOut : {A : Type 0} → Out L A → Out L A → Type 0
  SameOut o q = (o ≡ q) ⊎ ((r : L.Rule) × (rest : List L.Token) × (q ≡ Stop (Broken r) rest))

  then_same : {A B : Type 0} (o q : Out L A) (k l : A → Read L B) → SameOut o q → ((x : A) (d : Bool) (us : List L.Token) → SameOut (k x d us) (l x d us)) → SameOut (then_do o k) (then_do q l)
  then_same {A} o q k l (inl e) h = subst (λ z. SameOut (then_do z k) (then_do q l)) (sym e) (go q)
    where
      go : (q : Out L A) → SameOut (then_do q k) (then_do q l)
      go (Got x d us) = h x d us
      go (Stop w us) = inl refl
  then_same o q k l (inr e) h = inr (e.0, e.1, ap (λ z. then_do z l) e.2)

  one_same : (s : List L.Kind) (p : L.Token → Option L.Rule) (c : Bool) (ts : List L.Token) → SameOut (read_one L s any c ts) (read_one L s p c ts)
  one_same s p c [] = inl refl
  one_same s p c (t ∷ ts) = go (is_in L t s) (p t)
    where
      go : (b : Bool) (o : Option L.Rule) → SameOut (cond b (Got t false ts) (Stop (Unexpected c) (t ∷ ts))) (cond b (kept o t ts) (Stop (Unexpected c) (t ∷ ts)))
      go true None = inl refl
      go true (Some r) = inr (r, t ∷ ts, refl)
      go false o = inl refl

  either_same : {A : Type 0} (b : Bool) (o q o' q' : Out L A) → SameOut o q → SameOut o' q' → SameOut (cond b o o') (cond b q q')
  either_same true o q o' q' h k = h
  either_same false o q o' q' h k = k

  many_same : {A : Type 0} (s : List L.Kind) (y : Bool) (a b : Read L A) → ((c : Bool) (ts : List L.Token) → SameOut (a c ts) (b c ts)) → (n : ℕ) (c : Bool) (ts : List L.Token) → SameOut (read_many s y a n c ts) (read_many s y b n c ts)
  many_same s y a b h zero c ts = inl refl
  many_same s y a b h (suc n) c ts = either_same (begins_with L s ts) _ _ _ _ (then_same (a c ts) (b c ts) _ _ (h c ts) (λ x d us. then_same (read_many s y a n d us) (read_many s y b n d us) _ _ (many_same s y a b h n d us) (λ xs e vs. inl refl))) (inl refl)

  growth_same : {A : Type 0} (s u : A → List L.Kind) (y v : A → Bool) (a b : A → Read L A) → ((z : A) → s z ≡ u z) → ((z : A) → y z ≡ v z) → ((z : A) (c : Bool) (ts : List L.Token) → SameOut (a z c ts) (b z c ts)) → (n : ℕ) (z : A) (c : Bool) (ts : List L.Token) → SameOut (read_growth s y a n z c ts) (read_growth u v b n z c ts)
  growth_same s u y v a b e f h zero z c ts = inl (ap (λ q. Got z (c || q) ts) (f z))
  growth_same s u y v a b e f h (suc n) z c ts =
      subst (λ q. SameOut (read_growth s y a (suc n) z c ts) (cond (begins_with L q ts) (then_do (b z c ts) (λ x d us. read_growth u v b n x d us)) (Got z (c || v z) ts))) (e z)
      (either_same (begins_with L (s z) ts) _ _ _ _ (then_same (a z c ts) (b z c ts) _ _ (h z c ts) (λ x d us. growth_same s u y v a b e f h n x d us)) (inl (ap (λ q. Got z (c || q) ts) (f z))))

  pub same_or_broken : {A : Type 0} (g : Grammar L A) (c : Bool) (ts : List L.Token) → SameOut (read (bare g) c ts) (read g c ts)
  same_or_broken (nothing x) c ts = inl refl
  same_or_broken (tok s p) c ts = one_same s p c ts
  same_or_broken (seq a b) c ts = then_same (read (bare a) c ts) (read a c ts) _ _ (same_or_broken a c ts) (λ x d us. then_same (read (bare b) d us) (read b d us) _ _ (same_or_broken b d us) (λ y e vs. inl refl))
  same_or_broken (alt a b) c ts = rw (bare_firsts a, bare_marks a) (either_same (begins_with L (firsts a) ts) _ _ _ _ (same_or_broken a c ts) (same_or_broken b (c || marks a) ts))
  same_or_broken (opt a) c ts = rw (bare_firsts a, bare_marks a) (either_same (begins_with L (firsts a) ts) _ _ _ _ (then_same (read (bare a) c ts) (read a c ts) _ _ (same_or_broken a c ts) (λ x d us. inl refl)) (inl refl))
  same_or_broken (rep a) c ts = rw (bare_firsts a, bare_marks a) (many_same (firsts a) (marks a) (read (bare a)) (read a) (same_or_broken a) (length ts) c ts)
  same_or_broken (as_tree f a) c ts = then_same (read (bare a) c ts) (read a c ts) _ _ (same_or_broken a c ts) (λ x d us. inl refl)
  same_or_broken (dep a s f) c ts = then_same (read (bare a) c ts) (read a c ts) _ _ (same_or_broken a c ts) (λ x d us. then_same (read (bare (f x)) d us) (read (f x) d us) _ _ (same_or_broken (f x) d us) (λ y e vs. inl refl))
  same_or_broken (grow x s f) c ts = growth_same (λ y. firsts (bare (f y))) (λ y. firsts (f y)) (λ y. marks (bare (f y))) (λ y. marks (f y)) (λ y. read (bare (f y))) (λ y. read (f y)) (λ y. bare_firsts (f y)) (λ y. bare_marks (f y)) (λ y c ts. same_or_broken (f y) c ts) (length ts) x c ts
  same_or_broken (marked a) c ts = same_or_broken a true ts
