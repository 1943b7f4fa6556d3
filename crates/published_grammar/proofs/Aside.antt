-- Side rules left aside: what is said of the first fault then is the same for two grammars of one language.
use Rattle.std.specs.Prelude.{Err}
use Rattle.std.proofs.Common.{◌≡◌, ℕ, true, Option, Some, None, List, [], ◌∷◌, ◌++◌, ◌⊎◌, inl, inr, refl, sym, ap, ◌∙◌, subst, append_assoc}
use Rattle.grammar.specs.declared.fault.Fault.{Fault}
use Rattle.grammar.specs.declared.fault.Fault.TheVariants.{Unexpected, Broken}
use Rattle.grammar.specs.Grammar.{Alphabet, Grammar, nothing, tok, seq, alt, opt, rep, as_tree, dep, grow, marked, any, is_in}
use Rattle.grammar.specs.Language.{Prefixes, many, steps, last_of, Derives, Ending, Fine, Marked, Breaks, one, Front}
use Rattle.grammar.specs.Aside.{bare, KeepsRules, IsFaultAside, MisreadAside, SameFault}
use Rattle.grammar.proofs.Bare.{derives_bare, front_bare}
use Rattle.published_grammar.proofs.Algebra.{Same, turned, answer_kept}

-- A sentence or viable prefix without side rules is one with them, unless a token breaks one on the way.

module _ (L : Alphabet) where
  -- a token of ts breaks a side rule
  abbrev pub IsBrokenIn : Prefixes L → List L.Token → Type 0
  IsBrokenIn a ts = (vs ws : List L.Token) × (t : L.Token) × (ts ≡ vs ++ t ∷ ws) × (r : L.Rule) × a (Breaks r) (vs ++ t ∷ [])

  -- in the first part of the tokens, and in what is behind it
  broken_first : (a b : Prefixes L) (ts us vs : List L.Token) → ts ≡ us ++ vs → ((m : Ending L) (zs : List L.Token) → a m zs → b m zs) → IsBrokenIn a us → IsBrokenIn b ts
  broken_first a b ts us vs e h (ps, qs, t, i, r, w) = (ps, qs ++ vs, t, e ∙ ap (λ l. l ++ vs) i ∙ append_assoc ps (t ∷ qs) vs, r, h (Breaks r) (ps ++ t ∷ []) w)

  broken_later : (a b : Prefixes L) (ts us vs : List L.Token) → ts ≡ us ++ vs → ((m : Ending L) (zs : List L.Token) → a m zs → b m (us ++ zs)) → IsBrokenIn a vs → IsBrokenIn b ts
  broken_later a b ts us vs e h (ps, qs, t, i, r, w) =
      (us ++ ps, qs, t, e ∙ ap (λ l. us ++ l) i ∙ sym (append_assoc us ps (t ∷ qs)), r, subst (b (Breaks r)) (sym (append_assoc us ps (t ∷ []))) (h (Breaks r) (ps ++ t ∷ []) w))

  broken_so : (a b : Prefixes L) (ts : List L.Token) → ((m : Ending L) (zs : List L.Token) → a m zs → b m zs) → IsBrokenIn a ts → IsBrokenIn b ts
  broken_so a b ts h (ps, qs, t, i, r, w) = (ps, qs, t, i, r, h (Breaks r) (ps ++ t ∷ []) w)

  -- sentences

  abbrev Kept : {A : Type 0} → Grammar L A → List L.Token → A → Type 0
  Kept g ts x = Derives g ts x ⊎ IsBrokenIn (Front g) ts

  tok_kept : (s : List L.Kind) (p : L.Token → Option L.Rule) (ts : List L.Token) (t : L.Token) → ts ≡ t ∷ [] → is_in L t s ≡ true → Kept (tok s p) ts t
  tok_kept s p ts t e i = go (p t) refl
    where
      go : (o : Option L.Rule) → p t ≡ o → Kept {A = L.Token} (tok s p) ts t
      go None f = inl (e, i, f)
      go (Some r) f = inr ([], [], t, e, r, (i, f))

  dep_kept : {A B : Type 0} (a : Grammar L A) (s : List L.Kind) (f : A → Grammar L B) (ts us vs : List L.Token) (x : A × B) → ts ≡ us ++ vs → Kept a us x.0 → Kept (f x.0) vs x.1 → Kept (dep a s f) ts x
  dep_kept a s f ts us vs x e (inr w) k = inr (broken_first (Front a) (Front (dep a s f)) ts us vs e (λ m zs h. inl h) w)
  dep_kept a s f ts us vs x e (inl w) (inr v) = inr (broken_later (Front (f x.0)) (Front (dep a s f)) ts us vs e (λ m zs h. inr (x.0, us, zs, refl, w, h)) v)
  dep_kept a s f ts us vs x e (inl w) (inl v) = inl (us, vs, e, w, v)

  many_more : {A : Type 0} (a : Grammar L A) (x : A) (us : List L.Token) → Derives a us x → (m : Ending L) (zs : List L.Token) → Front (rep a) m zs → Front (rep a) m (us ++ zs)
  many_more a x us w m zs (xs, ps, qs, e, v, h) = (x ∷ xs, us ++ ps, qs, ap (λ l. us ++ l) e ∙ sym (append_assoc us ps qs), (us, ps, refl, w, v), h)

  many_kept : {A : Type 0} (a : Grammar L A) → ((ts : List L.Token) (x : A) → Derives (bare a) ts x → Kept a ts x) → (xs : List A) (ts : List L.Token) → many (Derives (bare a)) ts xs → Kept (rep a) ts xs
  many_kept a k [] ts w = inl w
  many_kept a k (x ∷ xs) ts (us, vs, e, w, r) = go (k us x w) (many_kept a k xs vs r)
    where
      go : Kept a us x → Kept (rep a) vs xs → Kept (rep a) ts (x ∷ xs)
      go (inr w) q = inr (broken_first (Front a) (Front (rep a)) ts us vs e (λ m zs h. ([], [], zs, refl, refl, h)) w)
      go (inl w) (inr v) = inr (broken_later (Front (rep a)) (Front (rep a)) ts us vs e (many_more a x us w) v)
      go (inl w) (inl v) = inl (us, vs, e, w, v)

  module _ {A : Type 0} (s : List L.Kind) (f : A → Grammar L A) where
    steps_more : (z y : A) (us : List L.Token) → Derives (f z) us y → (m : Ending L) (zs : List L.Token) → Front (grow y s f) m zs → Front (grow z s f) m (us ++ zs)
    steps_more z y us w m zs (ys, ps, qs, e, v, h) = (y ∷ ys, us ++ ps, qs, ap (λ l. us ++ l) e ∙ sym (append_assoc us ps qs), (us, ps, refl, w, v), h)

    abbrev StepsKept : A → List A → List L.Token → Type 0
    StepsKept z ys ts = steps (λ y. Derives (f y)) z ys ts ⊎ IsBrokenIn (Front (grow z s f)) ts

    steps_kept : ((z : A) (ts : List L.Token) (x : A) → Derives (bare (f z)) ts x → Kept (f z) ts x) → (z : A) (ys : List A) (ts : List L.Token) → steps (λ y. Derives (bare (f y))) z ys ts → StepsKept z ys ts
    steps_kept k z [] ts w = inl w
    steps_kept k z (y ∷ ys) ts (us, vs, e, w, r) = go (k z us y w) (steps_kept k y ys vs r)
      where
        go : Kept (f z) us y → StepsKept y ys vs → StepsKept z (y ∷ ys) ts
        go (inr w) q = inr (broken_first (Front (f z)) (Front (grow z s f)) ts us vs e (λ m zs h. ([], [], zs, refl, refl, h)) w)
        go (inl w) (inr v) = inr (broken_later (Front (grow y s f)) (Front (grow z s f)) ts us vs e (steps_more z y us w) v)
        go (inl w) (inl v) = inl (us, vs, e, w, v)

  map_kept : {A B : Type 0} (a : Grammar L A) (b : Grammar L B) (ts : List L.Token) (x : A) (y : B) → (Derives a ts x → Derives b ts y) → ((m : Ending L) (zs : List L.Token) → Front a m zs → Front b m zs) → Kept a ts x → Kept b ts y
  map_kept a b ts x y h k (inl w) = inl (h w)
  map_kept a b ts x y h k (inr w) = inr (broken_so (Front a) (Front b) ts k w)

  map_steps : {A : Type 0} (s : List L.Kind) (f : A → Grammar L A) (z y : A) (ys : List A) (ts : List L.Token) → y ≡ last_of z ys → StepsKept s f z ys ts → Kept (grow z s f) ts y
  map_steps s f z y ys ts e (inl w) = inl (ys, e, w)
  map_steps s f z y ys ts e (inr w) = inr w

  pub derives_kept : {A : Type 0} (g : Grammar L A) (ts : List L.Token) (x : A) → Derives (bare g) ts x → Kept g ts x
  derives_kept (nothing y) ts x w = inl w
  derives_kept (tok s p) ts x w = tok_kept s p ts x w.0 w.1
  derives_kept (seq a b) ts x w = dep_kept a [] (λ y. b) ts w.0 w.1 x w.2 (derives_kept a w.0 x.0 w.3) (derives_kept b w.1 x.1 w.4)
  derives_kept (alt a b) ts x (inl w) = map_kept a (alt a b) ts x x (λ h. inl h) (λ m zs h. inl h) (derives_kept a ts x w)
  derives_kept (alt a b) ts x (inr w) = map_kept b (alt a b) ts x x (λ h. inr h) (λ m zs h. inr h) (derives_kept b ts x w)
  derives_kept (opt a) ts None w = inl w
  derives_kept (opt a) ts (Some x) w = map_kept a (opt a) ts x (Some x) (λ h. h) (λ m zs h. h) (derives_kept a ts x w)
  derives_kept (rep a) ts xs w = many_kept a (λ us y. derives_kept a us y) xs ts w
  derives_kept (as_tree f a) ts y w = map_kept a (as_tree f a) ts w.0 y (λ h. (w.0, h, w.2)) (λ m zs h. h) (derives_kept a ts w.0 w.1)
  derives_kept (dep a s f) ts x w = dep_kept a s f ts w.0 w.1 x w.2 (derives_kept a w.0 x.0 w.3) (derives_kept (f x.0) w.1 x.1 w.4)
  derives_kept (grow z s f) ts y w = map_steps s f z y w.0 ts w.1 (steps_kept s f (λ u us v. derives_kept (f u) us v) z w.0 ts w.2)
  derives_kept (marked a) ts x w = map_kept a (marked a) ts x x (λ h. h) (λ m zs h. inr h) (derives_kept a ts x w)

  -- viable prefixes

  abbrev FrontKept : {A : Type 0} → Grammar L A → Ending L → List L.Token → Type 0
  FrontKept g m ts = Front g m ts ⊎ IsBrokenIn (Front g) ts

  tok_front : (s : List L.Kind) (p : L.Token → Option L.Rule) (m : Ending L) (ts : List L.Token) → one L s any m ts → FrontKept {A = L.Token} (tok s p) m ts
  tok_front s p Fine [] w = inl tt
  tok_front s p Fine (t ∷ []) w = go (p t) refl
    where
      go : (o : Option L.Rule) → p t ≡ o → FrontKept {A = L.Token} (tok s p) Fine (t ∷ [])
      go None f = inl (w.0, f)
      go (Some r) f = inr ([], [], t, refl, r, (w.0, f))
  tok_front s p Fine (t ∷ u ∷ ts) w = absurd w
  tok_front s p Marked ts w = absurd w
  tok_front s p (Breaks r) [] w = absurd w
  tok_front s p (Breaks r) (t ∷ []) w = let e : None ≡ Some r = w.1 in absurd (cc)
  tok_front s p (Breaks r) (t ∷ u ∷ ts) w = absurd w

  map_front : {A B : Type 0} (a : Grammar L A) (b : Grammar L B) (m : Ending L) (ts : List L.Token) → ((m : Ending L) (zs : List L.Token) → Front a m zs → Front b m zs) → FrontKept a m ts → FrontKept b m ts
  map_front a b m ts k (inl w) = inl (k m ts w)
  map_front a b m ts k (inr w) = inr (broken_so (Front a) (Front b) ts k w)

  dep_front : {A B : Type 0} (a : Grammar L A) (s : List L.Kind) (f : A → Grammar L B) (m : Ending L) (ts us vs : List L.Token) (x : A) → ts ≡ us ++ vs → Kept a us x → FrontKept (f x) m vs → FrontKept (dep a s f) m ts
  dep_front a s f m ts us vs x e (inr w) k = inr (broken_first (Front a) (Front (dep a s f)) ts us vs e (λ m zs h. inl h) w)
  dep_front a s f m ts us vs x e (inl w) (inr v) = inr (broken_later (Front (f x)) (Front (dep a s f)) ts us vs e (λ m zs h. inr (x, us, zs, refl, w, h)) v)
  dep_front a s f m ts us vs x e (inl w) (inl v) = inl (inr (x, us, vs, e, w, v))

  rep_front : {A : Type 0} (a : Grammar L A) (m : Ending L) (ts us vs : List L.Token) (xs : List A) → ts ≡ us ++ vs → Kept (rep a) us xs → FrontKept a m vs → FrontKept (rep a) m ts
  rep_front a m ts us vs xs e (inr w) k = inr (broken_first (Front (rep a)) (Front (rep a)) ts us vs e (λ m zs h. h) w)
  rep_front a m ts us vs xs e (inl w) (inr v) = inr (broken_later (Front a) (Front (rep a)) ts us vs e (λ m zs h. (xs, us, zs, refl, w, h)) v)
  rep_front a m ts us vs xs e (inl w) (inl v) = inl (xs, us, vs, e, w, v)

  grow_front : {A : Type 0} (s : List L.Kind) (f : A → Grammar L A) (z : A) (m : Ending L) (ts us vs : List L.Token) (ys : List A) → ts ≡ us ++ vs → StepsKept s f z ys us → FrontKept (f (last_of z ys)) m vs → FrontKept (grow z s f) m ts
  grow_front s f z m ts us vs ys e (inr w) k = inr (broken_first (Front (grow z s f)) (Front (grow z s f)) ts us vs e (λ m zs h. h) w)
  grow_front s f z m ts us vs ys e (inl w) (inr v) = inr (broken_later (Front (f (last_of z ys))) (Front (grow z s f)) ts us vs e (λ m zs h. (ys, us, zs, refl, w, h)) v)
  grow_front s f z m ts us vs ys e (inl w) (inl v) = inl (ys, us, vs, e, w, v)

  pub front_kept : {A : Type 0} (g : Grammar L A) (m : Ending L) (ts : List L.Token) → Front (bare g) m ts → FrontKept g m ts
  front_kept (nothing y) m ts w = inl w
  front_kept (tok s p) m ts w = tok_front s p m ts w
  front_kept (seq a b) m ts (inl w) = map_front a (seq a b) m ts (λ m zs h. inl h) (front_kept a m ts w)
  front_kept (seq a b) m ts (inr w) = dep_front a [] (λ y. b) m ts w.1 w.2 w.0 w.3 (derives_kept a w.1 w.0 w.4) (front_kept b m w.2 w.5)
  front_kept (alt a b) m ts (inl w) = map_front a (alt a b) m ts (λ m zs h. inl h) (front_kept a m ts w)
  front_kept (alt a b) m ts (inr w) = map_front b (alt a b) m ts (λ m zs h. inr h) (front_kept b m ts w)
  front_kept (opt a) m ts w = front_kept a m ts w
  front_kept (rep a) m ts w = rep_front a m ts w.1 w.2 w.0 w.3 (many_kept a (λ us y. derives_kept a us y) w.0 w.1 w.4) (front_kept a m w.2 w.5)
  front_kept (as_tree f a) m ts w = front_kept a m ts w
  front_kept (dep a s f) m ts (inl w) = map_front a (dep a s f) m ts (λ m zs h. inl h) (front_kept a m ts w)
  front_kept (dep a s f) m ts (inr w) = dep_front a s f m ts w.1 w.2 w.0 w.3 (derives_kept a w.1 w.0 w.4) (front_kept (f w.0) m w.2 w.5)
  front_kept (grow z s f) m ts w = grow_front s f z m ts w.1 w.2 w.0 w.3 (steps_kept s f (λ u us v. derives_kept (f u) us v) z w.0 w.1 w.4) (front_kept (f (last_of z w.0)) m w.2 w.5)
  front_kept (marked a) m ts (inl w) = inl (inl w)
  front_kept (marked a) m ts (inr w) = map_front a (marked a) m ts (λ m zs h. inr h) (front_kept a m ts w)

-- The first fault where viable prefixes leave side rules aside is that of the other grammar.

-- a token of us, or the one behind it
last_or_within : {T : Type 0} (us : List T) (t : T) (vs : List T) (u : T) (ws : List T) → us ++ t ∷ [] ≡ vs ++ u ∷ ws → (us ++ t ∷ [] ≡ vs ++ u ∷ []) ⊎ ((w : List T) × (us ≡ vs ++ u ∷ w))
last_or_within [] t [] u ws e = inl (let f : t ≡ u = cc in ap (λ z. z ∷ []) f)
last_or_within [] t (v ∷ []) u ws e = absurd (cc)
last_or_within [] t (v ∷ w ∷ vs) u ws e = absurd (cc)
last_or_within (x ∷ us) t [] u ws e = inr (us, let f : x ≡ u = cc in ap (λ z. z ∷ us) f)
last_or_within {T} (x ∷ us) t (v ∷ vs) u ws e = let f : x ≡ v = cc in let g : us ++ t ∷ [] ≡ vs ++ u ∷ ws = cc in go f (last_or_within us t vs u ws g)
  where
    go : x ≡ v → (us ++ t ∷ [] ≡ vs ++ u ∷ []) ⊎ ((w : List T) × (us ≡ vs ++ u ∷ w)) → (x ∷ (us ++ t ∷ []) ≡ v ∷ (vs ++ u ∷ [])) ⊎ ((w : List T) × (x ∷ us ≡ v ∷ (vs ++ u ∷ w)))
    go f (inl h) = inl (cc)
    go f (inr h) = inr (h.0, let i = h.1 in cc)

module _ {L : Alphabet} {A : Type 0} (g h : Grammar L A) (p : Same g h) where
  rules_kept : (us : List L.Token) → KeepsRules g us → KeepsRules h us
  rules_kept us k vs ws t e r w = k vs ws t e r (p.back.fronts (Breaks r) (vs ++ t ∷ []) w)

  fine_over : (us : List L.Token) → KeepsRules g us → Front (bare g) Fine us → Front (bare h) Fine us
  fine_over us k w = go (front_kept L g Fine us w)
    where
      go : Front g Fine us ⊎ IsBrokenIn L (Front g) us → Front (bare h) Fine us
      go (inl v) = front_bare h Fine us (p.there.fronts Fine us v)
      go (inr (vs, ws, t, e, r, b)) = absurd (k vs ws t e r b)

  marked_over : (us : List L.Token) → KeepsRules g us → Front (bare g) Marked us → Front (bare h) Marked us
  marked_over us k w = go (front_kept L g Marked us w)
    where
      go : Front g Marked us ⊎ IsBrokenIn L (Front g) us → Front (bare h) Marked us
      go (inl v) = front_bare h Marked us (p.there.fronts Marked us v)
      go (inr (vs, ws, t, e, r, b)) = absurd (k vs ws t e r b)

  derives_over : (us : List L.Token) (x : A) → KeepsRules g us → Derives (bare g) us x → Derives (bare h) us x
  derives_over us x k w = go (derives_kept L g us x w)
    where
      go : Derives g us x ⊎ IsBrokenIn L (Front g) us → Derives (bare h) us x
      go (inl v) = derives_bare h us x (p.there.sentences us x v)
      go (inr (vs, ws, t, e, r, b)) = absurd (k vs ws t e r b)

  -- one token more: it may be that which breaks a rule
  next_over : (us : List L.Token) (t : L.Token) → KeepsRules g us → Front (bare g) Fine (us ++ t ∷ []) → Front (bare h) Fine (us ++ t ∷ [])
  next_over us t k w = go (front_kept L g Fine (us ++ t ∷ []) w)
    where
      broken : (vs ws : List L.Token) (u : L.Token) (r : L.Rule) → Front g (Breaks r) (vs ++ u ∷ []) → (us ++ t ∷ [] ≡ vs ++ u ∷ []) ⊎ ((w : List L.Token) × (us ≡ vs ++ u ∷ w)) → Front (bare h) Fine (us ++ t ∷ [])
      broken vs ws u r b (inl e) = subst (Front (bare h) Fine) (sym e) (front_bare h (Breaks r) (vs ++ u ∷ []) (p.there.fronts (Breaks r) (vs ++ u ∷ []) b))
      broken vs ws u r b (inr i) = absurd (k vs i.0 u i.1 r b)

      go : Front g Fine (us ++ t ∷ []) ⊎ IsBrokenIn L (Front g) (us ++ t ∷ []) → Front (bare h) Fine (us ++ t ∷ [])
      go (inl v) = front_bare h Fine (us ++ t ∷ []) (p.there.fronts Fine (us ++ t ∷ []) v)
      go (inr (vs, ws, u, e, r, b)) = broken vs ws u r b (last_or_within us t vs u ws e)

module _ {L : Alphabet} {A : Type 0} (g h : Grammar L A) (p : Same g h) where
  fault_over : (f : Fault L.Rule) (us rest : List L.Token) → KeepsRules g us → IsFaultAside g us rest f → IsFaultAside h us rest f
  fault_over (Unexpected d) us [] k n = (λ x w. n.0 x (derives_over h g (turned p) us x (rules_kept g h p us k) w), λ i. marked_over g h p us k (n.1 i), λ w. n.2 (marked_over h g (turned p) us (rules_kept g h p us k) w))
  fault_over (Unexpected d) us (t ∷ v) k n = (λ w. n.0 (next_over h g (turned p) us t (rules_kept g h p us k) w), λ i. marked_over g h p us k (n.1 i), λ w. n.2 (marked_over h g (turned p) us (rules_kept g h p us k) w))
  fault_over (Broken r) us [] k n = n
  fault_over (Broken r) us (t ∷ v) k n = p.there.fronts (Breaks r) (us ++ t ∷ []) n

  pub aside_over : (ts : List L.Token) (f : Fault L.Rule) (k : ℕ) → MisreadAside g ts f k → MisreadAside h ts f k
  aside_over ts f k m = (m.0, m.1, m.2, m.3, fine_over g h p m.0 m.5 m.4, rules_kept g h p m.0 m.5, fault_over f m.0 m.1 m.5 m.6)

pub aside_kept : {L : Alphabet} {A : Type 0} (g h : Grammar L A) → Same g h → SameFault h → SameFault g
aside_kept g h p s ts f k = (
  λ m. aside_over h g (turned p) ts f k ((s ts f k).0 (answer_kept g h p.there p.back ts (Err (f, k)) m)),
  λ m. answer_kept h g p.back p.there ts (Err (f, k)) ((s ts f k).1 (aside_over g h p ts f k m)),
)
