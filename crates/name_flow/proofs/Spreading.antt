-- How pairs are added, and what follows for the names that are wanted.
use Rattle.std.proofs.Common.{◌≡◌, zero, suc, ◌⊎◌, ℕ, ◌+◌, ◌<◌, ◌≤◌, Bool, true, false, List, [], ◌∷◌, ◌++◌, length, get_or, Option, Some, None, refl, sym, ap, ◌∙◌, arith, inl, inr, subst, Contains, slice_get, if◌then◌else◌, ◌&&◌, nat_eq, ltb, map, take, drop, ◌-◌, true≢false, MatchBool, append_assoc}
use Rattle.std.specs.List.{list_any}
use Rattle.std.proofs.lemmas.Map.Views.{Contains-from_any}
use Rattle.std.proofs.lemmas.Bool.Decides.{nat_tests}
use Rattle.std.proofs.lemmas.Grind.{common_steps}
use Rattle.std.proofs.lemmas.List.Elements.{Contains-append_left, Contains-push, Contains-push_cases}
use Rattle.name_flow.specs.code.Spread.{Pair, Adds, Grew, IsWanted, used_here, used_later, IsWantedAfter, IsSpread, AreEntered, IsFirstUse, Seeds, IsSeeded, GrewAt, AddsEnd, EntersWhere, Enters}
use Rattle.name_flow.specs.code.Runs.{AreEnds, name_first}
use Rattle.name_flow.proofs.Members.{none, here, there, cases}
use Rattle.name_flow.specs.code.Triples.{Triple, next, holds, is_first, NextHolds}

abbrev pub same_pair : Pair → Pair → Bool
same_pair p q = nat_eq p.0 q.0 && nat_eq p.1 q.1

same_pair-exact : (p q : Pair) → same_pair p q ≡ true → p ≡ q
same_pair-exact p q e = let x : p.0 ≡ q.0 = grind (arith, nat_tests) in let y : p.1 ≡ q.1 = grind (arith, nat_tests) in (λ i. (x i, y i))

pub added : (keys old new : List Pair) (p : Pair) → old ≡ keys → new ≡ (if list_any (same_pair p) keys then keys else keys ++ p ∷ []) → Adds p old new
added keys old new p e d = go (list_any (same_pair p) keys) refl
  where
    go : (b : Bool) → list_any (same_pair p) keys ≡ b → Adds p old new
    go true f = inl (d ∙ ap (λ b. if b then keys else keys ++ p ∷ []) f ∙ sym e, subst (λ k. Contains k p) (sym e) (Contains-from_any same_pair-exact p keys f))
    go false f = inr (d ∙ ap (λ b. if b then keys else keys ++ p ∷ []) f ∙ ap (λ k. k ++ p ∷ []) (sym e))

-- what follows where a pair is added
module _ (p : Pair) (old new : List Pair) where
  pub Adds-has : Adds p old new → Contains new p
  Adds-has (inl h) = subst (λ l. Contains l p) (sym h.0) h.1
  Adds-has (inr e) = subst (λ l. Contains l p) (sym e) (Contains-push old p)

  pub Adds-keeps : (q : Pair) → Adds p old new → Contains old q → Contains new q
  Adds-keeps q (inl h) m = subst (λ l. Contains l q) (sym h.0) m
  Adds-keeps q (inr e) m = subst (λ l. Contains l q) (sym e) (Contains-append_left old (p ∷ []) q m)

  pub Adds-cases : (q : Pair) → Adds p old new → Contains new q → Contains old q ⊎ (p ≡ q)
  Adds-cases q (inl h) m = inl (subst (λ l. Contains l q) h.0 m)
  Adds-cases q (inr e) m = Contains-push_cases old p q (subst (λ l. Contains l q) e m)

  pub Adds-grew : Adds p old new → Grew old new
  Adds-grew (inl h) = ([], h.0 ∙ sym (append-nil old))
    where
      append-nil : (l : List Pair) → l ++ [] ≡ l
      append-nil [] = refl
      append-nil (x ∷ xs) = ap (λ w. x ∷ w) (append-nil xs)
  Adds-grew (inr e) = (p ∷ [], e)

pub Grew-refl : (l : List Pair) → Grew l l
Grew-refl l = ([], sym (append-nil l))
  where
    append-nil : (l : List Pair) → l ++ [] ≡ l
    append-nil [] = refl
    append-nil (x ∷ xs) = ap (λ w. x ∷ w) (append-nil xs)

pub Grew-trans : (a b c : List Pair) → Grew a b → Grew b c → Grew a c
Grew-trans a b c g h = (g.0 ++ h.0, h.1 ∙ ap (λ l. l ++ h.0) g.1 ∙ append_assoc a g.0 h.0)

pub Grew-keeps : (a b : List Pair) (q : Pair) → Grew a b → Contains a q → Contains b q
Grew-keeps a b q g m = subst (λ l. Contains l q) (sym g.1) (Contains-append_left a g.0 q m)

slice_get-append : (a b : List Pair) (k : ℕ) → k < length a → slice_get (a ++ b) k ≡ slice_get a k
slice_get-append [] b k l = absurd (omega arith)
slice_get-append (x ∷ xs) b zero l = refl
slice_get-append (x ∷ xs) b (suc k) l = slice_get-append xs b k (omega arith)

pub Grew-get : (a b : List Pair) (k : ℕ) → Grew a b → k < length a → slice_get b k ≡ slice_get a k
Grew-get a b k g l = ap (λ z. slice_get z k) g.1 ∙ slice_get-append a g.0 k l

-- the name is wanted at a block's start, so at the end of each block before it
pub wanted_before : (used defined es : List Triple) (b x p : ℕ) → holds es b 0 p ≡ true → IsWanted used defined es x b → IsWantedAfter used defined es x p
wanted_before used defined es b x p h w = record { target = b; edge = h; wanted = w }

pub wanted_through : (used defined es : List Triple) (b x : ℕ) → IsWantedAfter used defined es x b → next defined b x 0 ≡ None → IsWanted used defined es x b
wanted_through used defined es b x w n = used_later {s = w.target} w.edge n w.wanted

-- seeds
module _ (defined : List Triple) where
  pub IsSeeded-none : (old : List Pair) → IsSeeded [] defined old old
  IsSeeded-none old = record { kept = λ q m. m; each = λ b x i m f. absurd (none (b, x, i) m); all = λ b x m. inl m }

  first-more : (t : Triple) (rest : List Triple) (b x : ℕ) → IsFirstUse rest defined b x → IsFirstUse (t ∷ rest) defined b x
  first-more t rest b x u = record { index = u.index; here = there t (b, x, u.index) rest u.here; first = u.first }

  seeds-kept : (t : Triple) (a b : List Pair) (q : Pair) (r : Bool) → MatchBool r (Adds (t.0, t.1) a b) (b ≡ a) → Contains a q → Contains b q
  seeds-kept t a b q true s m = Adds-keeps (t.0, t.1) a b q s m
  seeds-kept t a b q false s m = subst (λ l. Contains l q) (sym s) m

  seeds-has : (t : Triple) (a b : List Pair) (r : Bool) → MatchBool r (Adds (t.0, t.1) a b) (b ≡ a) → r ≡ true → Contains b (t.0, t.1)
  seeds-has t a b true s e = Adds-has (t.0, t.1) a b s
  seeds-has t a b false s e = absurd (true≢false (sym e))

  seeds-cases : (t : Triple) (a b : List Pair) (q : Pair) (r : Bool) → MatchBool r (Adds (t.0, t.1) a b) (b ≡ a) → Contains b q → Contains a q ⊎ (((t.0, t.1) ≡ q) × (r ≡ true))
  seeds-cases t a b q true s m = elim (Adds-cases (t.0, t.1) a b q s m) [ inl h ↦ inl h | inr e ↦ inr (e, refl) ]
  seeds-cases t a b q false s m = inl (subst (λ l. Contains l q) s m)

  pub IsSeeded-cons : (t : Triple) (rest : List Triple) (a b c : List Pair) → Seeds defined t a b → IsSeeded rest defined b c → IsSeeded (t ∷ rest) defined a c
  IsSeeded-cons t rest a b c s r = record { kept = λ q m. r.kept q (seeds-kept t a b q first s m); each = each; all = all }
    where
      first : Bool
      first = is_first (Some t.2) (next defined t.0 t.1 0)

      at-t : (b' x i : ℕ) → t ≡ (b', x, i) → is_first (Some i) (next defined b' x 0) ≡ true → Contains c (b', x)
      at-t b' x i e f = subst (λ (u : Triple). Contains c (u.0, u.1)) e (r.kept (t.0, t.1) (seeds-has t a b (is_first (Some t.2) (next defined t.0 t.1 0)) s (subst (λ (u : Triple). is_first (Some u.2) (next defined u.0 u.1 0) ≡ true) (sym e) f)))

      each : (b' x i : ℕ) → Contains (t ∷ rest) (b', x, i) → is_first (Some i) (next defined b' x 0) ≡ true → Contains c (b', x)
      each b' x i m f = elim (cases t (b', x, i) rest m) [ inl e ↦ at-t b' x i e f | inr n ↦ r.each b' x i n f ]

      from-t : (b' x : ℕ) → (◌≡◌ {A = Pair} (t.0, t.1) (b', x)) × (is_first (Some t.2) (next defined t.0 t.1 0) ≡ true) → IsFirstUse (t ∷ rest) defined b' x
      from-t b' x h = subst (λ (p : Pair). IsFirstUse (t ∷ rest) defined p.0 p.1) h.0 (let u : IsFirstUse (t ∷ rest) defined t.0 t.1 = record { index = t.2; here = here t rest; first = h.1 } in u)

      all : (b' x : ℕ) → Contains c (b', x) → Contains a (b', x) ⊎ IsFirstUse (t ∷ rest) defined b' x
      all b' x m = elim (r.all b' x m) [ inl n ↦ elim (seeds-cases t a b (b', x) (is_first (Some t.2) (next defined t.0 t.1 0)) s n) [ inl o ↦ inl o | inr h ↦ inr (from-t b' x h) ] | inr u ↦ inr (first-more t rest b' x u) ]

rest-is : (t : Triple) (rest : List Triple) → take (length (t ∷ rest) - 1) (drop 1 (t ∷ rest)) ≡ rest
rest-is t rest = grind (arith, common_steps)

pub IsSeeded-uncons : (defined : List Triple) (d : Triple) (us : List Triple) (a b c : List Pair) → 1 ≤ length us → Seeds defined (name_first (get_or us 0 d)) a b → IsSeeded (map name_first (take (length us - 1) (drop 1 us))) defined b c → IsSeeded (map name_first us) defined a c
IsSeeded-uncons defined d [] a b c l s r = absurd (omega arith)
IsSeeded-uncons defined d (t ∷ rest) a b c l s r = IsSeeded-cons defined (name_first t) (map name_first rest) a b c s (subst (λ z. IsSeeded (map name_first z) defined b c) (rest-is t rest) r)

-- an end is added
module _ (p : Pair) (old new : List Pair) where
  grew-at : (o : Option ℕ) → GrewAt o p old new → Grew old new
  grew-at None h = Adds-grew p old new h
  grew-at (Some d) h = subst (Grew old) (sym h) (Grew-refl old)

  has-at : (o : Option ℕ) → GrewAt o p old new → o ≡ None → Contains new p
  has-at None h e = Adds-has p old new h
  has-at (Some d) h e = cc

  cases-at : (o : Option ℕ) (q : Pair) → GrewAt o p old new → Contains new q → Contains old q ⊎ ((p ≡ q) × (o ≡ None))
  cases-at None q h m = elim (Adds-cases p old new q h m) [ inl n ↦ inl n | inr e ↦ inr (e, refl) ]
  cases-at (Some d) q h m = inl (subst (λ l. Contains l q) h m)

module _ (defined es : List Triple) (b x : ℕ) (s0 e0 : List Pair) where
  pub Enters-none : EntersWhere (λ q. ltb q 0) defined es b x s0 e0 s0 e0
  Enters-none = record { starts_grew = Grew-refl s0; ends_grew = Grew-refl e0; each = λ q l h. absurd (grind (arith, nat_tests)); through = λ q y m. inl m; ends = λ q y m. inl m; starts = λ q y m. inl m }

  module _ (s e s' e' : List Pair) (from p : ℕ) (n : NextHolds es b 0 from (Some p)) (w : EntersWhere (λ q. ltb q from) defined es b x s0 e0 s e) (a : AddsEnd defined p x s e s' e') where
    sgrew : Grew s s'
    sgrew = grew-at (p, x) s s' (next defined p x 0) a.at_start

    egrew : Grew e e'
    egrew = Adds-grew (p, x) e e' a.at_end

    each-more : (q : ℕ) → ltb q (p + 1) ≡ true → holds es b 0 q ≡ true → Contains e' (q, x)
    each-more q l h = at (ltb q from) refl
      where
        at : (r : Bool) → ltb q from ≡ r → Contains e' (q, x)
        at true f = Grew-keeps e e' (q, x) egrew (w.each q f h)
        at false f = near (ltb q p) refl
          where
            near : (r : Bool) → ltb q p ≡ r → Contains e' (q, x)
            near true g = absurd (true≢false (sym h ∙ n.2 q (grind (arith, nat_tests)) (grind (arith, nat_tests))))
            near false g = let same : p ≡ q = grind (arith, nat_tests) in subst (λ z. Contains e' (z, x)) same (Adds-has (p, x) e e' a.at_end)

    through-more : (q y : ℕ) → Contains e' (q, y) → Contains e0 (q, y) ⊎ ((y ≡ x) × (next defined q y 0 ≡ None → Contains s' (q, y)))
    through-more q y m = elim (Adds-cases (p, x) e e' (q, y) a.at_end m) [ inl o ↦ before (w.through q y o) | inr f ↦ inr (sym (ap (λ (t : Pair). t.1) f), at f) ]
      where
        before : Contains e0 (q, y) ⊎ ((y ≡ x) × (next defined q y 0 ≡ None → Contains s (q, y))) → Contains e0 (q, y) ⊎ ((y ≡ x) × (next defined q y 0 ≡ None → Contains s' (q, y)))
        before (inl h) = inl h
        before (inr h) = inr (h.0, λ k. Grew-keeps s s' (q, y) sgrew (h.1 k))

        at : ◌≡◌ {A = Pair} (p, x) (q, y) → next defined q y 0 ≡ None → Contains s' (q, y)
        at f k = subst (λ (t : Pair). Contains s' t) f (has-at (p, x) s s' (next defined p x 0) a.at_start (subst (λ (t : Pair). next defined t.0 t.1 0 ≡ None) (sym f) k))

    ends-more : (q y : ℕ) → Contains e' (q, y) → Contains e0 (q, y) ⊎ ((y ≡ x) × (holds es b 0 q ≡ true))
    ends-more q y m = elim (Adds-cases (p, x) e e' (q, y) a.at_end m) [ inl o ↦ w.ends q y o | inr f ↦ inr (sym (ap (λ (t : Pair). t.1) f), subst (λ (t : Pair). holds es b 0 t.0 ≡ true) f n.1) ]

    starts-more : (q y : ℕ) → Contains s' (q, y) → Contains s0 (q, y) ⊎ ((y ≡ x) × (holds es b 0 q ≡ true) × (next defined q y 0 ≡ None))
    starts-more q y m = elim (cases-at (p, x) s s' (next defined p x 0) (q, y) a.at_start m) [ inl o ↦ w.starts q y o | inr f ↦ inr (sym (ap (λ (t : Pair). t.1) f.0), subst (λ (t : Pair). holds es b 0 t.0 ≡ true) f.0 n.1, subst (λ (t : Pair). next defined t.0 t.1 0 ≡ None) f.0 f.1) ]

    pub Enters-more : EntersWhere (λ q. ltb q (p + 1)) defined es b x s0 e0 s' e'
    Enters-more = record { starts_grew = Grew-trans s0 s s' w.starts_grew sgrew; ends_grew = Grew-trans e0 e e' w.ends_grew egrew; each = each-more; through = through-more; ends = ends-more; starts = starts-more }

  pub Enters-end : (s e : List Pair) (from : ℕ) → NextHolds es b 0 from None → EntersWhere (λ q. ltb q from) defined es b x s0 e0 s e → Enters defined es b x s0 e0 s e
  Enters-end s e from n w = record { starts_grew = w.starts_grew; ends_grew = w.ends_grew; each = λ q t h. at q h (ltb q from) refl; through = w.through; ends = w.ends; starts = w.starts }
    where
      at : (q : ℕ) → holds es b 0 q ≡ true → (r : Bool) → ltb q from ≡ r → Contains e (q, x)
      at q h true f = w.each q f h
      at q h false f = absurd (true≢false (sym h ∙ n q (grind (arith, nat_tests))))

some-same : (p q : Pair) → Some p ≡ Some q → p ≡ q
some-same p q f = cc

-- the whole spread
module _ (used defined es : List Triple) where
  spread-start : (starts : List Pair) → IsSeeded used defined [] starts → IsSpread used defined es starts []
  spread-start starts s = record { starts_wanted = λ b x m. wanted b x (s.all b x m); ends_wanted = λ b x m. absurd (none (b, x) m); seeded = s.each; through = λ b x m. absurd (none (b, x) m) }
    where
      wanted : (b x : ℕ) → Contains {X = Pair} [] (b, x) ⊎ IsFirstUse used defined b x → IsWanted used defined es x b
      wanted b x (inl m) = absurd (none (b, x) m)
      wanted b x (inr u) = used_here u.index u.here u.first

  pub IsSpread-start : (us : List Triple) (old starts ends : List Pair) → us ≡ used → old ≡ [] → ends ≡ [] → IsSeeded us defined old starts → IsSpread used defined es starts ends
  IsSpread-start us old starts ends u o e s =
      subst (IsSpread used defined es starts) (sym e) (spread-start starts (subst (λ l. IsSeeded used defined l starts) o (subst (λ l. IsSeeded l defined old starts) u s)))

  pub AreEntered-none : (starts ends : List Pair) → AreEntered es starts ends 0
  AreEntered-none starts ends k b x p l = absurd (omega arith)

  get-Contains : (l : List Pair) (k : ℕ) (q : Pair) → slice_get l k ≡ Some q → Contains l q × (k < length l)
  get-Contains [] k q e = cc
  get-Contains (y ∷ ys) zero q e = let same : y ≡ q = cc in (subst (λ z. Contains (y ∷ ys) z) same (here y ys), omega arith)
  get-Contains (y ∷ ys) (suc k) q e = let r = get-Contains ys k q e in (there y q ys r.0, omega (arith, r.1))

  module _ (s e s' e' : List Pair) (n b x : ℕ) (sp : IsSpread used defined es s e) (en : AreEntered es s e n) (at : slice_get s n ≡ Some (b, x)) (w : Enters defined es b x s e s' e') where
    b-wanted : IsWanted used defined es x b
    b-wanted = sp.starts_wanted b x (get-Contains s n (b, x) at).0

    ends-w : (q y : ℕ) → Contains e' (q, y) → IsWantedAfter used defined es y q
    ends-w q y m = elim (w.ends q y m) [ inl o ↦ sp.ends_wanted q y o | inr h ↦ subst (λ z. IsWantedAfter used defined es z q) (sym h.0) (wanted_before used defined es b x q h.1 b-wanted) ]

    starts-w : (q y : ℕ) → Contains s' (q, y) → IsWanted used defined es y q
    starts-w q y m = elim (w.starts q y m) [ inl o ↦ sp.starts_wanted q y o | inr h ↦ wanted_through used defined es q y (subst (λ z. IsWantedAfter used defined es z q) (sym h.0) (wanted_before used defined es b x q h.1 b-wanted)) h.2 ]

    through-w : (q y : ℕ) → Contains e' (q, y) → next defined q y 0 ≡ None → Contains s' (q, y)
    through-w q y m k = elim (w.through q y m) [ inl o ↦ Grew-keeps s s' (q, y) w.starts_grew (sp.through q y o k) | inr h ↦ h.1 k ]

    pub IsSpread-more : IsSpread used defined es s' e'
    IsSpread-more = record { starts_wanted = starts-w; ends_wanted = ends-w; seeded = λ b x i m f. Grew-keeps s s' (b, x) w.starts_grew (sp.seeded b x i m f); through = through-w }

    pub AreEntered-more : AreEntered es s' e' (n + 1)
    AreEntered-more k c y p l g h = near (ltb k n) refl
      where
        in-s : k < length s → slice_get s k ≡ Some (c, y)
        in-s m = sym (Grew-get s s' k w.starts_grew m) ∙ g

        near : (r : Bool) → ltb k n ≡ r → Contains e' (p, y)
        near true f =
            let l' : k < n = grind (arith, nat_tests) in
            let m : k < length s = omega (arith, (get-Contains s n (b, x) at).1) in
            Grew-keeps e e' (p, y) w.ends_grew (en k c y p l' (in-s m) h)
        near false f =
            let same : k ≡ n = grind (arith, nat_tests) in
            let m : k < length s = omega (arith, (get-Contains s n (b, x) at).1) in
            let both : ◌≡◌ {A = Option Pair} (Some (c, y)) (Some (b, x)) = sym (in-s m) ∙ (ap (slice_get s) same ∙ at) in
            let pair : ◌≡◌ {A = Pair} (c, y) (b, x) = some-same (c, y) (b, x) both in
            subst (λ (t : Pair). Contains e' (p, t.1)) (sym pair) (w.each p refl (subst (λ (t : Pair). holds es t.0 0 p ≡ true) pair h))

  Contains-get : (l : List Pair) (q : Pair) → Contains l q → (k : ℕ) × (slice_get l k ≡ Some q) × (k < length l)
  Contains-get [] q m = absurd (none q m)
  Contains-get (y ∷ ys) q m = go (Contains-get ys q) (cases y q ys m)
    where
      go : (Contains ys q → (k : ℕ) × (slice_get ys k ≡ Some q) × (k < length ys)) → (y ≡ q) ⊎ Contains ys q → (k : ℕ) × (slice_get (y ∷ ys) k ≡ Some q) × (k < length (y ∷ ys))
      go ih (inl e) = (zero, ap Some e, omega arith)
      go ih (inr n) = let r = ih n in (suc r.0, r.1, omega (arith, r.2))

  module _ (starts ends : List Pair) (n : ℕ) (all : length starts ≤ n) (sp : IsSpread used defined es starts ends) (en : AreEntered es starts ends n) where
    entered : (b x p : ℕ) → Contains starts (b, x) → holds es b 0 p ≡ true → Contains ends (p, x)
    entered b x p m h = let r = Contains-get starts (b, x) m in en r.0 b x p (omega (arith, r.2)) r.1 h

    complete : {x b : ℕ} → IsWanted used defined es x b → Contains starts (b, x)
    complete {x} {b} (used_here i c f) = sp.seeded b x i c f
    complete {x} {b} (used_later {s = s} h k w) = sp.through b x (entered s x b (complete w) h) k

    pub AreEnds-done : AreEnds used defined es ends
    AreEnds-done b x = (λ m. sp.ends_wanted b x m, λ w. entered w.target x b (complete w.wanted) w.edge)
