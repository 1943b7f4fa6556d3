-- The paths found by a visit, up to a position.
use Rattle.std.proofs.Common.{◌≡◌, ℕ, zero, suc, ◌<◌, ◌≤◌, List, [], ◌∷◌, ◌++◌, length, Some, refl, sym, ap, ◌∙◌, subst, arith, append_assoc}
use Rattle.std.specs.Prelude.{slice_get, Contains}
use Rattle.std.proofs.lemmas.Option.{none-some, same_Some, slice_get_past}
use Rattle.std.proofs.lemmas.List.Elements.{Contains-push, Contains-push_cases, Contains-append_left}
use mathlib.Core.Logic.{◌⊎◌, inl, inr}
use Rattle.path_search.specs.Paths.{Search, successors, end_from, IsEnd, IsBefore, IsPrefix, IsSimple, LiesOn}
use Rattle.path_search.specs.Openings.{IsFound, Opening}
use Rattle.path_search.specs.code.Frontier.{Frontier}
use Rattle.path_search.proofs.Order.{trans, irrefl, before_more, before_next, before_step, before_first, Parts, prefix, apart, parts, Numbers, less, equal, more, numbers, Order, lower, higher, order}
use Rattle.path_search.proofs.Order as O
use Rattle.path_search.proofs.Walks.{app_nil, end_front, end_none, end_one, end_cons, one_end, end_push, end_on, prefix_self, prefix_more, prefix_up, prefix_before, prefix_push, prefix_rest, simple_prefix, simple_push, simple_none, decide_on}

-- an element of a list with one more
pub get_push : {A : Type 0} (xs : List A) (y x : A) (i : ℕ) → slice_get (xs ++ y ∷ []) i ≡ Some x → slice_get xs i ≡ Some x ⊎ ((i ≡ length xs) × (y ≡ x))
get_push [] y x zero e = inr (refl, same_Some y x e)
get_push [] y x (suc i) e = absurd (none-some x e)
get_push (z ∷ xs) y x zero e = inl e
get_push (z ∷ xs) y x (suc i) e = elim (get_push xs y x i e) [ inl f ↦ inl f | inr f ↦ inr (ap suc f.0, f.1) ]

pub get_within : {A : Type 0} (xs : List A) (i : ℕ) (x : A) → slice_get xs i ≡ Some x → i < length xs
get_within [] i x e = absurd (none-some x e)
get_within (y ∷ xs) zero x e = omega arith
get_within (y ∷ xs) (suc i) x e = omega (arith, get_within xs i x e)

pub listed : {A : Type 0} (xs : List A) (i : ℕ) (x : A) → slice_get xs i ≡ Some x → Contains xs x
listed [] i x e = absurd (none-some x e)
listed (y ∷ xs) zero x e = (0, omega arith, same_Some y x e)
listed (y ∷ xs) (suc i) x e = let t = listed xs i x e in (suc t.0, omega (arith, t.1), t.2)

pub place : {A : Type 0} (xs : List A) (x : A) → Contains xs x → (i : ℕ) × (slice_get xs i ≡ Some x)
place xs x c = go xs c.0 c.1 c.2
  where
    go : (xs : List _) (k : ℕ) → k < length xs → Rattle.std.specs.Prelude.slice_index_or xs k x ≡ x → (i : ℕ) × (slice_get xs i ≡ Some x)
    go [] k h e = absurd (omega arith)
    go (y ∷ xs) zero h e = (0, ap Some e)
    go (y ∷ xs) (suc k) h e = let t = go xs k (omega arith) e in (suc t.0, t.1)

pub get_some : {A : Type 0} (xs : List A) (i : ℕ) → i < length xs → (x : A) × (slice_get xs i ≡ Some x)
get_some [] i h = absurd (omega arith)
get_some (y ∷ xs) zero h = (y, refl)
get_some (y ∷ xs) (suc i) h = get_some xs i (omega arith)

module _ {N K : Type 0} (s : Search N K) where
  pub found_more : (ps : List (List ℕ)) (p q : List ℕ) (g : N) → IsFound s ps q g → IsFound s (ps ++ p ∷ []) q g
  found_more ps p q g f = record { path = f.path; listed = Contains-append_left ps (p ∷ []) f.path f.listed; ends = f.ends; upto = f.upto }

  pub simple_at : (pos : List ℕ) (ps : List (List ℕ)) → Frontier s pos ps → (p : List ℕ) (g : N) → Contains ps p → IsEnd s p g → IsSimple s p g
  simple_at pos ps f p g c e = let t = f.simple p c in simple_prefix s p p t.0 g (prefix_self p) t.1 e

  pub begins : Frontier s [] []
  unfolding IsBefore
  begins = record {
    simple = λ p c. absurd (omega (arith, c.1));
    ordered = λ i j p q h e f. absurd (none-some p e);
    distinct = λ p q g c d e f. absurd (omega (arith, c.1));
    below = λ p c. absurd (omega (arith, c.1));
    covers = λ q g h b. absurd (nothing q b);
  }
    where
      nothing : (q : List ℕ) → IsBefore q [] → ⊥
      nothing [] b = b
      nothing (i ∷ q) b = b

  IsNew : List (List ℕ) → N → Type 0
  IsNew ps h = (p : List ℕ) → Contains ps p → IsEnd s p h → ⊥

  -- a new node is found
  pub finds : (w : List ℕ) (ps : List (List ℕ)) (h : N) → Frontier s w ps → IsSimple s w h → ((p : List ℕ) → Contains ps p → IsEnd s p h → ⊥) → Frontier s (w ++ zero ∷ []) (ps ++ w ∷ [])
  finds w ps h f hw new = record {
    simple = λ p c. simple p (Contains-push_cases ps w p c);
    ordered = λ i j p q h e g. ordered i j p q h (get_push ps w p i e) (get_push ps w q j g);
    distinct = λ p q g c d e k. distinct p q g (Contains-push_cases ps w p c) (Contains-push_cases ps w q d) e k;
    below = λ p c. below p (Contains-push_cases ps w p c);
    covers = λ q g hq b. covers q g hq (before_first w q b);
  }
    where
      simple : (p : List ℕ) → Contains ps p ⊎ (w ≡ p) → (g : N) × IsSimple s p g
      simple p (inl c) = f.simple p c
      simple p (inr e) = (h, subst (λ x. IsSimple s x h) e hw)

      ordered : (i j : ℕ) (p q : List ℕ) → i < j → slice_get ps i ≡ Some p ⊎ ((i ≡ length ps) × (w ≡ p)) → slice_get ps j ≡ Some q ⊎ ((j ≡ length ps) × (w ≡ q)) → IsBefore p q
      ordered i j p q l (inl e) (inl g) = f.ordered i j p q l e g
      ordered i j p q l (inl e) (inr g) = subst (IsBefore p) g.1 (f.below p (listed ps i p e))
      ordered i j p q l (inr e) (inl g) = absurd (omega (arith, e.0, get_within ps j q g))
      ordered i j p q l (inr e) (inr g) = absurd (omega (arith, e.0, g.0))

      distinct : (p q : List ℕ) (g : N) → Contains ps p ⊎ (w ≡ p) → Contains ps q ⊎ (w ≡ q) → IsEnd s p g → IsEnd s q g → p ≡ q
      distinct p q g (inl c) (inl d) e k = f.distinct p q g c d e k
      distinct p q g (inl c) (inr d) e k = absurd (new p c (subst (IsEnd s p) (one_end s s.start g h q k (subst (λ x. IsEnd s x h) d hw.ends)) e))
      distinct p q g (inr c) (inl d) e k = absurd (new q d (subst (IsEnd s q) (one_end s s.start g h p e (subst (λ x. IsEnd s x h) c hw.ends)) k))
      distinct p q g (inr c) (inr d) e k = sym c ∙ d

      below : (p : List ℕ) → Contains ps p ⊎ (w ≡ p) → IsBefore p (w ++ zero ∷ [])
      below p (inl c) = trans p w (w ++ zero ∷ []) (f.below p c) (before_more w zero [])
      below p (inr e) = subst (λ x. IsBefore x (w ++ zero ∷ [])) e (before_more w zero [])

      covers : (q : List ℕ) (g : N) → IsSimple s q g → IsBefore q w ⊎ (q ≡ w) → IsFound s (ps ++ w ∷ []) q g
      covers q g hq (inl b) = found_more ps w q g (f.covers q g hq b)
      covers q g hq (inr e) = record { path = w; listed = Contains-push ps w; ends = subst (λ x. IsEnd s x g) e hq.ends; upto = inl (sym e) }

  -- the nodes of the visit's path are found
  pub on_path : (cur : List ℕ) (k : ℕ) (x h : N) (ps : List (List ℕ)) → Frontier s (cur ++ k ∷ []) ps → IsSimple s cur x → (o : LiesOn s cur h) → IsFound s ps o.path h
  on_path cur k x h ps f hc o = f.covers o.path h (simple_prefix s o.path cur x h o.prefix hc o.ends) (prefix_before o.path cur (cur ++ k ∷ []) o.prefix (before_more cur k []))

  -- an edge to a new node
  pub arrives : (cur : List ℕ) (k : ℕ) (x h : N) (ps : List (List ℕ)) → Frontier s (cur ++ k ∷ []) ps → IsSimple s cur x → slice_get (successors s x) k ≡ Some h → ((p : List ℕ) → Contains ps p → IsEnd s p h → ⊥) → IsSimple s (cur ++ k ∷ []) h
  arrives cur k x h ps f hc e new = simple_push s cur x h k hc e (λ o. let t = on_path cur k x h ps f hc o in new t.path t.listed t.ends)

  module _ (same : (a b : N) → (a ≡ b) ⊎ (a ≡ b → ⊥)) where
    -- a node that is found and left: its path parts from the position
    record IsLeft (pos : List ℕ) (ps : List (List ℕ)) (z : N) : Type 0 where
      path : List ℕ
      listed : Contains ps path
      ends : IsEnd s path z
      left : (r : List ℕ) → IsBefore (path ++ r) pos

    -- what is found and is not on the path of the visit is left
    leaves : (cur : List ℕ) (k : ℕ) (ps : List (List ℕ)) (z : N) → Frontier s (cur ++ k ∷ []) ps → (p : List ℕ) → Contains ps p → IsEnd s p z → (LiesOn s cur z → ⊥) → IsLeft (cur ++ k ∷ []) ps z
    leaves cur k ps z f p c e n = go (parts p (cur ++ k ∷ []) (f.below p c))
      where
        on : (IsPrefix p cur ⊎ (p ≡ cur ++ k ∷ [])) → ⊥
        on (inl t) = n (record { path = p; prefix = t; ends = e })
        on (inr t) = irrefl (cur ++ k ∷ []) (subst (λ x. IsBefore x (cur ++ k ∷ [])) t (f.below p c))

        go : Parts p (cur ++ k ∷ []) → IsLeft (cur ++ k ∷ []) ps z
        go (prefix r w) = absurd (on (prefix_push p cur k (record { rest = r; whole = w })))
        go (apart l) = record { path = p; listed = c; ends = e; left = l }

    -- a successor of a node that is left is found
    follows : (pos : List ℕ) (ps : List (List ℕ)) (z b : N) (i : ℕ) → Frontier s pos ps → (l : IsLeft pos ps z) → slice_get (successors s z) i ≡ Some b → (p : List ℕ) × Contains ps p × IsEnd s p b
    follows pos ps z b i f l e = go (decide_on s same l.path b)
      where
        hp : IsSimple s l.path z
        hp = simple_at pos ps f l.path z l.listed l.ends

        go : LiesOn s l.path b ⊎ (LiesOn s l.path b → ⊥) → (p : List ℕ) × Contains ps p × IsEnd s p b
        go (inl o) = let t = f.covers o.path b (simple_prefix s o.path l.path z b o.prefix hp o.ends) (prefix_before o.path l.path pos o.prefix (f.below l.path l.listed)) in (t.path, t.listed, t.ends)
        go (inr n) = let t = f.covers (l.path ++ i ∷ []) b (simple_push s l.path z b i hp e n) (l.left (i ∷ [])) in (t.path, t.listed, t.ends)

    -- a node that is left has no unfound node behind it, but for those on the path of the visit
    stays_left : (cur : List ℕ) (k : ℕ) (ps : List (List ℕ)) (g : N) (r : List ℕ) (z : N) → Frontier s (cur ++ k ∷ []) ps → IsLeft (cur ++ k ∷ []) ps z
        → ((t : List ℕ) (m : N) → IsPrefix t r → end_from s z t ≡ Some m → LiesOn s cur m → ⊥) → end_from s z r ≡ Some g → IsLeft (cur ++ k ∷ []) ps g
    stays_left cur k ps g [] z f l away e = subst (IsLeft (cur ++ k ∷ []) ps) (one_end s z z g [] (end_none s z) e) l
    stays_left cur k ps g (i ∷ r) z f l away e =
        let b = end_cons s z g i r e in
        let p = follows (cur ++ k ∷ []) ps z b.by i f l b.is in
        stays_left cur k ps g r b.by f
        (leaves cur k ps b.by f p.0 p.1 p.2 (away (i ∷ []) b.by (record { rest = r; whole = refl }) (end_one s z i ∙ b.is)))
        (λ t m h d. away (i ∷ t) m (Rattle.path_search.proofs.Walks.prefix_put i r t h) (Rattle.path_search.proofs.Walks.end_put s z b.by i t b.is ∙ d))
        b.gives

    -- an edge to a node that is found already
    pub passes : (cur : List ℕ) (k : ℕ) (x h : N) (ps : List (List ℕ)) → Frontier s (cur ++ k ∷ []) ps → IsSimple s cur x → slice_get (successors s x) k ≡ Some h → (p : List ℕ) → Contains ps p → IsEnd s p h → Frontier s (cur ++ suc k ∷ []) ps
    passes cur k x h ps f hc e p c d = record {
      simple = f.simple;
      ordered = f.ordered;
      distinct = f.distinct;
      below = λ q m. trans q (cur ++ k ∷ []) (cur ++ suc k ∷ []) (f.below q m) (before_next cur k (suc k) [] [] (omega arith));
      covers = λ q g hq b. covers q g hq (before_step cur q k b);
    }
      where
        after : (q r : List ℕ) → q ≡ cur ++ k ∷ r → IsBefore (cur ++ k ∷ []) q ⊎ (cur ++ k ∷ [] ≡ q)
        after q [] w = inr (sym w)
        after q (i ∷ r) w = inl (subst (IsBefore (cur ++ k ∷ [])) (append_assoc cur (k ∷ []) (i ∷ r) ∙ sym w) (before_more (cur ++ k ∷ []) i r))

        upto : (a q r : List ℕ) → q ≡ cur ++ k ∷ r → IsBefore a (cur ++ k ∷ []) → IsBefore a q
        upto a q r w b = elim (after q r w) [ inl t ↦ trans a (cur ++ k ∷ []) q b t | inr t ↦ subst (IsBefore a) t b ]

        away : (q r : List ℕ) (g : N) → q ≡ cur ++ k ∷ r → IsSimple s q g → (t : List ℕ) (m : N) → IsPrefix t r → end_from s h t ≡ Some m → LiesOn s cur m → ⊥
        away q r g w hq t m j u o =
            let at_m : IsEnd s (cur ++ k ∷ t) m = end_on s s.start x cur (k ∷ t) hc.ends ∙ Rattle.path_search.proofs.Walks.end_put s x h k t e ∙ u in
            let long : IsPrefix (cur ++ k ∷ t) q = record { rest = j.rest; whole = w ∙ ap (λ y. cur ++ k ∷ y) j.whole ∙ sym (append_assoc cur (k ∷ t) j.rest) } in
            let short : IsPrefix o.path q = record { rest = o.prefix.rest ++ k ∷ r; whole = w ∙ ap (λ y. y ++ k ∷ r) o.prefix.whole ∙ append_assoc o.path o.prefix.rest (k ∷ r) } in
            irrefl o.path (subst (IsBefore o.path) (sym (hq.once o.path (cur ++ k ∷ t) m short long o.ends at_m)) (prefix_before o.path cur (cur ++ k ∷ t) o.prefix (before_more cur k t)))

        covers : (q : List ℕ) (g : N) → IsSimple s q g → IsBefore q (cur ++ k ∷ []) ⊎ ((r : List ℕ) × (q ≡ cur ++ k ∷ r)) → IsFound s ps q g
        covers q g hq (inl b) = f.covers q g hq b
        covers q g hq (inr w) =
            let far = away q w.0 g w.1 hq in
            let l = leaves cur k ps h f p c d (far [] h (record { rest = w.0; whole = refl }) (end_none s h)) in
            let to_g : end_from s h w.0 ≡ Some g = sym (end_on s s.start x cur (k ∷ w.0) hc.ends ∙ Rattle.path_search.proofs.Walks.end_put s x h k w.0 e) ∙ ap (end_from s s.start) (sym w.1) ∙ hq.ends in
            let m = stays_left cur k ps g w.0 h f l far to_g in
            record { path = m.path; listed = m.listed; ends = m.ends; upto = inr (upto m.path q w.0 w.1 (f.below m.path m.listed)) }

  -- the node at the end of the path has no more edges
  pub leaves_off : (cur : List ℕ) (j k : ℕ) (x : N) (ps : List (List ℕ)) → Frontier s ((cur ++ j ∷ []) ++ k ∷ []) ps → IsEnd s (cur ++ j ∷ []) x → length (successors s x) ≤ k → Frontier s (cur ++ suc j ∷ []) ps
  leaves_off cur j k x ps f hx lk = record {
    simple = f.simple;
    ordered = f.ordered;
    distinct = f.distinct;
    below = λ q m. trans q ((cur ++ j ∷ []) ++ k ∷ []) (cur ++ suc j ∷ []) (f.below q m) (subst (λ y. IsBefore y (cur ++ suc j ∷ [])) (sym (append_assoc cur (j ∷ []) (k ∷ []))) (before_next cur j (suc j) (k ∷ []) [] (omega arith)));
    covers = λ q g hq b. covers q g hq (before_step cur q j b);
  }
    where
      none : (i : ℕ) (r q : List ℕ) (g : N) → q ≡ (cur ++ j ∷ []) ++ i ∷ r → IsSimple s q g → k ≤ i → ⊥
      none i r q g w hq l =
          let b = end_cons s x g i r (sym (end_on s s.start x (cur ++ j ∷ []) (i ∷ r) hx) ∙ ap (end_from s s.start) (sym w) ∙ hq.ends) in
          none-some b.by (sym (slice_get_past (successors s x) i (omega arith)) ∙ b.is)

      beyond : (i : ℕ) (r q : List ℕ) (g : N) → q ≡ (cur ++ j ∷ []) ++ i ∷ r → IsSimple s q g → Numbers i k → IsFound s ps q g
      beyond i r q g w hq (less l) = f.covers q g hq (subst (λ y. IsBefore y ((cur ++ j ∷ []) ++ k ∷ [])) (sym w) (before_next (cur ++ j ∷ []) i k r [] l))
      beyond i r q g w hq (equal e) = absurd (none i r q g w hq (omega arith))
      beyond i r q g w hq (more l) = absurd (none i r q g w hq (omega arith))

      at : (r q : List ℕ) (g : N) → q ≡ cur ++ j ∷ r → IsSimple s q g → IsFound s ps q g
      at [] q g w hq = f.covers q g hq (subst (λ y. IsBefore y ((cur ++ j ∷ []) ++ k ∷ [])) (sym w) (before_more (cur ++ j ∷ []) k []))
      at (i ∷ r) q g w hq = beyond i r q g (w ∙ sym (append_assoc cur (j ∷ []) (i ∷ r))) hq (numbers i k)

      covers : (q : List ℕ) (g : N) → IsSimple s q g → IsBefore q (cur ++ j ∷ []) ⊎ ((r : List ℕ) × (q ≡ cur ++ j ∷ r)) → IsFound s ps q g
      covers q g hq (inl b) = f.covers q g hq (trans q (cur ++ j ∷ []) ((cur ++ j ∷ []) ++ k ∷ []) b (before_more (cur ++ j ∷ []) k []))
      covers q g hq (inr w) = at w.0 q g w.1 hq

  -- at the end each simple path is before the position
  pub ends_all : (k : ℕ) → length (successors s s.start) ≤ k → (q : List ℕ) (g : N) → IsSimple s q g → IsBefore q (k ∷ [])
  unfolding IsBefore
  ends_all k l [] g h = tt
  ends_all k l (i ∷ q) g h = elim (numbers i k) [ less a ↦ inl a | equal a ↦ absurd (none (omega arith)) | more a ↦ absurd (none (omega arith)) ]
    where
      none : k ≤ i → ⊥
      none m = let b = end_cons s s.start g i q h.ends in none-some b.by (sym (slice_get_past (successors s s.start) i (omega arith)) ∙ b.is)

  pub opens : (pos : List ℕ) (ps : List (List ℕ)) → Frontier s pos ps → Opening s ps
  opens pos ps f = record {
    simple = f.simple;
    ordered = f.ordered;
    distinct = f.distinct;
    covers = λ last q g l hq n. f.covers q g hq (upto last q (f.below last (subst (λ y. Contains y last) (sym l.1) (Contains-push l.0 last))) n (order last q));
  }
    where
      upto : (last q : List ℕ) → IsBefore last pos → (IsBefore last q → ⊥) → Order last q → IsBefore q pos
      upto last q b n (lower h) = absurd (n h)
      upto last q b n (O.same e) = subst (λ x. IsBefore x pos) e b
      upto last q b n (higher h) = trans q last pos h b
