-- Where no least path has a successor of its end on it, no simple path has.
use Rattle.std.proofs.Common.{◌≡◌, ℕ, List, [], ◌∷◌, ◌++◌, Some, refl, sym, ap, ◌∙◌, subst, append_assoc}
use Rattle.std.specs.Prelude.{slice_get, Contains, false}
use mathlib.Core.Logic.{◌⊎◌, inl, inr}
use Rattle.path_search.specs.Paths.{Search, successors, end_from, IsEnd, IsBefore, IsPrefix, IsSimple, LiesOn}
use Rattle.path_search.specs.Openings.{IsFound}
use Rattle.path_search.specs.Verdict.{IsBack}
use Rattle.path_search.proofs.Order.{trans, between, Order, lower, same, higher, order}
use Rattle.path_search.proofs.Walks.{app_nil, end_none, end_one, end_cons, end_put, one_end, end_on, prefix_self, prefix_before, prefix_none, prefix_cons, prefix_put, prefix_rest, prefix_up, prefix_trans, Heads, along, simple_prefix, simple_push, decide_on}
use Rattle.path_search.specs.code.Frontier.{Frontier}
use Rattle.path_search.proofs.Frontier.{simple_at, listed, place}

upto_trans : (a b c : List ℕ) → (a ≡ b) ⊎ IsBefore a b → (b ≡ c) ⊎ IsBefore b c → (a ≡ c) ⊎ IsBefore a c
upto_trans a b c (inl e) (inl f) = inl (e ∙ f)
upto_trans a b c (inl e) (inr f) = inr (subst (λ x. IsBefore x c) (sym e) f)
upto_trans a b c (inr e) (inl f) = inr (subst (IsBefore a) f e)
upto_trans a b c (inr e) (inr f) = inr (trans a b c e f)

-- a prefix of a ++ b is one of a, or a and a prefix of b
split : (a t b : List ℕ) → IsPrefix t (a ++ b) → IsPrefix t a ⊎ ((u : List ℕ) × (t ≡ a ++ u) × IsPrefix u b)
split [] t b p = inr (t, refl, p)
split (x ∷ a) [] b p = inl (record { rest = x ∷ a; whole = refl })
split (x ∷ a) (y ∷ t) b p =
    let e : x ≡ y = cc (p.whole) in let q : IsPrefix t (a ++ b) = record { rest = p.rest; whole = cc (p.whole) } in
    elim (split a t b q) [ inl h ↦ inl (record { rest = h.rest; whole = cc (h.whole) }) | inr h ↦ inr (h.0, cc (h.1), h.2) ]

module _ {N K : Type 0} (s : Search N K) (decide : (a b : N) → (a ≡ b) ⊎ (a ≡ b → ⊥)) (pos : List ℕ) (ps : List (List ℕ)) (f : Frontier s pos ps) where
  record Known (m : N) : Type 0 where
    path : List ℕ
    listed : Contains ps path
    ends : IsEnd s path m

  one_path : (m : N) (a b : Known m) → a.path ≡ b.path
  one_path m a b = f.distinct a.path b.path m a.listed b.listed a.ends b.ends

  -- the node of the walk c from h that is found first
  record First (h : N) (c : List ℕ) : Type 0 where
    to : List ℕ
    prefix : IsPrefix to c
    node : N
    ends : end_from s h to ≡ Some node
    known : Known node
    least : (t : List ℕ) (m : N) → IsPrefix t c → end_from s h t ≡ Some m → (k : Known m) → (known.path ≡ k.path) ⊎ IsBefore known.path k.path

  first : (c : List ℕ) (h g : N) → end_from s h c ≡ Some g → ((t : List ℕ) (m : N) → IsPrefix t c → end_from s h t ≡ Some m → Known m) → First h c
  first [] h g e all = record {
    to = [];
    prefix = prefix_self [];
    node = h;
    ends = end_none s h;
    known = all [] h (prefix_self []) (end_none s h);
    least = λ t m p d k.
        let n : m ≡ h = one_end s h m h [] (subst (λ x. end_from s h x ≡ Some m) (prefix_none t p) d) (end_none s h) in
        let k' : Known h = record { path = k.path; listed = k.listed; ends = subst (IsEnd s k.path) n k.ends } in
        inl (one_path h (all [] h (prefix_self []) (end_none s h)) k');
  }
  first (i ∷ c) h g e all =
      let b = end_cons s h g i c e in
      pick b.by b.is (first c b.by g b.gives (λ t m p d. all (i ∷ t) m (prefix_put i c t p) (end_put s h b.by i t b.is ∙ d)))
    where
      here : Known h
      here = all [] h (record { rest = i ∷ c; whole = refl }) (end_none s h)

      at_here : (m : N) → end_from s h [] ≡ Some m → (k : Known m) → here.path ≡ k.path
      at_here m d k =
          let n : m ≡ h = one_end s h m h [] d (end_none s h) in
          let k' : Known h = record { path = k.path; listed = k.listed; ends = subst (IsEnd s k.path) n k.ends } in
          one_path h here k'

      by_heads : (b : N) → slice_get (successors s h) i ≡ Some b → (w : List ℕ) → (here.path ≡ w → (w ≡ here.path) ⊎ IsBefore w here.path) → ((t : List ℕ) (m : N) → IsPrefix t c → end_from s b t ≡ Some m → (k : Known m) → (w ≡ k.path) ⊎ IsBefore w k.path) → (w ≡ here.path) ⊎ IsBefore w here.path
          → (t : List ℕ) (m : N) → Heads i c t → end_from s h t ≡ Some m → (k : Known m) → (w ≡ k.path) ⊎ IsBefore w k.path
      by_heads b e w _ rest own [] m q d k = upto_trans w here.path k.path own (inl (at_here m d k))
      by_heads b e w _ rest own (j ∷ t) m (along p) d k = rest t m p (sym (end_put s h b j t e) ∙ d) k

      pick : (b : N) → slice_get (successors s h) i ≡ Some b → First b c → First h (i ∷ c)
      pick b e r = choose (order here.path r.known.path)
        where
          mine : (here.path ≡ r.known.path) ⊎ IsBefore here.path r.known.path → First h (i ∷ c)
          mine o = record {
            to = [];
            prefix = record { rest = i ∷ c; whole = refl };
            node = h;
            ends = end_none s h;
            known = here;
            least = λ t m p d k. by_heads b e here.path (λ _. inl refl) (λ t m p d k. upto_trans here.path r.known.path k.path o (r.least t m p d k)) (inl refl) t m (prefix_cons i c t p) d k;
          }

          theirs : IsBefore r.known.path here.path → First h (i ∷ c)
          theirs o = record {
            to = i ∷ r.to;
            prefix = prefix_put i c r.to r.prefix;
            node = r.node;
            ends = end_put s h b i r.to e ∙ r.ends;
            known = r.known;
            least = λ t m p d k. by_heads b e r.known.path (λ _. inr o) r.least (inr o) t m (prefix_cons i c t p) d k;
          }

          choose : Order here.path r.known.path → First h (i ∷ c)
          choose (lower o) = mine (inr o)
          choose (same o) = mine (inl o)
          choose (higher o) = theirs o

  -- what is between p and an extension of p, both permitted, extends p
  extends : (p x r : List ℕ) → (p ≡ x) ⊎ IsBefore p x → (x ≡ p ++ r) ⊎ IsBefore x (p ++ r) → IsPrefix p x
  extends p x r (inl e) k = record { rest = []; whole = sym e ∙ sym (app_nil p) }
  extends p x r (inr h) (inl e) = record { rest = r; whole = e }
  extends p x r (inr h) (inr k) = let t = between p x r h k in record { rest = t.0; whole = t.1 }

  module _ (straight : (p : List ℕ) (g : N) → Contains ps p → IsEnd s p g → IsBack s p g → ⊥) (closed : s.loops ≡ false) where
    -- Along a walk from a node whose path extends p, over nodes whose paths are not before p, the paths extend p. So it does not come back to the end of p.
    around : (p : List ℕ) (y : N) → IsEnd s p y → (w : List ℕ) (i : ℕ) (z : N) → (k : Known z) → IsPrefix p k.path
        → ((t : List ℕ) (m : N) → IsPrefix t (i ∷ w) → end_from s z t ≡ Some m → (n : Known m) × ((j : Known m) → (p ≡ j.path) ⊎ IsBefore p j.path))
        → end_from s z (i ∷ w) ≡ Some y → ⊥
    around p y hp [] i z k far all e =
        let edge : slice_get (successors s z) i ≡ Some y = sym (end_one s z i) ∙ e in
        straight k.path z k.listed k.ends (record { closed = closed; to = y; edge = Rattle.path_search.proofs.Frontier.listed (successors s z) i y edge; on = record { path = p; prefix = far; ends = hp } })
    around p y hp (i2 ∷ w) i z k far all e =
        let b = end_cons s z y i (i2 ∷ w) e in
        let at_b = all (i ∷ []) b.by (record { rest = i2 ∷ w; whole = refl }) (end_one s z i ∙ b.is) in
        around p y hp w i2 b.by at_b.0 (reach b.by b.is at_b.0 (at_b.1 at_b.0) (decide_on s decide k.path b.by))
        (λ t m q d. all (i ∷ t) m (prefix_put i (i2 ∷ w) t q) (end_put s z b.by i t b.is ∙ d)) b.gives
      where
        hk : IsSimple s k.path z
        hk = simple_at s pos ps f k.path z k.listed k.ends

        known : (b : N) (q : List ℕ) → IsFound s ps q b → (n : Known b) → (n.path ≡ q) ⊎ IsBefore n.path q
        known b q d n = elim d.upto [ inl e ↦ inl (f.distinct n.path d.path b n.listed d.listed n.ends d.ends ∙ e) | inr l ↦ inr (subst (λ x. IsBefore x q) (sym (f.distinct n.path d.path b n.listed d.listed n.ends d.ends)) l) ]

        reach : (b : N) → slice_get (successors s z) i ≡ Some b → (n : Known b) → (p ≡ n.path) ⊎ IsBefore p n.path → LiesOn s k.path b ⊎ (LiesOn s k.path b → ⊥) → IsPrefix p n.path
        reach b u n l (inl o) =
            let d = f.covers o.path b (simple_prefix s o.path k.path z b o.prefix hk o.ends) (prefix_before o.path k.path pos o.prefix (f.below k.path k.listed)) in
            let up : (n.path ≡ k.path) ⊎ IsBefore n.path k.path = upto_trans n.path o.path k.path (known b o.path d n) (prefix_up o.path k.path o.prefix) in
            extends p n.path far.rest l (subst (λ x. (n.path ≡ x) ⊎ IsBefore n.path x) far.whole up)
        reach b u n l (inr off) =
            let w = k.path ++ i ∷ [] in
            let hw : IsSimple s (k.path ++ i ∷ []) b = simple_push s k.path z b i hk u off in
            extends p n.path (far.rest ++ i ∷ []) l (subst (λ x. (n.path ≡ x) ⊎ IsBefore n.path x) (ap (λ x. x ++ i ∷ []) far.whole ∙ append_assoc p far.rest (i ∷ [])) (upto hw (order (k.path ++ i ∷ []) pos)))
          where
            upto : IsSimple s (k.path ++ i ∷ []) b → Order (k.path ++ i ∷ []) pos → (n.path ≡ k.path ++ i ∷ []) ⊎ IsBefore n.path (k.path ++ i ∷ [])
            upto hw (lower h) = known b (k.path ++ i ∷ []) (f.covers (k.path ++ i ∷ []) b hw h) n
            upto hw (same h) = inr (subst (IsBefore n.path) (sym h) (f.below n.path n.listed))
            upto hw (higher h) = inr (trans n.path pos (k.path ++ i ∷ []) (f.below n.path n.listed) h)

    pub none_back : (q : List ℕ) (g : N) → IsSimple s q g → IsBefore q pos → IsBack s q g → ⊥
    none_back q g hq below back = turn back.on.path back.on.prefix.rest back.on.prefix.whole (place (successors s g) back.to back.edge) back.on.ends
      where
        turn : (a c : List ℕ) → q ≡ a ++ c → (i : ℕ) × (slice_get (successors s g) i ≡ Some back.to) → IsEnd s a back.to → ⊥
        turn a c w edge ha = go (first c back.to g down all)
          where
            down : end_from s back.to c ≡ Some g
            down = sym (end_on s s.start back.to a c ha) ∙ ap (end_from s s.start) (sym w) ∙ hq.ends

            all : (t : List ℕ) (m : N) → IsPrefix t c → end_from s back.to t ≡ Some m → Known m
            all t m p d =
                let on : IsPrefix (a ++ t) q = subst (IsPrefix (a ++ t)) (sym w) (prefix_rest a t c p) in
                let e : IsEnd s (a ++ t) m = end_on s s.start back.to a t ha ∙ d in
                let k = f.covers (a ++ t) m (simple_prefix s (a ++ t) q g m on hq e) (prefix_before (a ++ t) q pos on below) in
                record { path = k.path; listed = k.listed; ends = k.ends }

            go : First back.to c → ⊥
            go r = again r.prefix.rest r.prefix.whole
              where
                ahead : (d : List ℕ) → c ≡ r.to ++ d → end_from s r.node d ≡ Some g
                ahead d v = sym (end_on s back.to r.node r.to d r.ends) ∙ ap (end_from s back.to) (sym v) ∙ down

                whole : (d : List ℕ) → c ≡ r.to ++ d → end_from s r.node (d ++ edge.0 ∷ r.to) ≡ Some r.node
                whole d v = end_on s r.node g d (edge.0 ∷ r.to) (ahead d v) ∙ end_put s g back.to edge.0 r.to edge.1 ∙ r.ends

                sees : (t : List ℕ) (m : N) → IsPrefix t c → end_from s back.to t ≡ Some m → (n : Known m) × ((j : Known m) → (r.known.path ≡ j.path) ⊎ IsBefore r.known.path j.path)
                sees t m p d = (all t m p d, r.least t m p d)

                -- the nodes of the walk around
                nodes : (d : List ℕ) → c ≡ r.to ++ d → (t : List ℕ) (m : N) → IsPrefix t (d ++ edge.0 ∷ r.to) → end_from s r.node t ≡ Some m → (n : Known m) × ((j : Known m) → (r.known.path ≡ j.path) ⊎ IsBefore r.known.path j.path)
                nodes d v t m p e = part (split d t (edge.0 ∷ r.to) p)
                  where
                    part : IsPrefix t d ⊎ ((u : List ℕ) × (t ≡ d ++ u) × IsPrefix u (edge.0 ∷ r.to)) → (n : Known m) × ((j : Known m) → (r.known.path ≡ j.path) ⊎ IsBefore r.known.path j.path)
                    part (inl q) = sees (r.to ++ t) m (subst (IsPrefix (r.to ++ t)) (sym v) (prefix_rest r.to t d q)) (end_on s back.to r.node r.to t r.ends ∙ e)
                    part (inr q) = tail q.0 q.1 (prefix_cons edge.0 r.to q.0 q.2)
                      where
                        tail : (u : List ℕ) → t ≡ d ++ u → Heads edge.0 r.to u → (n : Known m) × ((j : Known m) → (r.known.path ≡ j.path) ⊎ IsBefore r.known.path j.path)
                        tail [] x h = sees c m (prefix_self c) (ap (end_from s back.to) v ∙ end_on s back.to r.node r.to d r.ends ∙ ap (end_from s r.node) (sym (x ∙ app_nil d)) ∙ e)
                        tail (j ∷ u) x (along h) = sees u m (prefix_trans u r.to c h r.prefix)
                            (sym (end_on s r.node g d (j ∷ u) (ahead d v) ∙ end_put s g back.to j u edge.1) ∙ ap (end_from s r.node) (sym x) ∙ e)

                again : (d : List ℕ) → c ≡ r.to ++ d → ⊥
                again [] v = around r.known.path r.node r.known.ends r.to edge.0 r.node r.known (prefix_self r.known.path) (nodes [] v) (whole [] v)
                again (j ∷ d) v = around r.known.path r.node r.known.ends (d ++ edge.0 ∷ r.to) j r.node r.known (prefix_self r.known.path) (nodes (j ∷ d) v) (whole (j ∷ d) v)
