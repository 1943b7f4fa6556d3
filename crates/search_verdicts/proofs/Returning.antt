-- In a search that is accepted and permits no loops, no walk leads from a node back to it.
use Rattle.std.proofs.Common.{◌≡◌, ◌∙◌, ℕ, zero, suc, List, [], ◌∷◌, ◌++◌, Some, refl, sym, ap, subst, arith}
use Rattle.std.specs.Prelude.{Option, None, false, map, slice_get, Contains}
use Rattle.std.proofs.lemmas.Option.{none-some, same_Some}
use mathlib.Core.Logic.{◌⊎◌, inl, inr}
use Rattle.graph_cycles.specs.Cycles.{IsOnCycle, IsWalk, list_or_none, successors as leads_to}
use Rattle.path_search.specs.declared.node.Visited.{Visited}
use Rattle.path_search.specs.declared.reason.Reason.TheVariants.{LeadsBack}
use Rattle.path_search.specs.declared.visit.Link.{Link}
use Rattle.path_search.specs.Openings.{ListsAll}
use Rattle.path_search.specs.Paths.{Search, successors, end_from, IsEnd, IsSimple, LiesOn}
use Rattle.path_search.specs.Verdict.{Accepts, back}
use Rattle.path_search.proofs.Frontier.{get_within, get_some, listed, place}
use Rattle.path_search.proofs.Walks.{decide_on, end_cons, end_none, end_put, one_end, prefix_more, prefix_self, prefix_trans, simple_none, simple_prefix, simple_push}
use Rattle.search_verdicts.specs.Laws.{IsMapped, graph_of}

module _ {N K : Type 0} (s : Search N K) (same : (a b : N) → (a ≡ b) ⊎ (a ≡ b → ⊥)) where
  -- a simple path to a node
  pub record HasSimple (g : N) : Type 0 where
    pub path : List ℕ
    pub simple : IsSimple s path g

  -- behind a simple path, one edge leads to a node on it or on by a longer simple path
  further : (w : List ℕ) (h b : N) (i : ℕ) → IsSimple s w h → slice_get (successors s h) i ≡ Some b → HasSimple b
  further w h b i simple e = elim (decide_on s same w b) [
    | inl o ↦ record { path = o.path; simple = simple_prefix s o.path w h b o.prefix simple o.ends }
    | inr off ↦ record { path = w ++ i ∷ []; simple = simple_push s w h b i simple e off }
  ]

  -- whatever a simple path and a walk behind it lead to
  pub simple-behind : (q w : List ℕ) (h g : N) → IsSimple s w h → end_from s h q ≡ Some g → HasSimple g
  simple-behind [] w h g simple e = record { path = w; simple = subst (IsSimple s w) (one_end s h h g [] (end_none s h) e) simple }
  simple-behind (i ∷ q) w h g simple e =
      let b = end_cons s h g i q e in
      let t = further w h b.by i simple b.is in
      simple-behind q t.path b.by g t.simple b.gives

  module _ (accepts : Accepts s) (closed : s.loops ≡ false) where
    -- no edge leads back to a simple path
    off : (i : ℕ) (w : List ℕ) (h b : N) → IsSimple s w h → slice_get (successors s h) i ≡ Some b → LiesOn s w b → ⊥
    off i w h b simple is on =
        accepts w h LeadsBack
        (record { simple = simple; reason = back (record { closed = closed; to = b; edge = listed (successors s h) i b is; on = on }) })

    -- nor does a walk behind it
    never-back : (i : ℕ) (q w : List ℕ) (h g : N) → IsSimple s w h → LiesOn s w g → end_from s h (i ∷ q) ≡ Some g → ⊥
    never-back i [] w h g simple on e =
        let b = end_cons s h g i [] e in
        off i w h b.by simple b.is (subst (LiesOn s w) (one_end s b.by g b.by [] b.gives (end_none s b.by)) on)
    never-back i (j ∷ q) w h g simple on e =
        let b = end_cons s h g i (j ∷ q) e in
        let longer : LiesOn s (w ++ i ∷ []) g = record {
          path = on.path;
          prefix = prefix_trans on.path w (w ++ i ∷ []) on.prefix (prefix_more w (i ∷ []));
          ends = on.ends;
        } in
        never-back j q (w ++ i ∷ []) b.by g (simple_push s w h b.by i simple b.is (off i w h b.by simple b.is)) longer b.gives

    pub no-cycle : (p : List ℕ) (g : N) → IsEnd s p g → (i : ℕ) (q : List ℕ) → end_from s g (i ∷ q) ≡ Some g → ⊥
    no-cycle p g e i q f =
        let t = simple-behind p [] s.start g (simple_none s) e in
        never-back i q t.path g g t.simple (record { path = t.path; prefix = prefix_self t.path; ends = t.simple.ends }) f

  -- what is listed is reached
  pub reached : (nodes : List N) → ListsAll s nodes → (n : ℕ) (g : N) → slice_get nodes n ≡ Some g → (p : List ℕ) × IsEnd s p g
  reached nodes all n g e =
      let p = get_some all.paths n (omega (arith, get_within nodes n g e, all.number)) in
      (p.0, all.ends n p.0 g p.1 e)

-- ---- the nodes of an accepted search as a graph

pub get-map : {A B : Type 0} (f : A → B) (xs : List A) (i : ℕ) (y : B) → slice_get (map f xs) i ≡ Some y → (x : A) × (slice_get xs i ≡ Some x) × (f x ≡ y)
get-map f [] i y e = absurd (none-some y e)
get-map f (x ∷ xs) zero y e = (x, refl, same_Some (f x) y e)
get-map f (x ∷ xs) (suc i) y e = get-map f xs i y e

pub map-get : {A B : Type 0} (f : A → B) (xs : List A) (i : ℕ) (x : A) → slice_get xs i ≡ Some x → slice_get (map f xs) i ≡ Some (f x)
map-get f [] i x e = absurd (none-some x e)
map-get f (y ∷ xs) zero x e = ap (λ z. Some (f z)) (same_Some y x e)
map-get f (y ∷ xs) (suc i) x e = map-get f xs i x e

pub map-none : {A B : Type 0} (f : A → B) (xs : List A) (i : ℕ) → slice_get xs i ≡ None → slice_get (map f xs) i ≡ None
map-none f [] i e = refl
map-none f (x ∷ xs) zero e = absurd (none-some x (sym e))
map-none f (x ∷ xs) (suc i) e = map-none f xs i e

module _ {N K D E : Type 0} (s : Search N K) (nodes : List (Visited N D E)) (all : IsMapped s nodes) where
  -- an edge of the graph is one of the search
  record IsEdge (x : Visited N D E) (m : ℕ) : Type 0 where
    choice : ℕ
    to : Visited N D E
    there : slice_get nodes m ≡ Some to
    leads : slice_get (successors s x.node) choice ≡ Some to.node

  linked : (n m : ℕ) (x : Visited N D E) → slice_get nodes n ≡ Some x → (j : ℕ) (l : Link E) → slice_get x.links j ≡ Some l → l.to ≡ m → IsEdge x m
  linked n m x e j l is to =
      let t = (all.links n x e).to j l is in
      record { choice = j; to = t.0; there = subst (λ k. slice_get nodes k ≡ Some t.0) to t.1; leads = t.2 }

  edge : (n m : ℕ) (x : Visited N D E) → slice_get nodes n ≡ Some x → Contains (leads_to (graph_of nodes) n) m → IsEdge x m
  edge n m x e c =
      let among : Contains (map (λ (l : Link E). l.to) x.links) m =
      subst (λ o. Contains (list_or_none o) m) (map-get (λ (v : Visited N D E). map (λ (l : Link E). l.to) v.links) nodes n x e) c in
      let at = place (map (λ (l : Link E). l.to) x.links) m among in
      let l = get-map (λ (l : Link E). l.to) x.links at.0 m at.1 in
      linked n m x e at.0 l.0 l.1 l.2

  -- a walk of the graph is one of the search
  walks : (ws : List ℕ) (n m : ℕ) (x : Visited N D E) → slice_get nodes n ≡ Some x → IsWalk (graph_of nodes) n ws m
      → (q : List ℕ) × (y : Visited N D E) × (slice_get nodes m ≡ Some y) × (end_from s x.node q ≡ Some y.node)
  walks [] n m x e w = ([], x, subst (λ k. slice_get nodes k ≡ Some x) w e, end_none s x.node)
  walks (k ∷ ws) n m x e w =
      let t = edge n k x e w.0 in
      let rest = walks ws k m t.to t.there w.1 in
      (t.choice ∷ rest.0, rest.1, rest.2, end_put s x.node t.to.node t.choice rest.0 t.leads ∙ rest.3)

  pub straight : (same : (a b : N) → (a ≡ b) ⊎ (a ≡ b → ⊥)) → s.loops ≡ false → (n : ℕ) → IsOnCycle (graph_of nodes) n → ⊥
  straight same closed n c = at (slice_get nodes n) refl
    where
      at : (o : Option (Visited N D E)) → slice_get nodes n ≡ o → ⊥
      at None e =
          let away : Contains [] c.first =
          subst (λ o. Contains (list_or_none o) c.first) (map-none (λ (v : Visited N D E). map (λ (l : Link E). l.to) v.links) nodes n e) c.edge in
          omega (arith, away.1)
      at (Some x) e =
          let t = edge n c.first x e c.edge in
          let rest = walks c.rest.walk c.first n t.to t.there c.rest.is in
          let p = reached s same (map (λ (v : Visited N D E). v.node) nodes) all.lists n x.node (map-get (λ (v : Visited N D E). v.node) nodes n x e) in
          let back-to : end_from s x.node (t.choice ∷ rest.0) ≡ Some x.node =
          end_put s x.node t.to.node t.choice rest.0 t.leads ∙ rest.3 ∙ ap (λ (v : Visited N D E). Some v.node) (same_Some rest.1 x (sym rest.2 ∙ e)) in
          no-cycle s same all.accepts closed p.0 x.node p.1 t.choice rest.0 back-to
