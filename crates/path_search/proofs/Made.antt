-- The list of nodes, from the tables of a visit.
use Rattle.std.proofs.Common.{◌≡◌, ℕ, zero, suc, ◌+◌, ◌<◌, ◌≤◌, List, [], ◌∷◌, ◌++◌, length, Option, Some, refl, sym, ap, ◌∙◌, subst, arith}
use Rattle.std.specs.Prelude.{slice_get, map, Contains}
use Rattle.std.proofs.lemmas.Option.{none-some, same_Some}
use mathlib.Core.Logic.{◌⊎◌, inl, inr}
use Rattle.path_search.specs.Paths.{Search, successors, IsEnd}
use Rattle.path_search.specs.Openings.{ListsAll}
use Rattle.path_search.specs.Explored.{node, labels, LeadsTo, Explored}
use Rattle.path_search.specs.code.Visit.{IsDone, IsNumbered, number_of, Keeps}
use Rattle.path_search.specs.code.Assembly.{HaveNumbers, Renumbers, IsWhole, IsFrom, AreFrom, AreInSlots}
use Rattle.path_search.specs.declared.visit.Link.{Link}
use Rattle.path_search.specs.declared.visit.Found.{Found}
use Rattle.path_search.specs.declared.visit.Mark.{Mark}
use Rattle.path_search.specs.declared.node.Visited.{Visited}
use Rattle.path_search.proofs.Walks.{one_end}
use Rattle.path_search.proofs.Frontier.{get_push, get_within, get_some, listed}
use Rattle.path_search.proofs.Lists.{length_push, get_last, get_left, map_push}

pub nothing_left : {X : Type 0} (l : List X) → length l ≡ 0 → l ≡ []
nothing_left [] h = refl
nothing_left (x ∷ xs) h = absurd (omega arith)

pub item_at : {X : Type 0} (xs ys rest : List X) (x : X) → xs ≡ ys ++ x ∷ rest → slice_get xs (length ys) ≡ Some x
item_at xs ys rest x e = ap (λ l. slice_get l (length ys)) e ∙ get_last ys rest x

pub length_map : {X Y : Type 0} (f : X → Y) (xs : List X) → length (map f xs) ≡ length xs
length_map f [] = refl
length_map f (x ∷ xs) = ap suc (length_map f xs)

pub get_map : {X Y : Type 0} (f : X → Y) (xs : List X) (i : ℕ) (y : Y) → slice_get (map f xs) i ≡ Some y → (x : X) × (slice_get xs i ≡ Some x) × (f x ≡ y)
get_map f [] i y e = absurd (none-some y e)
get_map f (x ∷ xs) zero y e = (x, refl, same_Some (f x) y e)
get_map f (x ∷ xs) (suc i) y e = get_map f xs i y e

pub map_get : {X Y : Type 0} (f : X → Y) (xs : List X) (i : ℕ) (x : X) → slice_get xs i ≡ Some x → slice_get (map f xs) i ≡ Some (f x)
map_get f [] i x e = absurd (none-some x e)
map_get f (y ∷ xs) zero x e = ap (λ z. Some (f z)) (same_Some y x e)
map_get f (y ∷ xs) (suc i) x e = map_get f xs i x e

pub renumbers_none : {E : Type 0} (marks : List Mark) → Renumbers {E = E} marks [] []
renumbers_none marks = record { size = refl; same = refl; to = λ j l k e f. absurd (none-some l e) }

pub renumbers_more : {E : Type 0} (marks : List Mark) (old new : List (Link E)) (l k : Link E) (m : Mark) → slice_get marks l.to ≡ Some m → number_of m ≡ Some k.to → k.label ≡ l.label → Renumbers marks old new → Renumbers marks (old ++ l ∷ []) (new ++ k ∷ [])
renumbers_more marks old new l k m at n same r = record {
  size = length_push new k ∙ ap suc r.size ∙ sym (length_push old l);
  same = map_push (λ (x : Link _). x.label) new (k ∷ []) ∙ ap (λ x. x ++ k.label ∷ []) r.same ∙ ap (λ x. labels old ++ x ∷ []) same ∙ sym (map_push (λ (x : Link _). x.label) old (l ∷ []));
  to = λ j x y e f. to j x y (get_push old l x j e) (get_push new k y j f);
}
  where
    to : (j : ℕ) (x y : Link _) → slice_get old j ≡ Some x ⊎ ((j ≡ length old) × (l ≡ x)) → slice_get new j ≡ Some y ⊎ ((j ≡ length new) × (k ≡ y)) → (m : Mark) × (slice_get marks x.to ≡ Some m) × (number_of m ≡ Some y.to)
    to j x y (inl e) (inl f) = r.to j x y e f
    to j x y (inl e) (inr f) = absurd (omega (arith, get_within old j x e, f.0, r.size))
    to j x y (inr e) (inl f) = absurd (omega (arith, get_within new j y f, e.0, r.size))
    to j x y (inr e) (inr f) = (m, ap (λ (z : Link _). slice_get marks z.to) (sym e.1) ∙ at, n ∙ ap (λ (z : Link _). Some z.to) f.1)

module _ {N D E : Type 0} (table : List N) (marks : List Mark) where
  pub from_none : AreFrom {N = N} {D = D} {E = E} table marks [] []
  from_none = record { number = refl; each = λ i f v e g. absurd (none-some f e) }

  pub from_more : (found : List (Found D E)) (nodes : List (Visited N D E)) (f : Found D E) (v : Visited N D E) → IsFrom table marks f v → AreFrom table marks found nodes → AreFrom table marks (found ++ f ∷ []) (nodes ++ v ∷ [])
  from_more found nodes f v h a = record { number = length_push nodes v ∙ ap suc a.number ∙ sym (length_push found f); each = λ i x y e g. each i x y (get_push found f x i e) (get_push nodes v y i g) }
    where
      each : (i : ℕ) (x : Found D E) (y : Visited N D E) → slice_get found i ≡ Some x ⊎ ((i ≡ length found) × (f ≡ x)) → slice_get nodes i ≡ Some y ⊎ ((i ≡ length nodes) × (v ≡ y)) → IsFrom table marks x y
      each i x y (inl e) (inl g) = a.each i x y e g
      each i x y (inl e) (inr g) = absurd (omega (arith, get_within found i x e, g.0, a.number))
      each i x y (inr e) (inl g) = absurd (omega (arith, get_within nodes i y g, e.0, a.number))
      each i x y (inr e) (inr g) = subst (IsFrom table marks x) g.1 (subst (λ z. IsFrom table marks z v) e.1 h)

  -- at first all nodes are in their slots
  pub in_slots : (found : List (Found D E)) (slots : List (Option N)) → IsWhole table marks found → slots ≡ map Some table → AreInSlots table found slots 0
  in_slots found slots w e i f l at = let h = w.here i f at in (h.0, h.1, ap (λ s. slice_get s f.index) e ∙ map_get Some table f.index h.0 h.1)

  -- one is taken
  pub slots_less : (found : List (Found D E)) (slots slots' : List (Option N)) (n : ℕ) (f : Found D E) → IsWhole table marks found → slice_get found n ≡ Some f
      → ((i : ℕ) → (i ≡ f.index → ⊥) → slice_get slots' i ≡ slice_get slots i) → AreInSlots table found slots n → AreInSlots table found slots' (suc n)
  slots_less found slots slots' n f w at others s i g l e =
      let t = s i g (omega (arith, l)) e in
      (t.0, t.1, others g.index (λ same. omega (arith, w.apart i n g f e at same, l)) ∙ t.2)

module _ {N K D E : Type 0} (s : Search N K) (Valid : ℕ → N → Type 0) (Carries : N → D → List E → Type 0) (table : List N) (marks : List Mark) (found : List (Found D E)) (d : IsDone s table marks found) where
  pub whole : IsWhole table marks found
  whole = record {
    here = λ n f e. let p = get_some d.paths n (omega (arith, d.number, get_within found n f e)) in let t = d.entered n p.0 f p.1 e in (t.at, t.here);
    apart = d.apart;
    numbered = λ n f e j l a. let t = d.numbered n f l e (listed f.links j l a) in (t.mark, t.number, t.marked, t.is);
  }

  pub explored : (nodes : List (Visited N D E)) → Keeps Valid Carries table found → AreFrom table marks found nodes → Explored s Carries nodes
  explored nodes k a = record {
    accepts = d.accepts;
    lists = record {
      paths = d.paths;
      opening = d.opening;
      number = length_map node nodes ∙ a.number ∙ d.number;
      ends = ends;
      longest = d.longest;
    };
    links = λ i v e. let f = source i v e in links i v f.0 f.1 e;
    carries = λ i v e. let f = source i v e in carries i v f.0 f.1 e;
  }
    where
      source : (i : ℕ) (v : Visited N D E) → slice_get nodes i ≡ Some v → (f : Found D E) × (slice_get found i ≡ Some f)
      source i v e = get_some found i (omega (arith, a.number, get_within nodes i v e))

      path : (i : ℕ) (f : Found D E) → slice_get found i ≡ Some f → (p : List ℕ) × (slice_get d.paths i ≡ Some p)
      path i f e = get_some d.paths i (omega (arith, d.number, get_within found i f e))

      ends : (i : ℕ) (p : List ℕ) (g : N) → slice_get d.paths i ≡ Some p → slice_get (map node nodes) i ≡ Some g → IsEnd s p g
      ends i p g e h =
          let v = get_map node nodes i g h in let f = source i v.0 v.1 in
          let t = d.entered i p f.0 e f.1 in
          t.ends ∙ ap Some (same_Some t.at v.0.node (sym t.here ∙ (a.each i f.0 v.0 f.1 v.1).node) ∙ v.2)

      carries : (i : ℕ) (v : Visited N D E) (f : Found D E) → slice_get found i ≡ Some f → slice_get nodes i ≡ Some v → Carries v.node v.item (labels v.links)
      carries i v f e h =
          let from = a.each i f v e h in let c = k.carries i f e in
          subst (Carries v.node v.item) (sym from.links.same) (subst (λ x. Carries v.node x (labels f.links)) (sym from.item)
          (subst (λ x. Carries x f.item (labels f.links)) (same_Some c.0 v.node (sym c.1 ∙ from.node)) c.2))

      links : (i : ℕ) (v : Visited N D E) (f : Found D E) → slice_get found i ≡ Some f → slice_get nodes i ≡ Some v → LeadsTo nodes v.links (successors s v.node)
      links i v f e h = record { number = from.links.size ∙ entered.links.number ∙ ap (λ x. length (successors s x)) same; to = to }
        where
          from : IsFrom table marks f v
          from = a.each i f v e h

          entered : Rattle.path_search.specs.code.Visit.IsEntered s table (path i f e).0 f
          entered = let p = path i f e in d.entered i p.0 f p.1 e

          same : entered.at ≡ v.node
          same = same_Some entered.at v.node (sym entered.here ∙ from.node)

          to : (j : ℕ) (l : Link E) → slice_get v.links j ≡ Some l → (w : Visited N D E) × (slice_get nodes l.to ≡ Some w) × (slice_get (successors s v.node) j ≡ Some w.node)
          to j l at =
              let o = get_some f.links j (omega (arith, from.links.size, get_within v.links j l at)) in
              let m = from.links.to j o.0 l o.1 at in
              let n = d.numbered i f o.0 e (listed f.links j o.0 o.1) in
              let number : n.number ≡ l.to = same_Some n.number l.to (sym n.is ∙ ap number_of (same_Some n.mark m.0 (sym n.marked ∙ m.1)) ∙ m.2) in
              let w = get_some nodes l.to (omega (arith, a.number, sym number, get_within found n.number n.index.0 n.index.1)) in
              let h = entered.links.to j o.0 o.1 in
              let its : slice_get table o.0.to ≡ Some w.0.node =
              ap (slice_get table) (sym n.index.2) ∙ (a.each l.to n.index.0 w.0 (ap (slice_get found) (sym number) ∙ n.index.1) w.1).node in
              (w.0, w.1, ap (λ x. slice_get (successors s x) j) (sym same) ∙ h.1 ∙ ap Some (same_Some h.0 w.0.node (sym h.2 ∙ its)))
