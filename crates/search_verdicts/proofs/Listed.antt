-- The nodes of an accepted search are listed in one way, with their links and with what they carry.
use Rattle.std.proofs.Common.{◌≡◌, ◌∙◌, ℕ, suc, Some, List, [], ◌∷◌, length, map, refl, sym, ap, subst, arith}
use Rattle.std.specs.Prelude.{slice_get}
use Rattle.std.proofs.lemmas.Option.{same_Some}
use Rattle.path_search.specs.declared.node.Visited.{Visited}
use Rattle.path_search.specs.declared.visit.Link.{Link}
use Rattle.path_search.specs.Explored.{Explored, labels}
use Rattle.path_search.specs.Openings.{ListsAll}
use Rattle.path_search.specs.Paths.{IsBefore, Search, successors}
use Rattle.path_search.proofs.Frontier.{get_some, get_within, listed}
use Rattle.path_search.proofs.Order.{equal, irrefl, less, more, numbers}
use Rattle.path_search.proofs.Unique.{one_opening}
use Rattle.path_search.proofs.Walks.{one_end}
use Rattle.search_verdicts.proofs.Returning.{map-get}

-- lists with the same elements at the same places are one
pub same-lists : {A : Type 0} (xs ys : List A) → length xs ≡ length ys → ((i : ℕ) (x y : A) → slice_get xs i ≡ Some x → slice_get ys i ≡ Some y → x ≡ y) → xs ≡ ys
same-lists [] [] e h = refl
same-lists [] (y ∷ ys) e h = absurd (omega arith)
same-lists (x ∷ xs) [] e h = absurd (omega arith)
same-lists (x ∷ xs) (y ∷ ys) e h =
    let a : x ≡ y = h 0 x y refl refl in
    let b : xs ≡ ys = same-lists xs ys (omega arith) (λ i u v c d. h (suc i) u v c d) in
    cc

module _ {N K : Type 0} (s : Search N K) where
  -- no node is listed twice
  pub listed-once : (nodes : List N) → ListsAll s nodes → (i j : ℕ) (g : N) → slice_get nodes i ≡ Some g → slice_get nodes j ≡ Some g → i ≡ j
  listed-once nodes all i j g a b =
      let p = get_some all.paths i (omega (arith, all.number, get_within nodes i g a)) in
      let q = get_some all.paths j (omega (arith, all.number, get_within nodes j g b)) in
      let same : p.0 ≡ q.0 =
      all.opening.distinct p.0 q.0 g (listed all.paths i p.0 p.1) (listed all.paths j q.0 q.1) (all.ends i p.0 g p.1 a) (all.ends j q.0 g q.1 b) in
      elim (numbers i j) [
        | less l ↦ absurd (irrefl p.0 (subst (IsBefore p.0) (sym same) (all.opening.ordered i j p.0 q.0 l p.1 q.1)))
        | equal e ↦ e
        | more l ↦ absurd (irrefl q.0 (subst (IsBefore q.0) same (all.opening.ordered j i q.0 p.0 l q.1 p.1)))
      ]

  same-nodes : (xs ys : List N) → ListsAll s xs → ListsAll s ys → xs ≡ ys
  same-nodes xs ys a b =
      let e : a.paths ≡ b.paths =
      one_opening s a.paths b.paths a.opening b.opening (omega (arith, a.longest b.paths b.opening, b.longest a.paths a.opening)) in
      same-lists xs ys (omega (arith, a.number, b.number, ap length e)) (λ i x y c d.
      let p = get_some a.paths i (omega (arith, a.number, get_within xs i x c)) in
      one_end s s.start x y p.0 (a.ends i p.0 x p.1 c) (b.ends i p.0 y (subst (λ ps. slice_get ps i ≡ Some p.0) e p.1) d))

module _ {N K D E : Type 0} (s : Search N K) (Carries : N → D → List E → Type 0)
    (one : (g : N) (d f : D) (ls ks : List E) → Carries g d ls → Carries g f ks → (d ≡ f) × (ls ≡ ks)) where
  abbrev node_of : Visited N D E → N
  node_of x = x.node

  abbrev label_of : Link E → E
  label_of l = l.label

  module _ (xs ys : List (Visited N D E)) (a : Explored s Carries xs) (b : Explored s Carries ys) where
    same-names : map node_of xs ≡ map node_of ys
    same-names = same-nodes s (map node_of xs) (map node_of ys) a.lists b.lists

    same-link : (i j : ℕ) (x y : Visited N D E) (l k : Link E) → slice_get xs i ≡ Some x → slice_get ys i ≡ Some y → x.node ≡ y.node → labels x.links ≡ labels y.links
        → slice_get x.links j ≡ Some l → slice_get y.links j ≡ Some k → l ≡ k
    same-link i j x y l k at_x at_y node label at_l at_k =
        let t = (a.links i x at_x).to j l at_l in
        let u = (b.links i y at_y).to j k at_k in
        let same : t.0.node ≡ u.0.node = same_Some t.0.node u.0.node (sym t.2 ∙ ap (λ g. slice_get (successors s g) j) node ∙ u.2) in
        let to : l.to ≡ k.to =
        listed-once s (map node_of xs) a.lists l.to k.to t.0.node (map-get node_of xs l.to t.0 t.1)
        (ap (λ gs. slice_get gs k.to) same-names ∙ map-get node_of ys k.to u.0 u.1 ∙ ap Some (sym same)) in
        let what : l.label ≡ k.label =
        same_Some l.label k.label (sym (map-get label_of x.links j l at_l) ∙ ap (λ ls. slice_get ls j) label ∙ map-get label_of y.links j k at_k) in
        ap (λ n. record { to = n; label = l.label }) to ∙ ap (λ e. record { to = k.to; label = e }) what

    same-visited : (i : ℕ) (x y : Visited N D E) → slice_get xs i ≡ Some x → slice_get ys i ≡ Some y → x ≡ y
    same-visited i x y at_x at_y =
        let node : x.node ≡ y.node =
        same_Some x.node y.node (sym (map-get node_of xs i x at_x) ∙ ap (λ gs. slice_get gs i) same-names ∙ map-get node_of ys i y at_y) in
        let carried = one y.node x.item y.item (labels x.links) (labels y.links) (subst (λ g. Carries g x.item (labels x.links)) node (a.carries i x at_x)) (b.carries i y at_y) in
        let many : length x.links ≡ length y.links = (a.links i x at_x).number ∙ ap (λ g. length (successors s g)) node ∙ sym (b.links i y at_y).number in
        let links : x.links ≡ y.links = same-lists x.links y.links many (λ j l k at_l at_k. same-link i j x y l k at_x at_y node carried.1 at_l at_k) in
        ap (λ g. record { node = g; item = x.item; links = x.links }) node
        ∙ ap (λ d. record { node = y.node; item = d; links = x.links }) carried.0
        ∙ ap (λ ls. record { node = y.node; item = y.item; links = ls }) links

    pub explored-one : xs ≡ ys
    explored-one = same-lists xs ys many same-visited
      where
        map-length : (zs : List (Visited N D E)) → length (map node_of zs) ≡ length zs
        map-length [] = refl
        map-length (z ∷ zs) = ap suc (map-length zs)

        many : length xs ≡ length ys
        many = sym (map-length xs) ∙ ap length same-names ∙ map-length ys
