-- A link leads to each node of an explored graph but the first.
use Rattle.std.proofs.Common.{◌≡◌, ℕ, suc, Some, List, [], ◌∷◌, map, slice_get, refl, sym, ap, ◌∙◌, subst, arith, option_map}
use Rattle.std.proofs.lemmas.Option.{slice_get-map, slice_get_within}
use Rattle.path_search.specs.declared.node.Visited.{Visited}
use Rattle.path_search.specs.declared.visit.Link.{Link}
use Rattle.path_search.specs.Explored.{Explored, node}
use Rattle.path_search.specs.Paths.{IsBefore, IsEnd, Search, end_from, successors}
use Rattle.path_search.proofs.Frontier.{listed}
use Rattle.path_search.proofs.Order.{Numbers, less, equal, more, irrefl, numbers}
use Rattle.path_search.proofs.Walks.{end_cons, end_one}
use Rattle.lowered_runs.proofs.First.{first-visited}
use Rattle.lowered_runs.proofs.Lookups.{is-there, same-some}

-- no path is before the empty one
none-before : (p : List ℕ) → IsBefore p [] → ⊥
unfolding IsBefore
none-before [] h = h
none-before (i ∷ p) h = h

module _ {N K D E : Type 0} (s : Search N K) (Carries : N → D → List E → Type 0) (nodes : List (Visited N D E)) (explored : Explored s Carries nodes) where
  -- a link of a node leads to node n
  pub record IsLedTo (n : ℕ) : Type 0 where
    pub from : ℕ
    pub source : Visited N D E
    pub is : slice_get nodes from ≡ Some source
    pub place : ℕ
    pub link : Link E
    pub stands : slice_get source.links place ≡ Some link
    pub leads : link.to ≡ n

  -- a link leads to a node that is g
  record IsLinked (g : N) : Type 0 where
    led : (n : ℕ) × IsLedTo n
    target : Visited N D E
    there : slice_get nodes led.0 ≡ Some target
    same : target.node ≡ g

  one-step : (i : ℕ) (x : Visited N D E) → slice_get nodes i ≡ Some x → (c : ℕ) (b : N) → slice_get (successors s x.node) c ≡ Some b → IsLinked b
  one-step i x e c b h =
      let to = explored.links i x e in
      let lt = slice_get_within (successors s x.node) c b h in
      let many = to.number in
      let l = is-there x.links c (omega (arith, lt, many)) in
      let w = to.to c l.0 l.1 in record {
        led = (l.0.to, record { from = i; source = x; is = e; place = c; link = l.0; stands = l.1; leads = refl });
        target = w.0;
        there = w.1;
        same = same-some w.0.node b (sym w.2 ∙ h);
      }

  follow : (path : List ℕ) (c i : ℕ) (x : Visited N D E) → slice_get nodes i ≡ Some x → (g : N) → end_from s x.node (c ∷ path) ≡ Some g → IsLinked g
  follow [] c i x e g h = one-step i x e c g (sym (end_one s x.node c) ∙ h)
  follow (d ∷ path) c i x e g h =
      let t = end_cons s x.node g c (d ∷ path) h in
      let l = one-step i x e c t.by t.is in
      follow path d l.led.0 l.target l.there g (subst (λ a. end_from s a (d ∷ path) ≡ Some g) (sym l.same) t.gives)

  -- the path of a node of the list
  record HasPath (i : ℕ) (g : N) : Type 0 where
    path : List ℕ
    is : slice_get explored.lists.paths i ≡ Some path
    ends : IsEnd s path g

  has-path : (i : ℕ) (x : Visited N D E) → slice_get nodes i ≡ Some x → HasPath i x.node
  has-path i x e =
      let l = explored.lists in
      let there : slice_get (map node nodes) i ≡ Some x.node = slice_get-map node nodes i ∙ ap (option_map node) e in
      let lt = slice_get_within (map node nodes) i x.node there in
      let many = l.number in
      let q = is-there l.paths i (omega (arith, lt, many)) in
      record { path = q.0; is = q.1; ends = l.ends i q.0 x.node q.1 there }

  -- no node stands at two numbers
  once : (i j : ℕ) (x y : Visited N D E) → slice_get nodes i ≡ Some x → slice_get nodes j ≡ Some y → x.node ≡ y.node → i ≡ j
  once i j x y e f same = by (numbers i j)
    where
      p : HasPath i x.node
      p = has-path i x e

      q : HasPath j y.node
      q = has-path j y f

      one : p.path ≡ q.path
      one = explored.lists.opening.distinct p.path q.path y.node (listed explored.lists.paths i p.path p.is) (listed explored.lists.paths j q.path q.is) (subst (IsEnd s p.path) same p.ends) q.ends

      by : Numbers i j → i ≡ j
      by (equal h) = h
      by (less h) = absurd (irrefl q.path (subst (λ z. IsBefore z q.path) one (explored.lists.opening.ordered i j p.path q.path h p.is q.is)))
      by (more h) = absurd (irrefl q.path (subst (λ z. IsBefore q.path z) one (explored.lists.opening.ordered j i q.path p.path h q.is p.is)))

  pub led : (k : ℕ) (x : Visited N D E) → slice_get nodes (suc k) ≡ Some x → IsLedTo (suc k)
  led k x e = by-path p.path p.is p.ends
    where
      p : HasPath (suc k) x.node
      p = has-path (suc k) x e

      by-path : (path : List ℕ) → slice_get explored.lists.paths (suc k) ≡ Some path → IsEnd s path x.node → IsLedTo (suc k)
      by-path [] is h =
          let lt = slice_get_within explored.lists.paths (suc k) [] is in
          let q = is-there explored.lists.paths k (omega (arith, lt)) in
          absurd (none-before q.0 (explored.lists.opening.ordered k (suc k) q.0 [] (omega arith) q.1 is))
      by-path (c ∷ path) is h =
          let first = first-visited s Carries nodes explored in
          let l = follow path c 0 first.0 first.1 x.node (subst (λ a. end_from s a (c ∷ path) ≡ Some x.node) (sym first.2) h) in
          let z = once l.led.0 (suc k) l.target x l.there e l.same in
          subst IsLedTo z l.led.1
