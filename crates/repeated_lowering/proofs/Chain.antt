-- The explored configurations of a printed Base residue: each leads to the next, and the last returns.
use Rattle.std.proofs.Common.{drop, Bool, ◌≡◌, ℕ, zero, suc, ◌+◌, ◌<◌, ◌≤◌, Option, None, Some, List, [], ◌∷◌, ◌++◌, length, map, option_map, refl, sym, ap, ◌∙◌, subst, arith}
use Rattle.std.proofs.lemmas.Option.{same_Some}
use Rattle.std.specs.Option.{option_to_list}
use Rattle.std.specs.Prelude.{slice_get}
use Rattle.ir_module.specs.declared.places.Point.{Point}
use Rattle.ir_values.specs.declared.ids.LocalId.{LocalId}
use Rattle.ir_values.specs.declared.value.Value.TheVariants as value
use Rattle.ir_values.specs.Int.{IntValue, signed}
use Rattle.kept_items.specs.declared.item.Choice.TheVariants.{One}
use Rattle.kept_items.specs.declared.item.Code.TheVariants as code
use Rattle.kept_items.specs.declared.item.Item.{Item}
use Rattle.kept_items.specs.declared.target.Kind.{Kind}
use Rattle.kept_items.specs.declared.target.Target.TheVariants.{Base}
use Rattle.kept_items.specs.declared.val.Val.TheVariants.{Known}
use Rattle.path_search.specs.Explored.{Explored, LeadsTo, labels}
use Rattle.path_search.specs.Paths.{IsBefore, IsEnd, Search, successors}
use Rattle.path_search.proofs.Frontier.{get_some, get_within}
use Rattle.path_search.proofs.Order.{Numbers, equal, less, more, numbers}
use Rattle.residue.specs.declared.parts.Residue.{Residue}
use Rattle.residue.specs.declared.parts.Tail.TheVariants as tail
use Rattle.residue.specs.Printed.{printed}
use Rattle.residue.specs.Scopes.{items_of}
use Rattle.residue.specs.Valid.{Valid}
use Rattle.search_verdicts.proofs.Listed.{listed-once}
use Rattle.search_verdicts.proofs.Parents.{parent-of}
use Rattle.search_verdicts.proofs.Returning.{map-get}
use Rattle.static_steps.specs.declared.config.Config.{Config}
use Rattle.static_steps.specs.declared.turn.Turn.{Turn}
use Rattle.static_steps.specs.declared.turn.Turn.TheVariants.{Exits, Goes}
use Rattle.static_steps.specs.Steps.{start_of, static_step}
use Rattle.unroller.specs.declared.node.Outcome.TheVariants as outcome
use Rattle.unroller.specs.Programs.{Carries, IsOutcome, search_of, turn_of}
use Rattle.path_search.specs.Paths as path
use Rattle.fused_parts.specs.Nodes.{Links, Node}
use Rattle.lowered_runs.proofs.First.{first-visited}
use Rattle.profiled_residue.specs.Premises.{FitsProfile}
use Rattle.settled_lowering.proofs.BaseBlocks.{items_in, none-first, part}
use Rattle.settled_lowering.proofs.BaseSettles.{Fits, Goes-on, goes-on, number, onward, program, remaining, returns, settle, straight}
use Rattle.settled_lowering.proofs.Searches.{reached-fits, reached-one}

module _ (r : Residue) (ok : Valid r Base) (fits : FitsProfile r Base) (live : Point → LocalId → Bool) (qubits results budget : ℕ) where
  abbrev s : Search Config Kind
  s = search_of (program r ok fits live qubits results) budget

  abbrev fits-in : Config → Type 0
  fits-in = Fits r ok fits live qubits results

  abbrev at : Config → ℕ
  at = number r ok fits live qubits results

  abbrev pub rest : Config → List Item
  rest = remaining r ok fits live qubits results

  -- ---- one configuration and the next

  -- x, with number i, leads to y alone, and leaves an item that is still to come
  pub record Leads (i : ℕ) (x y : Node) : Type 0 where
    pub left : Option Item
    pub links : x.links ≡ (record { to = suc i; label = [] }) ∷ []
    pub item : x.item ≡ outcome.Goes (option_map (settle r ok fits live qubits results) left) One
    pub comes : rest x.node ≡ option_to_list left ++ rest y.node

  -- x returns the value of the tail, and nothing is still to come
  pub record IsEnding (x : Node) : Type 0 where
    pub returned : IntValue
    pub links : x.links ≡ []
    pub ends : (part r ok).tail ≡ tail.Return (Known (value.Int returned))
    pub item : x.item ≡ outcome.Exits (code.Known (signed returned))
    pub comes : rest x.node ≡ []

  abbrev pub FollowOn : ℕ → List Node → Type 0
  FollowOn i [] = ⊥
  FollowOn i (x ∷ []) = IsEnding x
  FollowOn i (x ∷ y ∷ xs) = Leads i x y × FollowOn (suc i) (y ∷ xs)

  module _ (nodes : List Node) (explored : Explored s (Carries (program r ok fits live qubits results)) nodes) where
    abbrev node_of : Node → Config
    node_of x = x.node

    abbrev names : List Config
    names = map node_of nodes

    -- ---- what is listed is reached

    named : (i : ℕ) (x : Node) → slice_get nodes i ≡ Some x → slice_get names i ≡ Some x.node
    named i x e = map-get node_of nodes i x e

    reached : (i : ℕ) (g : Config) → slice_get names i ≡ Some g → (p : List ℕ) × IsEnd s p g
    reached i g e =
        let a = get_within names i g e in
        let n = explored.lists.number in
        let p = get_some explored.lists.paths i (omega (arith, a, n)) in
        (p.0, explored.lists.ends i p.0 g p.1 e)

    fits-at : (i : ℕ) (g : Config) → slice_get names i ≡ Some g → fits-in g
    fits-at i g e = let p = reached i g e in reached-fits s fits-in at (straight r ok fits live qubits results budget) p.0 g p.1

    same-at : (i j : ℕ) (g h : Config) → slice_get names i ≡ Some g → slice_get names j ≡ Some h → at g ≡ at h → i ≡ j
    same-at i j g h e f z =
        let p = reached i g e in
        let q = reached j h f in
        listed-once s names explored.lists i j g e (f ∙ ap Some (sym (reached-one s fits-in at (straight r ok fits live qubits results budget) p.0 q.0 g h p.1 q.1 z)))

    -- ---- the start is listed first

    first : (x : Node) × (slice_get nodes 0 ≡ Some x) × (x.node ≡ s.start)
    first = first-visited s (Carries (program r ok fits live qubits results)) nodes explored

    start-first : (g : Config) → slice_get names 0 ≡ Some g → g ≡ start_of (record { 0 = 0 })
    start-first g e = same_Some g first.0.node (sym e ∙ named 0 first.0 first.1) ∙ first.2

    -- ---- the configuration with number i stands at place i

    follows : (g h : Config) (j : ℕ) → fits-in g → slice_get (successors s g) j ≡ Some h → at h ≡ suc (at g)
    follows g h j f e = ((straight r ok fits live qubits results budget).leads g h j f e).2

    placed-to : (k i : ℕ) (g : Config) → i < k → slice_get names i ≡ Some g → at g ≡ i
    placed-to zero i g lt e = absurd (omega (arith, lt))
    placed-to (suc k) zero g lt e = ap at (start-first g e) ∙ (straight r ok fits live qubits results budget).first
    placed-to (suc k) (suc i) g lt e =
        let h = parent-of s names explored.lists i g e in
        let earlier = h.before in
        let p : at h.parent ≡ h.at = placed-to k h.at h.parent (omega (arith, lt, earlier)) h.is in
        let n = follows h.parent g h.choice (fits-at h.at h.parent h.is) h.leads in
        by h.at earlier (omega (arith, p, n)) (numbers h.at i) (λ j x lower f. placed-to k j x (omega (arith, lt, lower)) f)
      where
        by : (j : ℕ) → j ≤ i → at g ≡ suc j → Numbers j i → ((m : ℕ) (x : Config) → m ≤ i → slice_get names m ≡ Some x → at x ≡ m) → at g ≡ suc i
        by j le n (less lt) ih =
            let a = get_within names (suc i) g e in
            let x = get_some names (suc j) (omega (arith, a, lt)) in
            let z = ih (suc j) x.0 (omega (arith, lt)) x.1 in
            let same = same-at (suc j) (suc i) x.0 g x.1 e (omega (arith, z, n)) in
            absurd (omega (arith, same, lt))
        by j le n (equal c) ih = omega (arith, n, c)
        by j le n (more gt) ih = absurd (omega (arith, gt, le))

    placed : (i : ℕ) (g : Config) → slice_get names i ≡ Some g → at g ≡ i
    placed i g e = placed-to (suc i) i g (omega arith) e

    -- ---- what each configuration carries

    abbrev turn : Node → Turn
    turn x = static_step (printed r Base) Base live x.node

    no-links : (links : Links) (hs : List Config) → hs ≡ [] → LeadsTo nodes links hs → links ≡ []
    no-links [] hs e l = refl
    no-links (k ∷ links) hs e l = let n = l.number in let z = ap length e in absurd (omega (arith, n, z))

    one-link : (links : Links) (h : Config) (i : ℕ) → at h ≡ i → LeadsTo nodes links (h ∷ []) → labels links ≡ [] ∷ [] → links ≡ (record { to = i; label = [] }) ∷ []
    one-link [] h i z l e = cc
    one-link (k ∷ []) h i z l e =
        let t = l.to 0 k refl in
        let same : h ≡ t.0.node = same_Some h t.0.node t.2 in
        let place : k.to ≡ i = sym (placed k.to t.0.node (named k.to t.0 t.1)) ∙ ap at (sym same) ∙ z in
        let none : k.label ≡ [] = cc in
        ap (λ n. (record { to = n; label = k.label }) ∷ []) place ∙ ap (λ ls. (record { to = i; label = ls }) ∷ []) none
    one-link (k ∷ m ∷ links) h i z l e = let n = l.number in absurd (omega (arith, n))

    to-one : (links : Links) (h : Config) → LeadsTo nodes links (h ∷ []) → (y : Node) × (w : ℕ) × (slice_get nodes w ≡ Some y) × (h ≡ y.node)
    to-one [] h l = let n = l.number in absurd (omega (arith, n))
    to-one (k ∷ links) h l = let t = l.to 0 k refl in (t.0, k.to, t.1, same_Some h t.0.node t.2)

    data Linked (i : ℕ) (x : Node) : Type 0 where
      leads_to : (y : Node) → slice_get nodes (suc i) ≡ Some y → Leads i x y → Linked i x
      ends_here : IsEnding x → Linked i x

    goes-outcome : (mv : _) (o : Option Item) (x : Node) → turn x ≡ Goes (mv ∷ []) o One → IsOutcome (turn x) x.item (labels x.links) → (x.item ≡ outcome.Goes o One) × (labels x.links ≡ mv.args ∷ [])
    goes-outcome mv o x e c = subst (λ t. IsOutcome t x.item (labels x.links)) e c

    exits-outcome : (v : IntValue) (x : Node) → turn x ≡ Exits (code.Known (signed v)) → IsOutcome (turn x) x.item (labels x.links) → x.item ≡ outcome.Exits (code.Known (signed v))
    exits-outcome v x e c = (subst (λ t. IsOutcome t x.item (labels x.links)) e c).0

    linked : (i : ℕ) (x : Node) → slice_get nodes i ≡ Some x → Linked i x
    linked i x e = by (goes-on r ok fits live qubits results x.node (fits-at i x.node (named i x e)))
      where
        successors-are : (t : Turn) → turn x ≡ t → successors s x.node ≡ path.onward (turn_of t)
        successors-are t z = ap (λ t. path.onward (turn_of t)) z

        by : Goes-on r ok fits live qubits results x.node (turn x) → Linked i x
        by (onward mv o z f n a c) =
            let l : LeadsTo nodes x.links (mv.to ∷ []) = subst (LeadsTo nodes x.links) (successors-are (Goes (mv ∷ []) (option_map (settle r ok fits live qubits results) o) One) z) (explored.links i x e) in
            let out = goes-outcome mv (option_map (settle r ok fits live qubits results) o) x z (explored.carries i x e).outcome in
            let here = placed i x.node (named i x e) in
            let next : at mv.to ≡ suc i = n ∙ ap suc here in
            let y = to-one x.links mv.to l in
            let there = placed y.1 y.0.node (named y.1 y.0 y.2) in
            let same : y.1 ≡ suc i = sym there ∙ ap at (sym y.3) ∙ next in
            leads_to y.0 (subst (λ w. slice_get nodes w ≡ Some y.0) same y.2) (record {
              left = o;
              links = one-link x.links mv.to (suc i) next l (out.1 ∙ ap (λ ds. ds ∷ []) a);
              item = out.0;
              comes = c ∙ ap (λ g. option_to_list o ++ rest g) y.3;
            })
        by (returns v t z c) =
            let l : LeadsTo nodes x.links [] = subst (LeadsTo nodes x.links) (successors-are (Exits (code.Known (signed v))) z) (explored.links i x e) in
            ends_here (record {
              returned = v;
              links = no-links x.links [] refl l;
              ends = t;
              item = exits-outcome v x z (explored.carries i x e).outcome;
              comes = c;
            })

    -- nothing follows one that returns
    nothing-follows : (i : ℕ) (x y : Node) → slice_get nodes i ≡ Some x → IsEnding x → slice_get nodes (suc i) ≡ Some y → ⊥
    nothing-follows i x y e d f =
        let h = parent-of s names explored.lists i y.node (named (suc i) y f) in
        let n = follows h.parent y.node h.choice (fits-at h.at h.parent h.is) h.leads in
        let p = placed h.at h.parent h.is in
        let q = placed (suc i) y.node (named (suc i) y f) in
        let same : h.at ≡ i = omega (arith, n, p, q) in
        let is-x : h.parent ≡ x.node = same_Some h.parent x.node (sym h.is ∙ ap (slice_get names) same ∙ named i x e) in
        let l = explored.links i x e in
        let long = l.number in
        let none = ap length d.links in
        let c : slice_get (successors s x.node) h.choice ≡ Some y.node = ap (λ g. slice_get (successors s g) h.choice) (sym is-x) ∙ h.leads in
        let lt = get_within (successors s x.node) h.choice y.node c in
        omega (arith, lt, long, none)

    -- the configurations from number i on are a row
    row-from : (i : ℕ) (x : Node) (xs : List Node) → ((j : ℕ) → slice_get (x ∷ xs) j ≡ slice_get nodes (i + j)) → FollowOn i (x ∷ xs)
    row-from i x [] h = by (linked i x (sym (h 0 ∙ ap (slice_get nodes) (let z : i + 0 ≡ i = omega arith in z))))
      where
        by : Linked i x → FollowOn i (x ∷ [])
        by (leads_to y e l) = absurd (clash (h 1 ∙ ap (slice_get nodes) (let z : i + 1 ≡ suc i = omega arith in z) ∙ e))
          where
            clash : None ≡ Some y → ⊥
            clash e = cc
        by (ends_here d) = d
    row-from i x (y ∷ xs) h =
        let here : slice_get nodes i ≡ Some x = sym (h 0 ∙ ap (slice_get nodes) (let z : i + 0 ≡ i = omega arith in z)) in
        let next : slice_get nodes (suc i) ≡ Some y = sym (h 1 ∙ ap (slice_get nodes) (let z : i + 1 ≡ suc i = omega arith in z)) in
        (by here next (linked i x here), row-from (suc i) y xs (λ j. h (suc j) ∙ ap (slice_get nodes) (let z : i + suc j ≡ suc i + j = omega arith in z)))
      where
        by : slice_get nodes i ≡ Some x → slice_get nodes (suc i) ≡ Some y → Linked i x → Leads i x y
        by here next (leads_to z e l) = subst (Leads i x) (same_Some z y (sym e ∙ next)) l
        by here next (ends_here d) = absurd (nothing-follows i x y here d next)

    -- all are
    pub row : FollowOn 0 nodes
    row = by nodes refl
      where
        by : (xs : List Node) → xs ≡ nodes → FollowOn 0 xs
        by [] e = absurd (nothing (ap (λ l. slice_get l 0) e ∙ first.1))
          where
            nothing : None ≡ Some first.0 → ⊥
            nothing e = cc
        by (x ∷ xs) e = row-from 0 x xs (λ j. ap (λ l. slice_get l j) e ∙ ap (slice_get nodes) (let z : j ≡ 0 + j = omega arith in z))

    -- the first is the start, where all items are still to come
    pub first-is : (x : Node) → slice_get nodes 0 ≡ Some x → x.node ≡ start_of (record { 0 = 0 })
    first-is x e = start-first x.node (named 0 x e)

    -- nothing is allocated, and no result is returned
    pub allocates-none : (i : ℕ) (x : Node) → slice_get nodes i ≡ Some x → x.node.allocated ≡ 0
    allocates-none i x e = (fits-at i x.node (named i x e)).bare.allocated

    pub returns-none : (i : ℕ) (x : Node) → slice_get nodes i ≡ Some x → x.node.returned ≡ 0
    returns-none i x e = (fits-at i x.node (named i x e)).bare.returned

  pub starting-rest : rest (start_of (record { 0 = 0 })) ≡ items_in r ok 1 ++ (items_in r ok 2 ++ items_in r ok 3)
  starting-rest = ap (λ xs. drop 0 xs ++ (items_in r ok 1 ++ (items_in r ok 2 ++ items_in r ok 3))) (none-first r ok (items_of (part r ok).lines))
