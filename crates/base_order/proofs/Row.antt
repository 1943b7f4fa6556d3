-- The configurations of a program for the Base Profile stand in a row: nothing in them is Dynamic, and each leads to the next alone.
use Rattle.std.proofs.Common.{◌≡◌, ℕ, zero, suc, ◌<◌, Option, None, Some, List, [], ◌∷◌, ◌++◌, length, map, slice_get, refl, ap, ◌∙◌, subst, arith}
use Rattle.std.proofs.lemmas.Option.{slice_get_within}
use Rattle.kept_items.specs.declared.item.Choice.{Choice}
use Rattle.kept_items.specs.declared.item.Choice.TheVariants.{One, Branch, Switch}
use Rattle.kept_items.specs.declared.item.Item.{Item}
use Rattle.kept_items.specs.declared.item.Item.TheVariants as item
use Rattle.kept_items.specs.declared.target.Target.TheVariants.{Base}
use Rattle.kept_items.specs.declared.val.Dyn.{Dyn}
use Rattle.kept_items.specs.Targets.{has_loops}
use Rattle.ir_module.specs.declared.tree.Module.{Module}
use Rattle.ir_values.specs.declared.ty.Ty.{Ty}
use Rattle.path_search.specs.declared.visit.Link.{Link}
use Rattle.path_search.specs.Explored.{node}
use Rattle.path_search.specs.Paths.{onward, successors}
use Rattle.path_search.proofs.Frontier.{get_some}
use Rattle.path_search.proofs.Made.{get_map}
use Rattle.residue.specs.declared.parts.Residue.{Residue}
use Rattle.static_steps.specs.declared.config.Config.{Config}
use Rattle.static_steps.specs.declared.turn.Move.{Move}
use Rattle.static_steps.specs.declared.turn.Turn.{Turn}
use Rattle.static_steps.specs.declared.turn.Turn.TheVariants.{Goes, Exits, Bad, Lost}
use Rattle.static_steps.specs.Configurations.{Bounds, bounds}
use Rattle.static_steps.specs.Steps.{start_of}
use Rattle.fused_parts.specs.Nodes.{Node}
use Rattle.unroller.specs.Programs.{IsReached, Program, search_of, step_of, turn_of}
use Rattle.valid_steps.specs.Items.{IsChoice, IsSomeItem, gives_some}
use Rattle.valid_steps.specs.Laws.{AdmittedModulesStart, StepsKeepConfigurations}
use Rattle.valid_steps.specs.Types.{Fill, dynamic_types}
use Rattle.valid_residue.specs.Programs.{IsLowered}
use Rattle.valid_residue.proofs.Lists.{get-map}
use Rattle.valid_residue.proofs.Permits.{starts}
use Rattle.valid_residue.proofs.Program.{turns}
use Rattle.valid_residue.proofs.Reached.{Fits, Moves, all-at}
use Rattle.base_order.proofs.Linear.{good-at, leads-next, next-is}

-- ---- nothing is Dynamic

base-gives : (m : Module) (b : Bounds) (ts : List (Option Ty)) (held : List ℕ) (o : Option Item) → IsSomeItem m Base b ts held o → gives_some o ≡ []
base-gives m b ts held None h = refl
base-gives m b ts held (Some (item.Binary r o flags w x y)) h = let e = h.1 in cc
base-gives m b ts held (Some (item.Icmp r o w x y)) h = let e = h.1 in cc
base-gives m b ts held (Some (item.Convert r o w x to)) h = let e = h.2 in cc
base-gives m b ts held (Some (item.Select r w c x y)) h = let e = h.1 in cc
base-gives m b ts held (Some (item.Read r v)) h = let e = h.1 in cc
base-gives m b ts held (Some (item.Equal r v u)) h = let e = h.1 in cc
base-gives m b ts held (Some (item.Operation name args)) h = refl
base-gives m b ts held (Some (item.Output c args)) h = refl

fill-none : (ds : List Dyn) (us : List (Option Ty)) → Fill [] ds us → us ≡ []
fill-none [] [] h = refl
fill-none [] (u ∷ us) h = absurd h
fill-none (d ∷ ds) [] h = absurd h
fill-none (d ∷ ds) (u ∷ us) h = let e = h.0 in cc

-- so there is no choice
pub base-choice : (n : ℕ) (c : Choice) → IsChoice Base [] n c → n ≡ 1
base-choice n One h = h
base-choice n (Branch d) h = let e = h.1 in cc
base-choice n (Switch d w is) h = let e = h.1 in cc

only-first : (i n : ℕ) → i < n → n ≡ 1 → i ≡ 0
only-first i n lt e = omega (arith, lt, e)

module _ (p : Program) (nodes : List Node) (r : Residue) (h : IsLowered p nodes r) (base : p.target ≡ Base) (start : AdmittedModulesStart) (steps : StepsKeepConfigurations) where
  -- a configuration without Dynamic names
  abbrev Good : Config → Type 0
  Good g = IsReached p g × (dynamic_types p.m g ≡ [])

  begins : Good (start_of p.entry)
  begins = (starts p h.limit h.found_entry h.faultless start, refl)

  move-good : (g : Config) (o : Option Item) (mv : Move) → Good g → Moves p g o mv → Good mv.to
  move-good g o mv good fits =
      let none = base-gives p.m (bounds p.qubits p.results mv.to) (dynamic_types p.m g) mv.to.held o (subst (λ t. IsSomeItem p.m t (bounds p.qubits p.results mv.to) (dynamic_types p.m g) mv.to.held o) base fits.item_fits) in
      (fits.configuration, fill-none mv.args (dynamic_types p.m mv.to) (subst (λ ts. Fill ts mv.args (dynamic_types p.m mv.to)) (ap (λ ts. ts ++ gives_some o) good.1 ∙ none) fits.arguments))

  pub no-choice : (g : Config) (n : ℕ) (c : Choice) → dynamic_types p.m g ≡ [] → IsChoice p.target (dynamic_types p.m g) n c → n ≡ 1
  no-choice g n c e k = base-choice n c (subst (λ ts. IsChoice Base ts n c) e (subst (λ t. IsChoice t (dynamic_types p.m g) n c) base k))

  by-turn : (g to : Config) (i : ℕ) (go : Turn) → Good g → Fits p g go → slice_get (onward (turn_of go)) i ≡ Some to → Good to × (i ≡ 0)
  by-turn g to i (Goes moves o c) good fits e =
      let q = get_map (λ (mv : Move). mv.to) moves i to e in
      let mv = all-at (Moves p g o) moves i q.0 fits.moves_fit q.1 in
      (subst Good q.2 (move-good g o q.0 good mv), only-first i (length moves) (slice_get_within moves i q.0 q.1) (no-choice g (length moves) c good.1 fits.choice_fits))
  by-turn g to i (Exits code) good fits e = cc
  by-turn g to i (Bad why) good fits e = cc
  by-turn g to i Lost good fits e = cc

  goes-on : (g to : Config) (i : ℕ) → Good g → slice_get (successors (search_of p h.budget) g) i ≡ Some to → Good to × (i ≡ 0)
  goes-on g to i good e = by-turn g to i (step_of p g) good (turns p h.limit h.found_entry h.faultless steps g good.0) e

  -- ---- in a row

  abbrev configs : List Config
  configs = map node nodes

  at : (i : ℕ) (x : Node) → slice_get nodes i ≡ Some x → slice_get configs i ≡ Some x.node
  at i x e = get-map node nodes i x e

  pub no-types : (i : ℕ) (x : Node) → slice_get nodes i ≡ Some x → dynamic_types p.m x.node ≡ []
  no-types i x e = (good-at (search_of p h.budget) Good begins goes-on configs h.explored.lists i x.node (at i x e)).1

  -- each leads to the next
  pub next-of : (i : ℕ) (x y : Node) → slice_get nodes i ≡ Some x → slice_get nodes (suc i) ≡ Some y → slice_get (onward (turn_of (step_of p x.node))) 0 ≡ Some y.node
  next-of i x y e f = next-is (search_of p h.budget) Good begins goes-on configs h.explored.lists i x.node y.node (at i x e) (at (suc i) y f)

  -- and nowhere else
  pub link-to : (i q : ℕ) (x : Node) (l : Link (List Dyn)) → slice_get nodes i ≡ Some x → slice_get x.links q ≡ Some l → l.to ≡ suc i
  link-to i q x l e f =
      let t = (h.explored.links i x e).to q l f in
      leads-next (search_of p h.budget) Good begins goes-on configs h.explored.lists (ap has_loops base) h.explored.accepts i l.to q x.node t.0.node (at i x e) t.2 (at l.to t.0 t.1)

  few-links : (i : ℕ) (x : Node) → slice_get nodes i ≡ Some x → length x.links < 2
  few-links i x e = by-many (length x.links) refl
    where
      second : 1 < length x.links → ⊥
      second lt =
          let l = get_some x.links 1 lt in
          let t = (h.explored.links i x e).to 1 l.0 l.1 in
          let good = good-at (search_of p h.budget) Good begins goes-on configs h.explored.lists i x.node (at i x e) in
          let z = (goes-on x.node t.0.node 1 good t.2).1 in
          omega (arith, z)

      by-many : (n : ℕ) → length x.links ≡ n → length x.links < 2
      by-many zero z = omega (arith, z)
      by-many (suc zero) z = omega (arith, z)
      by-many (suc (suc n)) z = absurd (second (omega (arith, z)))

  one-link : (ls : List (Link (List Dyn))) → 0 < length ls → length ls < 2 → (l : Link (List Dyn)) × (ls ≡ l ∷ [])
  one-link [] a b = absurd (omega (arith, a))
  one-link (l ∷ []) a b = (l, refl)
  one-link (l ∷ k ∷ ls) a b = absurd (omega (arith, b))

  pub single : (i : ℕ) (x : Node) → slice_get nodes i ≡ Some x → suc i < length nodes → (l : Link (List Dyn)) × (x.links ≡ l ∷ [])
  single i x e lt =
      let y = get_some nodes (suc i) lt in
      let f = next-of i x y.0 e y.1 in
      let some = slice_get_within (onward (turn_of (step_of p x.node))) 0 y.0.node f in
      let many = (h.explored.links i x e).number in
      one-link x.links (omega (arith, some, many)) (few-links i x e)
