-- Without loops, jumps lead from no part back to it: from part to part a walk leads along the configurations that end them.
use Rattle.std.proofs.Common.{◌≡◌, ⊎_elim, ℕ, zero, suc, ◌+◌, ◌-◌, ◌<◌, ◌≤◌, Bool, true, false, Option, Some, List, [], ◌∷◌, length, map, refl, sym, ap, ◌∙◌, subst, arith, option_map, Contains}
use Rattle.std.proofs.lemmas.Option.{slice_get-map, slice_get_within}
use Rattle.std.specs.Prelude.{slice_get}
use Rattle.graph_cycles.specs.Cycles.{IsOnCycle, IsWalk, LeadsTo, Reaches, successors}
use Rattle.graph_cycles.proofs.Lists.{below-or, get-contains, none}
use Rattle.graph_cycles.proofs.Walks.{leads-on, reaches-of, stays}
use Rattle.ir_values.specs.declared.ty.Ty.{Ty}
use Rattle.kept_items.specs.declared.item.Choice.{Choice}
use Rattle.kept_items.specs.declared.item.Choice.TheVariants as choice
use Rattle.kept_items.specs.declared.target.Target.{Target}
use Rattle.kept_items.specs.declared.val.Dyn.{Dyn}
use Rattle.path_search.specs.declared.visit.Link.{Link}
use Rattle.path_search.specs.Explored.{Explored, labels}
use Rattle.path_search.specs.Paths.{onward}
use Rattle.residue.specs.declared.parts.Part.{Part}
use Rattle.residue.specs.declared.parts.Residue.{Residue}
use Rattle.residue.specs.Scopes.{jumps}
use Rattle.static_steps.specs.declared.config.Config.{Config}
use Rattle.static_steps.specs.declared.turn.Turn.{Turn}
use Rattle.static_steps.specs.declared.turn.Turn.TheVariants.{Goes, Exits, Bad, Lost}
use Rattle.static_steps.specs.Steps.{start_of}
use Rattle.search_verdicts.specs.Laws.{graph_of}
use Rattle.unroller.specs.Programs.{Carries, IsOutcome, Program, search_of, step_of, turn_of}
use Rattle.valid_steps.specs.Items.{IsChoice}
use Rattle.valid_steps.specs.Turns.{IsMove, IsTurn}
use Rattle.valid_steps.specs.Types.{dynamic_types}
use Rattle.valid_lines.specs.Laws.{IsStepOf}
use Rattle.fused_parts.specs.Nodes.{Node, joins, joins_from}
use Rattle.fused_parts.specs.Ranks.{Fuses, goes_on, part_number}
use Rattle.fused_parts.proofs.Fusing.{NoneToFirst, flags-fuse}
use Rattle.lowered_runs.specs.Made.{IsMade}
use Rattle.lowered_runs.proofs.First.{first-visited}
use Rattle.lowered_runs.proofs.Lookups.{get-map, length-map, look-at, same-some, within}
use Rattle.profiled_residue.specs.Premises.{jump_graph}
use Rattle.acyclic_parts.proofs.Edges.{edge-of, successors-of}
use Rattle.acyclic_parts.proofs.Jumps.{Follows, GoesByLink, HasLink, numbers_to, tail-follows}
use Rattle.acyclic_parts.proofs.Lasts.{IsOwn, number-next, number-rises, number-stays, own-part}

-- a choice among some successors has a link
has-link : (t : Target) (ts : List (Option Ty)) (n : ℕ) (c : Choice) → IsChoice t ts n c → HasLink c n
has-link t ts n choice.One h = tt
has-link t ts n (choice.Branch d) h = tt
has-link t ts n (choice.Switch d w is) h = let e = h.0 in omega (arith, e)

length-joins : (all : List Node) (n : ℕ) (xs : List Node) → length (joins_from all n xs) ≡ length xs
length-joins all n [] = refl
length-joins all n (x ∷ xs) = ap suc (length-joins all (suc n) xs)

stands-within : {A : Type 0} (xs : List A) (i : ℕ) → i < length xs → (x : A) × (slice_get xs i ≡ Some x)
stands-within [] i lt = absurd (omega (arith, lt))
stands-within (x ∷ xs) zero lt = (x, refl)
stands-within (x ∷ xs) (suc i) lt = stands-within xs i (omega (arith, lt))

-- where the links of a node lead
abbrev link_numbers : List (Link (List Dyn)) → List ℕ
link_numbers links = map (λ (l : Link (List Dyn)). l.to) links

module _ (p : Program) (budget : ℕ) (nodes : List Node) (shared : Option ℕ) (r : Residue)
    (explored : Explored (search_of p budget) (Carries p) nodes) (steps : (i : ℕ) (x : Node) → slice_get nodes i ≡ Some x → IsStepOf p x)
    (made : IsMade p nodes shared r) (none-returns : (n : ℕ) → IsOnCycle (graph_of nodes) n → ⊥) where
  abbrev flags : List Bool
  flags = joins nodes

  abbrev part_of : ℕ → ℕ
  part_of = part_number (joins nodes)

  -- ---- configurations

  -- no link leads to the start
  none-first : NoneToFirst nodes
  none-first i x q l is link zero-to =
      let first = first-visited (search_of p budget) (Carries p) nodes explored in
      let t = (explored.links i x is).to q l link in
      let same : t.0 ≡ first.0 = same-some t.0 first.0 (sym t.1 ∙ ap (slice_get nodes) zero-to ∙ first.1) in
      by (step_of p x.node) (steps i x is).turn t.0.node t.2 (ap (λ (z : Node). z.node) same ∙ first.2)
    where
      by : (turn : Turn) → IsTurn p.m p.target p.live p.entry p.qubits p.results (dynamic_types p.m x.node) x.node.allocated x.node.returned turn
          → (h : Config) → slice_get (onward (turn_of turn)) q ≡ Some h → h ≡ start_of p.entry → ⊥
      by (Goes moves item c) fit h at e =
          let mv = get-map (λ z. z.to) moves q h at in
          (subst (IsMove p.m p.target p.live p.entry p.qubits p.results (dynamic_types p.m x.node) x.node.allocated x.node.returned item) (look-at moves q mv.0 mv.0 mv.1) (fit.moves_fit q mv.0 (within moves q mv.0 mv.1))).no_start (mv.2 ∙ e)
      by (Exits code) fit h at e = cc
      by (Bad why) fit h at e = cc
      by Lost fit h at e = absurd fit

  fuses : Fuses nodes (joins nodes)
  fuses = flags-fuse nodes none-first

  enough : length nodes ≤ suc (length (joins nodes))
  enough = let e = length-joins nodes 0 nodes in omega (arith, e)

  linked : (i : ℕ) (x : Node) → slice_get nodes i ≡ Some x → GoesByLink x.item (length x.links)
  linked i x e = by (step_of p x.node) (steps i x e).turn (steps i x e).outcome
    where
      by : (turn : Turn) → IsTurn p.m p.target p.live p.entry p.qubits p.results (dynamic_types p.m x.node) x.node.allocated x.node.returned turn → IsOutcome turn x.item (labels x.links) → GoesByLink x.item (length x.links)
      by (Goes moves item c) t o =
          let many : length moves ≡ length x.links = sym (length-map (λ mv. mv.args) moves) ∙ sym (ap length o.1) ∙ length-map (λ l. l.label) x.links in
          subst (λ z. GoesByLink z (length x.links)) (sym o.0) (subst (HasLink c) many (has-link p.target (dynamic_types p.m x.node) (length moves) c t.choice_fits))
      by (Exits code) t o = subst (λ z. GoesByLink z (length x.links)) (sym o.0) tt
      by (Bad why) t o = absurd o
      by Lost t o = absurd o

  link-edge : (i : ℕ) (x : Node) (q : ℕ) (l : Link (List Dyn)) → slice_get nodes i ≡ Some x → slice_get x.links q ≡ Some l → Contains (successors (graph_of nodes) i) l.to
  link-edge i x q l e is =
      subst (λ ws. Contains ws l.to) (sym (successors-of (λ (x : Node). link_numbers x.links) nodes i x e))
      (get-contains (link_numbers x.links) q l.to (slice_get-map (λ (l : Link (List Dyn)). l.to) x.links q ∙ ap (option_map (λ (l : Link (List Dyn)). l.to)) is))

  -- from a configuration to a later one of the same part
  along : (gap a i : ℕ) (x y : Node) → slice_get nodes a ≡ Some x → slice_get nodes i ≡ Some y → i ≡ a + gap → part_of a ≡ part_of i → Reaches (graph_of nodes) a i
  along zero a i x y ex ey e same = stays (graph_of nodes) a i (omega (arith, e))
  along (suc k) a i x y ex ey e same =
      by (goes_on nodes (joins nodes) a) refl (λ z there alike. along k (suc a) i z y there ey (omega (arith, e)) alike)
    where
      by : (b : Bool) → goes_on nodes (joins nodes) a ≡ b → ((z : Node) → slice_get nodes (suc a) ≡ Some z → part_of (suc a) ≡ part_of i → Reaches (graph_of nodes) (suc a) i) → Reaches (graph_of nodes) a i
      by true on behind =
          let o = fuses.onward a x ex on in
          let only : slice_get x.links 0 ≡ Some (record { to = suc a; label = o.0 }) = ap (λ ls. slice_get ls 0) o.1 in
          let next = stands-within nodes (suc a) (let lt = slice_get_within nodes i y ey in omega (arith, lt, e)) in
          let rest = behind next.0 next.1 (number-stays nodes (joins nodes) a on ∙ same) in
          record { walk = suc a ∷ rest.walk; is = (link-edge a x 0 (record { to = suc a; label = o.0 }) ex only, rest.is) }
      by false off behind =
          let lt = slice_get_within nodes i y ey in
          let next = number-next nodes (joins nodes) a enough (omega (arith, lt, e)) off in
          let rises = number-rises (joins nodes) (suc a) i (omega (arith, e)) in
          absurd (omega (arith, next, rises, same))

  -- ---- parts

  record Own (n : ℕ) : Type 0 where
    part : Part
    is : slice_get r.parts n ≡ Some part
    own : IsOwn p.m nodes (part_number (joins nodes)) shared (joins nodes) n part

  -- the number of the configuration that ends the part
  abbrev last : (n : ℕ) → Own n → ℕ
  last n o = o.own.ends.number

  -- a part that jumps is one of its own
  jumping : (n w : ℕ) → Contains (successors (jump_graph r) n) w → Own n
  jumping n w h =
      let e = edge-of (λ (q : Part). numbers_to (jumps q.tail)) r.parts n w h in
      ⊎_elim (λ z. absurd (none w (subst (λ t. Contains (numbers_to (jumps t)) w) z e.among)))
      (λ o. record { part = e.from; is = e.is; own = o })
      (own-part p.m nodes (part_number (joins nodes)) shared (joins nodes) n e.from (subst (λ ps. slice_get ps n ≡ Some e.from) made.parts e.is))

  -- the configuration that ends part n leads to the one that ends part w
  jump-leads : (n w : ℕ) (o : Own n) (v : Own w) → Contains (successors (jump_graph r) n) w → LeadsTo (graph_of nodes) o.own.ends.number v.own.ends.number
  jump-leads n w o v h =
      ⊎_elim follow (λ e. absurd (let a = (made.shared_last w e).0 in let b = v.own.inside in omega (arith, a, b)))
      (tail-follows (part_number (joins nodes)) o.own.ends.mine shared o.own.ends.node.item o.own.ends.node.links w (linked o.own.ends.number o.own.ends.node o.own.ends.is)
      (subst (λ t. Contains (numbers_to (jumps t)) w) o.own.ends.tail (subst (λ ws. Contains ws w) (successors-of (λ (q : Part). numbers_to (jumps q.tail)) r.parts n o.part o.is) h)))
    where
      not-behind : (a : ℕ) (y : Node) → slice_get nodes a ≡ Some y → part_number (joins nodes) a ≡ w → v.own.ends.number < a → ⊥
      not-behind a y e there lt =
          let inside = slice_get_within nodes a y e in
          let next = number-next nodes (joins nodes) v.own.ends.number enough (omega (arith, inside, lt)) v.own.ends.off in
          let rises = number-rises (joins nodes) (suc v.own.ends.number) a (omega (arith, lt)) in
          let ends = v.own.ends.part in
          absurd (omega (arith, next, rises, there, ends))

      follow : Follows (part_number (joins nodes)) o.own.ends.node.links w → LeadsTo (graph_of nodes) o.own.ends.number v.own.ends.number
      follow f =
          let t = (explored.links o.own.ends.number o.own.ends.node o.own.ends.is).to f.place f.link f.is in
          let le : f.link.to ≤ v.own.ends.number = ⊎_elim (λ lt. absurd (not-behind f.link.to t.0 t.1 f.there lt)) (λ le. le) (below-or v.own.ends.number f.link.to) in
          record {
            first = f.link.to;
            edge = link-edge o.own.ends.number o.own.ends.node f.place f.link o.own.ends.is f.is;
            rest = along (v.own.ends.number - f.link.to) f.link.to v.own.ends.number t.0 v.own.ends.node t.1 v.own.ends.is (omega (arith, le)) (f.there ∙ sym v.own.ends.part);
          }

  -- so a walk along jumps leads along configurations
  walk-leads : (u : ℕ) (o : Own u) (w : ℕ) (ws : List ℕ) (v : ℕ) (z : Own v) → Contains (successors (jump_graph r) u) w → IsWalk (jump_graph r) w ws v → LeadsTo (graph_of nodes) o.own.ends.number z.own.ends.number
  walk-leads u o w [] v z c walk = jump-leads u v o z (subst (Contains (successors (jump_graph r) u)) walk c)
  walk-leads u o w (x ∷ ws) v z c walk =
      let q = jumping w x walk.0 in
      leads-on (graph_of nodes) o.own.ends.number q.own.ends.number z.own.ends.number (jump-leads u w o q c)
      (reaches-of (graph_of nodes) q.own.ends.number z.own.ends.number (walk-leads w q x ws v z walk.0 walk.1))

  pub jumps-onward : (n : ℕ) → IsOnCycle (jump_graph r) n → ⊥
  jumps-onward n c =
      let o = jumping n c.first c.edge in
      none-returns o.own.ends.number (walk-leads n o c.first c.rest.walk n o c.edge c.rest.is)
