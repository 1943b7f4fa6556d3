-- What the static step of a node says of its item, of its edges, and of how it ends.
use Rattle.std.proofs.Common.{◌≡◌, ℕ, Option, None, Some, List, [], ◌∷◌, ◌++◌, length, map, refl, sym, ap, ◌∙◌, subst, arith}
use Rattle.std.specs.Prelude.{slice_get}
use Rattle.ir_values.specs.declared.ty.Ty.{Ty}
use Rattle.kept_items.specs.declared.item.Choice.{Choice}
use Rattle.kept_items.specs.declared.item.Choice.TheVariants.{One, Branch, Switch}
use Rattle.kept_items.specs.declared.item.Code.{Code}
use Rattle.kept_items.specs.declared.item.Item.{Item}
use Rattle.kept_items.specs.declared.target.Target.{Target}
use Rattle.kept_items.specs.declared.val.Dyn.{Dyn}
use Rattle.path_search.specs.declared.visit.Link.{Link}
use Rattle.path_search.specs.Explored.{LeadsTo, labels}
use Rattle.path_search.specs.Paths.{onward}
use Rattle.static_steps.specs.declared.turn.Move.{Move}
use Rattle.static_steps.specs.declared.turn.Turn.{Turn}
use Rattle.static_steps.specs.declared.turn.Turn.TheVariants.{Goes, Exits, Bad, Lost}
use Rattle.static_steps.specs.Configurations.{Bounds, bounds}
use Rattle.static_steps.specs.Steps.{start_of}
use Rattle.fused_parts.specs.Nodes.{Links, Node, item_of}
use Rattle.lowered_runs.proofs.Joined.{all-at}
use Rattle.lowered_runs.proofs.Lookups.{is-there, length-map, map-get, same-some, within}
use Rattle.unroller.specs.declared.node.Outcome.TheVariants as outcome
use Rattle.unroller.specs.Programs.{IsOutcome, Program, step_of, turn_of}
use Rattle.valid_lines.specs.Laws.{IsStepOf}
use Rattle.valid_steps.specs.Items.{IsChoice, IsCode, IsItem, IsSomeItem, gives_some}
use Rattle.valid_steps.specs.Turns.{GoesOn, IsMove, IsTurn}
use Rattle.valid_steps.specs.Types.{Fill, dynamic_types}

no-choice : (t : Target) (ts : List (Option Ty)) (c : Choice) → IsChoice t ts 0 c → ⊥
no-choice t ts One h = omega (arith, h)
no-choice t ts (Branch d) h = let e = h.0 in omega (arith, e)
no-choice t ts (Switch d w cases) h = let e = h.0 in omega (arith, e)

no-labels : (links : Links) → labels links ≡ [] → links ≡ []
no-labels [] e = refl
no-labels (l ∷ links) e = cc

module _ (p : Program) (nodes : List Node) (x : Node) where
  abbrev pub types : List (Option Ty)
  types = dynamic_types p.m x.node

  abbrev pub Moves : Option Item → Move → Type 0
  Moves i mv = IsMove p.m p.target p.live p.entry p.qubits p.results types x.node.allocated x.node.returned i mv

  -- it goes on by moves, to each of which an edge leads, or exits
  pub data Stepped : Type 0 where
    goes : (moves : List Move) (i : Option Item) (c : Choice) → x.item ≡ outcome.Goes i c → labels x.links ≡ map (λ (mv : Move). mv.args) moves
        → LeadsTo nodes x.links (map (λ (mv : Move). mv.to) moves)
        → GoesOn p.m p.target p.live p.entry p.qubits p.results types x.node.allocated x.node.returned moves i c → Stepped
    exits : (c : Code) → x.item ≡ outcome.Exits c → x.links ≡ [] → IsCode p.target types c → Stepped

  pub stepped : IsStepOf p x → LeadsTo nodes x.links (onward (turn_of (step_of p x.node))) → Stepped
  stepped h leads = by-turn (step_of p x.node) h.turn h.outcome leads
    where
      by-turn : (turn : Turn) → IsTurn p.m p.target p.live p.entry p.qubits p.results types x.node.allocated x.node.returned turn → IsOutcome turn x.item (labels x.links)
          → LeadsTo nodes x.links (onward (turn_of turn)) → Stepped
      by-turn (Goes moves i c) fits o leads = goes moves i c o.0 o.1 leads fits
      by-turn (Exits c) fits o leads = exits c o.0 (no-labels x.links o.1) fits
      by-turn (Bad why) fits o leads = absurd o
      by-turn Lost fits o leads = absurd o

  -- ---- the item

  pub record ItemSays (i : Item) : Type 0 where
    pub below : Bounds
    pub held : List ℕ
    pub fits : IsItem p.m p.target below types held i

  of-moves : (moves : List Move) (o : Option Item) (c : Choice) (i : Item) → GoesOn p.m p.target p.live p.entry p.qubits p.results types x.node.allocated x.node.returned moves o c → o ≡ Some i → ItemSays i
  of-moves [] o c i h e = absurd (no-choice p.target types c h.choice_fits)
  of-moves (mv ∷ moves) o c i h e = record {
    below = bounds p.qubits p.results mv.to;
    held = mv.to.held;
    fits = subst (IsSomeItem p.m p.target (bounds p.qubits p.results mv.to) types mv.to.held) e (all-at (Moves o) (mv ∷ moves) 0 mv h.moves_fit refl).item_fits;
  }

  pub item-says : Stepped → (i : Item) → item_of x.item ≡ Some i → ItemSays i
  item-says (goes moves o c is args leads fits) i e = of-moves moves o c i fits (sym (ap item_of is) ∙ e)
  item-says (exits c is none fits) i e = absurd (clash (sym (ap item_of is) ∙ e))
    where
      clash : ◌≡◌ {A = Option Item} None (Some i) → ⊥
      clash e = cc

  -- ---- an edge

  pub record LinkSays (q : ℕ) (l : Link (List Dyn)) : Type 0 where
    pub node : Node
    pub is : slice_get nodes l.to ≡ Some node
    pub no_start : ¬ (node.node ≡ start_of p.entry)
    -- it brings a value of its type for each Dynamic name
    pub fills : Fill (types ++ gives_some (item_of x.item)) l.label (dynamic_types p.m node.node)

  module _ (moves : List Move) (i : Option Item) (c : Choice) (is : x.item ≡ outcome.Goes i c) (args : labels x.links ≡ map (λ (mv : Move). mv.args) moves)
      (leads : LeadsTo nodes x.links (map (λ (mv : Move). mv.to) moves))
      (fits : GoesOn p.m p.target p.live p.entry p.qubits p.results types x.node.allocated x.node.returned moves i c) where
    many : length x.links ≡ length moves
    many = leads.number ∙ length-map (λ (mv : Move). mv.to) moves

    move-of : (q : ℕ) (l : Link (List Dyn)) → slice_get x.links q ≡ Some l → (mv : Move) × (slice_get moves q ≡ Some mv)
    move-of q l at = is-there moves q (let a = within x.links q l at in let b = many in omega (arith, a, b))

    label-of : (q : ℕ) (l : Link (List Dyn)) (mv : Move) → slice_get x.links q ≡ Some l → slice_get moves q ≡ Some mv → mv.args ≡ l.label
    label-of q l mv at move =
        same-some mv.args l.label
        (sym (map-get (λ (z : Move). z.args) moves q mv move) ∙ ap (λ ls. slice_get ls q) (sym args) ∙ map-get (λ (z : Link (List Dyn)). z.label) x.links q l at)

    target-of : (q : ℕ) (l : Link (List Dyn)) (mv : Move) → slice_get x.links q ≡ Some l → slice_get moves q ≡ Some mv → (w : Node) × (slice_get nodes l.to ≡ Some w) × (mv.to ≡ w.node)
    target-of q l mv at move =
        let t = leads.to q l at in
        (t.0, t.1, same-some mv.to t.0.node (sym (map-get (λ (z : Move). z.to) moves q mv move) ∙ t.2))

    of-goes : (q : ℕ) (l : Link (List Dyn)) → slice_get x.links q ≡ Some l → LinkSays q l
    of-goes q l at =
        let mv = move-of q l at in
        let w = target-of q l mv.0 at mv.1 in
        let move : Moves i mv.0 = all-at (Moves i) moves q mv.0 fits.moves_fit mv.1 in
        record {
          node = w.0;
          is = w.1;
          no_start = λ e. move.no_start (w.2 ∙ e);
          fills =
              subst (λ g. Fill (types ++ gives_some (item_of x.item)) l.label (dynamic_types p.m g)) w.2
              (subst (λ ds. Fill (types ++ gives_some (item_of x.item)) ds (dynamic_types p.m mv.0.to)) (label-of q l mv.0 at mv.1)
              (subst (λ o. Fill (types ++ gives_some (item_of o)) mv.0.args (dynamic_types p.m mv.0.to)) (sym is) move.arguments));
        }

    goes-agree : (q r : ℕ) (l k : Link (List Dyn)) → slice_get x.links q ≡ Some l → slice_get x.links r ≡ Some k → l.to ≡ k.to → l.label ≡ k.label
    goes-agree q r l k at at' e =
        let a = move-of q l at in
        let b = move-of r k at' in
        let u = target-of q l a.0 at a.1 in
        let v = target-of r k b.0 at' b.1 in
        let same-node : u.0 ≡ v.0 = same-some u.0 v.0 (sym u.1 ∙ ap (slice_get nodes) e ∙ v.1) in
        sym (label-of q l a.0 at a.1) ∙ fits.agree q r a.0 b.0 a.1 b.1 (u.2 ∙ ap (λ (n : Node). n.node) same-node ∙ sym v.2) ∙ label-of r k b.0 at' b.1

  no-links : (q : ℕ) (l : Link (List Dyn)) → x.links ≡ [] → slice_get x.links q ≡ Some l → ⊥
  no-links q l none at = clash (ap (λ ls. slice_get ls q) (sym none) ∙ at)
    where
      clash : slice_get [] q ≡ Some l → ⊥
      clash e = cc

  pub link-says : Stepped → (q : ℕ) (l : Link (List Dyn)) → slice_get x.links q ≡ Some l → LinkSays q l
  link-says (goes moves i c is args leads fits) q l at = of-goes moves i c is args leads fits q l at
  link-says (exits c is none fits) q l at = absurd (no-links q l none at)

  -- two edges to one node bring the same values
  pub links-agree : Stepped → (q r : ℕ) (l k : Link (List Dyn)) → slice_get x.links q ≡ Some l → slice_get x.links r ≡ Some k → l.to ≡ k.to → l.label ≡ k.label
  links-agree (goes moves i c is args leads fits) q r l k at at' e = goes-agree moves i c is args leads fits q r l k at at' e
  links-agree (exits c is none fits) q r l k at at' e = absurd (no-links q l none at)
