-- What is known of a configuration that goes on, and of its item.
use Rattle.std.proofs.Common.{◌≡◌, ℕ, Option, Some, List, [], ◌∷◌, length, map, slice_get, refl, sym, ◌∙◌, subst, arith}
use Rattle.std.proofs.lemmas.List.Elements.{All-head}
use Rattle.kept_items.specs.declared.item.Choice.{Choice}
use Rattle.kept_items.specs.declared.item.Code.{Code}
use Rattle.kept_items.specs.declared.item.Item.{Item}
use Rattle.path_search.specs.Explored.{LeadsTo, labels}
use Rattle.path_search.specs.Paths.{onward}
use Rattle.path_search.proofs.Frontier.{get_some}
use Rattle.static_steps.specs.declared.turn.Move.{Move}
use Rattle.static_steps.specs.declared.turn.Turn.{Turn}
use Rattle.static_steps.specs.declared.turn.Turn.TheVariants.{Goes, Exits, Bad, Lost}
use Rattle.static_steps.specs.Configurations.{bounds}
use Rattle.fused_parts.specs.Nodes.{Node, item_of}
use Rattle.unroller.specs.declared.node.Outcome.{Outcome}
use Rattle.unroller.specs.declared.node.Outcome.TheVariants as outcome
use Rattle.unroller.specs.Programs.{IsOutcome, Program, step_of, turn_of}
use Rattle.valid_lines.specs.Laws.{IsStepOf}
use Rattle.valid_lines.proofs.Steps.{no-choice}
use Rattle.valid_steps.specs.Items.{IsCode, IsItem, IsSomeItem}
use Rattle.valid_steps.specs.Turns.{GoesOn, IsMove, IsTurn}
use Rattle.valid_steps.specs.Types.{dynamic_types}
use Rattle.valid_residue.proofs.Lists.{same-some}

no-links : {A : Type 0} (xs : List A) → length xs ≡ 0 → xs ≡ []
no-links [] e = refl
no-links (x ∷ xs) e = absurd (omega (arith, e))

module _ (p : Program) (nodes : List Node) where
  -- a configuration with the outcome of its step, and links to what it leads to
  pub record IsKnown (x : Node) : Type 0 where
    pub step : IsStepOf p x
    pub links : LeadsTo nodes x.links (onward (turn_of (step_of p x.node)))

  -- one that goes on
  pub record GoesFrom (x : Node) (i : Option Item) (c : Choice) : Type 0 where
    pub moves : List Move
    pub step : step_of p x.node ≡ Goes moves i c
    pub turn : GoesOn p.m p.target p.live p.entry p.qubits p.results (dynamic_types p.m x.node) x.node.allocated x.node.returned moves i c
    pub links : LeadsTo nodes x.links (map (λ mv. mv.to) moves)

  -- one that returns from the entry
  pub record ExitsFrom (x : Node) (c : Code) : Type 0 where
    pub code : IsCode p.target (dynamic_types p.m x.node) c
    pub links : x.links ≡ []

  abbrev Fits : Node → Turn → Type 0
  Fits x go = IsTurn p.m p.target p.live p.entry p.qubits p.results (dynamic_types p.m x.node) x.node.allocated x.node.returned go

  goes-by : (x : Node) (i : Option Item) (c : Choice) (go : Turn) → step_of p x.node ≡ go → Fits x go → IsOutcome go x.item (labels x.links) → LeadsTo nodes x.links (onward (turn_of go)) → x.item ≡ outcome.Goes i c → GoesFrom x i c
  goes-by x i c (Goes moves j d) s h k l e =
      let same : outcome.Goes j d ≡ outcome.Goes i c = sym k.0 ∙ e in
      let zi : j ≡ i = cc in
      let zc : d ≡ c = cc in
      subst (λ q. GoesFrom x q c) zi (subst (λ q. GoesFrom x j q) zc (record { moves = moves; step = s; turn = h; links = l }))
  goes-by x i c (Exits d) s h k l e = let same : outcome.Exits d ≡ outcome.Goes i c = sym k.0 ∙ e in cc
  goes-by x i c (Bad why) s h k l e = absurd k
  goes-by x i c Lost s h k l e = absurd k

  pub goes-from : (x : Node) (i : Option Item) (c : Choice) → IsKnown x → x.item ≡ outcome.Goes i c → GoesFrom x i c
  goes-from x i c h e = goes-by x i c (step_of p x.node) refl h.step.turn h.step.outcome h.links e

  exits-by : (x : Node) (c : Code) (go : Turn) → Fits x go → IsOutcome go x.item (labels x.links) → LeadsTo nodes x.links (onward (turn_of go)) → x.item ≡ outcome.Exits c → ExitsFrom x c
  exits-by x c (Goes moves j d) h k l e = let same : outcome.Goes j d ≡ outcome.Exits c = sym k.0 ∙ e in cc
  exits-by x c (Exits d) h k l e =
      let same : outcome.Exits d ≡ outcome.Exits c = sym k.0 ∙ e in
      let z : d ≡ c = cc in
      record { code = subst (IsCode p.target (dynamic_types p.m x.node)) z h; links = no-links x.links l.number }
  exits-by x c (Bad why) h k l e = absurd k
  exits-by x c Lost h k l e = absurd k

  pub exits-from : (x : Node) (c : Code) → IsKnown x → x.item ≡ outcome.Exits c → ExitsFrom x c
  exits-from x c h e = exits-by x c (step_of p x.node) h.step.turn h.step.outcome h.links e

  -- what the first move leads to
  pub record FirstMove (x : Node) (o : Option Item) (moves : List Move) : Type 0 where
    pub move : Move
    pub first : slice_get moves 0 ≡ Some move
    pub fits : IsMove p.m p.target p.live p.entry p.qubits p.results (dynamic_types p.m x.node) x.node.allocated x.node.returned o move
    pub place : ℕ
    pub to : Node
    pub there : slice_get nodes place ≡ Some to
    pub is : move.to ≡ to.node

  pub first-move : (x : Node) (o : Option Item) (c : Choice) (moves : List Move) → GoesOn p.m p.target p.live p.entry p.qubits p.results (dynamic_types p.m x.node) x.node.allocated x.node.returned moves o c → LeadsTo nodes x.links (map (λ mv. mv.to) moves) → FirstMove x o moves
  first-move x o c [] h l = absurd (no-choice p.target (dynamic_types p.m x.node) c h.choice_fits)
  first-move x o c (mv ∷ moves) h l =
      let k = get_some x.links 0 (let n = l.number in omega (arith, n)) in
      let t = l.to 0 k.0 k.1 in
      record {
        move = mv;
        first = refl;
        fits = All-head (IsMove p.m p.target p.live p.entry p.qubits p.results (dynamic_types p.m x.node) x.node.allocated x.node.returned o) mv moves h.moves_fit;
        place = k.0.to;
        to = t.0;
        there = t.1;
        is = same-some mv.to t.0.node t.2;
      }

  -- an item of a configuration fits, where the first configuration that follows tells the bounds of handles
  pub record ItemAt (x : Node) (i : Item) : Type 0 where
    pub place : ℕ
    pub to : Node
    pub there : slice_get nodes place ≡ Some to
    pub fits : IsItem p.m p.target (bounds p.qubits p.results to.node) (dynamic_types p.m x.node) to.node.held i

  item-by : (x : Node) (i : Item) (o : Outcome) → x.item ≡ o → IsKnown x → item_of o ≡ Some i → ItemAt x i
  item-by x i (outcome.Goes q c) s h e =
      let g = goes-from x q c h s in
      let f = first-move x q c g.moves g.turn g.links in
      record {
        place = f.place;
        to = f.to;
        there = f.there;
        fits =
            subst (λ z. IsItem p.m p.target (bounds p.qubits p.results z) (dynamic_types p.m x.node) z.held i) f.is
            (subst (IsSomeItem p.m p.target (bounds p.qubits p.results f.move.to) (dynamic_types p.m x.node) f.move.to.held) e f.fits.item_fits);
      }
  item-by x i (outcome.Exits c) s h e = cc

  pub item-at : (x : Node) (i : Item) → IsKnown x → item_of x.item ≡ Some i → ItemAt x i
  item-at x i h e = item-by x i x.item refl h e
