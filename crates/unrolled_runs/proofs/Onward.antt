-- Each tick of a run leads along an edge of the graph of configurations, or ends the run.
use Rattle.std.proofs.Common.{◌≡◌, ◌∙◌, ℕ, Bool, Some, List, ◌++◌, map, sym, subst, arith, Contains}
use Rattle.std.specs.Prelude.{slice_get}
use Rattle.graph_cycles.specs.Cycles.{successors}
use Rattle.graph_cycles.proofs.Lists.{get-contains, get-within}
use Rattle.acyclic_parts.proofs.Edges.{successors-of}
use Rattle.ir_module.specs.declared.places.Point.{Point}
use Rattle.ir_module.specs.declared.tree.Module.{Module}
use Rattle.ir_values.specs.declared.ids.LocalId.{LocalId}
use Rattle.ir_values.specs.Int.{IntValue}
use Rattle.kept_items.specs.declared.item.Choice.{Choice}
use Rattle.kept_items.specs.declared.val.Dyn.{Dyn}
use Rattle.kept_items.specs.Items.{Did, Gave, Stopped, Senseless, chosen, coded, did_some, dynamic}
use Rattle.fused_parts.specs.Nodes.{Node}
use Rattle.path_search.specs.declared.visit.Link.{Link}
use Rattle.path_search.specs.Explored.{LeadsTo, labels}
use Rattle.path_search.specs.Paths.{onward}
use Rattle.qir_meaning.specs.Runs.{Returned, end_of}
use Rattle.qir_meaning.specs.State.{State}
use Rattle.qir_meaning.specs.code.Steps.{Outcome, Ended, Jam, Whole, Tick, On, Off}
use Rattle.runs_follow_steps.specs.Describes.{Describes}
use Rattle.runs_follow_steps.specs.Meets.{DidMeets, Reached, TurnMeets}
use Rattle.search_verdicts.specs.Laws.{graph_of}
use Rattle.static_steps.specs.declared.turn.Move.{Move}
use Rattle.static_steps.specs.declared.turn.Turn.{Turn}
use Rattle.static_steps.specs.declared.turn.Turn.TheVariants.{Goes, Exits, Bad, Lost}
use Rattle.std.proofs.lemmas.Option.{same_Some}
use Rattle.lowered_runs.proofs.Lookups.{is-there, map-get}
use Rattle.unroller.specs.Programs.{IsOutcome, turn_of}

module _ (m : Module) (live : Point → LocalId → Bool) (nodes : List Node) where
  -- the run is at configuration i
  pub record IsAt (i : ℕ) (w : Whole) : Type 0 where
    pub node : Node
    pub is : slice_get nodes i ≡ Some node
    pub values : List IntValue
    pub describes : Describes m live values node.node w

  -- what a tick at configuration i does
  pub data Onward (i : ℕ) : Tick → Type 0 where
    leads : (w : Whole) (j : ℕ) → Contains (successors (graph_of nodes) i) j → IsAt j w → Onward i (On w)
    over : (o : Outcome) → Onward i (Off o)

  module _ (i : ℕ) (x : Node) (is : slice_get nodes i ≡ Some x) where
    abbrev targets : List ℕ
    targets = map (λ (l : Link (List Dyn)). l.to) x.links

    -- the links of the node lead to what the moves lead to
    moved : (moves : List Move) → LeadsTo nodes x.links (map (λ mv. mv.to) moves) → (k : ℕ) (mv : Move) → slice_get moves k ≡ Some mv
        → (j : ℕ) × Contains (successors (graph_of nodes) i) j × (y : Node) × (slice_get nodes j ≡ Some y) × (y.node ≡ mv.to)
    moved moves links k mv at =
        let there = map-get (λ (v : Move). v.to) moves k mv at in
        let count = links.number in
        let inside = get-within (map (λ (v : Move). v.to) moves) k mv.to there in
        let l = is-there x.links k (omega (arith, count, inside)) in
        let y = links.to k l.0 l.1 in
        let among : Contains targets l.0.to = get-contains targets k l.0.to (map-get (λ (l : Link (List Dyn)). l.to) x.links k l.0 l.1) in (
          l.0.to,
          subst (λ vs. Contains vs l.0.to) (sym (successors-of (λ (v : Node). map (λ (l : Link (List Dyn)). l.to) v.links) nodes i x is)) among,
          y.0,
          y.1,
          same_Some y.0.node mv.to (sym y.2 ∙ there),
        )

    went : (tk : Tick) (mv : Move) (ds : List IntValue) (st : State) → Reached m live ds mv tk st
        → (j : ℕ) × Contains (successors (graph_of nodes) i) j × (y : Node) × (slice_get nodes j ≡ Some y) × (y.node ≡ mv.to) → Onward i tk
    went tk mv ds st reached (j, edge, y, at, same) =
        subst (Onward i) (sym reached.goes) (leads reached.whole j edge (record {
          node = y;
          is = at;
          values = map (dynamic ds) mv.args;
          describes = subst (λ g. Describes m live (map (dynamic ds) mv.args) g reached.whole) (sym same) reached.describes;
        }))

    did-onward : (tk : Tick) (moves : List Move) (choice : Choice) (ds : List IntValue) (d : Did) → LeadsTo nodes x.links (map (λ mv. mv.to) moves)
        → DidMeets m live tk moves choice ds d → Onward i tk
    did-onward tk moves choice ds (Gave new st) links (mv, at, reached) = went tk mv (ds ++ new) st reached (moved moves links (chosen choice (ds ++ new)) mv at)
    did-onward tk moves choice ds (Stopped stop st) links (st', off, same) = subst (Onward i) (sym off) (over (Ended (end_of stop) st'))
    did-onward tk moves choice ds Senseless links off = subst (Onward i) (sym off) (over Jam)

    pub turn-onward : (tk : Tick) (ds : List IntValue) (st : State) (turn : Turn) → LeadsTo nodes x.links (onward (turn_of turn)) → IsOutcome turn x.item (labels x.links)
        → TurnMeets m live tk ds st turn → Onward i tk
    turn-onward tk ds st (Goes moves item choice) links outcome h = did-onward tk moves choice ds (did_some ds st item) links h
    turn-onward tk ds st (Exits c) links outcome off = subst (Onward i) (sym off) (over (Ended (Returned (coded ds c)) st))
    turn-onward tk ds st (Bad why) links outcome h = absurd outcome
    turn-onward tk ds st Lost links outcome h = absurd outcome
