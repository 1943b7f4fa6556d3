-- The nodes of an accepted search over a program's configurations carry their outcomes, and link to their successors.
use Rattle.std.proofs.Common.{◌≡◌, ◌∙◌, ℕ, zero, suc, ◌++◌, Some, List, [], ◌∷◌, length, map, refl, sym, ap, subst, arith}
use Rattle.std.specs.Prelude.{slice_get}
use Rattle.std.proofs.lemmas.Option.{none-some, same_Some}
use Rattle.kept_items.specs.declared.target.Kind.{Kind}
use Rattle.kept_items.specs.declared.val.Dyn.{Dyn}
use Rattle.path_search.specs.declared.reason.Reason.TheVariants.{BadNode}
use Rattle.path_search.specs.declared.visit.Link.{Link}
use Rattle.path_search.specs.Explored.{labels, node}
use Rattle.path_search.specs.Openings.{ListsAll}
use Rattle.path_search.specs.Paths.{IsEnd, IsSimple, Search, end_from, onward, successors}
use Rattle.path_search.specs.Verdict.{Accepts, bad}
use Rattle.path_search.proofs.Frontier.{get_some, get_within, listed}
use Rattle.path_search.proofs.Walks.{end_cons, end_none, end_push, one_end}
use Rattle.search_verdicts.proofs.Returning.{get-map}
use Rattle.static_steps.specs.declared.config.Config.{Config}
use Rattle.static_steps.specs.declared.turn.Move.{Move}
use Rattle.static_steps.specs.declared.turn.Turn.{Turn}
use Rattle.static_steps.specs.declared.turn.Turn.TheVariants.{Goes, Exits, Bad, Lost}
use Rattle.unroller.specs.declared.node.Outcome.TheVariants as outcome
use Rattle.unroller.specs.Programs.{Carries, IsOutcome, IsReached, LeadOn, Program, search_of, step_of, turn_of}
use Rattle.fused_parts.specs.Nodes.{Links, Node}
use Rattle.program_verdicts.specs.Laws.{IsPermitted, KeepsConfigurations}

module _ (p : Program) (budget : ℕ) (keeps : KeepsConfigurations p) where
  abbrev s : Search Config Kind
  s = search_of p budget

  -- what moves lead to is a configuration
  onward-reached : (g : Config) (t : Turn) → LeadOn p g t → (i : ℕ) (h : Config) → slice_get (onward (turn_of t)) i ≡ Some h → IsReached p h
  onward-reached g (Goes moves item choice) lead i h e =
      let mv = get-map (λ (mv : Move). mv.to) moves i h e in
      subst (IsReached p) mv.2 (lead i mv.0 mv.1).reached
  onward-reached g (Exits code) lead i h e = absurd (none-some h e)
  onward-reached g (Bad kind) lead i h e = absurd (none-some h e)
  onward-reached g Lost lead i h e = absurd lead

  pub reached-from : (q : List ℕ) (g h : Config) → IsReached p g → end_from s g q ≡ Some h → IsReached p h
  reached-from [] g h reached e = subst (IsReached p) (one_end s g g h [] (end_none s g) e) reached
  reached-from (i ∷ q) g h reached e =
      let b = end_cons s g h i q e in
      reached-from q b.by h (onward-reached g (step_of p g) (keeps.leads_on g reached) i b.by b.is) b.gives

  module _ (accepts : Accepts s) (gs : List Config) (lists : ListsAll s gs)
      (every : (q : List ℕ) (g : Config) → IsEnd s q g → (i : ℕ) × (slice_get gs i ≡ Some g)) where
    -- the links of moves
    record AreLinked (moves : List Move) : Type 0 where
      links : Links
      same : labels links ≡ map (λ (mv : Move). mv.args) moves
      number : length links ≡ length moves
      to : (j : ℕ) (l : Link (List Dyn)) → slice_get links j ≡ Some l → (h : Config) × (slice_get (map (λ (mv : Move). mv.to) moves) j ≡ Some h) × (slice_get gs l.to ≡ Some h)

    linked : (moves : List Move) → ((j : ℕ) (h : Config) → slice_get (map (λ (mv : Move). mv.to) moves) j ≡ Some h → (i : ℕ) × (slice_get gs i ≡ Some h)) → AreLinked moves
    linked [] at = record { links = []; same = refl; number = refl; to = λ j l e. absurd (none-some l e) }
    linked (mv ∷ moves) at = behind (at 0 mv.to refl) (linked moves (λ j h e. at (suc j) h e))
      where
        behind : (i : ℕ) × (slice_get gs i ≡ Some mv.to) → AreLinked moves → AreLinked (mv ∷ moves)
        behind i rest = record {
          links = record { to = i.0; label = mv.args } ∷ rest.links;
          same = ap (λ ls. mv.args ∷ ls) rest.same;
          number = ap suc rest.number;
          to = to;
        }
          where
            to : (j : ℕ) (l : Link (List Dyn)) → slice_get (record { to = i.0; label = mv.args } ∷ rest.links) j ≡ Some l
                → (h : Config) × (slice_get (map (λ (mv : Move). mv.to) (mv ∷ moves)) j ≡ Some h) × (slice_get gs l.to ≡ Some h)
            to zero l e = (mv.to, refl, subst (λ (l : Link (List Dyn)). slice_get gs l.to ≡ Some mv.to) (same_Some _ l e) i.1)
            to (suc j) l e = rest.to j l e

    -- a node as it is listed
    record IsMade (x : Node) : Type 0 where
      number : length x.links ≡ length (successors s x.node)
      to : (j : ℕ) (l : Link (List Dyn)) → slice_get x.links j ≡ Some l → (h : Config) × (slice_get (successors s x.node) j ≡ Some h) × (slice_get gs l.to ≡ Some h)
      carries : Carries p x.node x.item (labels x.links)

    -- the node of a configuration that a simple path leads to
    visit : (g : Config) (q : List ℕ) → IsSimple s q g → (x : Node) × (x.node ≡ g) × IsMade x
    visit g q simple = by (step_of p g) refl
      where
        reached : IsReached p g
        reached = reached-from q s.start g keeps.starts simple.ends

        number-of : (t : Turn) → step_of p g ≡ t → length (successors s g) ≡ length (onward (turn_of t))
        number-of t e = ap (λ t. length (onward (turn_of t))) e

        by : (t : Turn) → step_of p g ≡ t → (x : Node) × (x.node ≡ g) × IsMade x
        by (Goes moves item choice) e =
            let l = linked moves (λ j h f. every (q ++ j ∷ []) h (end_push s q g h j simple.ends (ap (λ t. slice_get (onward (turn_of t)) j) e ∙ f))) in
            let o : IsOutcome (Goes moves item choice) (outcome.Goes item choice) (labels l.links) = (refl, l.same) in (
              record { node = g; item = outcome.Goes item choice; links = l.links },
              refl,
              record {
                number = l.number ∙ sym (many moves) ∙ sym (number-of (Goes moves item choice) e);
                to = λ j k f. let t = l.to j k f in (t.0, ap (λ t. slice_get (onward (turn_of t)) j) e ∙ t.1, t.2);
                carries = record { reached = reached; outcome = subst (λ t. IsOutcome t (outcome.Goes item choice) (labels l.links)) (sym e) o };
              },
            )
          where
            many : (ms : List Move) → length (map (λ (mv : Move). mv.to) ms) ≡ length ms
            many [] = refl
            many (m ∷ ms) = ap suc (many ms)
        by (Exits code) e =
            let o : IsOutcome (Exits code) (outcome.Exits code) [] = (refl, refl) in (
              record { node = g; item = outcome.Exits code; links = [] },
              refl,
              record {
                number = sym (number-of (Exits code) e);
                to = λ j l f. absurd (none-some l f);
                carries = record { reached = reached; outcome = subst (λ t. IsOutcome t (outcome.Exits code) []) (sym e) o };
              },
            )
        by (Bad kind) e = absurd (accepts q g (BadNode kind) (record { simple = simple; reason = bad (ap turn_of e) }))
        by Lost e = absurd (subst (LeadOn p g) e (keeps.leads_on g reached))

    record AreMade (hs : List Config) : Type 0 where
      nodes : List Node
      names : map node nodes ≡ hs
      each : (i : ℕ) (x : Node) → slice_get nodes i ≡ Some x → IsMade x

    all-made : (hs : List Config) → ((i : ℕ) (h : Config) → slice_get hs i ≡ Some h → (q : List ℕ) × IsSimple s q h) → AreMade hs
    all-made [] at = record { nodes = []; names = refl; each = λ i x e. absurd (none-some x e) }
    all-made (h ∷ hs) at = behind (let q = at 0 h refl in visit h q.0 q.1) (all-made hs (λ i g e. at (suc i) g e))
      where
        behind : (x : Node) × (x.node ≡ h) × IsMade x → AreMade hs → AreMade (h ∷ hs)
        behind x rest = record { nodes = x.0 ∷ rest.nodes; names = ap (λ g. g ∷ map node rest.nodes) x.1 ∙ ap (λ gs. h ∷ gs) rest.names; each = each }
          where
            each : (i : ℕ) (y : Node) → slice_get (x.0 ∷ rest.nodes) i ≡ Some y → IsMade y
            each zero y e = subst IsMade (same_Some x.0 y e) x.2
            each (suc i) y e = rest.each i y e

    pub permitted : IsPermitted p budget
    permitted = record {
      nodes = t.nodes;
      explored = record {
        accepts = accepts;
        lists = subst (ListsAll s) (sym t.names) lists;
        links = λ i x e. let m = t.each i x e in record { number = m.number; to = λ j l f. leads (successors s x.node) j l.to (m.to j l f) };
        carries = λ i x e. (t.each i x e).carries;
      };
    }
      where
        simple-path : (i : ℕ) (h : Config) → slice_get gs i ≡ Some h → (q : List ℕ) × IsSimple s q h
        simple-path i h e =
            let q = get_some lists.paths i (omega (arith, lists.number, get_within gs i h e)) in
            let w = lists.opening.simple q.0 (listed lists.paths i q.0 q.1) in
            (q.0, subst (IsSimple s q.0) (one_end s s.start w.0 h q.0 w.1.ends (lists.ends i q.0 h q.1 e)) w.1)

        t : AreMade gs
        t = all-made gs simple-path

        leads : (hs : List Config) (j k : ℕ) → (h : Config) × (slice_get hs j ≡ Some h) × (slice_get gs k ≡ Some h) → (w : Node) × (slice_get t.nodes k ≡ Some w) × (slice_get hs j ≡ Some w.node)
        leads hs j k h =
            let w = get-map node t.nodes k h.0 (ap (λ xs. slice_get xs k) t.names ∙ h.2) in
            (w.0, w.1, h.1 ∙ ap Some (sym w.2))
