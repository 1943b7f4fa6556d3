-- An accepted search has no more nodes than its budget, and is accepted within every budget of at least as many.
use Rattle.std.proofs.Common.{◌≡◌, ◌∙◌, ℕ, suc, ◌≤◌, Bool, List, [], ◌∷◌, ◌++◌, length, map, refl, sym, subst, arith}
use Rattle.std.proofs.lemmas.List.{length-map}
use Rattle.ir_module.specs.declared.tree.Module.{Module}
use Rattle.kept_items.specs.declared.target.Target.{Target}
use Rattle.path_search.specs.declared.reason.Reason.{Reason}
use Rattle.path_search.specs.declared.reason.Reason.TheVariants.{OverBudget}
use Rattle.path_search.specs.Explored.{Explored, node}
use Rattle.path_search.specs.Openings.{ListsAll, Opening}
use Rattle.path_search.specs.Paths.{Search, Turn}
use Rattle.path_search.specs.Verdict.{Accepts, Forbids, back, bad, over}
use Rattle.path_search.proofs.Frontier.{listed}
use Rattle.path_search.proofs.Lists.{get_last, length_push}
use Rattle.path_search.proofs.Order.{Numbers, equal, less, more, numbers}
use Rattle.fused_parts.specs.Nodes.{Node}
use Rattle.unroller.specs.Programs.{Carries, Program, search_of}
use Rattle.sound_lowering.specs.Programs.{IsLowered, program_by}
use Rattle.lowering_budgets.specs.Laws.{CountsConfigurations}
use Rattle.lowering_budgets.proofs.Openings as alike
use Rattle.lowering_budgets.proofs.Openings.{Cut, cut, front-opens}

module _ {N K : Type 0} (s : Search N K) (accepts : Accepts s) where
  -- the path behind as many as the budget would be one too many
  none-over : (front rest : List (List ℕ)) (p : List ℕ) → Opening s ((front ++ p ∷ []) ++ rest) → length front ≡ s.budget → ⊥
  none-over front rest p o e =
      let begun = front-opens s (front ++ p ∷ []) rest o in
      let t = begun.simple p (listed (front ++ p ∷ []) (length front) p (get_last front [] p)) in
      accepts p t.0 OverBudget (record {
        simple = t.1;
        reason = over (record { paths = front ++ p ∷ []; opening = begun; number = length_push front p ∙ suc-same e; last = (front, refl) });
      })
    where
      suc-same : length front ≡ s.budget → suc (length front) ≡ suc s.budget
      suc-same e = omega (arith, e)

  pub few : (ps : List (List ℕ)) → Opening s ps → length ps ≤ s.budget
  few ps o = by (numbers s.budget (length ps))
    where
      by : Numbers s.budget (length ps) → length ps ≤ s.budget
      by (less h) = let c = cut ps s.budget h in absurd (none-over c.front c.rest c.at (subst (Opening s) (sym c.whole) o) c.number)
      by (equal e) = omega (arith, e)
      by (more h) = omega (arith, h)

module _ {N K : Type 0} (start : N) (turn : N → Turn N K) (loops : Bool) (a b : ℕ) where
  abbrev within : ℕ → Search N K
  within = alike.within start turn loops

  module _ (nodes : List N) (accepts : Accepts (within a)) (lists : ListsAll (within a) nodes) (enough : length nodes ≤ b) where
    none : (p : List ℕ) (g : N) (r : Reason K) → Forbids (within b) p g r → Forbids (within a) p g r
    none p g r (over h) =
        let n = lists.longest h.paths (alike.opening start turn loops b a h.paths h.opening) in
        absurd (omega (arith, n, h.number, lists.number, enough))
    none p g r (bad e) = bad e
    none p g r (back h) = back (alike.leads-back start turn loops b a p g h)

    pub accepts-alike : Accepts (within b)
    accepts-alike p g r c = accepts p g r (record { simple = alike.simple start turn loops b a p g c.simple; reason = none p g r c.reason })

-- ---- configurations

module _ (p : Program) (a : ℕ) (nodes : List Node) (explored : Explored (search_of p a) (Carries p) nodes) where
  number-of : length (map node nodes) ≡ length nodes
  number-of = length-map nodes node

  pub explored-few : length nodes ≤ a
  explored-few =
      let f = few (search_of p a) explored.accepts explored.lists.paths explored.lists.opening in
      omega (arith, f, explored.lists.number, number-of)

  pub explored-alike : (b : ℕ) → length nodes ≤ b → Explored (search_of p b) (Carries p) nodes
  explored-alike b enough =
      let s = search_of p a in record {
        accepts = accepts-alike s.start s.turn s.loops a b (map node nodes) explored.accepts explored.lists (omega (arith, enough, number-of));
        lists = alike.lists-all s.start s.turn s.loops a b (map node nodes) explored.lists;
        links = explored.links;
        carries = explored.carries;
      }

pub counts : (m : Module) (t : Target) (budget : ℕ) (l : Module) (lowered : IsLowered m t budget l) → CountsConfigurations m t budget l lowered
counts m t budget l h = record {
  within = explored-few (program_by m t h.live) budget h.nodes h.explored;
  alike = λ other enough. record {
    live = h.live;
    is_test = h.is_test;
    entry = h.entry;
    is_entry = h.is_entry;
    nodes = h.nodes;
    explored = explored-alike (program_by m t h.live) budget h.nodes h.explored other enough;
    is = h.is;
  };
}
