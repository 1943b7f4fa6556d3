-- Every configuration that is reached knows only what can be printed, and so are its item and its cases.
use Rattle.std.proofs.Common.{◌≡◌, ℕ, Bool, true, ◌&&◌, Some, List, [], ◌∷◌, map, slice_get, refl, ap, ◌∙◌, subst, arith, option_map}
use Rattle.std.proofs.lemmas.Bool.{and_parts}
use Rattle.std.proofs.lemmas.List.Folds.{list_all-map}
use Rattle.std.proofs.lemmas.Option.{slice_get-map, slice_get_within}
use Rattle.std.specs.List.{list_all}
use Rattle.ir_module.specs.Printable.{IsPrintable}
use Rattle.ir_module.proofs.StepLemmas.{passes-at}
use Rattle.kept_items.specs.declared.val.Dyn.{Dyn}
use Rattle.path_search.specs.Explored.{Explored, labels, node}
use Rattle.path_search.specs.Paths.{Search, end_from, onward, successors}
use Rattle.path_search.proofs.Walks.{end_cons, end_none, one_end}
use Rattle.printed_residue.proofs.Ends.{get-within}
use Rattle.static_steps.specs.declared.config.Config.{Config}
use Rattle.static_steps.specs.declared.turn.Move.{Move}
use Rattle.static_steps.specs.declared.turn.Turn.{Turn}
use Rattle.static_steps.specs.declared.turn.Turn.TheVariants.{Goes, Exits, Bad, Lost}
use Rattle.static_steps.specs.Steps.{start_of}
use Rattle.fused_parts.specs.Nodes.{Node}
use Rattle.unroller.specs.declared.node.Outcome.{Outcome}
use Rattle.unroller.specs.declared.node.Outcome.TheVariants as outcome
use Rattle.unroller.specs.Programs.{Carries, IsOutcome, Program, search_of, step_of, turn_of}
use Rattle.printable_steps.specs.Laws.{StepsKeepPrintable}
use Rattle.printable_steps.specs.Turns.{choice_prints, config_prints, some_item_prints, turn_prints}

-- what holds of a node and of the successors of each node of which it holds, holds along paths
module _ {N K : Type 0} (s : Search N K) (P : N → Type 0) (step : (g h : N) (i : ℕ) → P g → slice_get (successors s g) i ≡ Some h → P h) where
  along : (path : List ℕ) (a g : N) → P a → end_from s a path ≡ Some g → P g
  along [] a g h e = subst P (one_end s a a g [] (end_none s a) e) h
  along (i ∷ path) a g h e = let t = end_cons s a g i path e in along path t.by g (step a t.by i h t.is) t.gives

-- the item and the cases of an outcome
abbrev pub outcome_prints : Outcome → Bool
outcome_prints (outcome.Goes item choice) = some_item_prints item && choice_prints choice
outcome_prints (outcome.Exits c) = true

of-step : (go : Turn) (o : Outcome) (args : List (List Dyn)) → turn_prints go ≡ true → IsOutcome go o args → outcome_prints o ≡ true
of-step (Goes moves item choice) o args h k = ap outcome_prints k.0 ∙ (and_parts (list_all (λ (mv : Move). config_prints mv.to) moves) (some_item_prints item && choice_prints choice) h).1
of-step (Exits c) o args h k = ap outcome_prints k.0
of-step (Bad why) o args h k = absurd k
of-step Lost o args h k = absurd k

to-successor : (go : Turn) (i : ℕ) (h : Config) → turn_prints go ≡ true → slice_get (onward (turn_of go)) i ≡ Some h → config_prints h ≡ true
to-successor (Goes moves item choice) i h t e =
    let p = and_parts (list_all (λ (mv : Move). config_prints mv.to) moves) (some_item_prints item && choice_prints choice) t in
    passes-at config_prints (map (λ (mv : Move). mv.to) moves) i h (list_all-map config_prints (λ (mv : Move). mv.to) moves ∙ p.0) e
to-successor (Exits c) i h t e = cc
to-successor (Bad why) i h t e = cc
to-successor Lost i h t e = cc

module _ (p : Program) (budget : ℕ) (nodes : List Node) (explored : Explored (search_of p budget) (Carries p) nodes) (printable : IsPrintable p.m) (law : StepsKeepPrintable) where
  step-prints : (g : Config) → config_prints g ≡ true → turn_prints (step_of p g) ≡ true
  step-prints g h = law p.m p.target p.live g printable h

  node-prints : (i : ℕ) (x : Node) → slice_get nodes i ≡ Some x → config_prints x.node ≡ true
  node-prints i x e =
      let l = explored.lists in
      let listed : slice_get (map node nodes) i ≡ Some x.node = slice_get-map node nodes i ∙ ap (option_map node) e in
      let lt = slice_get_within (map node nodes) i x.node listed in
      let many = l.number in
      let q = get-within l.paths i (omega (arith, lt, many)) in
      along (search_of p budget) (λ g. config_prints g ≡ true) (λ g h j k s. to-successor (step_of p g) j h (step-prints g k) s) q.0 (start_of p.entry) x.node refl (l.ends i q.0 x.node q.1 listed)

  pub outcome-prints : (i : ℕ) (x : Node) → slice_get nodes i ≡ Some x → outcome_prints x.item ≡ true
  outcome-prints i x e = of-step (step_of p x.node) x.item (labels x.links) (step-prints x.node (node-prints i x e)) (explored.carries i x e).outcome
