-- Constants decide nothing of the parts that are made of explored configurations.
use Rattle.std.proofs.Common.{◌≡◌, ◌∙◌, ℕ, true, Option, None, Some, List, [], ◌∷◌, map, refl, sym, ap}
use Rattle.std.proofs.lemmas.Bool.{and_from}
use Rattle.std.specs.List.{list_all}
use Rattle.ir_module.specs.declared.tree.Function.{Function}
use Rattle.ir_values.specs.Int.{IntValue}
use Rattle.kept_items.specs.declared.item.Choice.{Choice}
use Rattle.kept_items.specs.declared.item.Choice.TheVariants as choice
use Rattle.kept_items.specs.declared.item.Code.{Code}
use Rattle.kept_items.specs.declared.item.Item.{Item}
use Rattle.kept_items.specs.declared.item.Item.TheVariants as item
use Rattle.kept_items.specs.declared.val.Dyn.{Dyn}
use Rattle.kept_items.specs.declared.val.Val.{Val}
use Rattle.kept_items.specs.declared.val.Val.TheVariants.{Known, Dynamic}
use Rattle.lowered_program.specs.Residues.{residue_of, shared_exit}
use Rattle.path_search.specs.Explored.{Explored, labels}
use Rattle.residue.specs.declared.parts.Jump.{Jump}
use Rattle.residue.specs.Functions.{all_items}
use Rattle.residue.specs.Scopes.{jump_args, jumps}
use Rattle.residue.specs.Valid.{all_tails}
use Rattle.settled_adaptive.specs.Undecided.{all_undecided, is_undecided, varies}
use Rattle.static_steps.specs.declared.turn.Turn.{Turn}
use Rattle.static_steps.specs.declared.turn.Turn.TheVariants.{Goes, Exits, Bad, Lost}
use Rattle.static_steps.specs.Values.{same_known}
use Rattle.unroller.specs.declared.node.Outcome.{Outcome}
use Rattle.unroller.specs.declared.node.Outcome.TheVariants as outcome
use Rattle.unroller.specs.Programs.{Carries, IsOutcome, Program, search_of, step_of}
use Rattle.fused_parts.specs.Nodes.{Links, Node, item_of, joins}
use Rattle.fused_parts.specs.Parts.{case_jumps, choice_tail, exit_tail, jump_to, last_jump, number_at, outcome_tail, renamed, renamed_item}
use Rattle.fused_parts.specs.Ranks.{part_number}
use Rattle.path_search.specs.declared.visit.Link.{Link}
use Rattle.valid_lines.proofs.Parts.{flat-passes, parts-pass}
use Rattle.valid_lines.proofs.Tails.{tails-pass}
use Rattle.undecided_parts.specs.Laws.{keeps_undecided}
use Rattle.undecided_parts.proofs.Steps.{steps-keep}

-- ---- items, by whatever numbers

module _ (mine : List Dyn) where
  varies-still : (a : Val) → varies (renamed mine a) ≡ varies a
  varies-still (Known v) = refl
  varies-still (Dynamic d) = refl

  same-still : (a b : Val) → same_known (renamed mine a) (renamed mine b) ≡ same_known a b
  same-still (Known v) (Known u) = refl
  same-still (Known v) (Dynamic d) = refl
  same-still (Dynamic d) b = refl

  undecided-still : (i : Item) (n : ℕ) → is_undecided (renamed_item mine n i) ≡ is_undecided i
  undecided-still (item.Binary d o flags w a b) n = rw (varies-still a, varies-still b) refl
  undecided-still (item.Icmp d o w a b) n = rw (varies-still a, varies-still b) refl
  undecided-still (item.Convert d o w a to) n = varies-still a
  undecided-still (item.Select d w c a b) n = rw (varies-still c, same-still a b) refl
  undecided-still (item.Read d v) n = refl
  undecided-still (item.Equal d v u) n = refl
  undecided-still (item.Operation name args) n = refl
  undecided-still (item.Output c args) n = refl

-- the item of a node
undecided-item : (t : Turn) (o : Outcome) (args : List (List Dyn)) (i : Item) → keeps_undecided t ≡ true → IsOutcome t o args → item_of o ≡ Some i → is_undecided i ≡ true
undecided-item (Goes moves (Some j) c) o args i h k e = let s : j ≡ i = let f = sym (ap item_of k.0) ∙ e in cc in ap is_undecided (sym s) ∙ h
undecided-item (Goes moves None c) o args i h k e = let f = sym (ap item_of k.0) ∙ e in cc
undecided-item (Exits c) o args i h k e = let f = sym (ap item_of k.0) ∙ e in cc
undecided-item (Bad why) o args i h k e = absurd k
undecided-item Lost o args i h k e = absurd k

-- ---- the arguments of jumps

module _ (part_of : ℕ → ℕ) (mine : List Dyn) where
  abbrev AllVary : List Jump → Type 0
  AllVary js = list_all (λ (j : Jump). list_all varies j.args) js ≡ true

  named-vary : (ds : List Dyn) → list_all varies (map (λ d. Dynamic (number_at mine d)) ds) ≡ true
  named-vary [] = refl
  named-vary (d ∷ ds) = named-vary ds

  and-more : (l : Link (List Dyn)) (js : List Jump) → AllVary js → AllVary (jump_to part_of mine l ∷ js)
  and-more l js h = and_from (list_all varies (jump_to part_of mine l).args) (list_all (λ (j : Jump). list_all varies j.args) js) (named-vary l.label) h

  cases-vary : (is : List IntValue) (links : Links) → AllVary (map (λ (c : IntValue × Jump). c.1) (case_jumps part_of mine is links))
  cases-vary [] links = refl
  cases-vary (i ∷ is) [] = refl
  cases-vary (i ∷ is) (l ∷ links) = and-more l (map (λ (c : IntValue × Jump). c.1) (case_jumps part_of mine is links)) (cases-vary is links)

  last-varies : (links : Links) (js : List Jump) → AllVary js → AllVary (last_jump part_of mine links ∷ js)
  last-varies [] js h = h
  last-varies (l ∷ []) js h = and-more l js h
  last-varies (l ∷ k ∷ links) js h = last-varies (k ∷ links) js h

  choice-varies : (c : Choice) (links : Links) → AllVary (jumps (choice_tail part_of mine c links))
  choice-varies choice.One [] = refl
  choice-varies choice.One (l ∷ links) = and-more l [] refl
  choice-varies (choice.Branch d) [] = refl
  choice-varies (choice.Branch d) (l ∷ []) = refl
  choice-varies (choice.Branch d) (l ∷ k ∷ links) = and-more l (jump_to part_of mine k ∷ []) (and-more k [] refl)
  choice-varies (choice.Switch d w is) links = last-varies links (map (λ (c : IntValue × Jump). c.1) (case_jumps part_of mine is links)) (cases-vary is links)

  exit-varies : (o : Option ℕ) (c : Code) → AllVary (jumps (exit_tail o mine c))
  exit-varies None c = refl
  exit-varies (Some n) c = refl

  outcome-varies : (shared : Option ℕ) (o : Outcome) (links : Links) → AllVary (jumps (outcome_tail part_of shared mine o links))
  outcome-varies shared (outcome.Goes i c) links = choice-varies c links
  outcome-varies shared (outcome.Exits c) links = exit-varies shared c

  tail-varies : (shared : Option ℕ) (o : Outcome) (links : Links) → list_all varies (jump_args (outcome_tail part_of shared mine o links)) ≡ true
  tail-varies shared o links = flat-passes varies (λ (j : Jump). j.args) (jumps (outcome_tail part_of shared mine o links)) (outcome-varies shared o links)

-- ----

pub made-undecided : (p : Program) (f : Function) (budget : ℕ) (nodes : List Node) → Explored (search_of p budget) (Carries p) nodes → all_undecided (residue_of p f nodes) ≡ true
made-undecided p f budget nodes explored =
    let part_of = part_number (joins nodes) in
    let shared = shared_exit p.target nodes in
    and_from (list_all is_undecided (all_items (residue_of p f nodes))) (all_tails (λ t. list_all varies (jump_args t)) (residue_of p f nodes))
    (parts-pass is_undecided p.m nodes part_of shared (joins nodes) (λ j x e i q mine n.
    undecided-still mine i n ∙ undecided-item (step_of p x.node) x.item (labels x.links) i (steps-keep p.m p.target p.live x.node) (explored.carries j x e).outcome q))
    (tails-pass (λ t. list_all varies (jump_args t)) refl p.m nodes part_of shared (joins nodes) (λ j x e n. tail-varies part_of _ shared x.item x.links))
