-- What holds at the start and is kept by every move holds of every configuration that is explored.
use Rattle.std.proofs.Common.{◌≡◌, ℕ, Option, None, Some, List, [], ◌∷◌, slice_get, refl, subst, arith}
use Rattle.std.proofs.lemmas.List.{length-map}
use Rattle.std.proofs.lemmas.List.Elements.{All-get_or}
use Rattle.std.proofs.lemmas.Option.{get_or_from_slice_get, slice_get_within}
use Rattle.std.specs.List.{All}
use Rattle.std.specs.Option.{option_and_then}
use Rattle.kept_items.specs.declared.item.Item.{Item}
use Rattle.path_search.specs.Explored.{Explored, node}
use Rattle.path_search.specs.Paths.{IsEnd, end_from, onward, successors}
use Rattle.path_search.proofs.Frontier.{get_some}
use Rattle.path_search.proofs.Made.{get_map}
use Rattle.static_steps.specs.declared.config.Config.{Config}
use Rattle.static_steps.specs.declared.turn.Move.{Move}
use Rattle.static_steps.specs.declared.turn.Turn.{Turn}
use Rattle.static_steps.specs.declared.turn.Turn.TheVariants.{Goes, Exits, Bad, Lost}
use Rattle.static_steps.specs.Steps.{start_of}
use Rattle.fused_parts.specs.Nodes.{Node}
use Rattle.unroller.specs.Programs.{Carries, IsReached, Program, search_of, step_of, turn_of}
use Rattle.valid_steps.specs.Turns.{IsMove, IsTurn}
use Rattle.valid_steps.specs.Types.{dynamic_types}
use Rattle.valid_residue.proofs.Lists.{get-map, same-some}

pub all-at : {A : Type 0} (F : A → Type 0) (xs : List A) (i : ℕ) (x : A) → All F xs → slice_get xs i ≡ Some x → F x
all-at F xs i x all e = subst F (get_or_from_slice_get xs i x x e) (All-get_or F xs i x (slice_get_within xs i x e) all)

module _ (p : Program) where
  abbrev pub Fits : Config → Turn → Type 0
  Fits g go = IsTurn p.m p.target p.live p.entry p.qubits p.results (dynamic_types p.m g) g.allocated g.returned go

  abbrev pub Moves : Config → Option Item → Move → Type 0
  Moves g item mv = IsMove p.m p.target p.live p.entry p.qubits p.results (dynamic_types p.m g) g.allocated g.returned item mv

  -- a node of the search is the end of a path
  pub path-to : (budget : ℕ) (nodes : List Node) → Explored (search_of p budget) (Carries p) nodes → (i : ℕ) (x : Node) → slice_get nodes i ≡ Some x → (path : List ℕ) × IsEnd (search_of p budget) path x.node
  path-to budget nodes h i x at =
      let there = get-map node nodes i x at in
      let q = get_some h.lists.paths i (let n = h.lists.number in let k = length-map nodes node in let lt = slice_get_within nodes i x at in omega (arith, n, k, lt)) in
      (q.0, h.lists.ends i q.0 x.node q.1 there)

  module _ (turns : (g : Config) → IsReached p g → Fits g (step_of p g)) (P : Config → Type 0)
      (kept : (g : Config) (item : Option Item) (mv : Move) → IsReached p g → P g → Moves g item mv → P mv.to) where
    -- of one successor
    succeeds : (g b : Config) (i : ℕ) (go : Turn) → IsReached p g → P g → Fits g go → slice_get (onward (turn_of go)) i ≡ Some b → IsReached p b × P b
    succeeds g b i (Goes moves item choice) r h fits e =
        let q = get_map (λ (mv : Move). mv.to) moves i b e in
        let mv = all-at (Moves g item) moves i q.0 fits.moves_fit q.1 in
        (subst (IsReached p) q.2 mv.configuration, subst P q.2 (kept g item q.0 r h mv))
    succeeds g b i (Exits code) r h fits e = cc
    succeeds g b i (Bad why) r h fits e = cc
    succeeds g b i Lost r h fits e = cc

    module _ (budget : ℕ) where
      by-successor : (path : List ℕ) (a g : Config) (i : ℕ) → IsReached p a → P a → ((b : Config) → IsReached p b → P b → end_from (search_of p budget) b path ≡ Some g → P g)
          → (o : Option Config) → slice_get (successors (search_of p budget) a) i ≡ o → option_and_then (λ b. end_from (search_of p budget) b path) o ≡ Some g → P g
      by-successor path a g i r h more None at e = cc
      by-successor path a g i r h more (Some b) at e = let q = succeeds a b i (step_of p a) r h (turns a r) at in more b q.0 q.1 e

      along : (path : List ℕ) (a g : Config) → IsReached p a → P a → end_from (search_of p budget) a path ≡ Some g → P g
      unfolding end_from
      along [] a g r h e = subst P (same-some a g e) h
      along (i ∷ path) a g r h e = by-successor path a g i r h (λ b s k z. along path b g s k z) (slice_get (successors (search_of p budget) a) i) refl e

      pub of-nodes : (nodes : List Node) → Explored (search_of p budget) (Carries p) nodes → IsReached p (start_of p.entry) → P (start_of p.entry) → (i : ℕ) (x : Node) → slice_get nodes i ≡ Some x → P x.node
      of-nodes nodes explored r h i x at = let q = path-to budget nodes explored i x at in along q.0 (start_of p.entry) x.node r h q.1
