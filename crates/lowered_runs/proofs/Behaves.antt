-- A lowered module behaves as its source.
use Rattle.std.proofs.Common.{◌≡◌, ℕ, Some, List, [], length, sym, ap, ◌∙◌, subst}
use Rattle.std.specs.Prelude.{slice_get}
use Rattle.ir_module.specs.Entry.{Entry}
use Rattle.qir_meaning.specs.Naming.{fixed_naming}
use Rattle.qir_meaning.specs.Same.{SameBehaviour}
use Rattle.kept_items.specs.declared.target.Target.TheVariants.{Adaptive, Base}
use Rattle.path_search.specs.Explored.{Explored}
use Rattle.path_search.specs.Paths.{onward}
use Rattle.placed_steps.proofs.Behaviour.{placed-keeps-behaviour}
use Rattle.residue.specs.Printed.{printed}
use Rattle.printed_residue.specs.Laws.{BaseItemsRun, BaseMarksPass, BaseReturnsRun, BaseStartsRun, IsGood, ItemsRun, MarksPass, ReturnsRun, StartsRun, TailsRun}
use Rattle.static_steps.specs.declared.config.Config.{Config}
use Rattle.static_steps.specs.declared.turn.Turn.{Turn}
use Rattle.static_steps.specs.declared.turn.Turn.TheVariants.{Goes, Exits, Bad, Lost}
use Rattle.static_steps.specs.Steps.{start_of}
use Rattle.type_check.specs.Required.{required_qubits, required_results}
use Rattle.typed_runs.specs.Fits.{WholeFits}
use Rattle.typed_runs.specs.Laws.{InvariantHolds}
use Rattle.typed_runs.proofs.Wholes.{invariant}
use Rattle.unroller.specs.Programs.{Carries, IsReached, Program, search_of, step_of, turn_of}
use Rattle.valid_steps.specs.Laws.{StepsKeepConfigurations}
use Rattle.valid_steps.specs.Turns.{IsMove, IsTurn}
use Rattle.valid_steps.specs.Types.{dynamic_types}
use Rattle.fused_parts.specs.Nodes.{Node}
use Rattle.fused_parts.proofs.Fusing.{NoneToFirst}
use Rattle.lowered_runs.specs.Laws.{AdaptiveBehaves, BaseBehaves, IsAdmitted}
use Rattle.lowered_runs.specs.Made.{IsMade}
use Rattle.lowered_runs.proofs.First.{first-visited}
use Rattle.lowered_runs.proofs.BaseJoined as one
use Rattle.lowered_runs.proofs.Joined.{Stands, all-at, are-placed, config, program, rank}
use Rattle.lowered_runs.proofs.Lookups.{get-map, same-some}

-- the static steps of a program without faults are as valid_steps says
steps-fit : StepsKeepConfigurations → (p : Program) (limit : ℕ) (e : Entry) → IsAdmitted p limit e → (g : Config) → IsReached p g
    → IsTurn p.m p.target p.live p.entry p.qubits p.results (dynamic_types p.m g) g.allocated g.returned (step_of p g)
unfolding StepsKeepConfigurations
steps-fit law p limit e a g reached =
    subst (λ f. IsTurn p.m p.target p.live f p.qubits p.results (dynamic_types p.m g) g.allocated g.returned (step_of p g)) (sym a.entry)
    (subst (λ k. IsTurn p.m p.target p.live (record { 0 = e.number }) k p.results (dynamic_types p.m g) g.allocated g.returned (step_of p g)) (sym a.qubits)
    (subst (λ k. IsTurn p.m p.target p.live (record { 0 = e.number }) (required_qubits p.m limit) k (dynamic_types p.m g) g.allocated g.returned (step_of p g)) (sym a.results)
    (law p.m limit p.target p.live e g a.numbered a.typed a.is_entry
    (subst (λ k. IsReached (record { m = p.m; target = p.target; live = p.live; entry = record { 0 = e.number }; qubits = required_qubits p.m limit; results = k }) g) a.results
    (subst (λ k. IsReached (record { m = p.m; target = p.target; live = p.live; entry = record { 0 = e.number }; qubits = k; results = p.results }) g) a.qubits
    (subst (λ f. IsReached (record { m = p.m; target = p.target; live = p.live; entry = f; qubits = p.qubits; results = p.results }) g) a.entry reached))))))

module _ (p : Program) (budget : ℕ) (nodes : List Node) (explored : Explored (search_of p budget) (Carries p) nodes)
    (fits : (g : Config) → IsReached p g → IsTurn p.m p.target p.live p.entry p.qubits p.results (dynamic_types p.m g) g.allocated g.returned (step_of p g)) where
  -- no edge leads to the start
  pub none-to-first : NoneToFirst nodes
  none-to-first i x q k is link zero-to =
      let first = first-visited (search_of p budget) (Carries p) nodes explored in
      let t = (explored.links i x is).to q k link in
      let w-is : t.0 ≡ first.0 = same-some t.0 first.0 (sym t.1 ∙ ap (slice_get nodes) zero-to ∙ first.1) in
      by-turn (step_of p x.node) (fits x.node (explored.carries i x is).reached) t.0.node t.2 (ap (λ z. z.node) w-is ∙ first.2)
    where
      by-turn : (turn : Turn) → IsTurn p.m p.target p.live p.entry p.qubits p.results (dynamic_types p.m x.node) x.node.allocated x.node.returned turn
          → (g : Config) → slice_get (onward (turn_of turn)) q ≡ Some g → g ≡ start_of p.entry → ⊥
      by-turn (Goes moves what c) fit g at e =
          let mv = get-map (λ z. z.to) moves q g at in
          (all-at (IsMove p.m p.target p.live p.entry p.qubits p.results (dynamic_types p.m x.node) x.node.allocated x.node.returned what) moves q mv.0 fit.moves_fit mv.1).no_start (mv.2 ∙ e)
      by-turn (Exits c) fit g at e = cc
      by-turn (Bad why) fit g at e = cc
      by-turn Lost fit g at e = absurd fit

pub adaptive-behaves : ItemsRun → MarksPass → TailsRun → ReturnsRun → StartsRun → StepsKeepConfigurations → InvariantHolds → AdaptiveBehaves
unfolding AdaptiveBehaves InvariantHolds
adaptive-behaves items marks tails returns starts steps holds p caps limit e budget W nodes shared r is_target admitted explored few is_made codes good =
    let P : Program = program p.m p.live p.entry p.qubits p.results caps budget nodes shared r in
    let same : p ≡ P = ap (λ t. record { m = p.m; target = t; live = p.live; entry = p.entry; qubits = p.qubits; results = p.results }) is_target in
    subst (λ t. SameBehaviour p.m (printed r t) (fixed_naming p.qubits p.results) W) (sym is_target)
    (by-adaptive (subst (λ z. IsAdmitted z limit e) same admitted) (subst (λ z. Explored (search_of z budget) (Carries z) nodes) same explored) (subst (λ z. IsMade z nodes shared r) same is_made) (subst (λ t. IsGood r t) is_target good))
  where
    by-adaptive : IsAdmitted (program p.m p.live p.entry p.qubits p.results caps budget nodes shared r) limit e
        → Explored (search_of (program p.m p.live p.entry p.qubits p.results caps budget nodes shared r) budget) (Carries (program p.m p.live p.entry p.qubits p.results caps budget nodes shared r)) nodes
        → IsMade (program p.m p.live p.entry p.qubits p.results caps budget nodes shared r) nodes shared r → IsGood r (Adaptive caps)
        → SameBehaviour p.m (printed r (Adaptive caps)) (fixed_naming p.qubits p.results) W
    by-adaptive a explored is_made good =
        let P : Program = program p.m p.live p.entry p.qubits p.results caps budget nodes shared r in
        let fits = steps-fit steps P limit e a in
        let none = none-to-first P budget nodes explored fits in
        let first = first-visited (search_of P budget) (Carries P) nodes explored in
        let t = starts r caps [] good in
        let m = p.m in
        let K = required_qubits m limit in
        let R = required_results m limit in
        subst (λ k. SameBehaviour m (printed r (Adaptive caps)) (fixed_naming k p.results) W) is_made.qubits
        (subst (λ k. SameBehaviour m (printed r (Adaptive caps)) (fixed_naming r.own_qubits k) W) is_made.results
        (placed-keeps-behaviour m (printed r (Adaptive caps)) (Adaptive caps) p.live a.numbered.in_range a.live (fixed_naming r.own_qubits r.own_results) W (length nodes)
        (config m p.live p.entry p.qubits p.results caps budget nodes shared r) (rank m p.live p.entry p.qubits p.results caps budget nodes shared r)
        (Stands m p.live p.entry p.qubits p.results caps budget nodes shared r good items marks tails returns explored is_made codes fits none W few)
        e t.0 a.is_entry t.2 (WholeFits m K R) _ (invariant m K R (holds m limit a.numbered a.typed))
        (are-placed m p.live p.entry p.qubits p.results caps budget nodes shared r good items marks tails returns explored is_made codes fits none W few t.0 t.2 starts first.0 first.1 e a.entry first.2)))

pub base-behaves : BaseItemsRun → BaseMarksPass → BaseReturnsRun → BaseStartsRun → StepsKeepConfigurations → InvariantHolds → BaseBehaves
unfolding BaseBehaves InvariantHolds
base-behaves items marks returns starts steps holds p limit e budget W nodes shared r is_target admitted explored few is_made codes good =
    let P : Program = one.program p.m p.live p.entry p.qubits p.results budget nodes shared r in
    let same : p ≡ P = ap (λ t. record { m = p.m; target = t; live = p.live; entry = p.entry; qubits = p.qubits; results = p.results }) is_target in
    subst (λ t. SameBehaviour p.m (printed r t) (fixed_naming p.qubits p.results) W) (sym is_target)
    (by-base (subst (λ z. IsAdmitted z limit e) same admitted) (subst (λ z. Explored (search_of z budget) (Carries z) nodes) same explored) (subst (λ z. IsMade z nodes shared r) same is_made) (subst (λ t. IsGood r t) is_target good))
  where
    by-base : IsAdmitted (one.program p.m p.live p.entry p.qubits p.results budget nodes shared r) limit e
        → Explored (search_of (one.program p.m p.live p.entry p.qubits p.results budget nodes shared r) budget) (Carries (one.program p.m p.live p.entry p.qubits p.results budget nodes shared r)) nodes
        → IsMade (one.program p.m p.live p.entry p.qubits p.results budget nodes shared r) nodes shared r → IsGood r Base
        → SameBehaviour p.m (printed r Base) (fixed_naming p.qubits p.results) W
    by-base a explored is_made good =
        let P : Program = one.program p.m p.live p.entry p.qubits p.results budget nodes shared r in
        let fits = steps-fit steps P limit e a in
        let none = none-to-first P budget nodes explored fits in
        let first = first-visited (search_of P budget) (Carries P) nodes explored in
        let t = starts r [] good in
        let m = p.m in
        let K = required_qubits m limit in
        let R = required_results m limit in
        subst (λ k. SameBehaviour m (printed r Base) (fixed_naming k p.results) W) is_made.qubits
        (subst (λ k. SameBehaviour m (printed r Base) (fixed_naming r.own_qubits k) W) is_made.results
        (placed-keeps-behaviour m (printed r Base) Base p.live a.numbered.in_range a.live (fixed_naming r.own_qubits r.own_results) W (length nodes)
        (one.config m p.live p.entry p.qubits p.results budget nodes shared r) (one.rank m p.live p.entry p.qubits p.results budget nodes shared r)
        (one.Stands m p.live p.entry p.qubits p.results budget nodes shared r good items marks returns explored is_made codes fits none W few t.1 t.3)
        e t.0 a.is_entry t.2 (WholeFits m K R) _ (invariant m K R (holds m limit a.numbered a.typed))
        (one.are-placed m p.live p.entry p.qubits p.results budget nodes shared r good items marks returns explored is_made codes fits none W few t.1 t.3 t.0 t.2 starts first.0 first.1 e a.entry first.2)))
