-- What is known of the configurations of a program without faults.
use Rattle.std.proofs.Common.{◌≡◌, ℕ, Some, List, slice_get, sym, subst}
use Rattle.ir_module.specs.Entry.{Entry}
use Rattle.ir_values.specs.declared.ids.FuncId.{FuncId}
use Rattle.type_check.specs.Required.{required_qubits, required_results}
use Rattle.path_search.specs.Explored.{Explored}
use Rattle.residue.specs.declared.parts.Residue.{Residue}
use Rattle.static_steps.specs.declared.config.Config.{Config}
use Rattle.static_steps.specs.Configurations.{IsConfiguration}
use Rattle.fused_parts.specs.Nodes.{Node}
use Rattle.unroller.specs.Programs.{Carries, IsReached, Program, search_of, step_of}
use Rattle.valid_steps.specs.Laws.{StepsKeepConfigurations, entry_id}
use Rattle.valid_steps.specs.Turns.{IsTurn}
use Rattle.valid_steps.specs.Types.{dynamic_types}
use Rattle.valid_residue.specs.Programs.{IsFaultless, IsLowered}
use Rattle.valid_residue.proofs.Nodes.{IsKnown}

module _ (p : Program) (limit : ℕ) (e : Entry) (h : IsFaultless p limit e) (law : StepsKeepConfigurations) where
  turn-at : (entry : FuncId) (k r : ℕ) → p.entry ≡ entry → p.qubits ≡ k → p.results ≡ r
      → ((g : Config) → IsConfiguration p.m p.target p.live entry k r g → IsTurn p.m p.target p.live entry k r (dynamic_types p.m g) g.allocated g.returned (step_of p g))
      → (g : Config) → IsReached p g → IsTurn p.m p.target p.live p.entry p.qubits p.results (dynamic_types p.m g) g.allocated g.returned (step_of p g)
  turn-at entry k r e q s h g reached =
      subst (λ x. IsTurn p.m p.target p.live x p.qubits p.results (dynamic_types p.m g) g.allocated g.returned (step_of p g)) (sym e)
      (subst (λ x. IsTurn p.m p.target p.live entry x p.results (dynamic_types p.m g) g.allocated g.returned (step_of p g)) (sym q)
      (subst (λ x. IsTurn p.m p.target p.live entry k x (dynamic_types p.m g) g.allocated g.returned (step_of p g)) (sym s)
      (h g
      (subst (λ x. IsConfiguration p.m p.target p.live x k r g) e
      (subst (λ x. IsConfiguration p.m p.target p.live p.entry x r g) q
      (subst (λ x. IsConfiguration p.m p.target p.live p.entry p.qubits x g) s reached))))))

  -- the step of a configuration
  pub turns : (g : Config) → IsReached p g → IsTurn p.m p.target p.live p.entry p.qubits p.results (dynamic_types p.m g) g.allocated g.returned (step_of p g)
  unfolding StepsKeepConfigurations
  turns g reached =
      turn-at (entry_id e) (required_qubits p.m limit) (required_results p.m limit) h.entry h.qubits h.results (λ g c. law p.m limit p.target p.live e g h.numbered h.typed h.is_entry c) g reached

  -- each configuration that is explored has the outcome of its step
  pub known : (budget : ℕ) (nodes : List Node) → Explored (search_of p budget) (Carries p) nodes → (i : ℕ) (x : Node) → slice_get nodes i ≡ Some x → IsKnown p nodes x
  known budget nodes explored i x at =
      let c = explored.carries i x at in record { step = record { turn = turns x.node c.reached; outcome = c.outcome }; links = explored.links i x at }

pub known-of : (p : Program) (nodes : List Node) (r : Residue) → StepsKeepConfigurations → (h : IsLowered p nodes r) → (i : ℕ) (x : Node) → slice_get nodes i ≡ Some x → IsKnown p nodes x
known-of p nodes r law h i x at = known p h.limit h.found_entry h.faultless law h.budget nodes h.explored i x at
