-- What a lowered module keeps, where the residue that it is printed from is valid.
use Rattle.std.proofs.Common.{◌≡◌, ℕ, ◌≤◌, List, length, refl, arith}
use Rattle.std.specs.Prelude.{Bool}
use Rattle.ir_module.specs.declared.tree.Module.{Module}
use Rattle.ir_module.specs.declared.places.Point.{Point}
use Rattle.ir_module.specs.Entry.{Entry}
use Rattle.ir_values.specs.declared.ids.LocalId.{LocalId}
use Rattle.ir_module.specs.Numbered.{Numbered}
use Rattle.ir_module.specs.Printable.{IsPrintable}
use Rattle.kept_items.specs.declared.target.Target.{Target}
use Rattle.kept_items.specs.declared.target.Target.TheVariants.{Adaptive, Base}
use Rattle.lowered_program.specs.Residues.{residue_of, shared_exit}
use Rattle.lowered_runs.specs.Laws.{AdaptiveBehaves, BaseBehaves, IsAdmitted}
use Rattle.lowered_runs.specs.Made.{CodesFit, IsMade}
use Rattle.lowered_sizes.specs.Sizes.{HasFewInstructions, HasFewPhis}
use Rattle.numbered_residue.specs.Laws.{PrintedIsNumbered}
use Rattle.path_search.specs.Explored.{Explored}
use Rattle.printed_residue.specs.Laws.{IsGood}
use Rattle.profiled_residue.specs.Laws.{PrintedPasses}
use Rattle.profiled_residue.specs.Premises.{FitsProfile}
use Rattle.qir_meaning.specs.Apart.{KeepsApart}
use Rattle.qir_meaning.specs.Naming.{fixed_naming}
use Rattle.qir_meaning.specs.Runs.{AlwaysRuns}
use Rattle.qir_meaning.specs.Same.{SameBehaviour}
use Rattle.residue.specs.declared.parts.Residue.{Residue}
use Rattle.residue.specs.Printed.{printed}
use Rattle.static_steps.specs.declared.config.Config.{Config}
use Rattle.type_check.specs.Faults.{Typed}
use Rattle.typed_residue.specs.Laws.{FitsLimit, PrintedIsTyped}
use Rattle.typed_runs.specs.Laws.{FixedNamingFits, NeverStuck}
use Rattle.fused_parts.specs.Nodes.{Node, joins}
use Rattle.fused_parts.specs.Ranks.{part_number}
use Rattle.unroller.specs.Programs.{Carries, IsReached, LeadOn, Program, search_of, step_of}
use Rattle.sound_lowering.specs.Programs.{naming_of, program_by, source_limit}
use Rattle.sound_lowering.specs.Sound.{IsSound, lowered_limit}
use Rattle.sound_lowering.proofs.Counters.{allocated-below, qubits-below, results-below, returned-below}

-- the laws that the conclusion rests on
pub record AreProved : Type 0 where
  pub adaptive : AdaptiveBehaves
  pub base : BaseBehaves
  pub numbered : PrintedIsNumbered
  pub typed : PrintedIsTyped
  pub passes : PrintedPasses
  pub stuck : NeverStuck
  pub fits : FixedNamingFits
  pub instructions : HasFewInstructions
  pub phis : HasFewPhis

runs-always : NeverStuck → (m : Module) (limit : ℕ) → Numbered m → Typed m limit → AlwaysRuns m
unfolding NeverStuck
runs-always law m limit numbered typed answers n = (law m limit numbered typed answers n).run

-- the fixed naming of an admitted module keeps its handles apart
kept-apart : FixedNamingFits → (m : Module) → Numbered m → Typed m source_limit → KeepsApart (naming_of m) m
unfolding FixedNamingFits
kept-apart law m numbered typed = law m source_limit numbered typed

behaves : AdaptiveBehaves → BaseBehaves → (t : Target) (p : Program) (e : Entry) (budget : ℕ) (nodes : List Node) (r : Residue) → p.target ≡ t
    → IsAdmitted p source_limit e → Explored (search_of p budget) (Carries p) nodes → length nodes ≤ budget → IsMade p nodes (shared_exit p.target nodes) r → CodesFit nodes → IsGood r p.target
    → SameBehaviour p.m (printed r p.target) (fixed_naming p.qubits p.results) budget
unfolding AdaptiveBehaves BaseBehaves
behaves adaptive base (Adaptive caps) p e budget nodes r is admitted explored few made codes good =
    adaptive p caps source_limit e budget budget nodes (shared_exit p.target nodes) r is admitted explored few made codes good
behaves adaptive base Base p e budget nodes r is admitted explored few made codes good =
    base p source_limit e budget budget nodes (shared_exit p.target nodes) r is admitted explored few made codes good

module _ (m : Module) (t : Target) (live : Point → LocalId → Bool) (e : Entry) (budget : ℕ) (nodes : List Node) where
  abbrev p : Program
  p = program_by m t live

  abbrev r : Residue
  r = residue_of p e.function nodes

  module _ (admitted : IsAdmitted p source_limit e) (explored : Explored (search_of p budget) (Carries p) nodes) where
    -- the printed numbers are within the limit of lowered modules
    pub fits-limit : ((g : Config) → IsReached p g → LeadOn p g (step_of p g)) → length nodes ≤ 1000000 → IsGood r t → FitsLimit r lowered_limit
    fits-limit leads few good =
        let a = allocated-below p leads budget nodes explored in
        let b = returned-below p leads budget nodes explored in
        let c = qubits-below m source_limit in
        let d = results-below m source_limit in
        record {
          handles = good.below;
          own_qubits = omega arith;
          own_results = omega arith;
          qubits = omega (arith, a, c, few);
          results = omega (arith, b, d, few);
          small_qubits = omega (arith, a, c, few);
          small_results = omega (arith, b, d, few);
        }

    pub sound : AreProved → ((g : Config) → IsReached p g → LeadOn p g (step_of p g)) → length nodes ≤ budget → budget ≤ 1000000
        → IsMade p nodes (shared_exit t nodes) (residue_of p e.function nodes) → CodesFit nodes → IsGood (residue_of p e.function nodes) t
        → FitsProfile (residue_of p e.function nodes) t
        → (IsPrintable m → IsPrintable (printed (residue_of p e.function nodes) t))
        → IsSound m t budget nodes (printed (residue_of p e.function nodes) t)
    sound laws leads within small made codes good profile prints =
        let few : length nodes ≤ 1000000 = omega (arith, within, small) in
        let numbered = laws.numbered r t good.valid in
        let typed = laws.typed r t lowered_limit good.valid (fits-limit leads few good) in
        record {
          numbered = numbered;
          typed = typed;
          passes = laws.passes r t good.valid profile;
          same = behaves laws.adaptive laws.base t p e budget nodes r refl admitted explored within made codes good;
          apart = kept-apart laws.fits m admitted.numbered admitted.typed;
          source_runs = runs-always laws.stuck m source_limit admitted.numbered admitted.typed;
          lowered_runs = runs-always laws.stuck (printed r t) lowered_limit numbered typed;
          few_instructions = laws.instructions m nodes (joins nodes) (part_number (joins nodes)) (shared_exit t nodes) r t refl;
          few_phis = laws.phis m nodes (joins nodes) (part_number (joins nodes)) (shared_exit t nodes) r t refl;
          printable = prints;
        }
