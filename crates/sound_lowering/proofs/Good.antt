-- The lowered program of an admitted module is valid for its target, and fits its profile.
use Rattle.std.proofs.Common.{◌≡◌, ◌∙◌, ℕ, ◌≤◌, Bool, true, Option, None, Some, List, refl, sym, ap, subst, arith}
use Rattle.std.specs.Prelude.{◌||◌, not, slice_get}
use Rattle.std.specs.List.{list_all}
use Rattle.admission.proofs.Entries.{entry_at}
use Rattle.base_order.specs.Laws.{BaseKeepsOrder, BasePermits}
use Rattle.ir_module.specs.declared.places.Point.{Point}
use Rattle.ir_module.specs.declared.tree.Module.{Module}
use Rattle.ir_module.specs.Entry.{Entry}
use Rattle.ir_module.specs.Printable.{IsPrintable}
use Rattle.ir_values.specs.declared.class.Class.{Class}
use Rattle.ir_values.specs.declared.class.Class.TheVariants as class
use Rattle.ir_values.specs.declared.ids.LocalId.{LocalId}
use Rattle.ir_values.specs.declared.ty.Ty.TheVariants as ty
use Rattle.ir_values.specs.Calls.{class_of}
use Rattle.ir_values.specs.Types.{signature}
use Rattle.kept_items.specs.declared.item.Item.{Item}
use Rattle.kept_items.specs.declared.item.Item.TheVariants as item
use Rattle.kept_items.specs.declared.target.Target.{Target}
use Rattle.kept_items.specs.declared.target.Target.TheVariants.{Adaptive, Base}
use Rattle.lowered_program.specs.Residues.{residue_of, shared_exit}
use Rattle.lowered_runs.specs.Made.{IsMade}
use Rattle.printed_residue.specs.Laws.{IsGood}
use Rattle.profile_rules.specs.Calls.{is_measure, passes}
use Rattle.profiled_residue.specs.Premises as profile
use Rattle.residue.specs.declared.parts.Residue.{Residue}
use Rattle.residue.specs.Functions.{all_items, is_named, types_of}
use Rattle.residue.specs.Printed.{printed}
use Rattle.residue.specs.Valid.{Valid, phases_in_order, target_permits}
use Rattle.static_steps.specs.declared.config.Config.{Config}
use Rattle.fused_parts.specs.Nodes.{Node, joins}
use Rattle.fused_parts.specs.Ranks.{part_number}
use Rattle.unroller.specs.Programs.{IsReached, LeadOn, Program, step_of}
use Rattle.valid_calls.specs.Laws as calls
use Rattle.valid_calls.specs.Laws.{CallsAgree, MeasurementsAreNamed, NumbersAreSmall}
use Rattle.valid_lines.specs.Laws.{IsStepOf}
use Rattle.valid_parts.specs.Laws.{IsMadeFrom}
use Rattle.valid_residue.specs.Laws.{AdaptivePermits, CasesDiffer, HandlesAreBelow, LabelsAreBelow, NamesDiffer, NodesAreSteps}
use Rattle.valid_residue.specs.Programs.{IsLowered, IsSmall}
use Rattle.sound_lowering.specs.code.Rules.{RulesHold}
use Rattle.sound_lowering.specs.Laws.{HasRoom, IsPermitted}
use Rattle.sound_lowering.specs.Programs.{number_of_entry, program_by, source_limit}
use Rattle.sound_lowering.proofs.Counters.{allocated-below, qubits-below, results-below, returned-below}
use Rattle.sound_lowering.proofs.Shared.{is-made}

-- ---- two tests of measurements are one

measure-same : (c : Class) → is_measure c ≡ calls.is_measurement (Some c)
measure-same class.Init = refl
measure-same class.Alloc = refl
measure-same class.Release = refl
measure-same class.One = refl
measure-same class.Zero = refl
measure-same class.Equal = refl
measure-same class.Count = refl
measure-same class.Read = refl
measure-same class.Tuple = refl
measure-same class.Array = refl
measure-same class.ResRecord = refl
measure-same class.BoolRecord = refl
measure-same class.IntRecord = refl
measure-same class.DoubleRecord = refl
measure-same class.Returning = refl
measure-same class.Measure = refl
measure-same class.Gate = refl

class-same : (o : Option Class) → passes o is_measure ≡ calls.is_measurement o
class-same None = refl
class-same (Some c) = measure-same c

test-same : (names : List (List ℕ)) (x : Item) → calls.measurement_named names x ≡ profile.measurement_named names x
test-same names (item.Operation name args) = ap (λ b. not b || is_named names name) (sym (class-same (class_of name (signature ty.Void (types_of args)))))
test-same names (item.Binary d op flags w a b) = refl
test-same names (item.Icmp d pred w a b) = refl
test-same names (item.Convert d conv w a to) = refl
test-same names (item.Select d w c a b) = refl
test-same names (item.Read d v) = refl
test-same names (item.Equal d v u) = refl
test-same names (item.Output c args) = refl

-- ----

module _ (laws : RulesHold) (m : Module) (t : Target) (budget : ℕ) (live : Point → LocalId → Bool) (e : Entry) (nodes : List Node)
    (permitted : IsPermitted m t budget live e nodes) (leads : (g : Config) → IsReached (program_by m t live) g → LeadOn (program_by m t live) g (step_of (program_by m t live) g)) where
  abbrev p : Program
  p = program_by m t live

  abbrev r : Residue
  r = residue_of p e.function nodes

  lowered : IsLowered p nodes r
  lowered = record {
    limit = source_limit;
    found_entry = e;
    faultless = record {
      numbered = permitted.numbered;
      typed = permitted.typed;
      is_entry = permitted.is_entry;
      entry = ap number_of_entry permitted.is_entry;
      qubits = refl;
      results = refl;
    };
    budget = budget;
    explored = permitted.explored;
    made = refl;
  }

  pub made : IsMade p nodes (shared_exit t nodes) r
  made = is-made p budget nodes permitted.explored e.function

  pub steps : (i : ℕ) (x : Node) → slice_get nodes i ≡ Some x → IsStepOf p x
  unfolding NodesAreSteps
  steps i x at = laws.nodes p nodes r i x lowered at

  made-from : IsMadeFrom p budget nodes (shared_exit t nodes) r
  made-from = record { explored = permitted.explored; steps = steps; made = made }

  pub qubits-fit : r.all_qubits ≤ 1001000000
  qubits-fit =
      let a = allocated-below p leads budget nodes permitted.explored in
      let c = qubits-below m source_limit in
      omega (arith, a, c, permitted.within, permitted.small)

  pub results-fit : r.all_results ≤ 1001000000
  results-fit =
      let a = returned-below p leads budget nodes permitted.explored in
      let c = results-below m source_limit in
      omega (arith, a, c, permitted.within, permitted.small)

  small : HasRoom m nodes r → IsSmall p nodes r
  small room = record {
    configurations = omega (arith, permitted.within, permitted.small);
    qubits = omega (arith, qubits-fit);
    results = omega (arith, results-fit);
    values = room.values;
    parameters = room.parameters;
  }

  permits : (target : Target) → t ≡ target → (target_permits r t ≡ true) × (phases_in_order r t ≡ true)
  unfolding AdaptivePermits BasePermits BaseKeepsOrder
  permits (Adaptive caps) is = (laws.adaptive p caps nodes r is lowered, ap (phases_in_order r) is)
  permits Base is = (laws.base p nodes r is lowered, laws.order p nodes r is lowered)

  pub valid : HasRoom m nodes r → Valid r t
  unfolding CasesDiffer NamesDiffer LabelsAreBelow CallsAgree NumbersAreSmall
  valid room =
      let items = laws.items p nodes (joins nodes) (part_number (joins nodes)) (shared_exit t nodes) r steps refl in
      let target = permits t refl in
      record {
        start = laws.start p budget nodes (shared_exit t nodes) r made-from;
        jumps = laws.jumps p budget nodes (shared_exit t nodes) r made-from;
        cases = laws.cases p nodes r lowered;
        scopes = laws.scopes p budget nodes (shared_exit t nodes) r made-from;
        allowed = items.allowed;
        types = laws.types p budget nodes (shared_exit t nodes) r made-from;
        operations = items.operations;
        outputs = items.outputs;
        constants = laws.constants p budget nodes (shared_exit t nodes) r made-from;
        names = laws.names p nodes r lowered;
        calls = laws.agree p nodes r lowered;
        labels = laws.labels p nodes r lowered;
        numbers = laws.numbers p nodes r lowered (small room);
        permits = target.0;
        phases = target.1;
      }

  pub good : HasRoom m nodes r → IsGood r t
  unfolding HandlesAreBelow
  good room = record { valid = valid room; below = laws.handles p nodes r lowered }

  pub fits-profile : profile.FitsProfile r t
  unfolding MeasurementsAreNamed
  fits-profile = record {
    measurements = ap (λ f. list_all f (all_items r)) (λ i x. sym (test-same r.irreversible x) i) ∙ laws.measured p nodes r lowered;
    onward = laws.onward p budget nodes (shared_exit t nodes) r permitted.explored steps made;
  }

  pub prints : HasRoom m nodes r → IsPrintable m → IsPrintable (printed r t)
  prints room printable =
      laws.prints p budget e.function nodes t printable (subst (λ f. slice_get m.funcs f.0 ≡ Some e.function) (sym (ap number_of_entry permitted.is_entry)) (entry_at m e permitted.is_entry).0)
      permitted.explored steps (record { qubits = omega (arith, qubits-fit); results = omega (arith, results-fit) }) (valid room)
