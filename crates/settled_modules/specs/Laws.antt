-- Lowering what was lowered.
use Rattle.std.specs.Prelude.{◌≡◌, ◌↔◌, ℕ, ◌+◌, ◌*◌, ◌≤◌}
use Rattle.ir_module.specs.declared.tree.Module.{Module}
use Rattle.ir_module.specs.Numbered.{Numbered}
use Rattle.kept_items.specs.declared.target.Target.{Target}
use Rattle.kept_items.specs.declared.target.Target.TheVariants.{Base}
use Rattle.lowered_sizes.specs.Sizes.{instructions}
use Rattle.profiled_residue.specs.Premises.{FitsProfile}
use Rattle.residue.specs.declared.parts.Residue.{Residue}
use Rattle.residue.specs.Valid.{Valid}
use Rattle.sound_lowering.specs.Laws.{HasRoom, lowered_residue}
use Rattle.sound_lowering.specs.Programs.{IsLowered, source_limit}
use Rattle.sound_lowering.specs.Sound.{lowered_limit}
use Rattle.type_check.specs.Faults.{Typed}
use Rattle.type_check.specs.Required.{required_qubits, required_results}
use Rattle.typed_residue.specs.Laws.{FitsLimit}

abbrev pub residue_by : (m : Module) (t : Target) (budget : ℕ) (l : Module) → IsLowered m t budget l → Residue
residue_by m t budget l h = lowered_residue m t h.live h.entry h.nodes

-- m is admitted, and is lowered within the budget to l; the machine's numbers hold what lowering counts
pub record IsLoweredFrom (m : Module) (t : Target) (budget : ℕ) (l : Module) : Type 0 where
  pub numbered : Numbered m
  pub typed : Typed m source_limit
  pub small : budget ≤ 1000000
  pub lowered : IsLowered m t budget l
  pub room : HasRoom m lowered.nodes (residue_by m t budget l lowered)

-- ---- the lowered program

-- it is valid and fits its profile, its handles are below its required numbers, and it requires few more than its source does
pub record Fits (budget : ℕ) (r : Residue) (t : Target) : Type 0 where
  pub valid : Valid r t
  pub profile : FitsProfile r t
  pub limited : FitsLimit r lowered_limit
  pub few_qubits : r.all_qubits ≤ r.own_qubits + budget
  pub few_results : r.all_results ≤ r.own_results + budget

abbrev pub LoweredFits : Type 0
LoweredFits =
    (m : Module) (t : Target) (budget : ℕ) (l : Module) (h : IsLoweredFrom m t budget l) → Fits budget (residue_by m t budget l h.lowered) t

-- ---- a lowered module is a source itself

-- its required numbers are those that it states
pub record RequiresFew (l : Module) : Type 0 where
  pub qubits : required_qubits l lowered_limit ≤ source_limit
  pub results : required_results l lowered_limit ≤ source_limit

-- it is admitted as one exactly where its required numbers are within the limit of sources
abbrev pub LoweredAreSources : Type 0
LoweredAreSources =
    (m : Module) (t : Target) (budget : ℕ) (l : Module) → IsLoweredFrom m t budget l → Typed l source_limit ↔ RequiresFew l

-- so it is where its source requires so much less that each configuration may add one
abbrev pub SmallStaySources : Type 0
SmallStaySources =
    (m : Module) (t : Target) (budget : ℕ) (l : Module)
    → IsLoweredFrom m t budget l
    → required_qubits m source_limit + budget ≤ source_limit
    → required_results m source_limit + budget ≤ source_limit
    → Typed l source_limit

-- ---- lowering it again

-- for the same target it isn't refused within as many configurations as it has instructions that aren't phis, or more
abbrev pub LoweredAgain : Type 0
LoweredAgain =
    (m : Module) (t : Target) (budget : ℕ) (l : Module) (second : ℕ)
    → IsLoweredFrom m t budget l
    → Typed l source_limit
    → instructions l ≤ second
    → (k : Module) × IsLowered l t second k

-- four times the first budget and sixteen more always serves
abbrev pub FourTimesServes : Type 0
FourTimesServes =
    (m : Module) (t : Target) (budget : ℕ) (l : Module)
    → IsLoweredFrom m t budget l
    → Typed l source_limit
    → (k : Module) × IsLowered l t (4 * budget + 16) k

-- and for Base it is lowered to itself
abbrev pub BaseStays : Type 0
BaseStays =
    (m : Module) (budget : ℕ) (l : Module) (second : ℕ) (k : Module)
    → IsLoweredFrom m Base budget l
    → Typed l source_limit
    → IsLowered l Base second k
    → k ≡ l
