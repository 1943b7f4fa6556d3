-- The lowered program that is made of the reachable configurations of a program.
use Rattle.std.specs.Prelude.{ℕ, ◌+◌, ◌||◌, nat_lt, if◌then◌else◌, Option, None, Some, List, [], ◌∷◌, codes, flat_map, length}
use Rattle.ir_module.specs.declared.tree.Function.{Function}
use Rattle.ir_module.specs.declared.tree.Module.{Module}
use Rattle.ir_module.specs.Classes.{class_of_function}
use Rattle.ir_module.specs.Entry.{has_attribute}
use Rattle.ir_values.specs.declared.class.Class.{Class}
use Rattle.ir_values.specs.declared.class.Class.TheVariants as class
use Rattle.ir_values.specs.Calls.{qis}
use Rattle.ir_values.specs.Names.{name_text}
use Rattle.kept_items.specs.declared.target.Target.{Target}
use Rattle.kept_items.specs.Targets.{has_returns}
use Rattle.residue.specs.declared.parts.Residue.{Residue}
use Rattle.static_steps.specs.declared.config.Config.{Config}
use Rattle.unroller.specs.declared.node.Outcome.{Outcome}
use Rattle.unroller.specs.declared.node.Outcome.TheVariants as outcome
use Rattle.unroller.specs.Programs.{Program}
use Rattle.fused_parts.specs.Nodes.{Node, joins}
use Rattle.fused_parts.specs.Parts.{parts_of}
use Rattle.fused_parts.specs.Ranks.{part_number}

-- ---- exits

abbrev pub exits : Outcome → ℕ
exits (outcome.Goes item choice) = 0
exits (outcome.Exits code) = 1

-- how many configurations return from the entry
abbrev pub count_exits : List Node → ℕ
count_exits [] = 0
count_exits (x ∷ xs) = exits x.item + count_exits xs

-- where the target has one return and several configurations return, they share the part that stands behind all others
abbrev pub shared_exit : Target → List Node → Option ℕ
shared_exit t nodes =
    if has_returns t || nat_lt (count_exits nodes) 2 then None else Some (part_number (joins nodes) (length nodes))

-- ---- operations that can't be undone (QIR specification, 'Base Profile')

-- what calls of a function issue, if it can't be undone: a measurement, `mz` for one that returns its result, or a gate that is declared so
abbrev pub irreversible_as : Function → Option Class → List (List ℕ)
irreversible_as f (Some class.Measure) = name_text f.name ∷ []
irreversible_as f (Some class.Returning) = qis (codes "mz__body") ∷ []
irreversible_as f (Some class.Gate) = if has_attribute (codes "irreversible") f.attrs then (name_text f.name ∷ []) else []
irreversible_as f c = []

abbrev pub irreversible_of : Module → List (List ℕ)
irreversible_of m = flat_map (λ f. irreversible_as f (class_of_function f)) m.funcs

-- ---- the whole program

abbrev pub greater : ℕ → ℕ → ℕ
greater a b = if nat_lt a b then b else a

-- the greatest of a number that each configuration has
abbrev pub greatest : (Config → ℕ) → List Node → ℕ
greatest count [] = 0
greatest count (x ∷ xs) = greater (count x.node) (greatest count xs)

-- allocations have their numbers behind the required qubits, and returned results behind the required results
abbrev pub residue_of : Program → Function → List Node → Residue
residue_of p entry nodes = record {
  globals = p.m.globals;
  entry = entry.name;
  attrs = entry.attrs;
  irreversible = irreversible_of p.m;
  own_qubits = p.qubits;
  own_results = p.results;
  all_qubits = p.qubits + greatest (λ g. g.allocated) nodes;
  all_results = p.results + greatest (λ g. g.returned) nodes;
  parts = parts_of p.m (part_number (joins nodes)) (shared_exit p.target nodes) nodes (joins nodes);
}
