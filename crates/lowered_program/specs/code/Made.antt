-- The lowered program, by what it is made of.
use Rattle.std.specs.Prelude.{ℕ, ◌+◌, List}
use Rattle.ir_module.specs.declared.tree.Function.{Function}
use Rattle.ir_module.specs.declared.tree.Module.{Module}
use Rattle.kept_items.specs.declared.target.Target.{Target}
use Rattle.residue.specs.declared.parts.Residue.{Residue}
use Rattle.fused_parts.specs.Nodes.{Node, joins}
use Rattle.fused_parts.specs.Parts.{parts_of}
use Rattle.fused_parts.specs.Ranks.{part_number}
use Rattle.lowered_program.specs.Residues.{greatest, irreversible_of, shared_exit}

-- residue_of a program of this module, target and required numbers
abbrev pub made_of : Module → Target → ℕ → ℕ → Function → List Node → Residue
made_of m t qubits results entry nodes = record {
  globals = m.globals;
  entry = entry.name;
  attrs = entry.attrs;
  irreversible = irreversible_of m;
  own_qubits = qubits;
  own_results = results;
  all_qubits = qubits + greatest (λ g. g.allocated) nodes;
  all_results = results + greatest (λ g. g.returned) nodes;
  parts = parts_of m (part_number (joins nodes)) (shared_exit t nodes) nodes (joins nodes);
}
