use Rattle.std.proofs.Common.{◌≡◌, true, refl, sym, subst}
use Rattle.residue.specs.Valid.{handles_below}
use Rattle.fused_parts.specs.Nodes.{joins}
use Rattle.fused_parts.specs.Ranks.{part_number}
use Rattle.lowered_program.specs.Residues.{residue_of, shared_exit}
use Rattle.valid_residue.specs.Laws.{HandlesAreBelow}
use Rattle.valid_residue.proofs.Operands.{handles-fit}
use Rattle.valid_residue.proofs.Program.{known-of}
use Rattle.valid_residue.proofs.laws.handles_are_below.Goals as goal

pub returns : goal.returns
unfolding HandlesAreBelow
returns c p nodes r h =
    subst (λ r. handles_below r ≡ true) (sym h.made)
    (handles-fit p nodes (part_number (joins nodes)) (shared_exit p.target nodes) (joins nodes) (known-of p nodes r c.steps_keep_configurations.ensures h)
    (residue_of p h.found_entry.function nodes) refl refl refl refl)
