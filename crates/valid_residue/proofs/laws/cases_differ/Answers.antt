use Rattle.std.proofs.Common.{◌≡◌, true, sym, subst}
use Rattle.residue.specs.Valid.{distinct_cases}
use Rattle.fused_parts.specs.Nodes.{joins}
use Rattle.fused_parts.specs.Ranks.{part_number}
use Rattle.lowered_program.specs.Residues.{shared_exit}
use Rattle.valid_residue.specs.Laws.{CasesDiffer}
use Rattle.valid_residue.proofs.Cases.{cases-differ}
use Rattle.valid_residue.proofs.Program.{known-of}
use Rattle.valid_residue.proofs.laws.cases_differ.Goals as goal

pub returns : goal.returns
unfolding CasesDiffer
returns c p nodes r h =
    subst (λ r. distinct_cases r ≡ true) (sym h.made)
    (cases-differ p nodes (part_number (joins nodes)) (shared_exit p.target nodes) (joins nodes) (known-of p nodes r c.steps_keep_configurations.ensures h))
