use Rattle.std.proofs.Common.{◌≡◌, length, true, sym, subst}
use Rattle.std.proofs.lemmas.Bool.{and_from}
use Rattle.std.specs.List.{list_all}
use Rattle.ir_module.specs.Numbered.{are_few}
use Rattle.residue.specs.Scopes.{written}
use Rattle.residue.specs.Valid.{label_below, labels_below}
use Rattle.fused_parts.specs.Nodes.{joins}
use Rattle.fused_parts.specs.Ranks.{part_number}
use Rattle.lowered_program.specs.Residues.{residue_of, shared_exit}
use Rattle.valid_residue.specs.Laws.{LabelsAreBelow}
use Rattle.valid_residue.proofs.Names.{few-constants}
use Rattle.valid_residue.proofs.Operands.{labels-fit}
use Rattle.valid_residue.proofs.Program.{known-of}
use Rattle.valid_residue.proofs.laws.labels_are_below.Goals as goal

pub returns : goal.returns
unfolding LabelsAreBelow
returns c p nodes r h =
    subst (λ r. labels_below r ≡ true) (sym h.made)
    (and_from (are_few p.m.globals) (list_all (label_below (length p.m.globals)) (written (residue_of p h.found_entry.function nodes))) (few-constants p.m h.faultless.numbered)
    (labels-fit p nodes (part_number (joins nodes)) (shared_exit p.target nodes) (joins nodes) (known-of p nodes r c.steps_keep_configurations.ensures h)))
