use Rattle.std.proofs.Common.{◌++◌, ◌∷◌, [], Some, ap, ◌∙◌}
use Rattle.std.proofs.lemmas.Result.{on_ok_weaker}
use Rattle.std.specs.Prelude.{codes, decimal}
use Rattle.residue.specs.Functions.{attr}
use Rattle.residue_module.proofs.Appended.{two-pieces}
use Rattle.residue_module.proofs.attributes.add_required.Goals as goal

pub returns : goal.returns
returns c = on_ok_weaker c.add-2.result (λ e.
    two-pieces c.args.attrs.now c.add.new.attrs c.add-2.new.attrs
    (attr (codes "required_num_qubits") (Some (decimal c.args.residue.now.all_qubits)) ∷ []) (attr (codes "required_num_results") (Some (decimal c.args.residue.now.all_results)) ∷ [])
    (c.in_ok-add.ensures ∙ ap (λ q. c.args.attrs.now ++ attr (codes "required_num_qubits") (Some q) ∷ []) c.in_ok-qubits.ensures)
    (e ∙ ap (λ q. c.add.new.attrs ++ attr (codes "required_num_results") (Some q) ∷ []) c.in_ok-results.ensures)) c.add-2.ensures
