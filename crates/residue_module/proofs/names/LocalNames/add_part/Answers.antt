use Rattle.std.proofs.Common.{subst}
use Rattle.std.proofs.lemmas.Result.{on_ok_weaker}
use Rattle.residue.specs.Printed.{names_of_items, names_of_params}
use Rattle.residue.specs.Scopes.{items_of}
use Rattle.residue_module.specs.code.Names.{Adds}
use Rattle.residue_module.proofs.Named.{adds-two}
use Rattle.residue_module.proofs.names.LocalNames.add_part.Goals as goal

pub returns : goal.returns
returns c = on_ok_weaker c.add_lines.result (λ e.
    adds-two (names_of_params c.args.part.now.params) (names_of_items (items_of c.args.part.now.lines)) c.args.self.now c.add_params.new.self c.add_lines.new.self
    (subst (λ ps. Adds (names_of_params ps) c.args.self.now c.add_params.new.self) c.as_slice.ensures c.in_ok-add_params.ensures)
    (subst (λ ls. Adds (names_of_items (items_of ls)) c.add_params.new.self c.add_lines.new.self) c.as_slice-2.ensures e)) c.add_lines.ensures
