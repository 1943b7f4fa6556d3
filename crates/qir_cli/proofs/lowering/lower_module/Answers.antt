use Rattle.qir_cli.proofs.Lowers.{kept-source}
use Rattle.qir_cli.proofs.lowering.lower_module.Goals as goal

pub returns-in_ok-print-in-Ok-clause-kept : goal.returns-in_ok-print-in-Ok-clause-kept
returns-in_ok-print-in-Ok-clause-kept c =
    λ bytes read. kept-source c.canonical_text_spells_its_module.ensures c.args.target c.args.budget c.args.a.now.checked.tree c.in-Ok.module bytes
    c.in_ok-print-in-Ok.field-0 c.requires.printable read c.in-Ok.ensures.lowered c.in_ok-print-in-Ok.ensures
