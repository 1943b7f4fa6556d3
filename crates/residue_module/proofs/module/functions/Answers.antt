use Rattle.residue_module.proofs.Whole.{items-few}
use Rattle.residue_module.proofs.module.functions.Goals as goal

pub table_of-requires : goal.table_of-requires
table_of-requires c = items-few c.args.residue.now c.args.target c.requires
