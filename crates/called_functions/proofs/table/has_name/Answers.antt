use Rattle.std.proofs.Common.{◌∙◌}
use Rattle.ir_values.specs.Equal.{equal_decides}
use Rattle.called_functions.proofs.Names.{any-same}
use Rattle.called_functions.proofs.table.has_name.Goals as goal

pub returns : goal.returns
returns c = c.contains.ensures ∙ any-same _ (equal_decides _) c.args.name.now c.args.set.now.keys
