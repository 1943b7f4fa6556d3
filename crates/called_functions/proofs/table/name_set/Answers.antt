use Rattle.ir_values.specs.Equal.{equal_decides}
use Rattle.called_functions.proofs.Names.{set-step}
use Rattle.called_functions.proofs.table.name_set.Goals as goal

pub loop-name-preserved : goal.loop-name-preserved
loop-name-preserved c = λ n. set-step _ (equal_decides _) c.loop-name.set.keys c.insert.new.self.keys c.loop-name.names.now c.in-Some.rest.now c.in-Some.name.now _ n _ c.in-Some.ensures.cases.0 c.in_ok-insert.ensures.keys c.in_ok-copy.ensures (c.loop-name.invariant n)
