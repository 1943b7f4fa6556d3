use Rattle.ir_module.specs.Numbered.{are_few}
use Rattle.residue.specs.Scopes.{item_uses}
use Rattle.called_functions.proofs.Parts.{one-part, rest-few}
use Rattle.called_functions.proofs.table.declare_parts.Goals as goal

pub loop-part-preserved : goal.loop-part-preserved
loop-part-preserved c = (
  rest-few (λ x. are_few (item_uses x)) c.loop-part.parts.now c.in-Some.rest.now c.in-Some.part.now c.in-Some.ensures.cases.0 c.loop-part.invariant.0,
  one-part c.args.irreversible.now.keys c.args.table.now c.loop-part.table c.declare_lines.new.table c.loop-part.parts.now c.in-Some.rest.now c.args.parts.now c.in-Some.part.now c.as_slice.result.now c.in-Some.ensures.cases.0 c.as_slice.ensures c.in_ok-declare_lines.ensures c.loop-part.invariant.1,
)
