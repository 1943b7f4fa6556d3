use Rattle.std.proofs.Common.{◌∙◌}
use Rattle.ir_module.specs.Steps.{PhiAt}
use Rattle.type_check.proofs.StepBreaks.{types_then, types_else}
use Rattle.type_check.proofs.scene.Scene.phi_types.Goals as goal

pub returns-then-seen : goal.returns-then-seen
returns-then-seen c = types_then c.args.self.now.tree.now c.args.self.now.function.now (PhiAt c.args.phi.now) c.args.seen c.phi_shape-shape.result c.requires c.phi_shape-shape.ensures c.if-seen.true

pub returns-else-seen : goal.returns-else-seen
returns-else-seen c = c.if-seen.false ∙ types_else c.args.self.now.tree.now c.args.self.now.function.now (PhiAt c.args.phi.now) c.args.seen c.requires c.if-seen.false
