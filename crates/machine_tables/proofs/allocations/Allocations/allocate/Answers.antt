use Rattle.std.proofs.Common.{◌∙◌, ap}
use Rattle.machine_tables.specs.Allocated.{allocated_of}
use Rattle.machine_tables.proofs.Numbers.{allocated-push}
use Rattle.machine_tables.proofs.allocations.Allocations.allocate.Goals as goal

pub returns-clause-ok : goal.returns-clause-ok
returns-clause-ok c = ap allocated_of c.in_ok-push.ensures.ok ∙ allocated-push c.self.inside.held c.args.self.now c.self.view_is
