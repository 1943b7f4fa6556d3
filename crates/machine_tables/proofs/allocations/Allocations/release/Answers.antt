use Rattle.std.proofs.Common.{◌∙◌, sym, ap, arith}
use Rattle.machine_tables.specs.Allocated.{allocated_of}
use Rattle.machine_tables.proofs.Numbers.{released, set-past}
use Rattle.machine_tables.proofs.allocations.Allocations.release.Goals as goal

pub returns-then-number-len : goal.returns-then-number-len
returns-then-number-len c = ap allocated_of c.set.ensures ∙ released c.self.inside.held c.args.self.now c.args.number c.self.view_is

pub returns-else-number-len : goal.returns-else-number-len
returns-else-number-len c =
    let n = c.len.ensures in
    let past = c.if-number-len.false in
    sym c.self.view_is
    ∙ ap allocated_of (sym (set-past c.self.inside.held c.args.number (omega arith)))
    ∙ released c.self.inside.held c.args.self.now c.args.number c.self.view_is
