use Rattle.std.proofs.Common.{map}
use Rattle.ir_names.specs.Places.{phi_token, line_token}
use Rattle.ir_names.proofs.Order.{three_parts}
use Rattle.ir_names.proofs.marks.Marks.inner.Goals as goal

pub returns-clause-places : goal.returns-clause-places
returns-clause-places c =
    let k = c.args.block.now in
    three_parts c.args.self.now.lines c.phis.new.self.lines c.insts.new.self.lines c.args.point c.in_ok-behind_phis.behind_phis c.in_ok-behind.behind
    (map phi_token k.lines.phis) (map line_token k.lines.insts) k.last
    c.args.self.now.places c.phis.new.self.places c.insts.new.self.places c.point.new.self.places
    c.phis.ensures.text c.insts.ensures.text
    (rw c.as_slice.ensures at c.in_ok-behind_phis.ensures.next) (rw c.as_slice-2.ensures at c.in_ok-behind.ensures.next)
    (rw c.as_slice.ensures at c.in_ok-behind_phis.ensures.places) (rw c.as_slice-2.ensures at c.in_ok-behind.ensures.places)
    c.in_ok-end.ensures.places
