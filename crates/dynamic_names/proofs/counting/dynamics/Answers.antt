use Rattle.std.proofs.Common.{arith}
use Rattle.dynamic_names.proofs.Numbers.{none-left}
use Rattle.dynamic_names.proofs.counting.dynamics.Goals as goal

pub returns : goal.returns
returns c =
    let i = c.loop-rest.invariant in
    let z = none-left c.loop-rest.rest.now (let n = c.in_default.len_below in omega (arith, n)) in
    let small = i.small in
    let same = i.same in omega (arith, z, small, same)
