use Rattle.std.proofs.lemmas.Result.{on_ok_weaker}
use Rattle.std.specs.Prelude.{codes}
use Rattle.residue.specs.Printed.{flag_on}
use Rattle.residue_module.proofs.Appended.{four-pieces}
use Rattle.residue_module.proofs.flags.add_capabilities.Goals as goal

pub returns : goal.returns
returns c = on_ok_weaker c.add_capability-4.result (λ e.
    four-pieces c.args.flags.now c.add_capability.new.flags c.add_capability-2.new.flags c.add_capability-3.new.flags c.add_capability-4.new.flags
    (flag_on c.args.caps.ints (codes "int_computations")) (flag_on c.args.caps.switch (codes "multiple_target_branching")) (flag_on c.args.caps.returns (codes "multiple_return_points")) (flag_on c.args.caps.loops (codes "backwards_branching"))
    c.in_ok-add_capability.ensures c.in_ok-add_capability-2.ensures c.in_ok-add_capability-3.ensures e) c.add_capability-4.ensures
