use Rattle.std.proofs.Common.{sym, subst}
use Rattle.bit_backend.proofs.Names.{Unnamed, unnamed_does_nothing}
use Rattle.bit_backend.proofs.action.action_of.Goals as goal

pub returns-in_default : goal.returns-in_default
returns-in_default c =
    let unnamed = subst Unnamed c.as_slice.ensures c.in_default.ensures in
    sym (unnamed_does_nothing c.args.op.now.name unnamed c.args.op.now.args)
