use Rattle.base_profile.proofs.Marks.{marked}
use Rattle.base_profile.proofs.called.called.Goals as goal

pub returns : goal.returns
returns c = marked c.args.f.now c.args.count c.in_ok-on.on c.mark_body.new.on c.in_ok-on.ensures c.mark_body.ensures
