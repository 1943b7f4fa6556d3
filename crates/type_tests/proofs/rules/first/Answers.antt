use Rattle.std.proofs.Common.{subst}
use Rattle.std.specs.Prelude.{MatchOption, ⊤}
use Rattle.type_check.specs.Told.{HasPlace}
use Rattle.type_tests.proofs.rules.first.Goals as goal

pub told_at-requires-clause-placed : goal.told_at-requires-clause-placed
told_at-requires-clause-placed c =
    subst (λ o. MatchOption o ⊤ (λ x. HasPlace c.args.parsed.now.module x.0)) c.in-Some.is c.in_ok-fault.ensures.placed
