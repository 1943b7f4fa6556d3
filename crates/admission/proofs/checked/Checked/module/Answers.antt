use Rattle.std.proofs.Common.{subst}
use Rattle.told_liveness.specs.Tests.{IsLiveTest}
use Rattle.admission.specs.Admitted.{CheckedModule}
use Rattle.admission.specs.Live.{live_in}
use Rattle.admission.proofs.Flows.{is_live_test}
use Rattle.admission.proofs.checked.Checked.module.Goals as goal

pub returns-clause-live : goal.returns-clause-live
returns-clause-live c =
    subst (λ (v : CheckedModule). IsLiveTest v.tree (live_in v)) c.self.view_is (is_live_test c.self.inside.tree c.self.inside.tables.flows c.self.invariant.1.flows)
