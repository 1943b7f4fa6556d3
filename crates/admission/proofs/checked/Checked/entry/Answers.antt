use Rattle.std.proofs.Common.{subst}
use Rattle.name_flow.specs.Tables.{HasBody}
use Rattle.admission.specs.Admitted.{CheckedModule}
use Rattle.admission.proofs.Entries.{entry_body}
use Rattle.admission.proofs.checked.Checked.entry.Goals as goal

pub returns-clause-body : goal.returns-clause-body
returns-clause-body c =
    let t = c.self.inside.tables in
    subst (λ (v : CheckedModule). HasBody v.tree t.entry) c.self.view_is (entry_body c.self.inside.tree t.entry c.self.invariant.1.entry.number)
