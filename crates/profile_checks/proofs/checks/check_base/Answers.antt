use Rattle.std.proofs.Common.{◌<◌, length, sym, subst}
use Rattle.std.proofs.lemmas.Result.{IfOk-weaker}
use Rattle.ir_module.specs.declared.tree.Module.{Module}
use Rattle.ir_module.specs.Entry.{entry_of}
use Rattle.profile_rules.specs.Base.{ViolatesBase}
use Rattle.profile_rules.specs.Findings.{AreFindings}
use Rattle.profile_checks.specs.Checks.{ViolatesBaseProfile}
use Rattle.profile_checks.proofs.Entries.{entry-within, by-entry}
use Rattle.profile_checks.proofs.checks.check_base.Goals as goal

pub base-requires-clause-entry : goal.base-requires-clause-entry
base-requires-clause-entry c = subst (λ (m : Module). c.entry.result.0 < length m.funcs) (sym c.module.ensures.module) (entry-within c.args.c.now.tree c.entry.result c.entry.ensures.entry)

pub returns : goal.returns
returns c =
    let m = c.args.c.now.tree in
    let e = c.entry.result.0 in
    IfOk-weaker c.base.result (AreFindings (ViolatesBase c.args.form c.module.result.now e)) (AreFindings (ViolatesBaseProfile c.args.form m))
    (λ fs a. by-entry (ViolatesBase c.args.form m) (entry_of m) e c.entry.ensures.entry.number fs (subst (λ (n : Module). AreFindings (ViolatesBase c.args.form n e) fs) c.module.ensures.module a))
    c.base.ensures
