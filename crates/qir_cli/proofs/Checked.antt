-- The reply of `check`: there is one, just one, and it has a status of replies.
use Rattle.std.proofs.Common.{◌≡◌, ◌∙◌, Bool, true, false, refl, ap, sym, subst, if◌then◌else◌}
use Rattle.std.specs.Prelude.{Result, Ok, Err}
use Rattle.check_command.specs.declared.profile.Profile.{Profile}
use Rattle.check_command.specs.Laws.{ReportsAreOne, ReportsExist}
use Rattle.check_command.specs.Reporting.{Reports}
use Rattle.ir_reader.specs.declared.parsed.Parsed.{Parsed}
use Rattle.profile_checks.specs.declared.report.Report.{Report}
use Rattle.qir_cli.specs.Checking.{Checks, reported}
use Rattle.qir_cli.specs.declared.refusal.Refusal.{Refusal}
use Rattle.qir_cli.specs.declared.reply.Reply.{Reply}
use Rattle.qir_cli.specs.declared.status.Status.TheVariants.{Done, Refused}
use Rattle.qir_cli.specs.Outcomes.{IsAnswered}
use Rattle.qir_cli.specs.Replies.{reply_of}
use Rattle.qir_cli.specs.Stages.{AtMostOne, AtLeastOne}

pub checks-one : ReportsAreOne → (profile : Profile) (parsed : Parsed) → AtMostOne (Checks profile parsed)
checks-one one profile parsed (Ok r) (Ok s) a b =
    ap Ok (a.told ∙ ap reported (one profile parsed.module parsed.places a.report b.report a.reports b.reports) ∙ sym b.told)
checks-one one profile parsed (Ok r) (Err w) a b = absurd b
checks-one one profile parsed (Err v) s a b = absurd a

pub checks-some : ReportsExist → (profile : Profile) (parsed : Parsed) → AtLeastOne (Checks profile parsed)
checks-some exist profile parsed =
    let x = exist profile parsed.module parsed.places in
    (Ok (reported x.0), record { report = x.0; reports = x.1; told = refl })

report-answered : (clean : Bool) → IsAnswered (if clean then Done else Refused)
report-answered true = tt
report-answered false = tt

pub checks-answered : (profile : Profile) (parsed : Parsed) (end : Result Reply Refusal) → Checks profile parsed end → IsAnswered (reply_of end).status
checks-answered profile parsed (Ok reply) c = subst (λ r. IsAnswered r.status) (sym c.told) (report-answered c.report.clean)
checks-answered profile parsed (Err why) c = absurd c

-- ---- the code

pub report-checks : (profile : Profile) (parsed : Parsed) (report : Report) (reply : Reply) → Reports profile parsed.module parsed.places report → reply ≡ reported report
    → Checks profile parsed (Ok reply)
report-checks profile parsed report reply r e = record { report = report; reports = r; told = e }
