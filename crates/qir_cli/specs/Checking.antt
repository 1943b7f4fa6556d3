-- What `check` replies.
use Rattle.std.specs.Prelude.{◌≡◌, if◌then◌else◌, Result, Ok, Err}
use Rattle.check_command.specs.declared.profile.Profile.{Profile}
use Rattle.check_command.specs.Reporting.{Reports}
use Rattle.ir_reader.specs.declared.parsed.Parsed.{Parsed}
use Rattle.profile_checks.specs.declared.report.Report.{Report}
use Rattle.qir_cli.specs.declared.refusal.Refusal.{Refusal}
use Rattle.qir_cli.specs.declared.reply.Reply.{Reply}
use Rattle.qir_cli.specs.declared.status.Status.TheVariants.{Done, Refused}

-- the report is written, and a module that breaks a rule is refused
abbrev pub reported : Report → Reply
reported report = record { status = if report.clean then Done else Refused; text = report.text }

pub record RepliesReport (profile : Profile) (parsed : Parsed) (reply : Reply) : Type 0 where
  pub report : Report
  pub reports : Reports profile parsed.module parsed.places report
  pub told : reply ≡ reported report

abbrev pub Checks : Profile → Parsed → Result Reply Refusal → Type 0
Checks profile parsed (Ok reply) = RepliesReport profile parsed reply
Checks profile parsed (Err why) = ⊥
