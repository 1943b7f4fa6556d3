use Rattle.qir_cli.specs.code.AdmittedCode.{parsed_of}
use Rattle.qir_cli.proofs.Checked.{report-checks}
use Rattle.qir_cli.proofs.reply.check_module.Goals as goal

pub returns : goal.returns
returns c = report-checks c.args.profile (parsed_of c.args.a.now) c.in_ok-report.report c.reported.result c.in_ok-report.ensures c.reported.ensures
