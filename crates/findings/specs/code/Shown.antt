-- A call as contracts see it.
use Rattle.profile_rules.specs.Calls.{Call}
use Rattle.findings.specs.declared.calls.Call.{Call as CallRef}

abbrev pub shown : CallRef → Call
shown c = record { callee = c.callee; args = c.args.now }
