-- The exit status of each end of a command.
use Rattle.std.specs.Prelude.{ℕ}
use Rattle.qir_cli.specs.declared.status.Status.{Status}
use Rattle.qir_cli.specs.declared.status.Status.TheVariants.{Done, Refused, BadWords, Stopped, ReadFault, WriteFault, Memory}

abbrev pub number_of : Status → ℕ
number_of Done = 0
number_of Refused = 1
number_of BadWords = 2
number_of Stopped = 3
number_of ReadFault = 4
number_of WriteFault = 5
number_of Memory = 6
