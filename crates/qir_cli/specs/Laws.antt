-- Laws of replies.
use Rattle.std.specs.Prelude.{◌≡◌, ℕ, true, List}
use Rattle.ir_module.specs.Printable.{are_bytes}
use Rattle.qir_cli.specs.declared.command.Command.{Command}
use Rattle.qir_cli.specs.declared.command.Command.TheVariants.{Print, Check, Lower, Run, Trace, Gen}
use Rattle.qir_cli.specs.Replies.{Replies}
use Rattle.qir_cli.specs.Stages.{AtMostOne, AtLeastOne}

-- the commands that have one text for an input: `run` and `trace` where it is a list of bytes, which every input is
abbrev pub HasOneText : Command → List ℕ → Type 0
HasOneText Print bytes = Unit {0}
HasOneText (Check profile) bytes = Unit {0}
HasOneText (Lower target budget) bytes = Unit {0}
HasOneText (Run schema steps backends) bytes = are_bytes bytes ≡ true
HasOneText (Trace steps backend) bytes = are_bytes bytes ≡ true
HasOneText (Gen turns) bytes = Unit {0}

-- they have at most one reply to it
abbrev pub RepliesAreOne : Type 0
RepliesAreOne = (command : Command) (bytes : List ℕ) → HasOneText command bytes → AtMostOne (Replies command bytes)

-- every command has a reply to every list of bytes
abbrev pub RepliesExist : Type 0
RepliesExist = (command : Command) (bytes : List ℕ) → are_bytes bytes ≡ true → AtLeastOne (Replies command bytes)
