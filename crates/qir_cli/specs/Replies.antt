-- The reply of a command to an input: a status, and the text that is written.
use Rattle.std.specs.Prelude.{◌≡◌, ℕ, nat_le, if◌then◌else◌, List, length, Option, None, Some, Result, Ok, Err}
use Rattle.generated_text.specs.Text.{generated}
use Rattle.ir_module.specs.declared.tree.Module.{Module}
use Rattle.ir_printer.specs.Canonical.{canonical}
use Rattle.ir_reader.specs.declared.parsed.Parsed.{Parsed}
use Rattle.qir_cli.specs.Admission.{Admits}
use Rattle.qir_cli.specs.Checking.{Checks}
use Rattle.qir_cli.specs.Commands.{turns_of}
use Rattle.qir_cli.specs.declared.command.Command.{Command}
use Rattle.qir_cli.specs.declared.command.Command.TheVariants.{Print, Check, Lower, Run, Trace, Gen}
use Rattle.qir_cli.specs.declared.refusal.Fault.TheVariants.{TooLong}
use Rattle.qir_cli.specs.declared.refusal.Refusal.{Refusal}
use Rattle.qir_cli.specs.declared.reply.Reply.{Reply}
use Rattle.qir_cli.specs.declared.status.Status.TheVariants.{Done, Refused}
use Rattle.qir_cli.specs.Generating.{Summarizes}
use Rattle.qir_cli.specs.Lowering.{Lowers}
use Rattle.qir_cli.specs.Reading.{Reads}
use Rattle.qir_cli.specs.Refusals.{at_start, refusal_line}
use Rattle.qir_cli.specs.Running.{RunsShots, TracesShot}
use Rattle.qir_cli.specs.Stages.{Then, Is}

-- the greatest number of bytes of an input
abbrev pub limit : ℕ
limit = 4194304

abbrev pub within_limit : List ℕ → Result (List ℕ) Refusal
within_limit bytes = if nat_le (length bytes) limit then Ok bytes else Err (at_start TooLong)

-- what `print` writes is the canonical text of the module
abbrev pub printed : Module → Reply
printed m = record { status = Done; text = canonical m }

-- what a command does with a module that was admitted, and the places of its spots
abbrev pub DoesAdmitted : Command → Parsed → Result Reply Refusal → Type 0
DoesAdmitted Print parsed = Is (Ok (printed parsed.module))
DoesAdmitted (Check profile) parsed = Checks profile parsed
DoesAdmitted (Lower target budget) parsed = Lowers target budget parsed
DoesAdmitted (Run schema steps backends) parsed = RunsShots schema steps backends parsed
DoesAdmitted (Trace steps backend) parsed = TracesShot steps backend parsed
DoesAdmitted (Gen turns) parsed = Summarizes turns parsed

-- with one that was read
abbrev pub Does : Command → Parsed → Result Reply Refusal → Type 0
Does command parsed = Then (Admits parsed) (DoesAdmitted command)

-- with a text within the limit
abbrev pub DoesText : Command → List ℕ → Result Reply Refusal → Type 0
DoesText command text = Then (Reads text) (Does command)

-- what a command comes to with a text: the first stage that refuses, or the reply
abbrev pub ComesFrom : Command → List ℕ → Result Reply Refusal → Type 0
ComesFrom command text = Then (Is (within_limit text)) (DoesText command)

-- the text of a generated program, or the input
abbrev pub generated_or : List ℕ → Option ℕ → List ℕ
generated_or bytes None = bytes
generated_or bytes (Some turns) = generated turns

-- the text that a command looks at
abbrev pub text_for : Command → List ℕ → List ℕ
text_for command bytes = generated_or bytes (turns_of command)

-- what it comes to with an input
abbrev pub ComesTo : Command → List ℕ → Result Reply Refusal → Type 0
ComesTo command bytes = ComesFrom command (text_for command bytes)

abbrev pub refused : Refusal → Reply
refused why = record { status = Refused; text = refusal_line why }

abbrev pub reply_of : Result Reply Refusal → Reply
reply_of (Ok reply) = reply
reply_of (Err why) = refused why

abbrev pub too_long : Reply
too_long = refused (at_start TooLong)

-- the reply of what a stage comes to
abbrev pub IsReplyTo : (Result Reply Refusal → Type 0) → Reply → Type 0
IsReplyTo Comes reply = (end : Result Reply Refusal) × Comes end × (reply ≡ reply_of end)

-- the command's reply to these bytes
abbrev pub Replies : Command → List ℕ → Reply → Type 0
Replies command bytes reply = IsReplyTo (ComesTo command bytes) reply
