-- What a call of the program read and wrote.
use Rattle.std.specs.Prelude.{◌≡◌, ◌⊎◌, ℕ, ◌<◌, List, [], length, take, Option, None, Some, IfSome, IsSome, ⊤}
use Rattle.qir_cli.specs.declared.command.Command.{Command}
use Rattle.qir_cli.specs.declared.command.Command.TheVariants.{Print, Check, Lower, Run, Trace, Gen}
use Rattle.qir_cli.specs.declared.reply.Reply.{Reply}
use Rattle.qir_cli.specs.declared.status.Status.{Status}
use Rattle.qir_cli.specs.declared.status.Status.TheVariants.{Done, Refused, BadWords, Stopped, ReadFault, WriteFault, Memory}
use Rattle.qir_cli.specs.Commands.{command_of, turns_of}
use Rattle.qir_cli.specs.Replies.{Replies}
use Rattle.qir_ports.specs.Known.{Takes}
use Rattle.run_commands.specs.Shots.{AreWholeLines}

-- the statuses that come with the whole of a reply
abbrev pub IsAnswered : Status → Type 0
IsAnswered Done = ⊤
IsAnswered Refused = ⊤
IsAnswered BadWords = ⊥
IsAnswered Stopped = ⊤
IsAnswered ReadFault = ⊥
IsAnswered WriteFault = ⊥
IsAnswered Memory = ⊥

-- the command makes its whole text before it writes
abbrev pub WritesAtOnce : Option Command → Type 0
WritesAtOnce None = ⊤
WritesAtOnce (Some Print) = ⊤
WritesAtOnce (Some (Check profile)) = ⊤
WritesAtOnce (Some (Lower target budget)) = ⊤
WritesAtOnce (Some (Run schema steps backends)) = ⊥
WritesAtOnce (Some (Trace steps backend)) = ⊥
WritesAtOnce (Some (Gen turns)) = ⊤

-- the words are no command, or one that looks at a generated text: nothing is read
abbrev pub LeavesInput : Option Command → Type 0
LeavesInput None = ⊤
LeavesInput (Some command) = IsSome (turns_of command)

-- the statuses with which these words write nothing
abbrev pub IsUnwritten : List (List ℕ) → Status → Type 0
IsUnwritten words Done = ⊥
IsUnwritten words Refused = ⊥
IsUnwritten words BadWords = ⊤
IsUnwritten words Stopped = ⊥
IsUnwritten words ReadFault = ⊤
IsUnwritten words WriteFault = ⊥
IsUnwritten words Memory = WritesAtOnce (command_of words)

-- The words are a command, and this is its reply to all the bytes that the source had left, where it tells them.
pub record HasReply (words : List (List ℕ)) (left : Option (List ℕ)) : Type 0 where
  pub command : Command
  pub is_command : command_of words ≡ Some command
  pub bytes : List ℕ
  pub input : IfSome left (λ all. all ≡ bytes)
  pub reply : Reply
  pub replies : Replies command bytes reply

-- it was written whole
pub record Answered (words : List (List ℕ)) (left taken taken' : Option (List ℕ)) (status : Status) : Type 0 where
  pub has : HasReply words left
  pub is_status : has.reply.status ≡ status
  pub written : Takes taken has.reply.text taken'

-- a beginning of it was written, and not all
pub record PartlyAnswered (words : List (List ℕ)) (left taken taken' : Option (List ℕ)) : Type 0 where
  pub has : HasReply words left
  pub count : ℕ
  pub not_all : count < length has.reply.text
  pub written : Takes taken (take count has.reply.text) taken'

-- the first lines of it were written, each whole
pub record FirstLines (words : List (List ℕ)) (left taken taken' : Option (List ℕ)) : Type 0 where
  pub has : HasReply words left
  pub count : ℕ
  pub whole : AreWholeLines (take count has.reply.text)
  pub written : Takes taken (take count has.reply.text) taken'

-- nothing was written, or such lines
abbrev pub WritesLines : List (List ℕ) → (left taken taken' : Option (List ℕ)) → Type 0
WritesLines words left taken taken' = Takes taken [] taken' ⊎ FirstLines words left taken taken'
