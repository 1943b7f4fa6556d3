-- How the code stops and sends what it has.
use Rattle.std.specs.Prelude.{◌≡◌, ℕ, ◌<◌, Bool, List, length, take, Option, Some, IfSome, Result, Ok, Err, ⊤}
use Rattle.ir_reader.specs.declared.parsed.Parsed.{Parsed}
use Rattle.ir_reader.specs.declared.parsed.ReadStop.{ReadStop}
use Rattle.ir_reader.specs.declared.parsed.ReadStop.TheVariants as read
use Rattle.ir_reader.specs.Spelling.{Spells}
use Rattle.ir_values.specs.Counts.{Rose}
use Rattle.output_lines.specs.declared.line.ShotStop.{ShotStop}
use Rattle.output_lines.specs.declared.line.ShotStop.TheVariants as shot
use Rattle.qir_cli.specs.declared.command.Command.{Command}
use Rattle.qir_cli.specs.declared.refusal.Fault.TheVariants.{Read}
use Rattle.qir_cli.specs.declared.refusal.Refusal.{Refusal}
use Rattle.qir_cli.specs.declared.refusal.Stop.{Stop}
use Rattle.qir_cli.specs.declared.refusal.Stop.TheVariants as stop
use Rattle.qir_cli.specs.declared.reply.Reply.{Reply}
use Rattle.qir_cli.specs.declared.status.Status.{Status}
use Rattle.qir_cli.specs.declared.status.Status.TheVariants.{Done, ReadFault, WriteFault, Memory}
use Rattle.qir_cli.specs.Headline.{KeepsBy}
use Rattle.qir_cli.specs.Outcomes.{WritesAtOnce}
use Rattle.qir_cli.specs.Replies.{ComesFrom, DoesAdmitted, IsReplyTo, refused, text_for}
use Rattle.qir_cli.specs.Running.{ended}
use Rattle.qir_ports.specs.Known.{Takes}
use Rattle.run_commands.specs.Shots.{AreWholeLines}

abbrev pub stop_of : ReadStop → Stop
stop_of (read.Refused code place) = stop.Refused (record { fault = Read code; place = place })
stop_of read.Memory = stop.Memory

-- what a stage comes to in code, where there may be no memory
abbrev pub Meets : {A : Type 0} → (Result A Refusal → Type 0) → Result A Stop → Type 0
Meets ComesTo (Ok x) = ComesTo (Ok x)
Meets ComesTo (Err (stop.Refused why)) = ComesTo (Err why)
Meets ComesTo (Err stop.Memory) = ⊤

-- what is said of a reply that ends well
abbrev pub KeepsWell : Command → List ℕ → Reply → Type 0
KeepsWell command bytes reply = reply.status ≡ Done → KeepsBy command bytes reply.text

-- the reply of what a command came to in code
abbrev pub IsReplyOf : Result Reply Stop → Reply → Type 0
IsReplyOf (Ok reply) r = r ≡ reply
IsReplyOf (Err (stop.Refused why)) r = r ≡ refused why
IsReplyOf (Err stop.Memory) r = ⊥

-- the command writes line by line
abbrev pub ByLines : Command → Type 0
ByLines command = WritesAtOnce (Some command) → ⊥

-- What becomes of a reply with P at a sink: it is written whole; or its beginning is, where a write failed; or there is no memory, and
-- nothing is written, or by a command that writes line by line its first lines are, each whole.
pub data Becomes {K : Type 0} (Lines : Type 0) (P : Reply → Type 0) (taken : K → Option (List ℕ)) (faults : K → ℕ) (k k' : K)
    : Status → Type 0 where
  whole : (reply : Reply) → P reply → Takes (taken k) reply.text (taken k') → Becomes Lines P taken faults k k' reply.status
  in_part : (reply : Reply) → P reply → (count : ℕ) → count < length reply.text → Takes (taken k) (take count reply.text) (taken k')
      → Rose (faults k) (faults k') → Becomes Lines P taken faults k k' WriteFault
  in_lines : Lines → (reply : Reply) → P reply → (count : ℕ) → AreWholeLines (take count reply.text)
      → Takes (taken k) (take count reply.text) (taken k') → Becomes Lines P taken faults k k' Memory
  nothing : k' ≡ k → Becomes Lines P taken faults k k' Memory

-- the reply of a command to the text that it looks at, and what it keeps
abbrev pub RepliesWell : Command → List ℕ → Reply → Type 0
RepliesWell command text reply = IsReplyTo (ComesFrom command text) reply × KeepsWell command text reply

-- the command looks at this text, where the source had so much left
pub record LooksAt (command : Command) (left : Option (List ℕ)) (text : List ℕ) : Type 0 where
  pub bytes : List ℕ
  pub input : IfSome left (λ all. all ≡ bytes)
  pub is : text ≡ text_for command bytes

-- What a command comes to at its source and its sink: its reply to the text that it looks at; or a read fails, which is counted (Failed),
-- and nothing is written; or there is no memory for the text.
pub data Serves {K : Type 0} (command : Command) (left : Option (List ℕ)) (Failed : Type 0)
    (taken : K → Option (List ℕ)) (faults : K → ℕ) (k k' : K) : Status → Type 0 where
  replies : (text : List ℕ) (s : Status) → LooksAt command left text
      → Becomes (ByLines command) (RepliesWell command text) taken faults k k' s → Serves command left Failed taken faults k k' s
  not_read : Failed → k' ≡ k → Serves command left Failed taken faults k k' ReadFault
  no_room : k' ≡ k → Serves command left Failed taken faults k k' Memory

-- its reply to a module that was admitted, and what it keeps of all bytes that spell it
abbrev pub DoesWell : Command → Parsed → Reply → Type 0
DoesWell command parsed reply =
    IsReplyTo (DoesAdmitted command parsed) reply × ((bytes : List ℕ) → Spells parsed.module bytes → KeepsWell command bytes reply)

-- the status of a command that told its shots
abbrev pub told_status : Result Bool ShotStop → Status
told_status (Ok all) = ended all
told_status (Err shot.Write) = WriteFault
told_status (Err shot.Memory) = Memory
