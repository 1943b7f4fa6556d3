-- The headline: what `lower` writes keeps what its source does; and what `gen` says of two runs is so.
use Rattle.std.specs.Prelude.{◌≡◌, ℕ, ⊤, List, Option, Some, IfSome}
use Rattle.generated_summary.specs.Alike.{RunAlike}
use Rattle.ir_module.specs.declared.tree.Module.{Module}
use Rattle.ir_printer.specs.Canonical.{canonical}
use Rattle.ir_reader.specs.Spelling.{Spells}
use Rattle.kept_items.specs.declared.target.Target.{Target}
use Rattle.qir_ports.specs.Known.{Takes}
use Rattle.sound_lowering.specs.Programs.{IsLowered}
use Rattle.sound_lowering.specs.Sound.{IsSound}
use Rattle.qir_cli.specs.Commands.{command_of}
use Rattle.qir_cli.specs.Replies.{text_for}
use Rattle.qir_cli.specs.declared.command.Command.{Command}
use Rattle.qir_cli.specs.declared.command.Command.TheVariants.{Print, Check, Lower, Run, Trace, Gen}

-- The bytes spell a source, and the text, which is canonical, its lowered module: made of all configurations that constant evaluation
-- reaches within the budget, it passes the profile and does what the source does.
pub record KeepsSource (t : Target) (budget : ℕ) (bytes text : List ℕ) : Type 0 where
  pub source : Module
  pub lowered : Module
  pub read : Spells source bytes
  pub spells : Spells lowered text
  pub is_canonical : text ≡ canonical lowered
  pub made : IsLowered source t budget lowered
  pub sound : IsSound source t budget made.nodes lowered

-- They spell a source whose run over classical bits ends, and its lowered module does the same.
pub record KeepsRun (bytes : List ℕ) : Type 0 where
  pub source : Module
  pub read : Spells source bytes
  pub alike : RunAlike source

-- what is kept by the text that a command replies with to the text that it looks at
abbrev pub KeepsBy : Command → List ℕ → List ℕ → Type 0
KeepsBy Print bytes text = ⊤
KeepsBy (Check profile) bytes text = ⊤
KeepsBy (Lower t budget) bytes text = KeepsSource t budget bytes text
KeepsBy (Run schema steps backends) bytes text = ⊤
KeepsBy (Trace steps backend) bytes text = ⊤
KeepsBy (Gen turns) bytes text = KeepsRun bytes

-- The words are a command; of all the bytes that the source had left, where it tells them, the text that was written keeps this.
pub record WritesKept (words : List (List ℕ)) (left taken taken' : Option (List ℕ)) : Type 0 where
  pub command : Command
  pub is_command : command_of words ≡ Some command
  pub bytes : List ℕ
  pub input : IfSome left (λ all. all ≡ bytes)
  pub text : List ℕ
  pub written : Takes taken text taken'
  pub keeps : KeepsBy command (text_for command bytes) text
