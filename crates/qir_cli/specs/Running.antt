-- What `run` and `trace` reply.
use Rattle.std.specs.Prelude.{◌≡◌, ℕ, Bool, if◌then◌else◌, Result, Ok, Err, List}
use Rattle.ir_module.specs.declared.tree.Module.{Module}
use Rattle.ir_reader.specs.declared.parsed.Parsed.{Parsed}
use Rattle.output_lines.specs.declared.last.Schema.{Schema}
use Rattle.run_commands.specs.Shots.{IsRun, IsTrace}
use Rattle.shots.specs.declared.backend.Backend.{Backend}
use Rattle.qir_cli.specs.declared.refusal.Refusal.{Refusal}
use Rattle.qir_cli.specs.declared.reply.Reply.{Reply}
use Rattle.qir_cli.specs.declared.status.Status.{Status}
use Rattle.qir_cli.specs.declared.status.Status.TheVariants.{Done, Stopped}

-- the status where the entry returned in all shots, and where it did not in one
abbrev pub ended : Bool → Status
ended all = if all then Done else Stopped

-- the records of a shot with each backend, each of at most so many steps, are written
pub record RepliesRun (schema : Schema) (steps : ℕ) (backends : List Backend) (m : Module) (reply : Reply) : Type 0 where
  pub all : Bool
  pub is_run : IsRun schema backends m steps reply.text all
  pub status : reply.status ≡ ended all

-- the events of a shot are written
pub record RepliesTrace (steps : ℕ) (backend : Backend) (m : Module) (reply : Reply) : Type 0 where
  pub all : Bool
  pub is_trace : IsTrace backend m steps reply.text all
  pub status : reply.status ≡ ended all

abbrev pub RunsShots : Schema → ℕ → List Backend → Parsed → Result Reply Refusal → Type 0
RunsShots schema steps backends parsed (Ok reply) = RepliesRun schema steps backends parsed.module reply
RunsShots schema steps backends parsed (Err why) = ⊥

abbrev pub TracesShot : ℕ → Backend → Parsed → Result Reply Refusal → Type 0
TracesShot steps backend parsed (Ok reply) = RepliesTrace steps backend parsed.module reply
TracesShot steps backend parsed (Err why) = ⊥
