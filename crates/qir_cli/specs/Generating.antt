-- What `gen` replies.
use Rattle.std.specs.Prelude.{◌≡◌, ℕ, Result, Ok, Err}
use Rattle.generated_summary.specs.Lines.{TellsSummary}
use Rattle.generated_summary.specs.Summaries.{most_configurations, plain_adaptive}
use Rattle.ir_module.specs.declared.tree.Module.{Module}
use Rattle.ir_reader.specs.declared.parsed.Parsed.{Parsed}
use Rattle.qir_cli.specs.declared.refusal.Refusal.{Refusal}
use Rattle.qir_cli.specs.declared.reply.Reply.{Reply}
use Rattle.qir_cli.specs.declared.status.Status.TheVariants.{Done}
use Rattle.qir_cli.specs.Lowering.{TellsInstruction}

-- the lines of the module's summary are written
pub record RepliesSummary (turns : ℕ) (m : Module) (reply : Reply) : Type 0 where
  pub status : reply.status ≡ Done
  pub tells : TellsSummary turns m reply.text

abbrev pub Summarizes : ℕ → Parsed → Result Reply Refusal → Type 0
Summarizes turns parsed (Ok reply) = RepliesSummary turns parsed.module reply
Summarizes turns parsed (Err why) = TellsInstruction plain_adaptive most_configurations parsed why
