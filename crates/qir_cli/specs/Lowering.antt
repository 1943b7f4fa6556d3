-- What `lower` replies.
use Rattle.std.specs.Prelude.{◌≡◌, ℕ, Result, Ok, Err}
use Rattle.ir_module.specs.declared.places.Point.{Point}
use Rattle.ir_module.specs.declared.places.Spot.TheVariants.{At}
use Rattle.ir_module.specs.declared.tree.Module.{Module}
use Rattle.ir_printer.specs.Canonical.{canonical}
use Rattle.ir_reader.specs.declared.parsed.Parsed.{Parsed}
use Rattle.kept_items.specs.declared.target.Kind.{Kind}
use Rattle.kept_items.specs.declared.target.Target.{Target}
use Rattle.sound_lowering.specs.Programs.{IsLowered, IsNotLowered}
use Rattle.qir_cli.specs.Admission.{place_at}
use Rattle.qir_cli.specs.declared.refusal.Fault.TheVariants.{Lower}
use Rattle.qir_cli.specs.declared.refusal.Refusal.{Refusal}
use Rattle.qir_cli.specs.declared.reply.Reply.{Reply}
use Rattle.qir_cli.specs.declared.status.Status.TheVariants.{Done}

-- the canonical text of the lowered module is written
pub record RepliesLowered (t : Target) (budget : ℕ) (m : Module) (reply : Reply) : Type 0 where
  pub lowered : Module
  pub is_lowered : IsLowered m t budget lowered
  pub status : reply.status ≡ Done
  pub text : reply.text ≡ canonical lowered

-- the first instruction in path order that decides against it is told, with its place
pub record TellsInstruction (t : Target) (budget : ℕ) (parsed : Parsed) (why : Refusal) : Type 0 where
  pub at : Point
  pub kind : Kind
  pub decides : IsNotLowered parsed.module t budget at kind
  pub told : why ≡ record { fault = Lower kind; place = place_at parsed (At at) }

abbrev pub Lowers : Target → ℕ → Parsed → Result Reply Refusal → Type 0
Lowers t budget parsed (Ok reply) = RepliesLowered t budget parsed.module reply
Lowers t budget parsed (Err why) = TellsInstruction t budget parsed why
