-- Why a program is not lowered.
use Rattle.std.specs.Prelude.{◌≡◌, ℕ, ⊤}
use Rattle.ir_module.specs.declared.places.Point.{Point}
use Rattle.kept_items.specs.declared.target.Kind.{Kind}
use Rattle.kept_items.specs.declared.target.Kind.TheVariants as kind
use Rattle.path_search.specs.declared.reason.Reason.{Reason}
use Rattle.path_search.specs.declared.reason.Reason.TheVariants.{OverBudget, BadNode, LeadsBack}
use Rattle.path_search.specs.Verdict.{Refuses}
use Rattle.static_steps.specs.declared.config.Config.{Config}
use Rattle.unroller.specs.declared.exploration.LowerStop.{LowerStop}
use Rattle.unroller.specs.declared.exploration.LowerStop.TheVariants.{Refused, Memory}
use Rattle.unroller.specs.Programs.{Program, search_of}

abbrev pub kind_of : Reason Kind → Kind
kind_of OverBudget = kind.Budget
kind_of (BadNode k) = k
kind_of LeadsBack = kind.Loop

-- the search refuses the program at a configuration that stands here, for a reason of this kind
pub record IsRefused (p : Program) (budget : ℕ) (at : Point) (kind : Kind) : Type 0 where
  pub config : Config
  pub reason : Reason Kind
  pub refuses : Refuses (search_of p budget) config reason
  pub stands : config.top.at ≡ at
  pub is_kind : kind_of reason ≡ kind

abbrev pub IfRefused : LowerStop → (Point → Kind → Type 0) → Type 0
IfRefused (Refused at kind) P = P at kind
IfRefused Memory P = ⊤
