-- The rules of a valid lowered program, each as a law of its own.
use Rattle.acyclic_parts.specs.Laws.{JumpsLeadOn}
use Rattle.base_order.specs.Laws.{BaseKeepsOrder, BasePermits}
use Rattle.printable_program.specs.Laws.{LoweredModulesArePrintable}
use Rattle.valid_calls.specs.Laws.{CallsAgree, MeasurementsAreNamed, NumbersAreSmall}
use Rattle.valid_lines.specs.Laws.{ItemsAreValid}
use Rattle.valid_parts.specs.Laws.{ConstantsHold, JumpsFit, PartsStart, ScopesHold, TypesHold}
use Rattle.valid_residue.specs.Laws.{AdaptivePermits, CasesDiffer, HandlesAreBelow, LabelsAreBelow, NamesDiffer, NodesAreSteps}

pub record RulesHold : Type 0 where
  pub nodes : NodesAreSteps
  pub items : ItemsAreValid
  pub start : PartsStart
  pub jumps : JumpsFit
  pub scopes : ScopesHold
  pub types : TypesHold
  pub constants : ConstantsHold
  pub cases : CasesDiffer
  pub names : NamesDiffer
  pub labels : LabelsAreBelow
  pub handles : HandlesAreBelow
  pub adaptive : AdaptivePermits
  pub base : BasePermits
  pub order : BaseKeepsOrder
  pub agree : CallsAgree
  pub measured : MeasurementsAreNamed
  pub numbers : NumbersAreSmall
  pub onward : JumpsLeadOn
  pub prints : LoweredModulesArePrintable
