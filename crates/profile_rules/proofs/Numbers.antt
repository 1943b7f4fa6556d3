-- The rules of the profiles stand in the order of their numbers.
use Rattle.std.proofs.Common.{ℕ, arith}
use Rattle.ir_module.specs.declared.places.Point.{Point}
use Rattle.ir_module.specs.declared.tree.Function.{Function}
use Rattle.ir_module.specs.declared.tree.Module.{Module}
use Rattle.ir_module.specs.Steps.{Step}
use Rattle.std.specs.Prelude.{Bool}
use Rattle.profile_rules.specs.declared.finding.Form.{Form}
use Rattle.profile_rules.specs.Adaptive.{adaptive_rules_by}
use Rattle.profile_rules.specs.Base.{base_rules}
use Rattle.profile_rules.specs.code.Listed.{AreNumbered}

pub base-numbered : (shape : Form) (m : Module) (e : ℕ) (f : Function) → AreNumbered (base_rules shape m e f)
base-numbered shape m e f = record {
  on_module = (omega arith, tt);
  on_function = (omega arith, (omega arith, (omega arith, (omega arith, (omega arith, (omega arith, (omega arith, tt)))))));
  on_step = (omega arith, (omega arith, (omega arith, (omega arith, (omega arith, (omega arith, tt))))));
}

pub adaptive-numbered : (cyclic : Point → Bool) (returning : Point → Step → Bool) (m : Module) (e : ℕ) → AreNumbered (adaptive_rules_by cyclic returning m e)
adaptive-numbered cyclic returning m e = record {
  on_module = (omega arith, tt);
  on_function = (omega arith, (omega arith, (omega arith, (omega arith, tt))));
  on_step = (omega arith, (omega arith, (omega arith, (omega arith, (omega arith, (omega arith, (omega arith, (omega arith, (omega arith, (omega arith, (omega arith, tt)))))))))));
}
