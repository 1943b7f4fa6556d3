-- The list along the tree has exactly the violations of the Base Profile.
use Rattle.std.proofs.Common.{◌≡◌, ◌↔◌, ℕ, Some, sym, subst, slice_get, Contains}
use Rattle.ir_module.specs.declared.tree.Function.{Function}
use Rattle.ir_module.specs.declared.tree.Module.{Module}
use Rattle.profile_rules.specs.declared.finding.Form.{Form}
use Rattle.profile_rules.specs.Base.{base_rules, violates_base_of, ViolatesBase}
use Rattle.profile_rules.specs.code.Listed.{findings}
use Rattle.profile_rules.specs.Findings.{AreFindings}
use Rattle.profile_rules.proofs.Listed.{finding}
use Rattle.profile_rules.proofs.Numbers.{base-numbered}
use Rattle.profile_rules.proofs.Order.{list-exact}

pub base-exact : (shape : Form) (m : Module) (e : ℕ) (f : Function) → slice_get m.funcs e ≡ Some f → AreFindings (ViolatesBase shape m e) (findings (base_rules shape m e f) m)
base-exact shape m e f q =
    let h = list-exact (base_rules shape m e f) (base-numbered shape m e f) m in
    record {
      ordered = h.ordered;
      exact = λ s r. subst (λ o. Contains (findings (base_rules shape m e f) m) (finding s r) ↔ violates_base_of o shape m e s r) (sym q) (h.exact s r);
    }
