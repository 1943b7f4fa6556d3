-- Which capabilities a module has, by its flags.
use Rattle.std.specs.Prelude.{◌≡◌}
use Rattle.ir_module.specs.declared.tree.Module.{Module}
use Rattle.profile_rules.specs.Adaptive.{is_on, integers_key, functions_key, backwards_key, switches_key, returns_key}
use Rattle.adaptive_profile.specs.declared.capabilities.Capabilities.{Capabilities}

pub record AreOn (m : Module) (c : Capabilities) : Type 0 where
  pub integers : c.integers ≡ is_on integers_key m
  pub functions : c.functions ≡ is_on functions_key m
  pub backwards : c.backwards ≡ is_on backwards_key m
  pub switches : c.switches ≡ is_on switches_key m
  pub returns : c.returns ≡ is_on returns_key m
