-- The tables of the profile are those of the module.
use Rattle.std.specs.Prelude.{◌≡◌, Bool, map}
use Rattle.ir_module.specs.declared.places.Point.{Point}
use Rattle.ir_module.specs.Steps.{Step}
use Rattle.ir_module.specs.Tree.{blocks_of}
use Rattle.findings.specs.code.Told.{IsTold}
use Rattle.profile_rules.specs.Adaptive.{adaptive_rules_by, number_called}
use Rattle.profile_rules.specs.Findings.{Rules}
use Rattle.adaptive_profile.specs.declared.tables.Tables.{Tables}
use Rattle.adaptive_profile.specs.code.Graphs.{is_cyclic}
use Rattle.adaptive_profile.specs.code.On.{AreOn}
use Rattle.adaptive_profile.specs.code.Pairs.{returns_by}
use Rattle.adaptive_profile.specs.code.Returns.{first_return}

abbrev pub cyclic : Tables → Point → Bool
cyclic t p = is_cyclic t.cyclic.now p

abbrev pub returning : Tables → Point → Step → Bool
returning t p s = returns_by t.returning.now p.func.0 (number_called s)

-- the rules that the tables are for
abbrev pub rules_of : Tables → Rules
rules_of t = adaptive_rules_by (cyclic t) (returning t) t.callees.tree.now t.entry.0

pub record IsReady (t : Tables) : Type 0 where
  pub told : IsTold t.callees
  pub on : AreOn t.callees.tree.now t.capabilities
  pub first_returns : t.first_returns.now ≡ map (λ f. first_return (blocks_of f)) t.callees.tree.now.funcs
