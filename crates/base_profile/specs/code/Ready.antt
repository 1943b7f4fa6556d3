-- The tables of the profile are those of the module.
use Rattle.std.specs.Prelude.{◌≡◌, map, length}
use Rattle.ir_module.specs.Tree.{blocks_of}
use Rattle.findings.specs.code.Told.{IsTold}
use Rattle.findings.specs.code.Within.{IsFunction}
use Rattle.profile_rules.specs.Calls.{is_irreversible}
use Rattle.profile_rules.specs.Walk.{is_chain}
use Rattle.base_profile.specs.declared.tables.Tables.{Tables}
use Rattle.base_profile.specs.code.Called.{TellsCalled}
use Rattle.base_profile.specs.code.Walked.{ArePositions}

pub record IsReady (t : Tables) : Type 0 where
  pub told : IsTold t.callees
  pub entry : IsFunction t.callees.tree.now t.entry.0 t.function.now
  pub irreversible : t.irreversible.now ≡ map is_irreversible t.callees.tree.now.funcs
  pub called : TellsCalled t.function.now (length t.callees.tree.now.funcs) t.called.now
  pub positions : ArePositions (blocks_of t.function.now) t.positions.now
  pub chain : t.chain ≡ is_chain (blocks_of t.function.now)
