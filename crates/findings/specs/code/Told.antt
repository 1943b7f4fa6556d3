-- The table of classes.
use Rattle.std.specs.Prelude.{◌≡◌, map}
use Rattle.profile_rules.specs.Calls.{declared_class}
use Rattle.findings.specs.declared.callees.Callees.{Callees}

-- the table is that of the module
abbrev pub IsTold : Callees → Type 0
IsTold c = c.classes.now ≡ map declared_class c.tree.now.funcs
