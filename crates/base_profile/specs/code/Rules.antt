-- The rules that the tables are for.
use Rattle.profile_rules.specs.Base.{base_rules}
use Rattle.profile_rules.specs.Findings.{Rules}
use Rattle.base_profile.specs.declared.tables.Tables.{Tables}

abbrev pub rules_of : Tables → Rules
rules_of t = base_rules t.form t.callees.tree.now t.entry.0 t.function.now
