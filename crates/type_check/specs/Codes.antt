-- The names of the rules in refusals.
use Rattle.std.specs.Prelude.{ℕ, List, codes}
use Rattle.type_check.specs.declared.code.TypeCode.{TypeCode}
use Rattle.type_check.specs.declared.code.TypeCode.TheVariants as code

abbrev pub name_of : TypeCode → List ℕ
name_of code.Types = codes "Types"
name_of code.PhiEntries = codes "PhiEntries"
name_of code.EntryBlock = codes "EntryBlock"
name_of code.SwitchCase = codes "SwitchCase"
name_of code.NoEntry = codes "NoEntry"
name_of code.BadNumberAttr = codes "BadNumberAttr"
name_of code.IdRange = codes "IdRange"
name_of code.UnknownDecl = codes "UnknownDecl"
name_of code.EntrySignature = codes "EntrySignature"
name_of code.ReservedName = codes "ReservedName"
