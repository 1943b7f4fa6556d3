-- `==` of names, and of numbers of groups and nodes.
use Rattle.std.specs.Prelude.{Bool}
use Rattle.ir_values.specs.declared.name.Name.{Name}
use Rattle.ir_values.specs.contracts.name.NamePartialEq.TheImpl.{eq-value}
use Rattle.ir_names.specs.contracts.numbers.WrittenPartialEq.TheImpl.{eq-value as written-eq}
use Rattle.ir_names.specs.declared.numbers.Written.{Written}

abbrev pub same_name : Name → Name → Bool
same_name = eq-value.it

abbrev pub same_written : Written → Written → Bool
same_written = written-eq.it
