-- Tables hold the names of their lists.
use Rattle.std.specs.Prelude.{map}
use Rattle.ir_names.specs.declared.collect.Values.{Values}
use Rattle.ir_names.specs.declared.globals.Defined.{Defined}
use Rattle.ir_names.specs.declared.globals.Listed.{Listed}
use Rattle.ir_names.specs.Module.{written}
use Rattle.ir_names.specs.code.Names.{same_name, same_written}
use Rattle.ir_names.specs.code.Tables.{Numbers}

abbrev pub Holds : Values → Type 0
Holds v = Numbers same_name v.table (map (λ x. x.0) v.list)

abbrev pub HoldsConstants : Defined → Type 0
HoldsConstants d = Numbers same_name d.table (map (λ c. c.name) d.list)

abbrev pub HoldsNodes : Listed → Type 0
HoldsNodes l = Numbers same_written l.table (map written l.list)
