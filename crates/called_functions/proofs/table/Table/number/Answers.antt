use Rattle.std.proofs.Common.{ℕ, ap, arith}
use Rattle.ir_values.specs.declared.ids.FuncId.{FuncId}
use Rattle.ir_values.specs.Equal.{equal_decides}
use Rattle.called_functions.proofs.Names.{place-found, place-missing}
use Rattle.called_functions.proofs.table.Table.number.Goals as goal

abbrev id : ℕ → FuncId
id n = record { 0 = n }

pub returns-in-Some : goal.returns-in-Some
returns-in-Some c = let p = place-found _ (equal_decides _) c.args.name.now c.args.self.now.names.keys c.in-Some.place c.in-Some.ensures.index in ap id (omega (arith, p))

pub returns-in-None : goal.returns-in-None
returns-in-None c = let p = place-missing _ (equal_decides _) c.args.name.now c.args.self.now.names.keys c.in-None.ensures.index in let l = c.len.ensures in ap id (omega (arith, p, l))
