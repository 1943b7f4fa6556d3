use Rattle.std.proofs.Common.{suc}
use Rattle.fused_parts.specs.code.Counting.{AllNever}
use Rattle.fused_parts.proofs.flags.none_entered.Given as goal

abbrev pub invariant-loop : goal.invariant-loop
invariant-loop l = AllNever (suc l.counter) l.table
