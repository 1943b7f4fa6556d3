use Rattle.std.proofs.Common.{◌≡◌, ◌+◌, ◌<◌, ◌^◌, length}
use Rattle.type_check.specs.code.Entries.{entries_fault}
use Rattle.type_check.proofs.entries.entries_fault.Given as goal

abbrev pub invariant-loop-funcs : goal.invariant-loop-funcs
invariant-loop-funcs l = record {
  room : l.g + length l.funcs < 2 ^ 32;
  same : entries_fault l.limit l.e.0 l.g l.funcs ≡ entries_fault l.limit l.e.0 0 l.fn.funcs;
}

abbrev pub decreases-loop-funcs : goal.decreases-loop-funcs
decreases-loop-funcs l = length l.funcs
