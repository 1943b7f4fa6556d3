use Rattle.std.proofs.Common.{◌≡◌, ◌++◌, length}
use Rattle.type_check.specs.Rules.{entry_blocks}
use Rattle.type_check.proofs.phis.push_blocks.Given as goal

abbrev pub invariant-loop-entries : goal.invariant-loop-entries
invariant-loop-entries l = l.blocks ++ entry_blocks l.entries ≡ l.fn.blocks ++ entry_blocks l.fn.entries

abbrev pub decreases-loop-entries : goal.decreases-loop-entries
decreases-loop-entries l = length l.entries
