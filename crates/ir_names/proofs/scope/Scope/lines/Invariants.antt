use Rattle.std.proofs.Common.{length, ◌≡◌, ◌++◌}
use Rattle.ir_names.specs.Instructions.{lines_faults, insts_of, behind_lines}
use Rattle.ir_names.specs.code.Seen.{seen}
use Rattle.ir_names.proofs.scope.Scope.lines.Given as goal

abbrev pub invariant-loop-lines : goal.invariant-loop-lines
invariant-loop-lines l =
    (lines_faults (seen l.self) l.fn.values l.labels l.fn.lines ≡ lines_faults (seen l.self) l.values l.labels l.lines)
    × (insts_of (seen l.self) l.fn.values l.fn.lines ≡ l.out ++ insts_of (seen l.self) l.values l.lines)
    × (behind_lines l.fn.values l.fn.lines ≡ behind_lines l.values l.lines)

abbrev pub decreases-loop-lines : goal.decreases-loop-lines
decreases-loop-lines l = length l.lines
