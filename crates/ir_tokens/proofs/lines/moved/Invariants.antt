use Rattle.std.proofs.Common.{◌≡◌, ◌+◌, ◌<◌, ◌^◌, length}
use Rattle.ir_tokens.specs.code.Moves.{moved}
use Rattle.ir_tokens.proofs.lines.moved.Given as goal

abbrev pub invariant-loop-passed : goal.invariant-loop-passed
invariant-loop-passed l = record {
  same : moved l.position l.passed ≡ moved l.fn.from l.fn.passed;
  line : l.position.line + length l.passed < 2 ^ 32;
  column : l.position.column + length l.passed < 2 ^ 32;
}

abbrev pub decreases-loop-passed : goal.decreases-loop-passed
decreases-loop-passed l = length l.passed
