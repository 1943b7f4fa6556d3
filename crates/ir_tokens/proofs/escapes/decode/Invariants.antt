use Rattle.std.proofs.Common.{◌≡◌, ◌++◌, length}
use Rattle.ir_tokens.specs.Decoded.{decoded}
use Rattle.ir_tokens.proofs.escapes.decode.Given as goal

abbrev pub invariant-loop-bytes : goal.invariant-loop-bytes
invariant-loop-bytes l = l.decoded ++ decoded 0 l.bytes ≡ decoded 0 l.fn.bytes

abbrev pub decreases-loop-bytes : goal.decreases-loop-bytes
decreases-loop-bytes l = length l.bytes
