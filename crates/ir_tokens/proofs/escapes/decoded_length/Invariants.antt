use Rattle.std.proofs.Common.{◌≡◌, ◌+◌, ◌≤◌, length}
use Rattle.ir_tokens.specs.Decoded.{decoded}
use Rattle.ir_tokens.proofs.escapes.decoded_length.Given as goal

abbrev pub invariant-loop-bytes : goal.invariant-loop-bytes
invariant-loop-bytes l = record {
  same : l.count + length (decoded 0 l.bytes) ≡ length (decoded 0 l.fn.bytes);
  fits : l.count + length l.bytes ≤ length l.fn.bytes;
}

abbrev pub decreases-loop-bytes : goal.decreases-loop-bytes
decreases-loop-bytes l = length l.bytes
