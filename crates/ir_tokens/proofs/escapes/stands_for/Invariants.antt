use Rattle.std.proofs.Common.{◌≡◌, length}
use Rattle.ir_tokens.specs.Decoded.{decoded}
use Rattle.ir_tokens.specs.Words.{same_text}
use Rattle.ir_tokens.proofs.escapes.stands_for.Given as goal

abbrev pub invariant-loop-bytes : goal.invariant-loop-bytes
invariant-loop-bytes l = same_text (decoded 0 l.bytes) l.text ≡ same_text (decoded 0 l.fn.bytes) l.fn.text

abbrev pub decreases-loop-bytes : goal.decreases-loop-bytes
decreases-loop-bytes l = length l.bytes
