use Rattle.std.proofs.Common.{◌≡◌, length, map}
use Rattle.ir_tokens.specs.Words.{look_up}
use Rattle.ir_tokens.proofs.words.look_up.Given as goal

abbrev pub decreases-loop-rows : goal.decreases-loop-rows
decreases-loop-rows l = length l.rows

abbrev pub invariant-loop-rows : goal.invariant-loop-rows
invariant-loop-rows l = look_up (map (λ r. (r.0.now, r.1)) l.rows) l.other l.word ≡ look_up (map (λ r. (r.0.now, r.1)) l.fn.rows) l.other l.word
