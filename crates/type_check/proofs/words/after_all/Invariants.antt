use Rattle.std.proofs.Common.{◌≡◌, length}
use Rattle.type_check.specs.code.Strip.{after_words}
use Rattle.type_check.proofs.words.after_all.Given as goal

abbrev pub invariant-loop-first : goal.invariant-loop-first
invariant-loop-first l = after_words l.first l.left ≡ after_words l.fn.first l.fn.words

abbrev pub decreases-loop-first : goal.decreases-loop-first
decreases-loop-first l = length l.first
