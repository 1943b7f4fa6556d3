use Rattle.std.proofs.Common.{◌≡◌, length, map}
use Rattle.type_check.specs.code.Strip.{after_types}
use Rattle.type_check.proofs.words.after_args.Given as goal

abbrev pub invariant-loop-args : goal.invariant-loop-args
invariant-loop-args l = after_types (map (λ p. p.0) l.args) l.left ≡ after_types (map (λ p. p.0) l.fn.args) l.fn.words

abbrev pub decreases-loop-args : goal.decreases-loop-args
decreases-loop-args l = length l.args
