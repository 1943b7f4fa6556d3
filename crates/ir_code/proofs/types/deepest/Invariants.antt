use Rattle.std.proofs.Common.{◌≡◌, length}
use Rattle.ir_grammar.specs.Types.{deepest}
use Rattle.ir_code.proofs.types.deepest.Given as goal

abbrev pub invariant-loop-params : goal.invariant-loop-params
invariant-loop-params l = deepest l.deepest l.params ≡ deepest l.fn.least l.fn.params

abbrev pub decreases-loop-params : goal.decreases-loop-params
decreases-loop-params l = length l.params
