use Rattle.std.proofs.Common.{◌≡◌, ◌++◌, length, flat_map, map}
use Rattle.name_flow.specs.code.Marks as spec
use Rattle.name_flow.specs.Uses.{reads}
use Rattle.name_flow.proofs.marks.push_args.Given as goal

abbrev pub invariant-loop-args : goal.invariant-loop-args
invariant-loop-args l = l.marks ++ spec.marks l.b l.i (flat_map reads (map (λ a. a.1) l.args)) ≡ l.fn.marks ++ spec.marks l.b l.i (flat_map reads (map (λ a. a.1) l.fn.args))

abbrev pub decreases-loop-args : goal.decreases-loop-args
decreases-loop-args l = length l.args
