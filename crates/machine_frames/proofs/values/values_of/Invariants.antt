use Rattle.std.proofs.Common.{◌≡◌, length, map}
use Rattle.machine_frames.specs.code.Lists.{behind}
use Rattle.qir_meaning.specs.State.{values_of}
use Rattle.machine_frames.proofs.values.values_of.Given as goal

-- the values that were copied stand before those to come
abbrev pub invariant-loop-args : goal.invariant-loop-args
invariant-loop-args l = behind l.values (values_of l.env (map (λ a. a.1) l.args)) ≡ values_of l.env (map (λ a. a.1) l.fn.args)

abbrev pub decreases-loop-args : goal.decreases-loop-args
decreases-loop-args l = length l.args
