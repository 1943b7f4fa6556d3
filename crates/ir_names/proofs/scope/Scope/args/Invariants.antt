use Rattle.std.proofs.Common.{length, ◌≡◌, ◌++◌, map}
use Rattle.std.specs.List.{flat_map}
use Rattle.ir_names.specs.Instructions.{arg_faults, arg_of}
use Rattle.ir_names.specs.code.Seen.{seen}
use Rattle.ir_names.proofs.scope.Scope.args.Given as goal

abbrev pub invariant-loop-args : goal.invariant-loop-args
invariant-loop-args l =
    (flat_map (arg_faults (seen l.self)) l.fn.args ≡ flat_map (arg_faults (seen l.self)) l.args)
    × (map (arg_of (seen l.self)) l.fn.args ≡ l.out ++ map (arg_of (seen l.self)) l.args)

abbrev pub decreases-loop-args : goal.decreases-loop-args
decreases-loop-args l = length l.args
