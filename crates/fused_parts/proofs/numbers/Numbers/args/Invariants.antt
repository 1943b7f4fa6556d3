use Rattle.std.proofs.Common.{◌≡◌, map, take}
use Rattle.fused_parts.specs.Parts.{renamed_arg}
use Rattle.fused_parts.proofs.numbers.Numbers.args.Given as goal

abbrev pub invariant-loop-arg : goal.invariant-loop-arg
invariant-loop-arg l = l.out ≡ map (renamed_arg l.self.mine) (take l.arg-index l.args)
