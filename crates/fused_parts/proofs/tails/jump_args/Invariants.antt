use Rattle.std.proofs.Common.{◌≡◌, map, take}
use Rattle.kept_items.specs.declared.val.Val.TheVariants.{Dynamic}
use Rattle.fused_parts.specs.Parts.{number_at}
use Rattle.fused_parts.proofs.tails.jump_args.Given as goal

abbrev pub invariant-loop-d : goal.invariant-loop-d
invariant-loop-d l = l.args ≡ map (λ d. Dynamic (number_at l.numbers.mine d)) (take l.d-index l.label)
