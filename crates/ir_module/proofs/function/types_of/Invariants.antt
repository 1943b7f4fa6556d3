use Rattle.std.proofs.Common.{◌≡◌, map, take}
use Rattle.ir_module.proofs.function.types_of.Given as goal

abbrev pub invariant-loop-local : goal.invariant-loop-local
invariant-loop-local l = l.types ≡ map (λ x. x.1) (take l.local-index l.locals)
