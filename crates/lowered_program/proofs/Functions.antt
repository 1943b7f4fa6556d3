-- One function more that has few parameters.
use Rattle.std.proofs.Common.{◌≡◌, zero, suc, ◌<◌, ◌^◌, List, [], ◌∷◌, subst}
use Rattle.ir_module.specs.declared.tree.Function.{Function}
use Rattle.lowered_program.specs.Parameters.{HaveFewParameters}

pub none : HaveFewParameters []
none g f e = cc

pub one_more : (f : Function) (fs : List Function) → f.params < 2 ^ 32 → HaveFewParameters fs → HaveFewParameters (f ∷ fs)
one_more f fs lt h zero x e = let s : f ≡ x = cc in subst (λ y. y.params < 2 ^ 32) s lt
one_more f fs lt h (suc g) x e = h g x e
