-- One edge more.
use Rattle.std.proofs.Common.{◌≡◌, Option, None, Some, List, [], ◌∷◌, ◌++◌, refl, sym, ◌∙◌, ap, append_assoc}
use Rattle.ir_values.specs.declared.ids.BlockId.{BlockId}
use Rattle.qir_meaning.specs.Moves.{given}
use Rattle.static_steps.specs.declared.turn.Move.{Move}
use Rattle.static_steps.specs.Edges.{along, all_along}
use Rattle.static_steps.specs.Settings.{Setting}
use Rattle.step_parts.proofs.Ahead.{ahead}

pub ahead_one : (ms : List Move) (mv : Move) (o : Option (List Move)) →
    ahead (ms ++ mv ∷ []) o ≡ ahead ms (given o (λ mvs. Some (mv ∷ mvs)))
ahead_one ms mv None = refl
ahead_one ms mv (Some ns) = ap Some (append_assoc ms (mv ∷ []) ns)

more : (o : Option Move) (mv : Move) (ms : List Move) (os : Option (List Move)) → o ≡ Some mv →
    ahead ms (given o (λ mv'. given os (λ mvs. Some (mv' ∷ mvs)))) ≡ ahead (ms ++ mv ∷ []) os
more o mv ms os e = rw e (sym (ahead_one ms mv os))

pub along-more : (s : Setting) (ts rest tail : List BlockId) (b : BlockId) (ms new : List Move) (mv : Move) →
    rest ≡ b ∷ tail → along s b ≡ Some mv → new ≡ ms ++ mv ∷ [] →
    all_along s ts ≡ ahead ms (all_along s rest) → all_along s ts ≡ ahead new (all_along s tail)
along-more s ts rest tail b ms new mv here found pushed before =
    before ∙ ap (λ r. ahead ms (all_along s r)) here ∙ more (along s b) mv ms (all_along s tail) found ∙ sym (ap (λ n. ahead n (all_along s tail)) pushed)
