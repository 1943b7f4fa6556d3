use Rattle.std.proofs.Common.{◌≡◌, ◌∙◌, [], sym, ap}
use Rattle.std.specs.Vec.Iter.{into_iter_items}
use Rattle.machine_frames.specs.code.Lists.{put_all}
use Rattle.machine_frames.proofs.Operands.{nothing-left}
use Rattle.machine_frames.proofs.Phis.{put-none}
use Rattle.machine_frames.proofs.edges.put_values.Goals as goal

pub returns : goal.returns
returns c =
    let at = c.loop-value in
    let none = c.in-None.ensures.steps in
    let empty : into_iter_items at.value-iterator ≡ [] = nothing-left (into_iter_items at.value-iterator) (sym at.invariant.size ∙ none.0) in
    sym (ap (λ vs. put_all at.phis.now vs at.env) empty ∙ put-none at.phis.now at.env) ∙ at.invariant.whole
