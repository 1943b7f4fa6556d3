use Rattle.ir_names.specs.code.Seen.{outside}
use Rattle.ir_names.proofs.Within.{same_sense, whole}
use Rattle.ir_names.proofs.outer.Outer.function.Goals as goal

pub returns : goal.returns
returns c =
    whole _ (outside c.args.self.now) c.args.function.now c.in_ok-found.found.list c.in_ok-found.unnamed c.inner.result
    c.in_ok-found.ensures.list c.in_ok-found.ensures.unnamed
    (same_sense (outside c.args.self.now) c.in_ok-found.found.table c.in_ok-labels.labels c.in_ok-found.found.list _ c.in_ok-found.ensures.holds c.in_ok-labels.ensures)
    c.inner.ensures
