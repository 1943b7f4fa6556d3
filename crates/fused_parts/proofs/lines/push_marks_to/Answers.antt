use Rattle.std.proofs.Common.{◌++◌, ap, sym, ◌∙◌, arith, append-nil}
use Rattle.std.proofs.lemmas.Option.{slice_get_past}
use Rattle.fused_parts.specs.Parts.{marks_to}
use Rattle.fused_parts.proofs.lines.push_marks_to.Goals as goal

pub returns-then-to-len : goal.returns-then-to-len
returns-then-to-len c =
    sym (append-nil c.args.lines.now)
    ∙ ap (λ o. c.args.lines.now ++ marks_to c.args.node.now.node o)
    (sym (slice_get_past c.args.nodes.now c.args.to (let t = c.if-to-len.true in let e = c.len.ensures in omega (arith, t, e))))
