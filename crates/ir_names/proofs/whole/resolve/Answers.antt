use Rattle.ir_names.specs.code.Seen.{outside_of}
use Rattle.ir_names.proofs.Told.{same_told, whole}
use Rattle.ir_names.proofs.whole.resolve.Goals as goal

pub returns : goal.returns
returns c =
    let text = c.args.text.now in
    let items = c.args.items.now in
    let g = c.in_ok-globals.globals in
    let e = c.in_ok-globals.ensures in
    whole text items (outside_of text items g) g.constants.list c.module_with.result
    (same_told text items g e.constants e.list e.functions e.groups e.nodes e.listed e.flags)
    e.list
    (c.module_with.ensures _ _ c.resolved-parts.ensures)
