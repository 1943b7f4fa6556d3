use Rattle.std.proofs.Common.{◌++◌, sym, ap, ◌∙◌}
use Rattle.std.specs.Prelude.{slice_get}
use Rattle.std.proofs.lemmas.Result.{on_ok_weaker}
use Rattle.ir_parts.specs.Parts.{text_of}
use Rattle.ir_printer.specs.Instructions.{type_of_local, entries_parts}
use Rattle.ir_printer.proofs.LocalTypes.{type_there, type_nowhere}
use Rattle.ir_printer.proofs.writer.Writer.typed_entries.Goals as goal

pub returns-in-Some : goal.returns-in-Some
returns-in-Some c =
    let found = c.in-Some.ensures.lookup in
    let same = ap (λ ls. type_of_local (slice_get ls c.args.x.0)) (sym c.as_slice.ensures) ∙ type_there c.as_slice.result.now c.args.x.0 c.in-Some.local.now found.3.0 found.1 in
    on_ok_weaker c.entries.result
    (λ e. e ∙ ap (λ t. c.args.self.now ++ text_of (entries_parts c.args.m.now c.args.f.now t c.args.entries.now)) (sym same))
    c.entries.ensures

pub returns-in-None : goal.returns-in-None
returns-in-None c =
    let same = ap (λ ls. type_of_local (slice_get ls c.args.x.0)) (sym c.as_slice.ensures) ∙ type_nowhere c.as_slice.result.now c.args.x.0 c.in-None.ensures.lookup.3 in
    on_ok_weaker c.entries-in-None.result
    (λ e. e ∙ ap (λ t. c.args.self.now ++ text_of (entries_parts c.args.m.now c.args.f.now t c.args.entries.now)) (sym same))
    c.entries-in-None.ensures
