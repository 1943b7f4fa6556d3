use Rattle.std.proofs.Common.{◌++◌, [], ap, ◌∙◌}
use Rattle.std.proofs.lemmas.Result.{on_ok_weaker}
use Rattle.ir_parts.specs.Parts.{text_of}
use Rattle.ir_printer.specs.code.OpenTypes.{words_parts}
use Rattle.ir_printer.proofs.OpenTypes.{whole_type}
use Rattle.ir_printer.proofs.writer.Writer.pointer.Goals as goal

pub returns : goal.returns
returns c =
    let same = ap (words_parts []) (c.as_slice.ensures ∙ c.words.ensures.words) ∙ whole_type c.args.sig.now c.words.ensures.one in
    on_ok_weaker c.words-2.result (λ e. e ∙ ap (λ x. c.args.self.now ++ text_of x) same) c.words-2.ensures
