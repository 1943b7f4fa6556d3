use Rattle.std.proofs.Common.{◌≡◌, ◌++◌, sym, ap, ◌∙◌}
use Rattle.std.specs.Prelude.{codes}
use Rattle.std.proofs.lemmas.List.Concat.{flat_map-append}
use Rattle.std.proofs.lemmas.Result.{on_ok_weaker}
use Rattle.ir_parts.specs.Parts.{bytes_of, text_of}
use Rattle.ir_printer.specs.Operands.{array_parts}
use Rattle.ir_printer.specs.Pieces.{comma}
use Rattle.ir_printer.proofs.Appended.{four}
use Rattle.ir_printer.proofs.writer.Writer.arrays.Goals as goal

pub returns : goal.returns
returns c =
    let n = c.args.length in
    let array = text_of (array_parts n) in
    let begins = codes "getelementptr inbounds (" in
    let joined : text_of (array_parts n ++ (comma ++ array_parts n)) ≡ array ++ (codes ", " ++ array) = flat_map-append bytes_of (array_parts n) (comma ++ array_parts n) in
    on_ok_weaker c.array-2.result
    (λ last. four c.args.self.now c.write.new.self c.array.new.self c.write-2.new.self c.array-2.new.self begins array (codes ", ") array
    c.in_ok-write.ensures c.in_ok-array.ensures c.in_ok-write-2.ensures last
    ∙ ap (λ x. c.args.self.now ++ (begins ++ x)) (sym joined))
    c.array-2.ensures
