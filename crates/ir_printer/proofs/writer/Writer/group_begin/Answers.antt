use Rattle.std.specs.Prelude.{codes, decimal}
use Rattle.std.proofs.lemmas.Result.{on_ok_weaker}
use Rattle.ir_printer.specs.Groups.{group_begin}
use Rattle.ir_printer.proofs.Appended.{three}
use Rattle.ir_printer.proofs.writer.Writer.group_begin.Goals as goal

pub returns : goal.returns
unfolding group_begin
returns c =
    on_ok_weaker c.write-2.result
    (λ last. three c.args.self.now c.write.new.self c.number.new.self c.write-2.new.self (codes "attributes #") (decimal c.args.number) (codes " = {")
    c.in_ok-write.ensures c.in_ok-number.ensures last)
    c.write-2.ensures
