use Rattle.ir_reader.proofs.Answers.{gives, refuses, spots-are}
use Rattle.ir_reader.proofs.InOrder.{reads-printable}
use Rattle.ir_reader.proofs.reading.read.Goals as goal

pub returns-clause-complete : goal.returns-clause-complete
returns-clause-complete c =
    λ m h. gives c.args.bytes.now c.one_answer.ensures m h c.read_text.result c.read_text.ensures.module c.read_text.ensures.places c.read_text.ensures.refused

pub returns-clause-misread : goal.returns-clause-misread
returns-clause-misread c =
    λ code place h. refuses c.args.bytes.now c.one_answer.ensures code place h c.read_text.result c.read_text.ensures.module c.read_text.ensures.places c.read_text.ensures.refused

pub returns-clause-spots : goal.returns-clause-spots
returns-clause-spots c = spots-are c.args.bytes.now c.places_are_of_spots.ensures c.read_text.result c.read_text.ensures.module c.read_text.ensures.places

pub returns-clause-printable : goal.returns-clause-printable
returns-clause-printable c =
    reads-printable c.read_modules_are_printable.ensures.printable c.args.bytes.now c.see_bytes.ensures c.requires c.read_text.result c.read_text.ensures.module
