use Rattle.ir_reader.proofs.OneAnswer.{spots-once}
use Rattle.ir_reader.proofs.laws.places_are_of_spots.Goals as goal

pub returns : goal.returns
returns c = λ text parsed reads. spots-once text (c.each_text_has_one_answer.ensures text) (c.places_are_of_spots.ensures text) parsed reads
