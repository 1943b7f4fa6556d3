use Rattle.printable_program.proofs.Whole.{has-pieces}
use Rattle.printable_program.proofs.laws.lowered_programs_have_printable_pieces.Goals as goal

pub returns : goal.returns
returns c = λ p budget entry nodes printable is explored small reached. has-pieces p budget nodes explored printable c.steps_keep_printable.ensures entry is small reached
