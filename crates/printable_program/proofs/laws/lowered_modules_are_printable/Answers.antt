use Rattle.lowered_program.specs.Residues.{residue_of, shared_exit}
use Rattle.printable_program.proofs.laws.lowered_modules_are_printable.Goals as goal

pub returns : goal.returns
returns c = λ p budget entry nodes t printable is explored steps small ok.
    let reached = c.made_parts_are_reached.ensures p budget nodes (shared_exit p.target nodes) explored steps in
    let pieces = c.lowered_programs_have_printable_pieces.ensures p budget entry nodes printable is explored small reached in
    c.printed_is_printable.ensures (residue_of p entry nodes) t ok pieces
