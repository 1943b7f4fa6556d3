use Rattle.std.proofs.Common.{◌++◌, arith}
use Rattle.std.proofs.lemmas.Grind.{common_steps}
use Rattle.qir_ports.proofs.KnownLemmas.{Gives-more}
use Rattle.qir_ports.proofs.transfer.read_all.Goals as goal

pub returns-in_err-extend_from_slice-clause-until_memory :
    goal.returns-in_err-extend_from_slice-clause-until_memory
returns-in_err-extend_from_slice-clause-until_memory g c _ =
    let piece = c.in_ok-piece.piece.now in
    (c.loop-buffer.text ++ piece, grind (arith, common_steps), Gives-more _ _ _ _ piece c.loop-buffer.invariant.gives c.in_ok-piece.ensures.gives)
