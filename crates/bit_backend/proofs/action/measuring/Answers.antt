use Rattle.std.proofs.Common.{rules, arith, ◌≡◌, codes}
use Rattle.std.proofs.lemmas.Slice.Eq.{text_from_reads}
use Rattle.bit_backend.proofs.action.measuring.Goals as goal

pub returns-in-mresetz : goal.returns-in-mresetz
returns-in-mresetz c =
    let stem : c.args.stem.now ≡ codes "mresetz" = text_from_reads _ _ (omega arith) (search rules) in
    rw stem
