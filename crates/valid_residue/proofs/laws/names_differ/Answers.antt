use Rattle.std.proofs.Common.{◌≡◌, true, sym, subst}
use Rattle.residue.specs.Valid.{names_differ}
use Rattle.valid_residue.specs.Laws.{NamesDiffer}
use Rattle.valid_residue.proofs.Names.{distinct-names, entry-differs}
use Rattle.valid_residue.proofs.laws.names_differ.Goals as goal

pub returns : goal.returns
unfolding NamesDiffer
returns c p nodes r h =
    subst (λ r. names_differ r ≡ true) (sym h.made)
    (entry-differs p.m h.limit h.faultless.typed h.found_entry h.faultless.is_entry (distinct-names p.m h.faultless.numbered))
