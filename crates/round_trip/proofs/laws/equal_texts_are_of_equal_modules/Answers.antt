use Rattle.std.proofs.Common.{sym, subst}
use Rattle.ir_printer.specs.Canonical.{canonical}
use Rattle.ir_reader.specs.Spelling.{Spells}
use Rattle.round_trip.proofs.One.{one_module}
use Rattle.round_trip.proofs.laws.equal_texts_are_of_equal_modules.Goals as goal

pub returns : goal.returns
returns c = λ m n p q e.
    one_module (canonical m) (c.each_text_has_one_answer.ensures (canonical m)) m n (c.canonical_text_spells_its_module.ensures m p)
    (subst (Spells n) (sym e) (c.canonical_text_spells_its_module.ensures n q))
