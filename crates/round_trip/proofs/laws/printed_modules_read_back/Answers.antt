use Rattle.ir_printer.specs.Canonical.{canonical}
use Rattle.round_trip.proofs.One.{one_module, spelled_never_refused}
use Rattle.round_trip.proofs.laws.printed_modules_read_back.Goals as goal

pub returns-clause-read : goal.returns-clause-read
returns-clause-read c = λ m p parsed r.
    one_module (canonical m) (c.each_text_has_one_answer.ensures (canonical m)) parsed.module m r.0 (c.canonical_text_spells_its_module.ensures m p)

pub returns-clause-never_refused : goal.returns-clause-never_refused
returns-clause-never_refused c = λ m p why r. spelled_never_refused c.one_answer.ensures (canonical m) m (c.canonical_text_spells_its_module.ensures m p) why r
