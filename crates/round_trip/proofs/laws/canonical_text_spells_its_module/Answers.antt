use Rattle.round_trip.proofs.laws.canonical_text_spells_its_module.Goals as goal

pub returns : goal.returns
returns c = λ m p.
    let w = c.canonical_text_is_of_its_module.ensures m p in
    (w.1, (w.0, w.2, w.3), w.4)
