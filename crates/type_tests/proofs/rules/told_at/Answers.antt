use Rattle.type_tests.proofs.rules.told_at.Goals as goal

pub of-line-requires : goal.of-line-requires
of-line-requires c = c.requires.placed c.args.parsed.now.places c.requires.places
