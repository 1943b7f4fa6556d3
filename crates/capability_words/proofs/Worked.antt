-- Words and their capabilities, as the checker computes them.
use Rattle.std.proofs.Common.{◌≡◌, [], true, false, refl}
use Rattle.std.specs.Prelude.{None, Some, codes}
use Rattle.capability_words.specs.Words.{caps_of}

dash : caps_of (codes "-") ≡ Some (record { ints = false; switch = false; returns = false; loops = false })
dash = refl

two-names : caps_of (codes "ints,loops") ≡ Some (record { ints = true; switch = false; returns = false; loops = true })
two-names = refl

-- the order is free
all-names : caps_of (codes "loops,returns,ints,switch") ≡ Some (record { ints = true; switch = true; returns = true; loops = true })
all-names = refl

-- a name comes at most once
twice : caps_of (codes "loops,loops") ≡ None
twice = refl

empty : caps_of [] ≡ None
empty = refl

-- behind a comma stands a name
last-comma : caps_of (codes "ints,") ≡ None
last-comma = refl

-- `-` stands alone
dash-and-name : caps_of (codes "-,ints") ≡ None
dash-and-name = refl
