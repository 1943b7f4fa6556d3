use Rattle.std.proofs.Common.{◌≡◌, Some, map}
use Rattle.capability_words.specs.Words.{all_caps, no_caps}
use Rattle.capability_words.proofs.words.caps_of.Given as goal

abbrev pub invariant-loop-name : goal.invariant-loop-name
invariant-loop-name l = record {
  next : (goal.iterator-loop-name).can_next l.name-iterator;
  ends : (goal.iterator-loop-name).is_finite l.name-iterator;
  read : all_caps (map (λ x. x.now) l.yielded) no_caps ≡ Some l.caps;
}
