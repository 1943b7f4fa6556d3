use Rattle.std.proofs.Common.{◌≡◌, length, map}
use Rattle.std.specs.List.{list_any}
use Rattle.ir_tokens.specs.Words.{same_text}
use Rattle.ir_tokens.proofs.words.is_among.Given as goal

abbrev pub decreases-loop-texts : goal.decreases-loop-texts
decreases-loop-texts l = length l.texts

abbrev pub invariant-loop-texts : goal.invariant-loop-texts
invariant-loop-texts l = list_any (same_text l.word) (map (λ t. t.now) l.texts) ≡ list_any (same_text l.word) (map (λ t. t.now) l.fn.texts)
