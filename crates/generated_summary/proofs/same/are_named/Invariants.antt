use Rattle.std.proofs.Common.{◌≡◌, ◌↔◌, length, map}
use Rattle.generated_summary.specs.code.Told.{naming}
use Rattle.generated_summary.proofs.same.are_named.Given as goal

-- what is left is the same under the names where the whole is
abbrev pub invariant-loop-item : goal.invariant-loop-item
invariant-loop-item g l =
    (map (g.T.Named.named (naming l.names)) l.items ≡ l.others) ↔ (map (g.T.Named.named (naming l.names)) l.fn.items ≡ l.fn.others)

abbrev pub decreases-loop-item : goal.decreases-loop-item
decreases-loop-item g l = length l.items
