use Rattle.std.proofs.Common.{length, ◌≡◌, ◌++◌}
use Rattle.ir_names.specs.Metadata.{listed}
use Rattle.ir_tokens.specs.Spelled.{spelling_at}
use Rattle.ir_names.specs.code.Held.{HoldsNodes}
use Rattle.ir_names.proofs.globals.Listed.of.Given as goal

abbrev pub invariant-loop-items : goal.invariant-loop-items
invariant-loop-items l = HoldsNodes l.listed × (listed (λ t. spelling_at l.text t.place) l.fn.items ≡ l.listed.list ++ listed (λ t. spelling_at l.text t.place) l.items)

abbrev pub decreases-loop-items : goal.decreases-loop-items
decreases-loop-items l = length l.items
