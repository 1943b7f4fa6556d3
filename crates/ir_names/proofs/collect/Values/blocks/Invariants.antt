use Rattle.std.proofs.Common.{length, ◌≡◌, ◌++◌}
use Rattle.std.specs.List.{flat_map}
use Rattle.ir_names.specs.Functions.{block_locals}
use Rattle.ir_tokens.specs.Spelled.{name_at}
use Rattle.ir_names.specs.code.Held.{Holds}
use Rattle.ir_names.proofs.collect.Values.blocks.Given as goal

abbrev pub invariant-loop-blocks : goal.invariant-loop-blocks
invariant-loop-blocks l = Holds l.self × (l.fn.self.list ++ flat_map (block_locals (name_at l.text)) l.fn.blocks ≡ l.self.list ++ flat_map (block_locals (name_at l.text)) l.blocks)

abbrev pub decreases-loop-blocks : goal.decreases-loop-blocks
decreases-loop-blocks l = length l.blocks
