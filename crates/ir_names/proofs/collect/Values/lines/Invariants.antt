use Rattle.std.proofs.Common.{length, ◌≡◌, ◌++◌}
use Rattle.std.specs.List.{flat_map}
use Rattle.ir_names.specs.Functions.{line_locals}
use Rattle.ir_tokens.specs.Spelled.{name_at}
use Rattle.ir_names.specs.code.Held.{Holds}
use Rattle.ir_names.proofs.collect.Values.lines.Given as goal

abbrev pub invariant-loop-lines : goal.invariant-loop-lines
invariant-loop-lines l = Holds l.self × (l.fn.self.list ++ flat_map (line_locals (name_at l.text)) l.fn.lines ≡ l.self.list ++ flat_map (line_locals (name_at l.text)) l.lines)

abbrev pub decreases-loop-lines : goal.decreases-loop-lines
decreases-loop-lines l = length l.lines
