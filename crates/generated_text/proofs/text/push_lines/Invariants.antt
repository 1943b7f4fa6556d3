use Rattle.std.proofs.Common.{◌≡◌, ◌++◌, length, map}
use Rattle.generated_text.specs.Text.{in_lines}
use Rattle.generated_text.proofs.text.push_lines.Given as goal

-- what is written and what is to come are the whole
abbrev pub invariant-loop-lines : goal.invariant-loop-lines
invariant-loop-lines l =
    l.text ++ in_lines (map (λ line. line.now) l.lines) ≡ l.initial.text ++ in_lines (map (λ line. line.now) l.fn.lines)

abbrev pub decreases-loop-lines : goal.decreases-loop-lines
decreases-loop-lines l = length l.lines
