use Rattle.std.proofs.Common.{◌≡◌, is_some, length}
use denote.Text.{Utf8}
use denote.Shadow.{shadow}
use Rattle.run_commands.specs.Words.{scripts_in}
use Rattle.run_commands.proofs.words.are_scripts.Given as goal

abbrev pub invariant-loop-first : goal.invariant-loop-first
invariant-loop-first l = record {
  text : shadow (Utf8 l.left);
  same : is_some (scripts_in l.word) ≡ is_some (scripts_in l.left);
}

abbrev pub decreases-loop-first : goal.decreases-loop-first
decreases-loop-first l = length l.left
