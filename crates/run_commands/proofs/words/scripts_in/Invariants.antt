use Rattle.std.proofs.Common.{length, map}
use denote.Text.{Utf8}
use denote.Shadow.{shadow}
use Rattle.run_commands.specs.Words.{script_in, parts_of}
use Rattle.run_commands.proofs.Reading.{Remains}
use Rattle.run_commands.proofs.words.scripts_in.Given as goal

abbrev pub invariant-loop-first : goal.invariant-loop-first
invariant-loop-first l = record {
  text : shadow (Utf8 l.left);
  remains : Remains (map script_in (parts_of l.word)) (map script_in (parts_of l.left)) l.all;
}

abbrev pub decreases-loop-first : goal.decreases-loop-first
decreases-loop-first l = length l.left
