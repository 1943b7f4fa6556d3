-- What stands in a sink after lines were to be written to it.
use Rattle.std.specs.Prelude.{ℕ, ◌<◌, ◌≤◌, List, length, take, Option, Result, Ok, Err}
use Rattle.std.specs.List.{flat_map}
use Rattle.ir_values.specs.Counts.{Rose}
use Rattle.output_lines.specs.declared.line.ShotStop.{ShotStop}
use Rattle.output_lines.specs.declared.line.ShotStop.TheVariants as stop
use Rattle.qir_ports.specs.Known.{Takes}

-- the text of lines
abbrev pub text_of : List (List ℕ) → List ℕ
text_of lines = flat_map (λ line. line) lines

-- the first bytes of a text were written, and not all
pub record WritesPart (text : List ℕ) (before now : Option (List ℕ)) : Type 0 where
  pub count : ℕ
  pub not_all : count < length text
  pub written : Takes before (take count text) now

-- the first of the lines were written, each whole
pub record WritesFirst (lines : List (List ℕ)) (before now : Option (List ℕ)) : Type 0 where
  pub count : ℕ
  pub within : count ≤ length lines
  pub written : Takes before (text_of (take count lines)) now

-- The lines were all written; or a write failed, which was counted; or there was no memory for a line.
abbrev pub Writes : {A : Type 0} → List (List ℕ) → (before now : Option (List ℕ)) (faults faults' : ℕ) → Result A ShotStop → Type 0
Writes lines before now faults faults' (Ok done) = Takes before (text_of lines) now
Writes lines before now faults faults' (Err stop.Write) = WritesPart (text_of lines) before now × Rose faults faults'
Writes lines before now faults faults' (Err stop.Memory) = WritesFirst lines before now
