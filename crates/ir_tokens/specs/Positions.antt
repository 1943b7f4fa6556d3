-- Lines and columns.
use Rattle.std.specs.Prelude.{ℕ, ◌+◌, Bool, not, ◌==◌, List, take, count_by}
use Rattle.std.specs.List.{suffix_len}
use Rattle.ir_values.specs.Bytes.{line_feed}
use Rattle.ir_tokens.specs.declared.lines.Position.{Position}

abbrev pub ends_line : ℕ → Bool
ends_line c = c == line_feed

-- the position behind these bytes: an LF ends a line, and both numbers count from 1
abbrev pub position_behind : List ℕ → Position
position_behind before =
    record { line = count_by ends_line before + 1; column = suffix_len (λ c. not (ends_line c)) before + 1 }

-- the position of a place in a text; a place behind the end counts as the end
unfoldable pub position_of : List ℕ → ℕ → Position
position_of bytes place = position_behind (take place bytes)
