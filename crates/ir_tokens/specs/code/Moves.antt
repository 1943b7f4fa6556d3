-- How a position moves over bytes.
use Rattle.std.specs.Prelude.{ℕ, ◌+◌, if◌then◌else◌, List, [], ◌∷◌}
use Rattle.ir_tokens.specs.Positions.{ends_line}
use Rattle.ir_tokens.specs.declared.lines.Position.{Position}

abbrev pub step : Position → ℕ → Position
step p c = if ends_line c then record { line = p.line + 1; column = 1 } else record { line = p.line; column = p.column + 1 }

abbrev pub moved : Position → List ℕ → Position
moved p [] = p
moved p (c ∷ cs) = moved (step p c) cs
