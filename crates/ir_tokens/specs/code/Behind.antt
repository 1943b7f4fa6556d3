-- What stands behind the bytes that stand for one byte of a string.
use Rattle.std.specs.Prelude.{ℕ, ◌==◌, if◌then◌else◌, List, drop}
use Rattle.ir_values.specs.Bytes.{backslash}
use Rattle.ir_text.specs.Faults.{escape_length}

abbrev pub behind_one : ℕ → List ℕ → List ℕ
behind_one c cs = if c == backslash then drop (escape_length cs) cs else cs
