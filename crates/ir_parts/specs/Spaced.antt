-- Parts that stand apart: no token runs on into what stands behind it.
use Rattle.std.specs.Prelude.{ℕ, Bool, true, false, not, ◌&&◌, ◌||◌, ◌==◌, is_none, List, [], ◌∷◌}
use Rattle.std.specs.List.{list_all}
use Rattle.ir_values.specs.Bytes.{colon, small_c}
use Rattle.ir_values.specs.Double.{begins, is_nil}
use Rattle.ir_text.specs.Faults.{fault_of}
use Rattle.ir_text.specs.Forms.{is_only, is_sign, in_name, is_word, spells}
use Rattle.ir_text.specs.Tokens.{is_blank}
use Rattle.ir_text.specs.declared.tok.Tok.{Tok}
use Rattle.ir_text.specs.declared.tok.Tok.TheVariants.{Word, Label, ByteStr, Sign}
use Rattle.ir_parts.specs.Parts.{Part, gap, token}

-- a byte that could go on with a token before it
abbrev pub joins : ℕ → Bool
joins c = in_name c || (c == colon)

-- whether a token of this kind could go on with a byte behind it
abbrev pub is_open_ended : Tok → Bool
is_open_ended Sign = false
is_open_ended Label = false
is_open_ended ByteStr = false
is_open_ended kind = true

-- a sign of one byte
abbrev pub is_one_sign : List ℕ → Bool
is_one_sign [] = false
is_one_sign (c ∷ cs) = is_sign c && is_nil cs

-- The bytes are a token of the kind, with no fault in it. The sign '...' is left aside, and so is the word 'c', which
-- makes a byte string of a string directly behind it.
abbrev pub is_written : Tok → List ℕ → Bool
is_written Word s = is_word s && not (is_only small_c s)
is_written Sign s = is_one_sign s
is_written kind s = spells kind s && is_none (fault_of kind s)

-- Each part is what it says, and no token runs on into what stands behind it. joined: a token that could go on stands
-- directly before the parts.
abbrev pub spaced : Bool → List Part → Bool
spaced joined [] = true
spaced joined (gap s ∷ ps) = list_all is_blank s && spaced (joined && is_nil s) ps
spaced joined (token kind s ∷ ps) = not (joined && begins joins s) && is_written kind s && spaced (is_open_ended kind) ps
