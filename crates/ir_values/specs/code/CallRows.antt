-- The table of known functions as the code has it, whose texts and words are slices.
use Rattle.std.specs.Prelude.{ℕ, Bool, false, ◌&&◌, ◌||◌, if◌then◌else◌, Option, None, Some, List, [], ◌∷◌}
use Rattle.ir_values.specs.declared.sig.TyWord.{TyWord}
use Rattle.ir_values.specs.declared.call_table.Row.{Row}
use Rattle.ir_values.specs.Calls as spec
use Rattle.ir_values.specs.Calls.{same_text, same_words}

-- whether a row has the name
abbrev pub is_known : List ℕ → List Row → Bool
is_known name [] = false
is_known name (r ∷ rs) = same_text name r.name.now || is_known name rs

-- the first row that has the name and the words
abbrev pub first : List ℕ → List TyWord → List Row → Option spec.Row
first name words [] = None
first name words (r ∷ rs) =
    if same_text name r.name.now && same_words words r.words.now
    then Some (record { name = r.name.now; words = r.words.now; class = r.class })
    else first name words rs
