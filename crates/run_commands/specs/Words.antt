-- The words of `run` and `trace`.
use Rattle.std.specs.Prelude.{ℕ, ◌==◌, nat_le, Bool, true, false, if◌then◌else◌, Option, None, Some, List, [], ◌∷◌, length, map, codes}
use Rattle.std.specs.List.{slice_split}
use Rattle.std.specs.Option.{option_map}
use Rattle.ir_values.specs.Calls.{same_text}
use Rattle.output_lines.specs.declared.last.Schema.{Schema}
use Rattle.output_lines.specs.declared.last.Schema.TheVariants.{Labeled, Ordered}
use Rattle.shots.specs.declared.backend.Backend.{Backend}
use Rattle.shots.specs.declared.backend.Backend.TheVariants.{Script}

abbrev pub schema_word : List ℕ → Option Schema
schema_word word =
    if same_text word (codes "labeled") then Some Labeled else (if same_text word (codes "ordered") then Some Ordered else None)

-- one more where it is there, and all others are
abbrev pub and_more : {A : Type 0} → Option A → Option (List A) → Option (List A)
and_more None xs = None
and_more (Some x) None = None
and_more (Some x) (Some xs) = Some (x ∷ xs)

abbrev pub all_of : {A : Type 0} → List (Option A) → Option (List A)
all_of [] = Some []
all_of (x ∷ xs) = and_more x (all_of xs)

-- the bit that a digit writes, 0 or 1
abbrev pub digit_bit : ℕ → Option Bool
digit_bit b = if b == 48 then Some false else (if b == 49 then Some true else None)

-- the backend whose bits a word writes: a digit for each, or `-` where there are none
abbrev pub script_in : List ℕ → Option Backend
script_in [] = None
script_in (b ∷ bs) =
    if same_text (b ∷ bs) (codes "-") then Some (Script []) else option_map Script (all_of (map digit_bit (b ∷ bs)))

abbrev pub comma : ℕ
comma = 44

-- the parts of a word between commas
abbrev pub parts_of : List ℕ → List (List ℕ)
parts_of word = slice_split (λ b. b == comma) word

-- the backends of several shots, with commas between
abbrev pub scripts_in : List ℕ → Option (List Backend)
scripts_in word = all_of (map script_in (parts_of word))

-- the most characters of a word of outcomes
abbrev pub longest : ℕ
longest = 65536

-- what a word says, where it isn't too long
abbrev pub if_short : {A : Type 0} → List ℕ → Option A → Option A
if_short word what = if nat_le (length word) longest then what else None

-- OUTCOME, the bits of one shot, and OUTCOMES, those of one shot or several
abbrev pub script_word : List ℕ → Option Backend
script_word word = if_short word (script_in word)

abbrev pub scripts_word : List ℕ → Option (List Backend)
scripts_word word = if_short word (scripts_in word)
