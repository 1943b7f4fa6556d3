-- Words of a type that stand at the beginning of others.
use Rattle.std.specs.Prelude.{ℕ, Bool, true, false, if◌then◌else◌, Option, None, Some, List, [], ◌∷◌}
use Rattle.ir_values.specs.declared.sig.TyWord.{TyWord}
use Rattle.ir_values.specs.declared.sig.TyWord.TheVariants as word
use Rattle.ir_values.specs.declared.ty.Ty.{Ty}
use Rattle.ir_values.specs.Calls.{same_word}
use Rattle.ir_values.specs.Types.{words_of}

-- the words behind the first ones, where these stand at the beginning
abbrev pub after_words : List TyWord → List TyWord → Option (List TyWord)
after_words [] ws = Some ws
after_words (a ∷ first) [] = None
after_words (a ∷ first) (w ∷ ws) = if same_word a w then after_words first ws else None

abbrev pub then_after : Option (List TyWord) → (List TyWord → Option (List TyWord)) → Option (List TyWord)
then_after None go = None
then_after (Some ws) go = go ws

-- the words behind those of some types in order
abbrev pub after_types : List Ty → List TyWord → Option (List TyWord)
after_types [] ws = Some ws
after_types (t ∷ ts) ws = then_after (after_words (words_of t) ws) (after_types ts)

-- the words behind those of the type of functions that give `ret` and take n parameters of these types
abbrev pub after_signature : ℕ → Ty → List Ty → List TyWord → Option (List TyWord)
after_signature n ret ts ws = then_after (then_after (after_words (word.Func n ∷ []) ws) (after_words (words_of ret))) (after_types ts)

-- no word is left
abbrev pub ends : Option (List TyWord) → Bool
ends None = false
ends (Some []) = true
ends (Some (w ∷ ws)) = false
