-- What reading all of the tokens of a text answers.
use Rattle.std.specs.Prelude.{Result, Ok, Err, List}
use Rattle.grammar.specs.declared.whole.Refusal.{Refusal}
use Rattle.grammar.specs.declared.whole.Refusal.TheVariants.{NoMemory, Refused}
use Rattle.grammar.specs.Grammar.{Alphabet, Grammar}
use Rattle.grammar.specs.Language.{Derives, Misread}

-- The answer is right, unless memory ran out.
abbrev pub Answers : {L : Alphabet} {A : Type 0} → Grammar L A → List L.Token → Result A (Refusal L.Rule) → Type 0
Answers g ts (Ok x) = Derives g ts x
Answers g ts (Err (Refused f k)) = Misread g ts f k
Answers g ts (Err NoMemory) = Unit
