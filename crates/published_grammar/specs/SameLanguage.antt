-- Two grammars of one language.
use Rattle.std.specs.Prelude.{◌↔◌, List}
use Rattle.grammar.specs.Grammar.{Alphabet, Grammar}
use Rattle.grammar.specs.Language.{Derives, Ending, Front, Answer, Holds}

-- They have the same sentences, with the same trees.
abbrev pub SameSentences : {L : Alphabet} {A : Type 0} → Grammar L A → Grammar L A → Type 0
SameSentences {L} {A} g h = (ts : List L.Token) (x : A) → Derives g ts x ↔ Derives h ts x

-- They have the same viable prefixes, with the same known at their ends.
abbrev pub SamePrefixes : {L : Alphabet} {A : Type 0} → Grammar L A → Grammar L A → Type 0
SamePrefixes {L} g h = (m : Ending L) (ts : List L.Token) → Front g m ts ↔ Front h m ts

-- They say the same of a list of tokens: its tree, or its first fault (`Misread`) and how many tokens stand before that.
abbrev pub SameAnswers : {L : Alphabet} {A : Type 0} → Grammar L A → Grammar L A → Type 0
SameAnswers {L} {A} g h = (ts : List L.Token) (r : Answer L A) → Holds g ts r ↔ Holds h ts r
