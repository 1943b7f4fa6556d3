-- The theorems on a grammar in which one token of look-ahead decides.
use Rattle.std.specs.Prelude.{◌≡◌, ◌↔◌, List, ◌++◌}
use Rattle.grammar.specs.Grammar.{Alphabet, Grammar}
use Rattle.grammar.specs.Language.{Derives, Fine, Front, Answer, Holds}
use Rattle.grammar.specs.code.Reading.{answer}

-- A token list has exactly one tree or exactly one first fault.
abbrev pub HoldsOnce : {L : Alphabet} {A : Type 0} → Grammar L A → Type 0
HoldsOnce {L} {A} g = (ts : List L.Token) → (r : Answer L A) × Holds g ts r × ((q : Answer L A) → Holds g ts q → q ≡ r)

-- A sentence has one tree.
abbrev pub OneTree : {L : Alphabet} {A : Type 0} → Grammar L A → Type 0
OneTree {L} {A} g = (ts : List L.Token) (x y : A) → Derives g ts x → Derives g ts y → x ≡ y

-- Sentences, and the beginnings of viable prefixes, are viable prefixes.
abbrev pub PrefixClosed : {L : Alphabet} {A : Type 0} → Grammar L A → Type 0
PrefixClosed {L} {A} g =
    ((ts : List L.Token) (x : A) → Derives g ts x → Front g Fine ts)
    × ((us vs : List L.Token) → Front g Fine (us ++ vs) → Front g Fine us)

-- What one token of look-ahead answers holds, and nothing else does.
abbrev pub AnswersExactly : {L : Alphabet} {A : Type 0} → Grammar L A → Type 0
AnswersExactly {L} {A} g = (ts : List L.Token) (r : Answer L A) → Holds g ts r ↔ (answer g ts ≡ r)
