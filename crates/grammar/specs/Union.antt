-- Two grammars of one language, as two ways to write the same things. Its sentences are those of either grammar, and its
-- viable prefixes too: both are those of `alt g h`. One token of look-ahead decides in each of the two and not in `alt g h`,
-- so each is read by itself, and the two answers are joined. Where both grammars speak at once the first one counts.
use Rattle.std.specs.Prelude.{◌≡◌, ℕ, ◌||◌, if◌then◌else◌, nat_lt, Result, Ok, Err, List, [], ◌∷◌, ◌++◌, length, ◌⊎◌}
use Rattle.grammar.specs.declared.fault.Fault.{Fault}
use Rattle.grammar.specs.declared.fault.Fault.TheVariants.{Unexpected, Broken}
use Rattle.grammar.specs.Grammar.{Alphabet, Grammar, alt}
use Rattle.grammar.specs.Language.{Derives, Fine, Breaks, Front, IsFault, Answer}
use Rattle.grammar.specs.code.Reading.{answer}

-- the tree of the first grammar, or where it has none that of the second
abbrev pub EitherDerives : {L : Alphabet} {A : Type 0} → Grammar L A → Grammar L A → List L.Token → A → Type 0
EitherDerives {L} {A} g h ts x = Derives g ts x ⊎ (Derives h ts x × ((y : A) → Derives g ts y → ⊥))

-- the last token breaks this side rule of the first grammar, or breaks none of the first and this one of the second
abbrev pub EitherBreaks : {L : Alphabet} {A : Type 0} → Grammar L A → Grammar L A → List L.Token → L.Rule → Type 0
EitherBreaks {L} g h ts r = Front g (Breaks r) ts ⊎ (Front h (Breaks r) ts × ((q : L.Rule) → Front g (Breaks q) ts → ⊥))

abbrev pub IsEitherBroken : {L : Alphabet} {A : Type 0} → Grammar L A → Grammar L A → List L.Token → List L.Token → L.Rule → Type 0
IsEitherBroken g h us [] r = ⊥
IsEitherBroken g h us (t ∷ v) r = EitherBreaks g h (us ++ t ∷ []) r × (Front (alt g h) Fine (us ++ t ∷ []) → ⊥)

abbrev pub IsEitherFault : {L : Alphabet} {A : Type 0} → Grammar L A → Grammar L A → List L.Token → List L.Token → Fault L.Rule → Type 0
IsEitherFault g h us rest (Unexpected d) = IsFault (alt g h) us rest (Unexpected d)
IsEitherFault g h us rest (Broken r) = IsEitherBroken g h us rest r

-- The first fault of the union: the first token with which the tokens are a viable prefix of neither grammar.
abbrev pub EitherMisread : {L : Alphabet} {A : Type 0} → Grammar L A → Grammar L A → List L.Token → Fault L.Rule → ℕ → Type 0
EitherMisread {L} g h ts f k =
    (us rest : List L.Token) × (ts ≡ us ++ rest) × (k ≡ length us) × Front (alt g h) Fine us × IsEitherFault g h us rest f

abbrev pub EitherHolds : {L : Alphabet} {A : Type 0} → Grammar L A → Grammar L A → List L.Token → Answer L A → Type 0
EitherHolds g h ts (Ok x) = EitherDerives g h ts x
EitherHolds g h ts (Err e) = EitherMisread g h ts e.0 e.1

-- two faults at one token
abbrev pub join_faults : {R : Type 0} → Fault R → Fault R → Fault R
join_faults (Broken r) f = Broken r
join_faults (Unexpected d) (Broken r) = Broken r
join_faults (Unexpected d) (Unexpected e) = Unexpected (d || e)

-- the later of two faults
abbrev pub later : {R : Type 0} → Fault R × ℕ → Fault R × ℕ → Fault R × ℕ
later e f = if nat_lt e.1 f.1 then f else if nat_lt f.1 e.1 then e else (join_faults e.0 f.0, e.1)

-- The two answers joined: a tree if there is one, else the later fault.
abbrev pub join : {A R : Type 0} → Result A (Fault R × ℕ) → Result A (Fault R × ℕ) → Result A (Fault R × ℕ)
join (Ok x) b = Ok x
join (Err e) (Ok y) = Ok y
join (Err e) (Err f) = Err (later e f)

-- The joined answer holds of the union, and nothing else does.
abbrev pub JoinHolds : {L : Alphabet} {A : Type 0} → Grammar L A → Grammar L A → Type 0
JoinHolds {L} {A} g h =
    (ts : List L.Token)
    → EitherHolds g h ts (join (answer g ts) (answer h ts))
    × ((q : Answer L A) → EitherHolds g h ts q → q ≡ join (answer g ts) (answer h ts))
