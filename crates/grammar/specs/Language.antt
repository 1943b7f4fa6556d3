-- What a grammar says of lists of tokens: derivations, viable prefixes and the first fault.
use Rattle.std.specs.Prelude.{◌≡◌, ℕ, true, Option, Some, None, Result, Ok, Err, List, [], ◌∷◌, ◌++◌, length, ◌⊎◌}
use Rattle.grammar.specs.declared.fault.Fault.{Fault}
use Rattle.grammar.specs.declared.fault.Fault.TheVariants.{Unexpected, Broken}
use Rattle.grammar.specs.Grammar.{Alphabet, Grammar, nothing, tok, seq, alt, opt, rep, as_tree, dep, grow, marked, is_in}

-- Derivations.

-- token lists and the trees that they have
abbrev pub Sentence : Type 0 → Type 0 → Type 1
Sentence T A = List T → A → Type 0

-- a sentence of the first part, and then one of the second
abbrev pub both : {T A B : Type 0} → Sentence T A → (A → Sentence T B) → Sentence T (A × B)
both {T} a b ts x = (us vs : List T) × (ts ≡ us ++ vs) × a us x.0 × b x.0 vs x.1

abbrev pub maybe : {T A : Type 0} → Sentence T A → Sentence T (Option A)
maybe a ts None = ts ≡ []
maybe a ts (Some x) = a ts x

abbrev pub many : {T A : Type 0} → Sentence T A → Sentence T (List A)
many a ts [] = ts ≡ []
many {T} a ts (x ∷ xs) = (us vs : List T) × (ts ≡ us ++ vs) × a us x × many a vs xs

-- from the tree x on, parts that give these trees one after the other
abbrev pub steps : {T A : Type 0} → (A → Sentence T A) → A → List A → List T → Type 0
steps a x [] ts = ts ≡ []
steps {T} a x (y ∷ ys) ts = (us vs : List T) × (ts ≡ us ++ vs) × a x us y × steps a y ys vs

-- the last of x and the trees after it
abbrev pub last_of : {A : Type 0} → A → List A → A
last_of x [] = x
last_of x (y ∷ ys) = last_of y ys

abbrev pub growth : {T A : Type 0} → (A → Sentence T A) → A → Sentence T A
growth {T} {A} a x ts y = (ys : List A) × (y ≡ last_of x ys) × steps a x ys ts

-- The tokens are a sentence of g with this tree.
abbrev pub Derives : {L : Alphabet} {A : Type 0} → Grammar L A → Sentence L.Token A
Derives (nothing a) = λ ts x. (ts ≡ []) × (x ≡ a)
Derives {L} (tok s p) = λ ts t. (ts ≡ t ∷ []) × (is_in L t s ≡ true) × (p t ≡ None)
Derives (seq a b) = both (Derives a) (λ _. Derives b)
Derives (alt a b) = λ ts x. Derives a ts x ⊎ Derives b ts x
Derives (opt a) = maybe (Derives a)
Derives (rep a) = many (Derives a)
Derives (as_tree f a) = λ ts y. (x : _) × Derives a ts x × (y ≡ f x)
Derives (dep a s f) = both (Derives a) (λ x. Derives (f x))
Derives (grow x s f) = growth (λ y. Derives (f y)) x
Derives (marked a) = Derives a

-- Viable prefixes, by cases on the productions, with what is known at their end. (Where each part has a sentence they are
-- the beginnings of sentences.)
-- Fine: the tokens are a viable prefix. Marked: and a marked part may begin after them.
-- Breaks: all but the last are a viable prefix, and the last may follow by its kind, but breaks a side rule.
pub data Ending (L : Alphabet) : Type 0 where
  Fine : Ending L
  Marked : Ending L
  Breaks : L.Rule → Ending L

abbrev pub Prefixes : Alphabet → Type 1
Prefixes L = Ending L → List L.Token → Type 0

-- of one token: that token or nothing
abbrev pub one : (L : Alphabet) → List L.Kind → (L.Token → Option L.Rule) → Prefixes L
one L s p Fine [] = Unit
one L s p Fine (t ∷ []) = (is_in L t s ≡ true) × (p t ≡ None)
one L s p (Breaks r) (t ∷ []) = (is_in L t s ≡ true) × (p t ≡ Some r)
one L s p m ts = ⊥

abbrev pub empty_front : {L : Alphabet} → Prefixes L
empty_front Fine ts = ts ≡ []
empty_front m ts = ⊥

abbrev pub mark_front : {L : Alphabet} → Prefixes L
mark_front Marked ts = ts ≡ []
mark_front m ts = ⊥

-- of two parts: one of the first, or a sentence of the first and then one of the second
abbrev pub both_front : {L : Alphabet} {A : Type 0} → Sentence L.Token A → Prefixes L → (A → Prefixes L) → Prefixes L
both_front {L} {A} w a b m ts = a m ts ⊎ ((x : A) × (us vs : List L.Token) × (ts ≡ us ++ vs) × w us x × b x m vs)

-- of a repetition: any number of sentences, and then one more
abbrev pub many_front : {L : Alphabet} {A : Type 0} → Sentence L.Token A → Prefixes L → Prefixes L
many_front {L} {A} w a m ts = (xs : List A) × (us vs : List L.Token) × (ts ≡ us ++ vs) × many w us xs × a m vs

abbrev pub growth_front : {L : Alphabet} {A : Type 0} → (A → Sentence L.Token A) → (A → Prefixes L) → A → Prefixes L
growth_front {L} {A} w a x m ts = (ys : List A) × (us vs : List L.Token) × (ts ≡ us ++ vs) × steps w x ys us × a (last_of x ys) m vs

-- The tokens are a viable prefix of g.
abbrev pub Front : {L : Alphabet} {A : Type 0} → Grammar L A → Prefixes L
Front (nothing a) = empty_front
Front {L} (tok s p) = one L s p
Front (seq a b) = both_front (Derives a) (Front a) (λ _. Front b)
Front (alt a b) = λ m ts. Front a m ts ⊎ Front b m ts
Front (opt a) = Front a
Front (rep a) = many_front (Derives a) (Front a)
Front (as_tree f a) = Front a
Front (dep a s f) = both_front (Derives a) (Front a) (λ x. Front (f x))
Front (grow x s f) = growth_front (λ y. Derives (f y)) (λ y. Front (f y)) x
Front (marked a) = λ m ts. mark_front m ts ⊎ Front a m ts

-- The first fault.
-- Side rules stand in viable prefixes here: a token that breaks one ends them. To leave them aside there gives the same
-- first fault (`Aside`). The first fault of a language with two grammars is in `Union`.

-- us goes on by rest, and no sentence does: the next token is in no viable prefix, or us ends too early
abbrev pub IsUnexpected : {L : Alphabet} {A : Type 0} → Grammar L A → List L.Token → List L.Token → Type 0
IsUnexpected {L} {A} g us [] = (x : A) → Derives g us x → ⊥
IsUnexpected {L} g us (t ∷ v) = (Front g Fine (us ++ t ∷ []) → ⊥) × ((r : L.Rule) → Front g (Breaks r) (us ++ t ∷ []) → ⊥)

-- the next token breaks this side rule, and is in no viable prefix otherwise
abbrev pub IsBroken : {L : Alphabet} {A : Type 0} → Grammar L A → List L.Token → List L.Token → L.Rule → Type 0
IsBroken g us [] r = ⊥
IsBroken g us (t ∷ v) r = Front g (Breaks r) (us ++ t ∷ []) × (Front g Fine (us ++ t ∷ []) → ⊥)

abbrev pub IsFault : {L : Alphabet} {A : Type 0} → Grammar L A → List L.Token → List L.Token → Fault L.Rule → Type 0
IsFault g us rest (Unexpected d) = IsUnexpected g us rest × (d ≡ true → Front g Marked us) × (Front g Marked us → d ≡ true)
IsFault g us rest (Broken r) = IsBroken g us rest r

-- The first fault of ts: f, at the token (or the end) that k tokens stand before.
abbrev pub Misread : {L : Alphabet} {A : Type 0} → Grammar L A → List L.Token → Fault L.Rule → ℕ → Type 0
Misread {L} g ts f k = (us rest : List L.Token) × (ts ≡ us ++ rest) × (k ≡ length us) × Front g Fine us × IsFault g us rest f

-- what is said of a token list: its tree, or its first fault and how many tokens stand before it
abbrev pub Answer : Alphabet → Type 0 → Type 0
Answer L A = Result A (Fault L.Rule × ℕ)

-- the answer is right
abbrev pub Holds : {L : Alphabet} {A : Type 0} → Grammar L A → List L.Token → Answer L A → Type 0
Holds g ts (Ok x) = Derives g ts x
Holds g ts (Err e) = Misread g ts e.0 e.1
