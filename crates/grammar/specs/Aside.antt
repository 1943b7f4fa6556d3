-- The first fault where viable prefixes leave side rules aside.
use Rattle.std.specs.Prelude.{◌≡◌, ◌↔◌, ℕ, true, List, [], ◌∷◌, ◌++◌, length}
use Rattle.grammar.specs.declared.fault.Fault.{Fault}
use Rattle.grammar.specs.declared.fault.Fault.TheVariants.{Unexpected, Broken}
use Rattle.grammar.specs.Grammar.{Alphabet, Grammar, nothing, tok, seq, alt, opt, rep, as_tree, dep, grow, marked, any}
use Rattle.grammar.specs.Language.{Derives, Fine, Marked, Breaks, Front, Misread}

-- the grammar without its side rules
abbrev pub bare : {L : Alphabet} {A : Type 0} → Grammar L A → Grammar L A
bare (nothing a) = nothing a
bare (tok s p) = tok s any
bare (seq a b) = seq (bare a) (bare b)
bare (alt a b) = alt (bare a) (bare b)
bare (opt a) = opt (bare a)
bare (rep a) = rep (bare a)
bare (as_tree f a) = as_tree f (bare a)
bare (dep a s f) = dep (bare a) s (λ x. bare (f x))
bare (grow x s f) = grow x s (λ y. bare (f y))
bare (marked a) = marked (bare a)

-- no token of us breaks a side rule
abbrev pub KeepsRules : {L : Alphabet} {A : Type 0} → Grammar L A → List L.Token → Type 0
KeepsRules {L} g us = (vs ws : List L.Token) (t : L.Token) → us ≡ vs ++ t ∷ ws → (r : L.Rule) → Front g (Breaks r) (vs ++ t ∷ []) → ⊥

abbrev pub IsUnexpectedAside : {L : Alphabet} {A : Type 0} → Grammar L A → List L.Token → List L.Token → Type 0
IsUnexpectedAside {L} {A} g us [] = (x : A) → Derives (bare g) us x → ⊥
IsUnexpectedAside g us (t ∷ v) = Front (bare g) Fine (us ++ t ∷ []) → ⊥

abbrev pub IsBrokenAside : {L : Alphabet} {A : Type 0} → Grammar L A → List L.Token → List L.Token → L.Rule → Type 0
IsBrokenAside g us [] r = ⊥
IsBrokenAside g us (t ∷ v) r = Front g (Breaks r) (us ++ t ∷ [])

abbrev pub IsFaultAside : {L : Alphabet} {A : Type 0} → Grammar L A → List L.Token → List L.Token → Fault L.Rule → Type 0
IsFaultAside g us rest (Unexpected d) =
    IsUnexpectedAside g us rest × (d ≡ true → Front (bare g) Marked us) × (Front (bare g) Marked us → d ≡ true)
IsFaultAside g us rest (Broken r) = IsBrokenAside g us rest r

-- The first fault in text order: a token that breaks a side rule, or one with which the tokens are no viable prefix of
-- the grammar without its side rules.
abbrev pub MisreadAside : {L : Alphabet} {A : Type 0} → Grammar L A → List L.Token → Fault L.Rule → ℕ → Type 0
MisreadAside {L} g ts f k =
    (us rest : List L.Token) × (ts ≡ us ++ rest) × (k ≡ length us) × Front (bare g) Fine us × KeepsRules g us
    × IsFaultAside g us rest f

-- It is the same fault.
abbrev pub SameFault : {L : Alphabet} {A : Type 0} → Grammar L A → Type 0
SameFault {L} g = (ts : List L.Token) (f : Fault L.Rule) (k : ℕ) → Misread g ts f k ↔ MisreadAside g ts f k
