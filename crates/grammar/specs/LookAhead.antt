-- The test that one token of look-ahead decides.
use Rattle.std.specs.Prelude.{◌≡◌, Bool, true, false, ◌||◌, ◌&&◌, if◌then◌else◌, List, [], ◌∷◌, ◌++◌}
use Rattle.grammar.specs.Grammar.{Alphabet, Grammar, nothing, tok, seq, alt, opt, rep, as_tree, dep, grow, marked, has}

-- no kind is in both
abbrev pub apart : (L : Alphabet) → List L.Kind → List L.Kind → Bool
apart L [] ys = true
apart L (x ∷ xs) ys = if has L ys x then false else apart L xs ys

-- each kind of xs is in ys
abbrev pub within : (L : Alphabet) → List L.Kind → List L.Kind → Bool
within L [] ys = true
within L (x ∷ xs) ys = if has L ys x then within L xs ys else false

-- no token at all is a sentence
abbrev pub nullable : {L : Alphabet} {A : Type 0} → Grammar L A → Bool
nullable (nothing a) = true
nullable (tok s p) = false
nullable (seq a b) = nullable a && nullable b
nullable (alt a b) = nullable a || nullable b
nullable (opt a) = true
nullable (rep a) = true
nullable (as_tree f a) = nullable a
nullable (dep a s f) = false
nullable (grow x s f) = true
nullable (marked a) = nullable a

-- the first set (FIRST): the kinds by which a sentence may begin
abbrev pub firsts : {L : Alphabet} {A : Type 0} → Grammar L A → List L.Kind
firsts (nothing a) = []
firsts (tok s p) = s
firsts (seq a b) = firsts a ++ (if nullable a then firsts b else [])
firsts (alt a b) = firsts a ++ firsts b
firsts (opt a) = firsts a
firsts (rep a) = firsts a
firsts (as_tree f a) = firsts a
firsts (dep a s f) = firsts a
firsts (grow x s f) = firsts (f x)
firsts (marked a) = firsts a

-- the kinds by which a sentence may go on to a longer one
abbrev pub extensions : {L : Alphabet} {A : Type 0} → Grammar L A → List L.Kind
extensions (nothing a) = []
extensions (tok s p) = []
extensions (seq a b) = extensions b ++ (if nullable b then extensions a else [])
extensions (alt a b) = extensions a ++ extensions b
extensions (opt a) = firsts a ++ extensions a
extensions (rep a) = firsts a ++ extensions a
extensions (as_tree f a) = extensions a
extensions (dep a s f) = s
extensions (grow x s f) = s
extensions (marked a) = extensions a

-- a marked part may begin before the first token
abbrev pub marks : {L : Alphabet} {A : Type 0} → Grammar L A → Bool
marks (nothing a) = false
marks (tok s p) = false
marks (seq a b) = marks a || (nullable a && marks b)
marks (alt a b) = marks a || marks b
marks (opt a) = marks a
marks (rep a) = marks a
marks (as_tree f a) = marks a
marks (dep a s f) = marks a
marks (grow x s f) = marks (f x)
marks (marked a) = true

-- One token of look-ahead decides: what goes on and what comes next are told apart by the next token's kind.
-- In an `alt`, a `rep` or a `grow`, and in the first part of a `dep`, no part is nullable.
abbrev pub LL1 : {L : Alphabet} {A : Type 0} → Grammar L A → Type 0
LL1 {L} (nothing a) = Unit
LL1 {L} (tok s p) = Unit
LL1 {L} (seq a b) = LL1 a × LL1 b × (apart L (extensions a) (firsts b) ≡ true)
LL1 {L} (alt a b) = LL1 a × LL1 b × (apart L (firsts a) (firsts b) ≡ true) × (nullable a ≡ false) × (nullable b ≡ false)
LL1 {L} (opt a) = LL1 a × (nullable a ≡ false)
LL1 {L} (rep a) = LL1 a × (nullable a ≡ false) × (apart L (extensions a) (firsts a) ≡ true)
LL1 {L} (as_tree f a) = LL1 a
LL1 {L} (dep a s f) =
    LL1 a × (nullable a ≡ false)
    × ((x : _) → LL1 (f x) × (apart L (extensions a) (firsts (f x)) ≡ true) × (nullable (f x) ≡ true → within L (extensions a) s ≡ true)
    × (within L (extensions (f x)) s ≡ true))
LL1 {L} (grow x s f) =
    (y : _) → LL1 (f y) × (nullable (f y) ≡ false) × (within L (firsts (f y)) s ≡ true) × (within L (extensions (f y)) s ≡ true)
    × ((z : _) → apart L (extensions (f y)) (firsts (f z)) ≡ true)
LL1 {L} (marked a) = LL1 a

-- What a reader of a part has to know of it: one token of look-ahead decides in it, it is never empty, these are the kinds
-- by which it begins, and this is whether it may begin with a marked part.
pub record Starts {L : Alphabet} {A : Type 0} (g : Grammar L A) (kinds : List L.Kind) (mark : Bool) : Type 0 where
  pub decided : LL1 g
  pub some : nullable g ≡ false
  pub begins : firsts g ≡ kinds
  pub marked : marks g ≡ mark
