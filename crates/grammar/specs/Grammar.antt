-- Grammars as data.
use Rattle.std.specs.Prelude.{ℕ, Bool, false, ◌||◌, nat_eq, Option, Some, None, List, [], ◌∷◌}

-- What a grammar speaks of: the terminals, which are tokens of a kind, and what a side rule says of a token that breaks it.
-- Kinds are told apart by their codes.
pub record Alphabet : Type 1 where
  pub Token : Type 0
  pub Kind : Type 0
  pub Rule : Type 0
  pub kind : Token → Kind
  pub code : Kind → ℕ

-- A production. Each of its sentences has a tree in A.
-- A grammar is finite: a production that contains itself is a function of the depth that is left, by recursion on it.
pub data Grammar (L : Alphabet) : Type 0 → Type 1 where
  -- no token
  nothing : {A : Type 0} → A → Grammar L A
  -- one token of one of these kinds; the side rule tells what it breaks, if anything
  tok : List L.Kind → (L.Token → Option L.Rule) → Grammar L L.Token
  -- the one and then the other
  seq : {A B : Type 0} → Grammar L A → Grammar L B → Grammar L (A × B)
  -- the one or the other
  alt : {A : Type 0} → Grammar L A → Grammar L A → Grammar L A
  -- at most once
  opt : {A : Type 0} → Grammar L A → Grammar L (Option A)
  -- any number of times
  rep : {A : Type 0} → Grammar L A → Grammar L (List A)
  -- the same sentences with other trees
  as_tree : {A B : Type 0} → (A → B) → Grammar L A → Grammar L B
  -- the one, and then what its tree asks for; the kinds are those by which a sentence may go on
  dep : {A B : Type 0} → Grammar L A → List L.Kind → (A → Grammar L B) → Grammar L (A × B)
  -- any number of parts, each asked for by the tree so far, and giving the next; the kinds are those by which it may go on
  grow : {A : Type 0} → A → List L.Kind → (A → Grammar L A) → Grammar L A
  -- the same sentences; a fault tells whether a part so marked could begin at it
  marked : {A : Type 0} → Grammar L A → Grammar L A

-- k is one of the kinds
abbrev pub has : (L : Alphabet) → List L.Kind → L.Kind → Bool
has L [] k = false
has L (x ∷ xs) k = nat_eq (L.code x) (L.code k) || has L xs k

-- t is of one of the kinds
abbrev pub is_in : (L : Alphabet) → L.Token → List L.Kind → Bool
is_in L t s = has L s (L.kind t)

-- the first token is of one of the kinds
abbrev pub begins_with : (L : Alphabet) → List L.Kind → List L.Token → Bool
begins_with L s [] = false
begins_with L s (t ∷ ts) = is_in L t s

-- the alphabet with these rules, kinds and codes
abbrev pub alphabet : {T K : Type 0} (R : Type 0) → (T → K) → (K → ℕ) → Alphabet
alphabet {T} {K} R kind code = record { Token = T; Kind = K; Rule = R; kind = kind; code = code }

-- no side rule
abbrev pub any : {T R : Type 0} → T → Option R
any t = None

-- Forms that grammars share.

abbrev pub cons : {A : Type 0} → A × List A → List A
cons p = p.0 ∷ p.1

abbrev pub second : {A B : Type 0} → A × B → B
second p = p.1

abbrev pub or_none : {A : Type 0} → Option (List A) → List A
or_none None = []
or_none (Some xs) = xs

-- s a
unfoldable pub preceded : {L : Alphabet} {A : Type 0} → List L.Kind → Grammar L A → Grammar L A
preceded {L} s a = as_tree second (seq (tok s any) a)

-- [ a { s a } ]
unfoldable pub listed : {L : Alphabet} {A : Type 0} → List L.Kind → Grammar L A → Grammar L (List A)
listed s a = as_tree or_none (opt (as_tree cons (seq a (rep (preceded s a)))))

-- a, and then parts that grow on it
abbrev pub grown : {L : Alphabet} {A : Type 0} → Grammar L A → List L.Kind → (A → Grammar L A) → Grammar L A
grown a s f = as_tree second (dep a s (λ x. grow x s f))

-- { s }, without trees
unfoldable pub ignored : {L : Alphabet} → List L.Kind → Grammar L (Unit {0})
ignored s = as_tree (λ _. tt) (rep (tok s any))
