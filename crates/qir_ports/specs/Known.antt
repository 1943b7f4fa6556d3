-- What a call does to the bytes that a source has left or that a sink took, where they are told.
use Rattle.std.specs.Prelude.{◌≡◌, ℕ, ◌+◌, ◌<◌, ◌≤◌, List, [], ◌++◌, length, drop, Option, IfSome}
use Rattle.std.specs.Option.{option_map}

-- the bytes that were left are these, and then those that are left now
abbrev pub Gives : Option (List ℕ) → List ℕ → Option (List ℕ) → Type 0
Gives before bytes now = before ≡ option_map (λ rest. bytes ++ rest) now

-- the bytes taken are those that were taken before, and then these
abbrev pub Takes : Option (List ℕ) → List ℕ → Option (List ℕ) → Type 0
Takes before bytes now = now ≡ option_map (λ all. all ++ bytes) before

-- no byte is left
abbrev pub IsAtEnd : Option (List ℕ) → Type 0
IsAtEnd left = IfSome left (λ rest. rest ≡ [])

-- these bytes were all that were left, and none is left now
pub record GivesAll (before : Option (List ℕ)) (bytes : List ℕ) (now : Option (List ℕ)) : Type 0 where
  pub all : IfSome before (λ all. all ≡ bytes)
  pub none_left : now ≡ option_map (λ _. []) before

-- more than `limit` bytes were left, and `limit + 1` of them were given
pub record GivesTooMany (limit : ℕ) (before now : Option (List ℕ)) : Type 0 where
  pub more : IfSome before (λ all. limit < length all)
  pub rest : now ≡ option_map (λ all. drop (limit + 1) all) before

-- the first of the bytes left were given, at most `most` of them
abbrev pub GivesUpTo : ℕ → Option (List ℕ) → Option (List ℕ) → Type 0
GivesUpTo most before now = (bytes : List ℕ) × (length bytes ≤ most) × Gives before bytes now
