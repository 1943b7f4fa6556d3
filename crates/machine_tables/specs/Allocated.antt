-- How many qubits a run allocated, and which of them it holds.
use Rattle.std.specs.Prelude.{ℕ, suc, Bool, true, false, List, [], ◌∷◌, length}

pub record Allocated : Type 0 where
  pub count : ℕ
  pub held : List ℕ

-- the numbers of those that are marked, from n on
abbrev pub numbers : ℕ → List Bool → List ℕ
numbers n [] = []
numbers n (true ∷ marks) = n ∷ numbers (suc n) marks
numbers n (false ∷ marks) = numbers (suc n) marks

abbrev pub allocated_of : List Bool → Allocated
allocated_of marks = record { count = length marks; held = numbers 0 marks }
