-- Tables of names.
use Rattle.std.specs.Prelude.{◌≡◌, ℕ, Bool, Option, List, length}
use Rattle.std.specs.Map.{lookup}
use Rattle.ir_names.specs.Sense.{number_of}
use Rattle.ir_names.specs.declared.numbers.Numbers.{Numbers as Table}

-- what a table says
abbrev pub number_in : {K : Type 0} → (K → K → Bool) → Table K → K → Option ℕ
number_in eq t name = lookup (eq name) t.firsts.entries

-- a table holds the names of these definitions
abbrev pub Numbers : {K : Type 0} → (K → K → Bool) → Table K → List K → Type 0
Numbers {K} eq t names = (t.count ≡ length names) × ((name : K) → number_in eq t name ≡ number_of eq names name)
