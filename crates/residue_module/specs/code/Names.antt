-- What the table of local names holds.
use Rattle.std.specs.Prelude.{◌≡◌, ℕ, suc, if◌then◌else◌, nat_eq, Option, None, Some, List, [], ◌∷◌, ◌++◌, length}
use Rattle.indexmap.specs.IndexMap.{get}
use Rattle.ir_values.specs.declared.ty.Ty.{Ty}
use Rattle.residue.specs.Printed.{is_of, locals_from}
use Rattle.residue_module.specs.declared.names.LocalNames.{LocalNames}

-- local names in a row, each with its type and the number of the Dynamic value that it has
abbrev pub Names : Type 0
Names = List (Option ℕ × Ty)

-- the number of the first name that has a Dynamic value, where the names begin with number n
abbrev pub first_from : ℕ → Names → ℕ → Option ℕ
first_from n [] d = None
first_from n (x ∷ names) d = if is_of d x.0 then Some n else first_from (suc n) names d

-- the table holds these names
pub record Holds (names : Names) (t : LocalNames) : Type 0 where
  pub locals : t.locals ≡ locals_from 0 names
  pub firsts : (d : ℕ) → get nat_eq t.firsts d ≡ first_from 0 names d

-- after this the table of some names is that of some more
abbrev pub Adds : Names → LocalNames → LocalNames → Type 0
Adds more old new = (names : Names) → Holds names old → Holds (names ++ more) new

-- with what is left the table comes to the whole
abbrev pub AddsTo : Names → Names → LocalNames → LocalNames → Type 0
AddsTo whole left old now = (new : LocalNames) → Adds left now new → Adds whole old new

abbrev pub or_number : Option ℕ → ℕ → ℕ
or_number None n = n
or_number (Some i) n = i

-- the number of the name that has a Dynamic value, and that behind the last where none has
abbrev pub number_of : LocalNames → ℕ → ℕ
number_of t d = or_number (get nat_eq t.firsts d) (length t.locals)
