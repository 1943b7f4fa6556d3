-- The faults of a tree are a list, in text order.
use Rattle.std.specs.Prelude.{◌≡◌, ℕ, Bool, if◌then◌else◌, Option, None, Some, List, [], ◌∷◌}
use Rattle.ir_tokens.specs.declared.token.Token.{Token}
use Rattle.ir_names.specs.declared.fault.Fault.{Fault}
use Rattle.ir_names.specs.declared.fault.NameCode.{NameCode}
use Rattle.ir_names.specs.declared.fault.NameCode.TheVariants.{Unknown}

abbrev pub fault : NameCode → Token → List Fault
fault code t = record { code = code; at = t } ∷ []

abbrev pub fault_if : Bool → NameCode → Token → List Fault
fault_if b code t = if b then fault code t else []

-- a use without a definition of the sort
abbrev pub unknown : Token → Option ℕ → List Fault
unknown t None = fault Unknown t
unknown t (Some number) = []

-- the first of the faults
abbrev pub IsFirst : List Fault → Fault → Type 0
IsFirst [] f = ⊥
IsFirst (g ∷ gs) f = g ≡ f
