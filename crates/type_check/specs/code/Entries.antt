-- The first fault against the rules on the entry, function by function.
use Rattle.std.specs.Prelude.{ℕ, ◌+◌, ◌==◌, if◌then◌else◌, Option, None, Some, List, [], ◌∷◌}
use Rattle.ir_module.specs.declared.places.Spot.{Spot}
use Rattle.ir_module.specs.declared.places.Spot.TheVariants as spot
use Rattle.ir_module.specs.declared.tree.Function.{Function}
use Rattle.ir_module.specs.Entry.{is_entry}
use Rattle.type_check.specs.declared.code.TypeCode.{TypeCode}
use Rattle.type_check.specs.declared.code.TypeCode.TheVariants as code
use Rattle.type_check.specs.code.Search.{first_at}
use Rattle.type_check.specs.Required.{numbers_are_plain}
use Rattle.type_check.specs.Rules.{is_entry_type}

-- the rule that function g breaks, where e is the entry
abbrev pub entry_breaks : ℕ → ℕ → ℕ → Function → Option TypeCode
entry_breaks limit e g f =
    if g == e
    then (if numbers_are_plain limit f then (if is_entry_type f then None else Some code.EntrySignature) else Some code.BadNumberAttr)
    else (if is_entry f then Some code.NoEntry else None)

abbrev pub entries_fault : ℕ → ℕ → ℕ → List Function → Option (Spot × TypeCode)
entries_fault limit e g [] = None
entries_fault limit e g (f ∷ fs) =
    first_at (spot.Func (record { 0 = g })) (entry_breaks limit e g f) (entries_fault limit e (g + 1) fs)
