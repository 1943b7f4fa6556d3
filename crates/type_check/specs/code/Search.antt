-- The first fault of a module, looked for spot by spot in the order of the text.
use Rattle.std.specs.Prelude.{ℕ, Bool, true, false, not, is_none, Option, None, Some, List, [], ◌∷◌}
use Rattle.std.specs.List.{find}
use Rattle.ir_module.specs.declared.places.Spot.{Spot}
use Rattle.ir_module.specs.declared.tree.Module.{Module}
use Rattle.ir_module.specs.Spots.{spots}
use Rattle.type_check.specs.declared.code.TypeCode.{TypeCode}
use Rattle.type_check.specs.declared.code.TypeCode.TheVariants as code
use Rattle.type_check.specs.Faults.{keeps_rule}

-- the first of these rules that the module breaks at a spot
abbrev pub broken : Module → ℕ → List TypeCode → Spot → Option TypeCode
broken m limit codes s = find (λ c. not (keeps_rule m limit s c)) codes

abbrev pub first_at : Spot → Option TypeCode → Option (Spot × TypeCode) → Option (Spot × TypeCode)
first_at s None rest = rest
first_at s (Some c) rest = Some (s, c)

-- the first of these spots at which the module breaks one of these rules, with the rule
abbrev pub first_in : Module → ℕ → List TypeCode → List Spot → Option (Spot × TypeCode)
first_in m limit codes [] = None
first_in m limit codes (s ∷ ss) = first_at s (broken m limit codes s) (first_in m limit codes ss)

-- the rules on the entry
abbrev pub entry_rules : List TypeCode
entry_rules = code.NoEntry ∷ code.BadNumberAttr ∷ code.EntrySignature ∷ []

-- the other rules; that on numbers of qubits and results only where the entry is right
abbrev pub other_rules : Bool → List TypeCode
other_rules true =
    code.Types ∷ code.PhiEntries ∷ code.EntryBlock ∷ code.SwitchCase ∷ code.IdRange ∷ code.UnknownDecl ∷ code.ReservedName ∷ []
other_rules false =
    code.Types ∷ code.PhiEntries ∷ code.EntryBlock ∷ code.SwitchCase ∷ code.UnknownDecl ∷ code.ReservedName ∷ []

abbrev pub or_else : Option (Spot × TypeCode) → Option (Spot × TypeCode) → Option (Spot × TypeCode)
or_else None b = b
or_else (Some a) b = Some a

-- the first fault against a rule on the entry, which is told last
abbrev pub entry_fault : Module → ℕ → Option (Spot × TypeCode)
entry_fault m limit = first_in m limit entry_rules (spots m)

-- the fault that is told, if there is one
unfoldable pub first_fault : Module → ℕ → Option (Spot × TypeCode)
first_fault m limit = or_else (first_in m limit (other_rules (is_none (entry_fault m limit))) (spots m)) (entry_fault m limit)
