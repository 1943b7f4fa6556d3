-- Admission: the faults of a module, and the order in which they are told. `limit` is the greatest required number that is allowed.
use Rattle.std.specs.Prelude.{◌≡◌, ◌⊎◌, ℕ, ◌<◌, ◌==◌, ◌&&◌, ◌||◌, not, Bool, true, false, is_some, Option, None, Some, slice_get}
use Rattle.ir_module.specs.declared.places.Point.{Point}
use Rattle.ir_module.specs.declared.places.Spot.{Spot}
use Rattle.ir_module.specs.declared.places.Spot.TheVariants as spot
use Rattle.ir_module.specs.declared.tree.Function.{Function}
use Rattle.ir_module.specs.declared.tree.Module.{Module}
use Rattle.ir_module.specs.Entry.{Entry, entry_of, is_entry}
use Rattle.ir_module.specs.Places.{IsBefore}
use Rattle.ir_module.specs.Steps.{Step, step_of_point}
use Rattle.type_check.specs.declared.code.TypeCode.{TypeCode}
use Rattle.type_check.specs.declared.code.TypeCode.TheVariants as code
use Rattle.type_check.specs.Required.{numbers_are_plain, required_qubits, required_results}
use Rattle.type_check.specs.Rules.{types_agree, entries_fit, keeps_first, cases_differ, numbers_below, functions_known, body_has_own_name, constants_have_own_names, is_entry_type}

-- ---- where a rule is looked at: it is kept at every other spot

abbrev pub on_function : Option Function → (Function → Bool) → Bool
on_function None test = true
on_function (Some f) test = test f

-- a rule on steps
abbrev pub at_step : Module → Spot → (Function → Point → Step → Bool) → Bool
at_step m spot.Module test = true
at_step m (spot.Func g) test = true
at_step m (spot.At p) test = on_function (slice_get m.funcs p.func.0) (λ f. test f p (step_of_point f p))

-- a rule on functions, which is given their numbers
abbrev pub at_function : Module → Spot → (ℕ → Function → Bool) → Bool
at_function m spot.Module test = true
at_function m (spot.Func g) test = on_function (slice_get m.funcs g.0) (test g.0)
at_function m (spot.At p) test = true

-- a rule on the module
abbrev pub at_module : Spot → Bool → Bool
at_module spot.Module holds = holds
at_module (spot.Func g) holds = true
at_module (spot.At p) holds = true

-- ---- the rules on the entry, the first function with a body and the attribute `entry_point`

-- the function is the entry or none
abbrev pub is_no_second : Option Entry → ℕ → Function → Bool
is_no_second None n f = true
is_no_second (Some e) n f = (n == e.number) || not (is_entry f)

-- the function keeps a rule on the entry if it is the entry
abbrev pub where_entry : Option Entry → (Function → Bool) → ℕ → Function → Bool
where_entry None test n f = true
where_entry (Some e) test n f = not (n == e.number) || test f

abbrev pub keeps_entry_rule : Module → ℕ → Spot → TypeCode → Bool
keeps_entry_rule m limit s code.NoEntry = at_module s (is_some (entry_of m)) && at_function m s (is_no_second (entry_of m))
keeps_entry_rule m limit s code.BadNumberAttr = at_function m s (where_entry (entry_of m) (numbers_are_plain limit))
keeps_entry_rule m limit s code.EntrySignature = at_function m s (where_entry (entry_of m) is_entry_type)
keeps_entry_rule m limit s c = true

-- the module keeps the rules on the entry at every spot
abbrev pub EntryIsRight : Module → ℕ → Type 0
EntryIsRight m limit = (s : Spot) (c : TypeCode) → keeps_entry_rule m limit s c ≡ true

-- ---- faults

-- numbers of qubits and results are below the required ones
abbrev pub keeps_numbers : Module → ℕ → Spot → Bool
keeps_numbers m limit s =
    at_step m s (λ f p step. numbers_below (required_qubits m limit) (required_results m limit) f step)

-- whether the module keeps the rule at the spot
unfoldable pub keeps_rule : Module → ℕ → Spot → TypeCode → Bool
keeps_rule m limit s code.Types = at_step m s (λ f p step. types_agree m f step)
keeps_rule m limit s code.PhiEntries = at_step m s (λ f p step. entries_fit f p.block step)
keeps_rule m limit s code.EntryBlock = at_step m s (λ f p step. keeps_first p.block step)
keeps_rule m limit s code.SwitchCase = at_step m s (λ f p step. cases_differ step)
keeps_rule m limit s code.IdRange = keeps_numbers m limit s
keeps_rule m limit s code.UnknownDecl = at_step m s (λ f p step. functions_known m f step)
keeps_rule m limit s code.ReservedName = at_module s (constants_have_own_names m) && at_function m s (λ n f. body_has_own_name f)
keeps_rule m limit s c = keeps_entry_rule m limit s c

-- the module breaks the rule at the spot; the rule on numbers of qubits and results is there only where the entry is right
abbrev pub Fault : Module → ℕ → Spot → TypeCode → Type 0
Fault m limit s code.IdRange = EntryIsRight m limit × (keeps_rule m limit s code.IdRange ≡ false)
Fault m limit s c = keeps_rule m limit s c ≡ false

-- the module breaks no rule
abbrev pub Typed : Module → ℕ → Type 0
Typed m limit = (s : Spot) (c : TypeCode) → ¬ Fault m limit s c

-- ---- the order of faults

-- the number of a rule
abbrev pub number : TypeCode → ℕ
number code.Types = 1
number code.PhiEntries = 2
number code.EntryBlock = 3
number code.SwitchCase = 4
number code.NoEntry = 6
number code.BadNumberAttr = 7
number code.IdRange = 8
number code.UnknownDecl = 9
number code.EntrySignature = 10
number code.ReservedName = 11

-- the rules on the entry come after the others
abbrev pub group : TypeCode → ℕ
group code.NoEntry = 2
group code.BadNumberAttr = 2
group code.EntrySignature = 2
group c = 1

-- a fault is told before another by its group, then by its spot, then by the number of its rule
abbrev pub Precedes : Spot × TypeCode → Spot × TypeCode → Type 0
Precedes a b =
    (group a.1 < group b.1)
    ⊎ ((group a.1 ≡ group b.1) × (IsBefore a.0 b.0 ⊎ ((a.0 ≡ b.0) × (number a.1 < number b.1))))

-- the fault that is told: no other precedes it
pub record IsFirstFault (m : Module) (limit : ℕ) (s : Spot) (c : TypeCode) : Type 0 where
  pub fault : Fault m limit s c
  pub first : (s' : Spot) (c' : TypeCode) → Fault m limit s' c' → ¬ Precedes (s', c') (s, c)
