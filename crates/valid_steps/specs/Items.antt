-- Which items, choices and codes stand in a lowered program of a target.
use Rattle.std.specs.Prelude.{◌≡◌, ◌⊎◌, ℕ, ⊤, suc, ◌&&◌, ◌||◌, not, Bool, true, false, Option, None, Some, List, [], ◌∷◌, length, map, pos}
use Rattle.std.specs.List.{All, list_any}
use Rattle.ir_module.specs.declared.tree.Module.{Module}
use Rattle.ir_values.specs.declared.class.Class.{Class}
use Rattle.ir_values.specs.declared.class.Class.TheVariants as class
use Rattle.ir_values.specs.declared.int.Width.TheVariants.{W1, W64}
use Rattle.ir_values.specs.declared.ty.Ty.{Ty}
use Rattle.ir_values.specs.declared.ty.Ty.TheVariants as ty
use Rattle.ir_values.specs.declared.value.Value.TheVariants as value
use Rattle.ir_values.specs.Arithmetic.{allows, converts}
use Rattle.ir_values.specs.Calls.{class_of}
use Rattle.ir_values.specs.ClassTypes.{HasTypes}
use Rattle.ir_values.specs.Int.{IntValue}
use Rattle.ir_values.specs.Types.{signature}
use Rattle.ir_values.specs.Values.{is_bit, is_bitwise, same_int}
use Rattle.kept_items.specs.declared.item.Choice.{Choice}
use Rattle.kept_items.specs.declared.item.Choice.TheVariants.{One, Branch, Switch}
use Rattle.kept_items.specs.declared.item.Code.{Code}
use Rattle.kept_items.specs.declared.item.Code.TheVariants as code
use Rattle.kept_items.specs.declared.item.Item.{Item}
use Rattle.kept_items.specs.declared.item.Item.TheVariants as item
use Rattle.kept_items.specs.declared.target.Target.{Target}
use Rattle.kept_items.specs.declared.val.Dyn.{Dyn}
use Rattle.kept_items.specs.declared.val.Val.{Val}
use Rattle.kept_items.specs.declared.val.Val.TheVariants.{Known, Dynamic}
use Rattle.kept_items.specs.Targets.{has_ints, has_returns, has_switch, is_base}
use Rattle.static_steps.specs.Configurations.{Bounds, IsValue, MayVary}
use Rattle.static_steps.specs.Operations.{wrong_args}
use Rattle.static_steps.specs.Results.{const_bit}
use Rattle.valid_steps.specs.Types.{IsDynamic}

-- the type of the Dynamic value that an item gives, if it gives one
abbrev pub gives : Item → List (Option Ty)
gives (item.Binary r o flags w a b) = Some (ty.Int w) ∷ []
gives (item.Icmp r o w a b) = Some (ty.Int W1) ∷ []
gives (item.Convert r o w a to) = Some (ty.Int to) ∷ []
gives (item.Select r w c a b) = Some (ty.Int w) ∷ []
gives (item.Read r v) = Some (ty.Int W1) ∷ []
gives (item.Equal r v u) = Some (ty.Int W1) ∷ []
gives (item.Operation name args) = []
gives (item.Output c args) = []

abbrev pub gives_some : Option Item → List (Option Ty)
gives_some None = []
gives_some (Some i) = gives i

-- the records that a target permits, by their class; no other class is one of a record
abbrev pub permits_record : Target → Class → Bool
permits_record t class.Tuple = true
permits_record t class.Array = true
permits_record t class.ResRecord = true
permits_record t class.BoolRecord = not (is_base t)
permits_record t class.IntRecord = has_ints t
permits_record t class.DoubleRecord = not (is_base t)
permits_record t c = false

-- the count of a tuple or an array is known
abbrev pub is_count : Val → Bool
is_count (Known v) = true
is_count (Dynamic d) = false

-- a result that a run gives
abbrev pub is_read : Val → Bool
is_read (Known value.One) = false
is_read (Known value.Zero) = false
is_read v = true

-- what is recorded
abbrev pub is_recorded : Class → List (Ty × Val) → Bool
is_recorded class.Tuple (a ∷ rest) = is_count a.1
is_recorded class.Array (a ∷ rest) = is_count a.1
is_recorded class.ResRecord (a ∷ rest) = is_read a.1
is_recorded c args = true

abbrev pub types_of : List (Ty × Val) → List Ty
types_of args = map (λ a. a.0) args

-- an operation that returns nothing, a gate or a measurement by its name and types
abbrev pub IsOperation : List ℕ → List Ty → Type 0
IsOperation name us =
    (class_of name (signature ty.Void us) ≡ Some class.Gate) ⊎ (class_of name (signature ty.Void us) ≡ Some class.Measure)

-- handles are below these bounds, and the Dynamic values before have these types
module _ (m : Module) (t : Target) (b : Bounds) (ts : List (Option Ty)) where
  -- a known value of the type, or a Dynamic value of it, which only an integer is
  abbrev pub IsOperand : Ty → Val → Type 0
  IsOperand u (Known v) = IsValue m b u v
  IsOperand u (Dynamic d) = MayVary t u × IsDynamic ts u d

  abbrev pub AreOperands : List (Ty × Val) → Type 0
  AreOperands [] = ⊤
  AreOperands (a ∷ rest) = IsOperand a.0 a.1 × AreOperands rest

  -- the number of a result is the next one
  abbrev pub IsNext : Dyn → Type 0
  IsNext r = r.0 ≡ length ts

  -- these allocations are held
  module _ (held : List ℕ) where
    -- an item that the target permits, with operands of their types
    abbrev pub IsItem : Item → Type 0
    IsItem (item.Binary r o flags w x y) =
        IsNext r
        × (is_base t ≡ false)
        × (allows o flags ≡ true)
        × ((has_ints t || (is_bit w && is_bitwise o)) ≡ true)
        × IsOperand (ty.Int w) x
        × IsOperand (ty.Int w) y
    IsItem (item.Icmp r o w x y) =
        IsNext r
        × (is_base t ≡ false)
        × ((has_ints t || is_bit w) ≡ true)
        × IsOperand (ty.Int w) x
        × IsOperand (ty.Int w) y
    IsItem (item.Convert r o w x to) =
        IsNext r × (converts o w to ≡ true) × (has_ints t ≡ true) × IsOperand (ty.Int w) x
    IsItem (item.Select r w c x y) =
        IsNext r
        × (is_base t ≡ false)
        × ((has_ints t || is_bit w) ≡ true)
        × IsOperand (ty.Int W1) c
        × IsOperand (ty.Int w) x
        × IsOperand (ty.Int w) y
    IsItem (item.Read r v) =
        IsNext r × (is_base t ≡ false) × (const_bit v ≡ None) × IsValue m b ty.Res v
    IsItem (item.Equal r v u) =
        IsNext r × (is_base t ≡ false) × IsValue m b ty.Res v × IsValue m b ty.Res u
    IsItem (item.Operation name args) =
        IsOperation name (types_of args) × AreOperands args × (wrong_args held args ≡ None)
    IsItem (item.Output c args) =
        HasTypes c ty.Void (types_of args)
        × AreOperands args
        × (permits_record t c ≡ true)
        × (is_recorded c args ≡ true)

    abbrev pub IsSomeItem : Option Item → Type 0
    IsSomeItem None = ⊤
    IsSomeItem (Some i) = IsItem i

-- no two integers are equal
abbrev pub all_differ : List IntValue → Bool
all_differ [] = true
all_differ (i ∷ is) = not (list_any (λ j. same_int j i) is) && all_differ is

module _ (t : Target) (ts : List (Option Ty)) where
  -- a choice among so many successors
  abbrev pub IsChoice : ℕ → Choice → Type 0
  IsChoice n One = n ≡ 1
  IsChoice n (Branch d) = (n ≡ 2) × IsDynamic ts (ty.Int W1) d
  IsChoice n (Switch d w cases) =
      (n ≡ suc (length cases))
      × IsDynamic ts (ty.Int w) d
      × All (λ (c : IntValue). c.width ≡ w) cases
      × ((has_switch t && (is_bit w || has_ints t)) ≡ true)
      × (all_differ cases ≡ true)

  -- without `returns` the known code 0 alone is returned
  abbrev pub IsCode : Code → Type 0
  IsCode (code.Known z) = (has_returns t ≡ true) ⊎ (z ≡ pos 0)
  IsCode (code.Dynamic d) = (has_returns t ≡ true) × IsDynamic ts (ty.Int W64) d
