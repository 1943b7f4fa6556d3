-- Laws of the operations of lowered programs.
use Rattle.std.specs.Prelude.{◌≡◌, ◌||◌, ℕ, not, Bool, true, false, Option, Some, List}
use Rattle.std.specs.List.{list_all}
use Rattle.ir_values.specs.declared.class.Class.{Class}
use Rattle.ir_values.specs.declared.class.Class.TheVariants as class
use Rattle.ir_values.specs.declared.ty.Ty.TheVariants as ty
use Rattle.ir_values.specs.Calls.{class_of}
use Rattle.ir_values.specs.Types.{signature}
use Rattle.kept_items.specs.declared.item.Item.{Item}
use Rattle.kept_items.specs.declared.item.Item.TheVariants as item
use Rattle.residue.specs.declared.parts.Residue.{Residue}
use Rattle.residue.specs.Functions.{all_items, is_named, types_of}
use Rattle.residue.specs.Valid.{calls_agree, numbers_small}
use Rattle.fused_parts.specs.Nodes.{Node}
use Rattle.unroller.specs.Programs.{Program}
use Rattle.valid_residue.specs.Programs.{IsLowered, IsSmall}

abbrev pub is_measurement : Option Class → Bool
is_measurement (Some class.Measure) = true
is_measurement c = false

-- a measurement is named among these
abbrev pub measurement_named : List (List ℕ) → Item → Bool
measurement_named names (item.Operation name args) =
    not (is_measurement (class_of name (signature ty.Void (types_of args)))) || is_named names name
measurement_named names x = true

-- the names of operations are those of quantum instructions, and one name has one list of types
unfoldable pub CallsAgree : Type 0
CallsAgree = (p : Program) (nodes : List Node) (r : Residue) → IsLowered p nodes r → calls_agree r ≡ true

-- each operation that is a measurement is named among the irreversible ones
unfoldable pub MeasurementsAreNamed : Type 0
MeasurementsAreNamed =
    (p : Program) (nodes : List Node) (r : Residue) → IsLowered p nodes r → list_all (measurement_named r.irreversible) (all_items r) ≡ true

-- each number that is printed is in its range
unfoldable pub NumbersAreSmall : Type 0
NumbersAreSmall = (p : Program) (nodes : List Node) (r : Residue) → IsLowered p nodes r → IsSmall p nodes r → numbers_small r ≡ true
