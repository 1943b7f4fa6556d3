-- What the class of a declared function tells of its type (QIR specification, 'Runtime Functions' and 'Quantum Instruction Set').
use Rattle.std.specs.Prelude.{◌≡◌, ℕ, Bool, true, false, Some, List, [], ◌∷◌, count_by}
use Rattle.std.specs.List.{All, list_all}
use Rattle.ir_values.specs.declared.int.Width.TheVariants.{W1, W32, W64}
use Rattle.ir_values.specs.declared.ty.Ty.{Ty}
use Rattle.ir_values.specs.declared.ty.Ty.TheVariants as ty
use Rattle.ir_values.specs.declared.class.Class.{Class}
use Rattle.ir_values.specs.declared.class.Class.TheVariants as class
use Rattle.ir_values.specs.Calls.{class_of}
use Rattle.ir_values.specs.Types.{IsTy, signature}

abbrev pub is_result_type : Ty → Bool
is_result_type ty.Res = true
is_result_type t = false

-- what a parameter of a quantum instruction may be
abbrev pub is_operand_type : Ty → Bool
is_operand_type (ty.Int w) = true
is_operand_type ty.Double = true
is_operand_type ty.Qubit = true
is_operand_type ty.Res = true
is_operand_type t = false

-- a quantum instruction that returns nothing and takes this many results, and qubits, integers and doubles besides
abbrev pub IsInstruction : ℕ → Ty → List Ty → Type 0
IsInstruction results ret params =
    (ret ≡ ty.Void) × (list_all is_operand_type params ≡ true) × (count_by is_result_type params ≡ results)

-- the types that a function of the class returns and takes
abbrev pub HasTypes : Class → Ty → List Ty → Type 0
HasTypes class.Init ret params = (ret ≡ ty.Void) × (params ≡ ty.Text ∷ [])
HasTypes class.Alloc ret params = (ret ≡ ty.Qubit) × (params ≡ [])
HasTypes class.Release ret params = (ret ≡ ty.Void) × (params ≡ ty.Qubit ∷ [])
HasTypes class.One ret params = (ret ≡ ty.Res) × (params ≡ [])
HasTypes class.Zero ret params = (ret ≡ ty.Res) × (params ≡ [])
HasTypes class.Equal ret params = (ret ≡ ty.Int W1) × (params ≡ ty.Res ∷ ty.Res ∷ [])
HasTypes class.Count ret params = (ret ≡ ty.Void) × (params ≡ ty.Res ∷ ty.Int W32 ∷ [])
HasTypes class.Read ret params = (ret ≡ ty.Int W1) × (params ≡ ty.Res ∷ [])
HasTypes class.Tuple ret params = (ret ≡ ty.Void) × (params ≡ ty.Int W64 ∷ ty.Text ∷ [])
HasTypes class.Array ret params = (ret ≡ ty.Void) × (params ≡ ty.Int W64 ∷ ty.Text ∷ [])
HasTypes class.ResRecord ret params = (ret ≡ ty.Void) × (params ≡ ty.Res ∷ ty.Text ∷ [])
HasTypes class.BoolRecord ret params = (ret ≡ ty.Void) × (params ≡ ty.Int W1 ∷ ty.Text ∷ [])
HasTypes class.IntRecord ret params = (ret ≡ ty.Void) × (params ≡ ty.Int W64 ∷ ty.Text ∷ [])
HasTypes class.DoubleRecord ret params = (ret ≡ ty.Void) × (params ≡ ty.Double ∷ ty.Text ∷ [])
HasTypes class.Returning ret params = (ret ≡ ty.Res) × (params ≡ ty.Qubit ∷ [])
HasTypes class.Measure ret params = IsInstruction 1 ret params
HasTypes class.Gate ret params = IsInstruction 0 ret params

-- a function that has a class by its name and its type has the types of that class
unfoldable pub ClassTellsTypes : Type 0
ClassTellsTypes =
    (name : List ℕ) (ret : Ty) (params : List Ty) (c : Class)
    → IsTy ret
    → All IsTy params
    → class_of name (signature ret params) ≡ Some c
    → HasTypes c ret params

-- whole types are told by the words of their signature
unfoldable pub WordsTellTypes : Type 0
WordsTellTypes =
    (ret ret' : Ty) (params params' : List Ty)
    → IsTy ret
    → IsTy ret'
    → All IsTy params
    → All IsTy params'
    → signature ret params ≡ signature ret' params'
    → (ret ≡ ret') × (params ≡ params')
