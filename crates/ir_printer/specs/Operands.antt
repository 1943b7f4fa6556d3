-- Names, constants and operands in canonical text (LLVM Language Reference, 'Constants').
use Rattle.std.specs.Prelude.{ℕ, ◌==◌, if◌then◌else◌, Option, None, Some, List, [], ◌∷◌, ◌++◌, length, slice_get}
use Rattle.std.specs.Prelude.{codes, decimal}
use Rattle.std.specs.Fmt.{signed_decimal}
use Rattle.ir_text.specs.declared.tok.Tok.TheVariants.{Local, Global, Integer, Double}
use Rattle.ir_values.specs.Bytes.{percent, at_sign}
use Rattle.ir_values.specs.Int.{IntValue, signed}
use Rattle.ir_values.specs.declared.ids.BlockId.{BlockId}
use Rattle.ir_values.specs.declared.ids.FuncId.{FuncId}
use Rattle.ir_values.specs.declared.ids.LocalId.{LocalId}
use Rattle.ir_values.specs.declared.int.Width.{Width}
use Rattle.ir_values.specs.declared.int.Width.TheVariants.{W1, W64}
use Rattle.ir_values.specs.declared.name.Name.{Name}
use Rattle.ir_values.specs.declared.name.Name.TheVariants as name
use Rattle.ir_values.specs.declared.ty.Ty.{Ty}
use Rattle.ir_values.specs.declared.value.Value.{Value}
use Rattle.ir_values.specs.declared.value.Value.TheVariants as value
use Rattle.ir_module.specs.Tree.{block_at}
use Rattle.ir_module.specs.declared.tree.Block.{Block}
use Rattle.ir_module.specs.declared.tree.Constant.{Constant}
use Rattle.ir_module.specs.declared.tree.Function.{Function}
use Rattle.ir_module.specs.declared.tree.Module.{Module}
use Rattle.ir_module.specs.declared.tree.Operand.{Operand}
use Rattle.ir_module.specs.declared.tree.Operand.TheVariants as operand
use Rattle.ir_parts.specs.Parts.{Part, token}
use Rattle.ir_printer.specs.Pieces.{blank, sign, word, comma}
use Rattle.ir_printer.specs.Spellings.{name_spelling}
use Rattle.ir_printer.specs.Types.{type_parts}

abbrev pub local_token : Name → Part
local_token n = token Local (percent ∷ name_spelling n)

abbrev pub global_token : Name → Part
global_token n = token Global (at_sign ∷ name_spelling n)

-- ---- names by their numbers; a number out of range, which no module in order has, is an empty name

abbrev pub no_name : Name
no_name = name.Text []

abbrev pub name_of_local : Option (Name × Ty) → Name
name_of_local None = no_name
name_of_local (Some l) = l.0

abbrev pub name_of_function : Option Function → Name
name_of_function None = no_name
name_of_function (Some f) = f.name

abbrev pub name_of_block : Option Block → Name
name_of_block None = no_name
name_of_block (Some b) = b.name

abbrev pub local_part : Function → LocalId → Part
local_part f x = local_token (name_of_local (slice_get f.locals x.0))

abbrev pub function_part : Module → FuncId → Part
function_part m f = global_token (name_of_function (slice_get m.funcs f.0))

abbrev pub block_part : Function → BlockId → Part
block_part f b = local_token (name_of_block (block_at f b))

-- ---- integers and handles

-- integers of one bit are words
abbrev pub bit_part : ℕ → Part
bit_part n = if n == 0 then word (codes "false") else word (codes "true")

abbrev pub int_of_width : Width → IntValue → Part
int_of_width W1 i = bit_part i.bits
int_of_width w i = token Integer (signed_decimal (signed i))

abbrev pub int_part : IntValue → Part
int_part i = int_of_width i.width i

-- 'inttoptr (i64 n to %Qubit*)'
abbrev pub address_parts : Ty → ℕ → List Part
address_parts t n =
    word (codes "inttoptr") ∷ blank ∷ sign (codes "(") ∷ word (codes "i64") ∷ blank
    ∷ token Integer (signed_decimal (signed (record { width = W64; bits = n }))) ∷ blank ∷ word (codes "to") ∷ blank
    ∷ (type_parts t ++ sign (codes ")") ∷ [])

-- number 0 is null, another is an address of 64 bits
abbrev pub handle_parts : Ty → ℕ → List Part
handle_parts t n = if n == 0 then word (codes "null") ∷ [] else address_parts t n

-- ---- labels

-- '[3 x i8]'
abbrev pub array_parts : ℕ → List Part
array_parts n =
    sign (codes "[") ∷ token Integer (decimal n) ∷ blank ∷ word (codes "x") ∷ blank ∷ word (codes "i8") ∷ sign (codes "]") ∷ []

-- ', i32 0'
abbrev pub index_parts : List Part
index_parts = comma ++ word (codes "i32") ∷ blank ∷ token Integer (codes "0") ∷ []

-- 'getelementptr inbounds ([3 x i8], [3 x i8]'
abbrev pub address_head : ℕ → List Part
address_head n =
    word (codes "getelementptr") ∷ blank ∷ word (codes "inbounds") ∷ blank ∷ sign (codes "(")
    ∷ (array_parts n ++ (comma ++ array_parts n))

-- 'getelementptr inbounds ([3 x i8], [3 x i8]* @0, i32 0, i32 0)'
abbrev pub label_parts : Constant → List Part
label_parts c =
    address_head (length c.bytes) ++ sign (codes "*") ∷ blank ∷ global_token c.name
    ∷ (index_parts ++ (index_parts ++ sign (codes ")") ∷ []))

abbrev pub label_of : Option Constant → List Part
label_of None = []
label_of (Some c) = label_parts c

-- ---- operands

-- a value of a type; those that a run gives are in no text
abbrev pub value_parts : Module → Ty → Value → List Part
value_parts m t (value.Int i) = int_part i ∷ []
value_parts m t (value.Double s) = token Double s ∷ []
value_parts m t (value.Id n) = handle_parts t n
value_parts m t (value.Label g) = label_of (slice_get m.globals g.0)
value_parts m t value.NoLabel = word (codes "null") ∷ []
value_parts m t (value.Func f) = function_part m f ∷ []
value_parts m t v = []

-- an operand of a type
abbrev pub operand_parts : Module → Function → Ty → Operand → List Part
operand_parts m f t (operand.Const v) = value_parts m t v
operand_parts m f t (operand.Local x) = local_part f x ∷ []

-- a type, and an operand of it
abbrev pub typed_parts : Module → Function → Ty → Operand → List Part
typed_parts m f t a = type_parts t ++ blank ∷ operand_parts m f t a
