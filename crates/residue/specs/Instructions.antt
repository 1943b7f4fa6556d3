-- The instructions of an item, the local names that they define, and the terminator of a tail.
use Rattle.std.specs.Prelude.{ℕ, ◌+◌, if◌then◌else◌, Option, None, Some, List, [], ◌∷◌, ◌++◌, length, map}
use Rattle.ir_module.specs.declared.tree.Callee.TheVariants as callee
use Rattle.ir_module.specs.declared.tree.Inst.{Inst}
use Rattle.ir_module.specs.declared.tree.InstKind.{InstKind}
use Rattle.ir_module.specs.declared.tree.InstKind.TheVariants as kind
use Rattle.ir_module.specs.declared.tree.Operand.{Operand}
use Rattle.ir_module.specs.declared.tree.Operand.TheVariants as operand
use Rattle.ir_module.specs.declared.tree.Term.{Term}
use Rattle.ir_module.specs.declared.tree.Term.TheVariants as term
use Rattle.ir_values.specs.declared.ids.BlockId.{BlockId}
use Rattle.ir_values.specs.declared.ids.FuncId.{FuncId}
use Rattle.ir_values.specs.declared.ids.LocalId.{LocalId}
use Rattle.ir_values.specs.declared.int.Pred.TheVariants as pred
use Rattle.ir_values.specs.declared.int.Width.TheVariants.{W1, W64}
use Rattle.ir_values.specs.declared.ty.Ty.{Ty}
use Rattle.ir_values.specs.declared.ty.Ty.TheVariants as ty
use Rattle.ir_values.specs.declared.value.Value.{Value}
use Rattle.ir_values.specs.declared.value.Value.TheVariants as value
use Rattle.kept_items.specs.declared.item.Item.{Item}
use Rattle.kept_items.specs.declared.item.Item.TheVariants as item
use Rattle.kept_items.specs.declared.val.Val.{Val}
use Rattle.kept_items.specs.declared.val.Val.TheVariants.{Known, Dynamic}
use Rattle.residue.specs.declared.parts.Tail.{Tail}
use Rattle.residue.specs.declared.parts.Tail.TheVariants as tail
use Rattle.residue.specs.Functions.{is_constant, read_name, record_name}

-- what a residue's values and functions are in the printed module
pub record Words : Type 0 where
  pub qubits : ℕ  -- the number of allocation 0
  pub results : ℕ  -- the number of returned result 0
  pub name_of : ℕ → ℕ  -- the local name that has a Dynamic value
  pub function : List ℕ → FuncId  -- the function of this name

abbrev pub block_number : ℕ → BlockId
block_number n = record { 0 = n }

abbrev pub local : ℕ → LocalId
local n = record { 0 = n }

-- ---- operands

abbrev pub named_value : Words → Value → Value
named_value ws (value.Alloc j) = value.Id (ws.qubits + j)
named_value ws (value.Measured j) = value.Id (ws.results + j)
named_value ws v = v

abbrev pub operand_of : Words → Val → Operand
operand_of ws (Known v) = operand.Const (named_value ws v)
operand_of ws (Dynamic d) = operand.Local (local (ws.name_of d.0))

abbrev pub typed_operand : Words → Ty × Val → Ty × Operand
typed_operand ws a = (a.0, operand_of ws a.1)

-- ---- the local names that an item defines, in order, each with its type and the number of the Dynamic value that it has; what is
-- read for a comparison of two results has none

abbrev pub names_of_reading : Value → List (Option ℕ × Ty)
names_of_reading v = if is_constant v then [] else ((None, ty.Int W1) ∷ [])

abbrev pub names_of_item : Item → List (Option ℕ × Ty)
names_of_item (item.Binary d op flags w a b) = (Some d.0, ty.Int w) ∷ []
names_of_item (item.Icmp d pred w a b) = (Some d.0, ty.Int W1) ∷ []
names_of_item (item.Convert d conv w a to) = (Some d.0, ty.Int to) ∷ []
names_of_item (item.Select d w c a b) = (Some d.0, ty.Int w) ∷ []
names_of_item (item.Read d v) = (Some d.0, ty.Int W1) ∷ []
names_of_item (item.Equal d v u) = names_of_reading v ++ (names_of_reading u ++ (Some d.0, ty.Int W1) ∷ [])
names_of_item (item.Operation name args) = []
names_of_item (item.Output c args) = []

-- ---- instructions

-- how many of the two results of a comparison are read
abbrev pub reads : Value → ℕ
reads v = if is_constant v then 0 else 1

abbrev pub defining : ℕ → InstKind → Inst
defining n what = record { result = Some (local n); what = what }

abbrev pub call_void : Words → List ℕ → List (Ty × Val) → Inst
call_void ws name args =
    record { result = None; what = kind.Call ty.Void (callee.Func (ws.function name)) (map (typed_operand ws) args) }

-- the bit of a result into the local name n
abbrev pub read_into : Words → ℕ → Value → Inst
read_into ws n v =
    defining n (kind.Call (ty.Int W1) (callee.Func (ws.function read_name)) ((ty.Res, operand.Const (named_value ws v)) ∷ []))

abbrev pub bit : ℕ → Operand
bit b = operand.Const (value.Int (record { width = W1; bits = b }))

-- one side of a comparison: read into n, or the constant
abbrev pub side_reads : Words → ℕ → Value → List Inst
side_reads ws n v = if is_constant v then [] else (read_into ws n v ∷ [])

abbrev pub side_operand : ℕ → Value → Operand
side_operand n value.One = bit 1
side_operand n value.Zero = bit 0
side_operand n v = operand.Local (local n)

abbrev pub equal_test : ℕ → Value → Value → Inst
equal_test n v u =
    defining (n + reads v + reads u) (kind.Icmp pred.Eq (ty.Int W1) (side_operand n v) (side_operand (n + reads v) u))

-- the instructions of an item, which define the local names from n on
abbrev pub instructions : Words → ℕ → Item → List Inst
instructions ws n (item.Binary d op flags w a b) =
    defining n (kind.Binary op flags (ty.Int w) (operand_of ws a) (operand_of ws b)) ∷ []
instructions ws n (item.Icmp d pred w a b) = defining n (kind.Icmp pred (ty.Int w) (operand_of ws a) (operand_of ws b)) ∷ []
instructions ws n (item.Convert d conv w a to) = defining n (kind.Convert conv (ty.Int w) (operand_of ws a) (ty.Int to)) ∷ []
instructions ws n (item.Select d w c a b) =
    defining n (kind.Select (operand_of ws c) (ty.Int w) (operand_of ws a) (ty.Int w) (operand_of ws b)) ∷ []
instructions ws n (item.Read d v) = read_into ws n v ∷ []
instructions ws n (item.Equal d v u) = side_reads ws n v ++ (side_reads ws (n + reads v) u ++ equal_test n v u ∷ [])
instructions ws n (item.Operation name args) = call_void ws name args ∷ []
instructions ws n (item.Output c args) = call_void ws (record_name c) args ∷ []

-- the instructions of items in a row
abbrev pub print_items : Words → ℕ → List Item → List Inst
print_items ws n [] = []
print_items ws n (x ∷ xs) = instructions ws n x ++ print_items ws (n + length (names_of_item x)) xs

-- ---- terminators

abbrev pub print_tail : Words → Tail → Term
print_tail ws (tail.Jump j) = term.Br (block_number j.to)
print_tail ws (tail.Branch a j i) = term.CondBr (operand_of ws a) (block_number j.to) (block_number i.to)
print_tail ws (tail.Switch w a j cases) =
    term.Switch (ty.Int w) (operand_of ws a) (block_number j.to) (map (λ c. (c.0, block_number c.1.to)) cases)
print_tail ws (tail.Return a) = term.Ret (ty.Int W64) (operand_of ws a)
