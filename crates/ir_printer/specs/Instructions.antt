-- Phis, instructions and terminators in canonical text (LLVM Language Reference, 'Instruction Reference').
use Rattle.std.specs.Prelude.{ℕ, Bool, true, false, Option, None, Some, List, [], ◌∷◌, ◌++◌, map, codes, slice_get}
use Rattle.ir_values.specs.Int.{IntValue}
use Rattle.ir_values.specs.declared.ids.BlockId.{BlockId}
use Rattle.ir_values.specs.declared.ids.LocalId.{LocalId}
use Rattle.ir_values.specs.declared.int.BinOp.{BinOp}
use Rattle.ir_values.specs.declared.int.BinOp.TheVariants as op
use Rattle.ir_values.specs.declared.int.Conv.{Conv}
use Rattle.ir_values.specs.declared.int.Conv.TheVariants as conv
use Rattle.ir_values.specs.declared.int.Flags.{Flags}
use Rattle.ir_values.specs.declared.int.Pred.{Pred}
use Rattle.ir_values.specs.declared.int.Pred.TheVariants as pred
use Rattle.ir_values.specs.declared.int.Width.TheVariants.{W1}
use Rattle.ir_values.specs.declared.name.Name.{Name}
use Rattle.ir_values.specs.declared.ty.Ty.{Ty}
use Rattle.ir_values.specs.declared.ty.Ty.TheVariants as ty
use Rattle.ir_module.specs.declared.tree.Callee.{Callee}
use Rattle.ir_module.specs.declared.tree.Callee.TheVariants as callee
use Rattle.ir_module.specs.declared.tree.Function.{Function}
use Rattle.ir_module.specs.declared.tree.Inst.{Inst}
use Rattle.ir_module.specs.declared.tree.InstKind.{InstKind}
use Rattle.ir_module.specs.declared.tree.InstKind.TheVariants as kind
use Rattle.ir_module.specs.declared.tree.Module.{Module}
use Rattle.ir_module.specs.declared.tree.Operand.{Operand}
use Rattle.ir_module.specs.declared.tree.Phi.{Phi}
use Rattle.ir_module.specs.declared.tree.Term.{Term}
use Rattle.ir_module.specs.declared.tree.Term.TheVariants as term
use Rattle.ir_parts.specs.Parts.{Part}
use Rattle.ir_printer.specs.Pieces.{blank, sign, word, comma, equals, listed}
use Rattle.ir_printer.specs.Types.{type_parts}
use Rattle.ir_printer.specs.Operands.{local_part, function_part, block_part, int_part, operand_parts, typed_parts}

-- ---- words

abbrev pub operation_word : BinOp → List ℕ
operation_word op.Add = codes "add"
operation_word op.Sub = codes "sub"
operation_word op.Mul = codes "mul"
operation_word op.UDiv = codes "udiv"
operation_word op.SDiv = codes "sdiv"
operation_word op.URem = codes "urem"
operation_word op.SRem = codes "srem"
operation_word op.Shl = codes "shl"
operation_word op.LShr = codes "lshr"
operation_word op.AShr = codes "ashr"
operation_word op.And = codes "and"
operation_word op.Or = codes "or"
operation_word op.Xor = codes "xor"

abbrev pub predicate_word : Pred → List ℕ
predicate_word pred.Eq = codes "eq"
predicate_word pred.Ne = codes "ne"
predicate_word pred.Ugt = codes "ugt"
predicate_word pred.Uge = codes "uge"
predicate_word pred.Ult = codes "ult"
predicate_word pred.Ule = codes "ule"
predicate_word pred.Sgt = codes "sgt"
predicate_word pred.Sge = codes "sge"
predicate_word pred.Slt = codes "slt"
predicate_word pred.Sle = codes "sle"

abbrev pub conversion_word : Conv → List ℕ
conversion_word conv.ZExt = codes "zext"
conversion_word conv.SExt = codes "sext"
conversion_word conv.Trunc = codes "trunc"

-- a flag of an operation, and a blank, where it is set
abbrev pub flag_word : Bool → List ℕ → List Part
flag_word true s = word s ∷ blank ∷ []
flag_word false s = []

-- 'nuw nsw exact '
abbrev pub flags_parts : Flags → List Part
flags_parts flags = flag_word flags.nuw (codes "nuw") ++ (flag_word flags.nsw (codes "nsw") ++ flag_word flags.exact (codes "exact"))

-- 'add nuw '
abbrev pub operation_parts : BinOp → Flags → List Part
operation_parts o flags = word (operation_word o) ∷ blank ∷ flags_parts flags

-- 'icmp eq '
abbrev pub comparison_parts : Pred → List Part
comparison_parts p = word (codes "icmp") ∷ blank ∷ word (predicate_word p) ∷ blank ∷ []

-- 'zext '
abbrev pub conversion_parts : Conv → List Part
conversion_parts c = word (conversion_word c) ∷ blank ∷ []

-- ---- instructions

-- 'T a, b'
abbrev pub pair_parts : Module → Function → Ty → Operand → Operand → List Part
pair_parts m f t a b = typed_parts m f t a ++ (comma ++ operand_parts m f t b)

-- 'T a, U b'
abbrev pub choices_parts : Module → Function → Ty → Operand → Ty → Operand → List Part
choices_parts m f t a u b = typed_parts m f t a ++ (comma ++ typed_parts m f u b)

-- 'i1 c'
abbrev pub boolean_parts : Module → Function → Operand → List Part
boolean_parts m f c = typed_parts m f (ty.Int W1) c

abbrev pub callee_part : Module → Function → Callee → Part
callee_part m f (callee.Func g) = function_part m g
callee_part m f (callee.Local x) = local_part f x

-- 'call RET NAME'
abbrev pub called_parts : Module → Function → Ty → Callee → List Part
called_parts m f ret g = word (codes "call") ∷ blank ∷ (type_parts ret ++ blank ∷ callee_part m f g ∷ [])

abbrev pub argument_parts : Module → Function → Ty × Operand → List Part
argument_parts m f a = typed_parts m f a.0 a.1

-- '(T a, T b)'
abbrev pub arguments_parts : Module → Function → List (Ty × Operand) → List Part
arguments_parts m f args = sign (codes "(") ∷ (listed (map (argument_parts m f) args) ++ sign (codes ")") ∷ [])

abbrev pub kind_parts : Module → Function → InstKind → List Part
kind_parts m f (kind.Binary o flags t a b) = operation_parts o flags ++ pair_parts m f t a b
kind_parts m f (kind.Icmp p t a b) = comparison_parts p ++ pair_parts m f t a b
kind_parts m f (kind.Convert c t a to) =
    conversion_parts c ++ (typed_parts m f t a ++ blank ∷ word (codes "to") ∷ blank ∷ type_parts to)
kind_parts m f (kind.Select c t a u b) =
    word (codes "select") ∷ blank ∷ (boolean_parts m f c ++ (comma ++ choices_parts m f t a u b))
kind_parts m f (kind.Call ret g args) = called_parts m f ret g ++ arguments_parts m f args

-- '%x = '
abbrev pub result_parts : Function → Option LocalId → List Part
result_parts f None = []
result_parts f (Some x) = local_part f x ∷ equals

abbrev pub inst_parts : Module → Function → Inst → List Part
inst_parts m f i = result_parts f i.result ++ kind_parts m f i.what

-- ---- phis

-- the type of a local; of a number out of range, which no module in order has, void
abbrev pub type_of_local : Option (Name × Ty) → Ty
type_of_local None = ty.Void
type_of_local (Some l) = l.1

abbrev pub local_type : Function → LocalId → Ty
local_type f x = type_of_local (slice_get f.locals x.0)

-- '[ a, %b ]'
abbrev pub entry_parts : Module → Function → Ty → Operand × BlockId → List Part
entry_parts m f t e =
    sign (codes "[") ∷ blank ∷ (operand_parts m f t e.0 ++ (comma ++ block_part f e.1 ∷ blank ∷ sign (codes "]") ∷ []))

-- 'T [ a, %b ], [ c, %d ]'
abbrev pub entries_parts : Module → Function → Ty → List (Operand × BlockId) → List Part
entries_parts m f t entries = type_parts t ++ blank ∷ listed (map (entry_parts m f t) entries)

-- '%x = phi T [ a, %b ], [ c, %d ]'
abbrev pub phi_parts : Module → Function → Phi → List Part
phi_parts m f phi =
    local_part f phi.result ∷ (equals ++ word (codes "phi") ∷ blank ∷ entries_parts m f (local_type f phi.result) phi.entries)

-- ---- terminators

-- 'label %b'
abbrev pub target_parts : Function → BlockId → List Part
target_parts f b = word (codes "label") ∷ blank ∷ block_part f b ∷ []

-- 'label %a, label %b'
abbrev pub targets_parts : Function → BlockId → BlockId → List Part
targets_parts f on_true on_false = target_parts f on_true ++ (comma ++ target_parts f on_false)

-- 'i64 0, label %a', with the type of the integer itself
abbrev pub case_parts : Function → IntValue × BlockId → List Part
case_parts f c = type_parts (ty.Int c.0.width) ++ blank ∷ int_part c.0 ∷ (comma ++ target_parts f c.1)

-- each with a blank behind it
abbrev pub cases_parts : Function → List (IntValue × BlockId) → List Part
cases_parts f [] = []
cases_parts f (c ∷ cs) = case_parts f c ++ blank ∷ cases_parts f cs

-- '[ i64 0, label %a i64 1, label %b ]'
abbrev pub table_parts : Function → List (IntValue × BlockId) → List Part
table_parts f cases = sign (codes "[") ∷ blank ∷ (cases_parts f cases ++ sign (codes "]") ∷ [])

-- 'T a, label %b'
abbrev pub switched_parts : Module → Function → Ty → Operand → BlockId → List Part
switched_parts m f t a default = typed_parts m f t a ++ (comma ++ target_parts f default)

abbrev pub term_parts : Module → Function → Term → List Part
term_parts m f term.RetVoid = word (codes "ret") ∷ blank ∷ word (codes "void") ∷ []
term_parts m f (term.Ret t a) = word (codes "ret") ∷ blank ∷ typed_parts m f t a
term_parts m f (term.Br b) = word (codes "br") ∷ blank ∷ target_parts f b
term_parts m f (term.CondBr c on_true on_false) =
    word (codes "br") ∷ blank ∷ (boolean_parts m f c ++ (comma ++ targets_parts f on_true on_false))
term_parts m f (term.Switch t a default cases) =
    word (codes "switch") ∷ blank ∷ (switched_parts m f t a default ++ blank ∷ table_parts f cases)
