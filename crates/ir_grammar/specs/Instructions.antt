-- Instructions (LLVM Language Reference, 'Binary Operations', 'Bitwise Binary Operations', 'Conversion Operations', 'Other Operations').
use Rattle.std.specs.Prelude.{Bool, true, false, Option, Some, None, List, [], ◌∷◌, ◌++◌}
use Rattle.grammar.specs.Grammar.{Grammar, opt, rep, as_tree, dep, grow, ignored, second}
use Rattle.ir_values.specs.declared.int.Width.{Width}
use Rattle.ir_values.specs.declared.int.Width.TheVariants as width
use Rattle.ir_values.specs.declared.int.BinOp.{BinOp}
use Rattle.ir_values.specs.declared.int.BinOp.TheVariants as op
use Rattle.ir_values.specs.declared.int.Pred.{Pred}
use Rattle.ir_values.specs.declared.int.Pred.TheVariants as pred
use Rattle.ir_values.specs.declared.int.Conv.{Conv}
use Rattle.ir_values.specs.declared.int.Conv.TheVariants as conv
use Rattle.ir_values.specs.declared.int.Flags.{Flags}
use Rattle.ir_values.specs.declared.ty.Ty.{Ty}
use Rattle.ir_values.specs.declared.ty.Ty.TheVariants as ty
use Rattle.ir_tokens.specs.declared.kind.Kind.{Kind}
use Rattle.ir_tokens.specs.declared.kind.Kind.TheVariants as kind
use Rattle.ir_tokens.specs.declared.token.Token.{Token}
use Rattle.ir_grammar.specs.declared.tree.TypeSyntax.{TypeSyntax}
use Rattle.ir_grammar.specs.declared.tree.OperandSyntax.{OperandSyntax}
use Rattle.ir_grammar.specs.declared.tree.ArgSyntax.{ArgSyntax}
use Rattle.ir_grammar.specs.declared.tree.InstSyntax.{InstSyntax}
use Rattle.ir_grammar.specs.declared.tree.InstSyntax.TheVariants.{Binary, Icmp, Convert, Select, Call}
use Rattle.ir_tokens.specs.Tokens.{tokens}
use Rattle.ir_grammar.specs.Forms.{one, one_of, first, commas, ◌▸◌, ◌◂◌, ◌&◌, ◌or◌}
use Rattle.ir_grammar.specs.Words.{local, global, group}
use Rattle.ir_grammar.specs.Types.{integer_type, value_type, return_type}
use Rattle.ir_grammar.specs.Operands.{integer_operand, operand}

-- Binary instructions and their flags.

abbrev pub binary_of : Kind → BinOp
binary_of kind.Add = op.Add
binary_of kind.Sub = op.Sub
binary_of kind.Mul = op.Mul
binary_of kind.UDiv = op.UDiv
binary_of kind.SDiv = op.SDiv
binary_of kind.URem = op.URem
binary_of kind.SRem = op.SRem
binary_of kind.Shl = op.Shl
binary_of kind.LShr = op.LShr
binary_of kind.AShr = op.AShr
binary_of kind.And = op.And
binary_of kind.Or = op.Or
binary_of k = op.Xor

abbrev pub no_flags : Flags
no_flags = record { nuw = false; nsw = false; exact = false }

-- the flags with that of this word
abbrev pub with_flag : Flags → Kind → Flags
with_flag f kind.Nuw = record { nuw = true; nsw = f.nsw; exact = f.exact }
with_flag f kind.Nsw = record { nuw = f.nuw; nsw = true; exact = f.exact }
with_flag f k = record { nuw = f.nuw; nsw = f.nsw; exact = true }

abbrev pub exact_of : Option Token → Flags
exact_of None = no_flags
exact_of (Some t) = record { nuw = false; nsw = false; exact = true }

-- this kind, where it hasn't stood yet
abbrev pub not_yet : Bool → Kind → List Kind
not_yet true k = []
not_yet false k = k ∷ []

-- a flag that hasn't stood yet
unfoldable pub wrap_flag : Flags → Grammar tokens Flags
wrap_flag f = as_tree (λ t. with_flag f t.kind) (one_of (not_yet f.nuw kind.Nuw ++ not_yet f.nsw kind.Nsw))

abbrev pub wrapping_words : List Kind
wrapping_words = kind.Add ∷ kind.Sub ∷ kind.Mul ∷ kind.Shl ∷ []

-- ("add" | "sub" | "mul" | "shl") { "nuw" | "nsw" }, each at most once
unfoldable pub wrapping : Grammar tokens (Token × Flags)
wrapping = one_of wrapping_words & grow no_flags (kind.Nuw ∷ kind.Nsw ∷ []) wrap_flag

abbrev pub exact_words : List Kind
exact_words = kind.UDiv ∷ kind.SDiv ∷ kind.LShr ∷ kind.AShr ∷ []

-- ("udiv" | "sdiv" | "lshr" | "ashr") [ "exact" ]
unfoldable pub exacting : Grammar tokens (Token × Flags)
exacting = one_of exact_words & as_tree exact_of (opt (one kind.Exact))

unfoldable pub flagless : Grammar tokens (Token × Flags)
flagless = as_tree (λ t. (t, no_flags)) (one_of (kind.URem ∷ kind.SRem ∷ kind.And ∷ kind.Or ∷ kind.Xor ∷ []))

-- op(ity) "," op(ity)
unfoldable pub operand_pair : Width → Grammar tokens (OperandSyntax × OperandSyntax)
operand_pair w = integer_operand w ◂ kind.Comma & integer_operand w

-- ity op(ity) "," op(ity)
unfoldable pub operand_pairs : Grammar tokens (Width × (OperandSyntax × OperandSyntax))
operand_pairs = dep integer_type [] operand_pair

-- binop {flag} ity op(ity) "," op(ity)
unfoldable pub binary : Grammar tokens InstSyntax
binary = as_tree (λ ((word, flags), (w, (left, right))). Binary (binary_of word.kind) flags (ty.Int w) left right)
    ((wrapping or exacting or flagless) & operand_pairs)

-- Comparisons.

abbrev pub predicate_of : Kind → Pred
predicate_of kind.Eq = pred.Eq
predicate_of kind.Ne = pred.Ne
predicate_of kind.Ugt = pred.Ugt
predicate_of kind.Uge = pred.Uge
predicate_of kind.Ult = pred.Ult
predicate_of kind.Ule = pred.Ule
predicate_of kind.Sgt = pred.Sgt
predicate_of kind.Sge = pred.Sge
predicate_of kind.Slt = pred.Slt
predicate_of k = pred.Sle

-- "eq" | "ne" | "ugt" | "uge" | "ult" | "ule" | "sgt" | "sge" | "slt" | "sle"
unfoldable pub predicate : Grammar tokens Pred
predicate = as_tree (λ t. predicate_of t.kind)
    (one_of (kind.Eq ∷ kind.Ne ∷ kind.Ugt ∷ kind.Uge ∷ kind.Ult ∷ kind.Ule ∷ kind.Sgt ∷ kind.Sge ∷ kind.Slt ∷ kind.Sle ∷ []))

-- "icmp" pred ity op(ity) "," op(ity)
unfoldable pub compare : Grammar tokens InstSyntax
compare = as_tree (λ (p, (w, (left, right))). Icmp p (ty.Int w) left right) (kind.Icmp ▸ predicate & operand_pairs)

-- Conversions.

abbrev pub conversion_of : Kind → Conv
conversion_of kind.ZExt = conv.ZExt
conversion_of kind.SExt = conv.SExt
conversion_of k = conv.Trunc

abbrev pub conversion_words : List Kind
conversion_words = kind.ZExt ∷ kind.SExt ∷ kind.Trunc ∷ []

-- ("zext" | "sext" | "trunc") ity op(ity) "to" ity
unfoldable pub convert : Grammar tokens InstSyntax
convert = as_tree (λ (word, ((from, value), to)). Convert (conversion_of word.kind) (ty.Int from) value (ty.Int to))
    (one_of conversion_words & dep integer_type [] integer_operand ◂ kind.To & integer_type)

-- Selections.

abbrev pub of_type : TypeSyntax → Grammar tokens OperandSyntax
of_type x = operand x.ty

-- type op(type)
unfoldable pub typed_operand : Grammar tokens (TypeSyntax × OperandSyntax)
typed_operand = dep value_type [] of_type

-- "i1" op(i1) ","
unfoldable pub condition : Grammar tokens OperandSyntax
condition = kind.I1 ▸ integer_operand width.W1 ◂ kind.Comma

-- "select" "i1" op(i1) "," type op(type) "," type op(type)
unfoldable pub select : Grammar tokens InstSyntax
select = as_tree (λ (c, ((x, a), (y, b))). Select c x.ty a y.ty b) (kind.Select ▸ condition & typed_operand ◂ kind.Comma & typed_operand)

-- Calls.

abbrev pub parameter_words : List Kind
parameter_words = kind.WriteOnly ∷ kind.ReadOnly ∷ kind.NoCapture ∷ []

-- type {pword}
unfoldable pub worded_type : Grammar tokens TypeSyntax
worded_type = as_tree first (value_type & ignored parameter_words)

-- arg = type {pword} op(type)
unfoldable pub argument : Grammar tokens ArgSyntax
argument = as_tree (λ (x, a). record { ty = x.ty; value = a }) (dep worded_type [] of_type)

-- global | local
unfoldable pub callee : Grammar tokens Token
callee = global or local

-- "(" [arg {"," arg}] ")"
unfoldable pub arguments : Grammar tokens (List ArgSyntax)
arguments = kind.Open ▸ commas argument ◂ kind.Close

-- {group}
unfoldable pub groups : Grammar tokens (List Token)
groups = rep group

-- "call" | ("tail" | "notail") "call", with the first of its tokens
unfoldable pub call_word : Grammar tokens Token
call_word = one kind.Call or one_of (kind.Tail ∷ kind.NoTail ∷ []) ◂ kind.Call

-- ["tail" | "notail"] "call" rtype (global | local) "(" [arg {"," arg}] ")" {group}, with the first of its tokens
unfoldable pub call : Grammar tokens (Token × InstSyntax)
call = as_tree (λ (t, (x, (f, (args, gs)))). (t, Call x.ty f args gs)) (call_word & return_type & callee & arguments & groups)
