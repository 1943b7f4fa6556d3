-- The kinds of the words that are printed.
use Rattle.std.specs.Prelude.{◌≡◌, codes}
use Rattle.std.proofs.Common.{refl}
use Rattle.ir_values.specs.declared.int.BinOp.{BinOp}
use Rattle.ir_values.specs.declared.int.BinOp.TheVariants as op
use Rattle.ir_values.specs.declared.int.Conv.{Conv}
use Rattle.ir_values.specs.declared.int.Conv.TheVariants as conv
use Rattle.ir_values.specs.declared.int.Pred.{Pred}
use Rattle.ir_values.specs.declared.int.Pred.TheVariants as pred
use Rattle.ir_text.specs.declared.tok.Tok.TheVariants.{Word}
use Rattle.ir_tokens.specs.Classified.{kind_of}
use Rattle.ir_tokens.specs.Words.{word_kind}
use Rattle.ir_tokens.specs.declared.kind.Kind.{Kind}
use Rattle.ir_tokens.specs.declared.kind.Kind.TheVariants as kind
use Rattle.ir_printer.specs.Instructions.{operation_word, predicate_word, conversion_word}

pub call_word : kind_of Word (codes "call") ≡ kind.Call
unfolding word_kind
call_word = refl

pub void_word : kind_of Word (codes "void") ≡ kind.Void
unfolding word_kind
void_word = refl

pub null_word : kind_of Word (codes "null") ≡ kind.Null
unfolding word_kind
null_word = refl

pub to_word : kind_of Word (codes "to") ≡ kind.To
unfolding word_kind
to_word = refl

pub inttoptr_word : kind_of Word (codes "inttoptr") ≡ kind.IntToPtr
unfolding word_kind
inttoptr_word = refl

pub br_word : kind_of Word (codes "br") ≡ kind.Br
unfolding word_kind
br_word = refl

pub label_word : kind_of Word (codes "label") ≡ kind.LabelWord
unfolding word_kind
label_word = refl

pub phi_word : kind_of Word (codes "phi") ≡ kind.Phi
unfolding word_kind
phi_word = refl

pub ret_word : kind_of Word (codes "ret") ≡ kind.Ret
unfolding word_kind
ret_word = refl

pub define_word : kind_of Word (codes "define") ≡ kind.Define
unfolding word_kind
define_word = refl

pub declare_word : kind_of Word (codes "declare") ≡ kind.Declare
unfolding word_kind
declare_word = refl

pub type_word : kind_of Word (codes "type") ≡ kind.TypeWord
unfolding word_kind
type_word = refl

pub opaque_word : kind_of Word (codes "opaque") ≡ kind.Opaque
unfolding word_kind
opaque_word = refl

pub internal_word : kind_of Word (codes "internal") ≡ kind.Internal
unfolding word_kind
internal_word = refl

pub constant_word : kind_of Word (codes "constant") ≡ kind.Constant
unfolding word_kind
constant_word = refl

pub x_word : kind_of Word (codes "x") ≡ kind.X
unfolding word_kind
x_word = refl

pub attributes_word : kind_of Word (codes "attributes") ≡ kind.Attributes
unfolding word_kind
attributes_word = refl

pub true_word : kind_of Word (codes "true") ≡ kind.True
unfolding word_kind
true_word = refl

pub false_word : kind_of Word (codes "false") ≡ kind.False
unfolding word_kind
false_word = refl

pub double_word : kind_of Word (codes "double") ≡ kind.DoubleType
unfolding word_kind
double_word = refl

pub icmp_word : kind_of Word (codes "icmp") ≡ kind.Icmp
unfolding word_kind
icmp_word = refl

pub select_word : kind_of Word (codes "select") ≡ kind.Select
unfolding word_kind
select_word = refl

pub switch_word : kind_of Word (codes "switch") ≡ kind.Switch
unfolding word_kind
switch_word = refl

pub getelementptr_word : kind_of Word (codes "getelementptr") ≡ kind.GetElementPtr
unfolding word_kind
getelementptr_word = refl

pub inbounds_word : kind_of Word (codes "inbounds") ≡ kind.InBounds
unfolding word_kind
inbounds_word = refl

pub nuw_word : kind_of Word (codes "nuw") ≡ kind.Nuw
unfolding word_kind
nuw_word = refl

pub nsw_word : kind_of Word (codes "nsw") ≡ kind.Nsw
unfolding word_kind
nsw_word = refl

pub exact_word : kind_of Word (codes "exact") ≡ kind.Exact
unfolding word_kind
exact_word = refl

-- binary operations
abbrev pub operation_kind : BinOp → Kind
operation_kind op.Add = kind.Add
operation_kind op.Sub = kind.Sub
operation_kind op.Mul = kind.Mul
operation_kind op.UDiv = kind.UDiv
operation_kind op.SDiv = kind.SDiv
operation_kind op.URem = kind.URem
operation_kind op.SRem = kind.SRem
operation_kind op.Shl = kind.Shl
operation_kind op.LShr = kind.LShr
operation_kind op.AShr = kind.AShr
operation_kind op.And = kind.And
operation_kind op.Or = kind.Or
operation_kind op.Xor = kind.Xor

pub operation_kind_is : (x : BinOp) → kind_of Word (operation_word x) ≡ operation_kind x
unfolding word_kind
operation_kind_is op.Add = refl
operation_kind_is op.Sub = refl
operation_kind_is op.Mul = refl
operation_kind_is op.UDiv = refl
operation_kind_is op.SDiv = refl
operation_kind_is op.URem = refl
operation_kind_is op.SRem = refl
operation_kind_is op.Shl = refl
operation_kind_is op.LShr = refl
operation_kind_is op.AShr = refl
operation_kind_is op.And = refl
operation_kind_is op.Or = refl
operation_kind_is op.Xor = refl

-- predicates
abbrev pub predicate_kind : Pred → Kind
predicate_kind pred.Eq = kind.Eq
predicate_kind pred.Ne = kind.Ne
predicate_kind pred.Ugt = kind.Ugt
predicate_kind pred.Uge = kind.Uge
predicate_kind pred.Ult = kind.Ult
predicate_kind pred.Ule = kind.Ule
predicate_kind pred.Sgt = kind.Sgt
predicate_kind pred.Sge = kind.Sge
predicate_kind pred.Slt = kind.Slt
predicate_kind pred.Sle = kind.Sle

pub predicate_kind_is : (x : Pred) → kind_of Word (predicate_word x) ≡ predicate_kind x
unfolding word_kind
predicate_kind_is pred.Eq = refl
predicate_kind_is pred.Ne = refl
predicate_kind_is pred.Ugt = refl
predicate_kind_is pred.Uge = refl
predicate_kind_is pred.Ult = refl
predicate_kind_is pred.Ule = refl
predicate_kind_is pred.Sgt = refl
predicate_kind_is pred.Sge = refl
predicate_kind_is pred.Slt = refl
predicate_kind_is pred.Sle = refl

-- conversions
abbrev pub conversion_kind : Conv → Kind
conversion_kind conv.ZExt = kind.ZExt
conversion_kind conv.SExt = kind.SExt
conversion_kind conv.Trunc = kind.Trunc

pub conversion_kind_is : (x : Conv) → kind_of Word (conversion_word x) ≡ conversion_kind x
unfolding word_kind
conversion_kind_is conv.ZExt = refl
conversion_kind_is conv.SExt = refl
conversion_kind_is conv.Trunc = refl
