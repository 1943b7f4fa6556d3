-- Names, numbers and words (LLVM Language Reference, 'Identifiers').
use Rattle.std.specs.Prelude.{ℕ, List, [], ◌∷◌}
use Rattle.grammar.specs.Grammar.{Grammar, tok, as_tree}
use Rattle.ir_values.specs.declared.int.Width.{Width}
use Rattle.ir_values.specs.Width.{bits_of}
use Rattle.ir_values.specs.Int.{IntValue}
use Rattle.ir_tokens.specs.declared.kind.Kind.{Kind}
use Rattle.ir_tokens.specs.declared.kind.Kind.TheVariants as kind
use Rattle.ir_tokens.specs.declared.token.Token.{Token}
use Rattle.ir_tokens.specs.Tokens.{tokens}
use Rattle.ir_grammar.specs.Forms.{one}
use Rattle.ir_grammar.specs.SideRules.{number, numbered, same_number, in_range, integer_of}

-- Names. `%Qubit` and `%Result` may be those of values too.

abbrev pub local_kinds : List Kind
local_kinds = kind.Local ∷ kind.QubitName ∷ kind.ResultName ∷ []

unfoldable pub local : Grammar tokens Token
local = tok local_kinds numbered

unfoldable pub global : Grammar tokens Token
global = tok (kind.Global ∷ []) numbered

unfoldable pub label : Grammar tokens Token
label = tok (kind.Label ∷ []) numbered

unfoldable pub group : Grammar tokens Token
group = tok (kind.Group ∷ []) numbered

unfoldable pub node : Grammar tokens Token
node = tok (kind.Node ∷ []) numbered

-- Numbers.

-- nat, an integer without a sign
unfoldable pub nat : Grammar tokens ℕ
nat = as_tree number (one kind.Nat)

abbrev pub integer_kinds : List Kind
integer_kinds = kind.Nat ∷ kind.Minus ∷ []

-- an integer of the width
unfoldable pub integer : Width → Grammar tokens IntValue
integer w = as_tree (integer_of w) (tok integer_kinds (in_range (bits_of w)))

-- 0, in any spelling
unfoldable pub zero_number : Grammar tokens Token
zero_number = tok integer_kinds (same_number 0)

-- All words: those of the language, and others.
abbrev pub words : List Kind
words = kind.OtherWord ∷ kind.LeftOutWord ∷ kind.SameWidth ∷ kind.OddWidth ∷ kind.SourceFilename ∷ kind.Target ∷ kind.Triple ∷
    kind.DataLayout ∷ kind.TypeWord ∷ kind.Opaque ∷ kind.Private ∷ kind.Internal ∷ kind.UnnamedAddr ∷ kind.LocalUnnamedAddr ∷
    kind.Constant ∷ kind.X ∷ kind.Align ∷ kind.Declare ∷ kind.Define ∷ kind.Attributes ∷ kind.Null ∷ kind.True ∷ kind.False ∷
    kind.DsoLocal ∷ kind.WriteOnly ∷ kind.ReadOnly ∷ kind.NoCapture ∷ kind.I1 ∷ kind.I8 ∷ kind.I16 ∷ kind.I32 ∷ kind.I64 ∷
    kind.DoubleType ∷ kind.Void ∷ kind.Phi ∷ kind.Add ∷ kind.Sub ∷ kind.Mul ∷ kind.UDiv ∷ kind.SDiv ∷ kind.URem ∷ kind.SRem ∷
    kind.Shl ∷ kind.LShr ∷ kind.AShr ∷ kind.And ∷ kind.Or ∷ kind.Xor ∷ kind.Icmp ∷ kind.Eq ∷ kind.Ne ∷ kind.Ugt ∷ kind.Uge ∷
    kind.Ult ∷ kind.Ule ∷ kind.Sgt ∷ kind.Sge ∷ kind.Slt ∷ kind.Sle ∷ kind.ZExt ∷ kind.SExt ∷ kind.Trunc ∷ kind.To ∷ kind.Select ∷
    kind.Tail ∷ kind.NoTail ∷ kind.Call ∷ kind.Ret ∷ kind.Br ∷ kind.LabelWord ∷ kind.Switch ∷ kind.IntToPtr ∷ kind.GetElementPtr ∷
    kind.InBounds ∷ kind.Nuw ∷ kind.Nsw ∷ kind.Exact ∷ kind.Ptr ∷ []
