-- The numbers by which kinds are told apart: those of their order.
use Rattle.std.proofs.Common.{◌≡◌, ℕ, Some, List, [], ◌∷◌, slice_get, refl, ap}
use Rattle.ir_tokens.specs.declared.kind.Kind.{Kind}
use Rattle.ir_tokens.specs.declared.kind.Kind.TheVariants as kind

-- the number of a kind
abbrev pub code : Kind → ℕ
code kind.End = 0
code kind.Bad = 1
code kind.Label = 2
code kind.Local = 3
code kind.QubitName = 4
code kind.ResultName = 5
code kind.Global = 6
code kind.Nat = 7
code kind.Minus = 8
code kind.DoubleLiteral = 9
code kind.Str = 10
code kind.ByteStr = 11
code kind.Group = 12
code kind.Node = 13
code kind.MetaName = 14
code kind.Bang = 15
code kind.Equals = 16
code kind.Comma = 17
code kind.Open = 18
code kind.Close = 19
code kind.OpenSquare = 20
code kind.CloseSquare = 21
code kind.OpenBrace = 22
code kind.CloseBrace = 23
code kind.Star = 24
code kind.Dots = 25
code kind.Less = 26
code kind.Greater = 27
code kind.OtherWord = 28
code kind.LeftOutWord = 29
code kind.SameWidth = 30
code kind.OddWidth = 31
code kind.SourceFilename = 32
code kind.Target = 33
code kind.Triple = 34
code kind.DataLayout = 35
code kind.TypeWord = 36
code kind.Opaque = 37
code kind.Private = 38
code kind.Internal = 39
code kind.UnnamedAddr = 40
code kind.LocalUnnamedAddr = 41
code kind.Constant = 42
code kind.X = 43
code kind.Align = 44
code kind.Declare = 45
code kind.Define = 46
code kind.Attributes = 47
code kind.Null = 48
code kind.True = 49
code kind.False = 50
code kind.DsoLocal = 51
code kind.WriteOnly = 52
code kind.ReadOnly = 53
code kind.NoCapture = 54
code kind.I1 = 55
code kind.I8 = 56
code kind.I16 = 57
code kind.I32 = 58
code kind.I64 = 59
code kind.DoubleType = 60
code kind.Void = 61
code kind.Phi = 62
code kind.Add = 63
code kind.Sub = 64
code kind.Mul = 65
code kind.UDiv = 66
code kind.SDiv = 67
code kind.URem = 68
code kind.SRem = 69
code kind.Shl = 70
code kind.LShr = 71
code kind.AShr = 72
code kind.And = 73
code kind.Or = 74
code kind.Xor = 75
code kind.Icmp = 76
code kind.Eq = 77
code kind.Ne = 78
code kind.Ugt = 79
code kind.Uge = 80
code kind.Ult = 81
code kind.Ule = 82
code kind.Sgt = 83
code kind.Sge = 84
code kind.Slt = 85
code kind.Sle = 86
code kind.ZExt = 87
code kind.SExt = 88
code kind.Trunc = 89
code kind.To = 90
code kind.Select = 91
code kind.Tail = 92
code kind.NoTail = 93
code kind.Call = 94
code kind.Ret = 95
code kind.Br = 96
code kind.LabelWord = 97
code kind.Switch = 98
code kind.IntToPtr = 99
code kind.GetElementPtr = 100
code kind.InBounds = 101
code kind.Nuw = 102
code kind.Nsw = 103
code kind.Exact = 104
code kind.Ptr = 105

kinds : List Kind
kinds =
    kind.End ∷ kind.Bad ∷ kind.Label ∷ kind.Local ∷ kind.QubitName ∷ kind.ResultName ∷ kind.Global ∷ kind.Nat ∷ kind.Minus ∷
    kind.DoubleLiteral ∷ kind.Str ∷ kind.ByteStr ∷ kind.Group ∷ kind.Node ∷ kind.MetaName ∷ kind.Bang ∷ kind.Equals ∷ kind.Comma ∷
    kind.Open ∷ kind.Close ∷ kind.OpenSquare ∷ kind.CloseSquare ∷ kind.OpenBrace ∷ kind.CloseBrace ∷ kind.Star ∷ kind.Dots ∷
    kind.Less ∷ kind.Greater ∷ kind.OtherWord ∷ kind.LeftOutWord ∷ kind.SameWidth ∷ kind.OddWidth ∷ kind.SourceFilename ∷
    kind.Target ∷ kind.Triple ∷ kind.DataLayout ∷ kind.TypeWord ∷ kind.Opaque ∷ kind.Private ∷ kind.Internal ∷ kind.UnnamedAddr ∷
    kind.LocalUnnamedAddr ∷ kind.Constant ∷ kind.X ∷ kind.Align ∷ kind.Declare ∷ kind.Define ∷ kind.Attributes ∷ kind.Null ∷
    kind.True ∷ kind.False ∷ kind.DsoLocal ∷ kind.WriteOnly ∷ kind.ReadOnly ∷ kind.NoCapture ∷ kind.I1 ∷ kind.I8 ∷ kind.I16 ∷
    kind.I32 ∷ kind.I64 ∷ kind.DoubleType ∷ kind.Void ∷ kind.Phi ∷ kind.Add ∷ kind.Sub ∷ kind.Mul ∷ kind.UDiv ∷ kind.SDiv ∷
    kind.URem ∷ kind.SRem ∷ kind.Shl ∷ kind.LShr ∷ kind.AShr ∷ kind.And ∷ kind.Or ∷ kind.Xor ∷ kind.Icmp ∷ kind.Eq ∷ kind.Ne ∷
    kind.Ugt ∷ kind.Uge ∷ kind.Ult ∷ kind.Ule ∷ kind.Sgt ∷ kind.Sge ∷ kind.Slt ∷ kind.Sle ∷ kind.ZExt ∷ kind.SExt ∷ kind.Trunc ∷
    kind.To ∷ kind.Select ∷ kind.Tail ∷ kind.NoTail ∷ kind.Call ∷ kind.Ret ∷ kind.Br ∷ kind.LabelWord ∷ kind.Switch ∷ kind.IntToPtr ∷
    kind.GetElementPtr ∷ kind.InBounds ∷ kind.Nuw ∷ kind.Nsw ∷ kind.Exact ∷ kind.Ptr ∷ []

at_code : (k : Kind) → slice_get kinds (code k) ≡ Some k
unfolding kinds
at_code kind.End = refl
at_code _ = refl

pub told_apart : (a b : Kind) → code a ≡ code b → a ≡ b
told_apart a b e = let f = at_code a in let g = at_code b in let h = ap (slice_get kinds) e in cc
