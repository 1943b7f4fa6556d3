-- The words of the language and their kinds (LLVM Language Reference).
use Rattle.std.specs.Prelude.{ℕ, Bool, if◌then◌else◌, nat_eq, List, [], ◌∷◌, codes}
use Rattle.std.specs.Cmp.Lexicographic.{pointwise}
use Rattle.std.specs.List.{list_any}
use Rattle.ir_tokens.specs.declared.kind.Kind.{Kind}
use Rattle.ir_tokens.specs.declared.kind.Kind.TheVariants as kind

abbrev pub same_text : List ℕ → List ℕ → Bool
same_text = pointwise nat_eq

-- the words with kinds of their own, but for 'i' with digits
abbrev pub words : List (List ℕ × Kind)
words =
    (codes "call", kind.Call)
    ∷ (codes "void", kind.Void)
    ∷ (codes "null", kind.Null)
    ∷ (codes "to", kind.To)
    ∷ (codes "inttoptr", kind.IntToPtr)
    ∷ (codes "br", kind.Br)
    ∷ (codes "label", kind.LabelWord)
    ∷ (codes "phi", kind.Phi)
    ∷ (codes "ret", kind.Ret)
    ∷ (codes "define", kind.Define)
    ∷ (codes "declare", kind.Declare)
    ∷ (codes "source_filename", kind.SourceFilename)
    ∷ (codes "target", kind.Target)
    ∷ (codes "triple", kind.Triple)
    ∷ (codes "datalayout", kind.DataLayout)
    ∷ (codes "type", kind.TypeWord)
    ∷ (codes "opaque", kind.Opaque)
    ∷ (codes "private", kind.Private)
    ∷ (codes "internal", kind.Internal)
    ∷ (codes "unnamed_addr", kind.UnnamedAddr)
    ∷ (codes "local_unnamed_addr", kind.LocalUnnamedAddr)
    ∷ (codes "constant", kind.Constant)
    ∷ (codes "x", kind.X)
    ∷ (codes "align", kind.Align)
    ∷ (codes "attributes", kind.Attributes)
    ∷ (codes "true", kind.True)
    ∷ (codes "false", kind.False)
    ∷ (codes "dso_local", kind.DsoLocal)
    ∷ (codes "writeonly", kind.WriteOnly)
    ∷ (codes "readonly", kind.ReadOnly)
    ∷ (codes "nocapture", kind.NoCapture)
    ∷ (codes "double", kind.DoubleType)
    ∷ (codes "add", kind.Add)
    ∷ (codes "sub", kind.Sub)
    ∷ (codes "mul", kind.Mul)
    ∷ (codes "udiv", kind.UDiv)
    ∷ (codes "sdiv", kind.SDiv)
    ∷ (codes "urem", kind.URem)
    ∷ (codes "srem", kind.SRem)
    ∷ (codes "shl", kind.Shl)
    ∷ (codes "lshr", kind.LShr)
    ∷ (codes "ashr", kind.AShr)
    ∷ (codes "and", kind.And)
    ∷ (codes "or", kind.Or)
    ∷ (codes "xor", kind.Xor)
    ∷ (codes "icmp", kind.Icmp)
    ∷ (codes "eq", kind.Eq)
    ∷ (codes "ne", kind.Ne)
    ∷ (codes "ugt", kind.Ugt)
    ∷ (codes "uge", kind.Uge)
    ∷ (codes "ult", kind.Ult)
    ∷ (codes "ule", kind.Ule)
    ∷ (codes "sgt", kind.Sgt)
    ∷ (codes "sge", kind.Sge)
    ∷ (codes "slt", kind.Slt)
    ∷ (codes "sle", kind.Sle)
    ∷ (codes "zext", kind.ZExt)
    ∷ (codes "sext", kind.SExt)
    ∷ (codes "trunc", kind.Trunc)
    ∷ (codes "select", kind.Select)
    ∷ (codes "tail", kind.Tail)
    ∷ (codes "notail", kind.NoTail)
    ∷ (codes "switch", kind.Switch)
    ∷ (codes "getelementptr", kind.GetElementPtr)
    ∷ (codes "inbounds", kind.InBounds)
    ∷ (codes "nuw", kind.Nuw)
    ∷ (codes "nsw", kind.Nsw)
    ∷ (codes "exact", kind.Exact)
    ∷ (codes "ptr", kind.Ptr)
    ∷ []

-- the words of LLVM's language that QIR texts leave out
abbrev pub left_out : List (List ℕ)
left_out =
    codes "alloca" ∷ codes "load" ∷ codes "store" ∷ codes "fence" ∷ codes "cmpxchg" ∷ codes "atomicrmw" ∷ codes "bitcast" ∷
    codes "ptrtoint" ∷ codes "addrspacecast" ∷ codes "fadd" ∷ codes "fsub" ∷ codes "fmul" ∷ codes "fdiv" ∷ codes "frem" ∷
    codes "fneg" ∷ codes "fcmp" ∷ codes "fptrunc" ∷ codes "fpext" ∷ codes "fptoui" ∷ codes "fptosi" ∷ codes "uitofp" ∷
    codes "sitofp" ∷ codes "extractvalue" ∷ codes "insertvalue" ∷ codes "extractelement" ∷ codes "insertelement" ∷
    codes "shufflevector" ∷ codes "freeze" ∷ codes "invoke" ∷ codes "resume" ∷ codes "callbr" ∷ codes "indirectbr" ∷
    codes "unreachable" ∷ codes "landingpad" ∷ codes "va_arg" ∷ codes "undef" ∷ codes "poison" ∷ codes "zeroinitializer" ∷
    codes "asm" ∷ codes "comdat" ∷ codes "alias" ∷ codes "ifunc" ∷ codes "global" ∷ codes "musttail" ∷ codes "float" ∷
    codes "half" ∷ []

-- the kind of a word that has none of its own
abbrev pub other_kind : List ℕ → Kind
other_kind s = if list_any (same_text s) left_out then kind.LeftOutWord else kind.OtherWord

-- the kind of the first row with the text
abbrev pub look_up : List (List ℕ × Kind) → Kind → List ℕ → Kind
look_up [] other s = other
look_up (r ∷ rs) other s = if same_text s r.0 then r.1 else look_up rs other s

-- the kind of a word, but for 'i' with digits
unfoldable pub word_kind : List ℕ → Kind
word_kind s = look_up words (other_kind s) s
